use Rattle.std.proofs.Common.{string_bytes}
use Rattle.std.proofs.lemmas.List.Elements.{All-push}
use Rattle.sp_words.specs.Folders.{IsBelow}
use Rattle.sp_words.proofs.Below.{within}
use Rattle.sp_words.proofs.folder.Found.add_folder.Goals as goal

pub returns : goal.returns
returns c = λ root below all.
    rw ((c.in_ok-push.ensures).items) (
      all.0,
      All-push (λ path. IsBelow root (string_bytes path)) c.args.self.now.folders.items c.in_ok-path.path all.1
          (within root c.args.folder.now (string_bytes c.in_ok-path.path) c.args.name.now below c.requires c.in_ok-path.ensures),
    )
