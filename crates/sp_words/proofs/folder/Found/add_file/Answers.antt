use Rattle.std.proofs.Common.{string_bytes, take, length, codes, ◌-◌, sym, ◌∙◌}
use Rattle.std.proofs.lemmas.List.Elements.{All-push}
use Rattle.std.proofs.lemmas.Slice.Eq.{ends_is}
use Rattle.std.proofs.lemmas.Bool.Decides.{Decides-eqb}
use Rattle.sp_words.specs.Folders.{IsClassPath}
use Rattle.sp_words.proofs.Below.{class_within}
use Rattle.sp_words.proofs.folder.Found.add_file.Goals as goal

pub returns-in_ok-push : goal.returns-in_ok-push
returns-in_ok-push c = λ root below all.
    let name = c.as_bytes.result.now in
    let named = (ends_is Decides-eqb name (codes ".class") c.ends_with.result c.ends_with.ensures.value).0 c.if-ends_with.true in
    rw ((c.in_ok-push.ensures).items) (
      All-push (λ path. IsClassPath root (string_bytes path)) c.args.self.now.files.items c.in_ok-path.path all.0
          (class_within root c.args.folder.now (string_bytes c.in_ok-path.path) c.args.name.now (take (length name - 6) name)
          below c.requires c.in_ok-path.ensures (sym c.as_bytes.ensures.value ∙ named)),
      all.1,
    )
