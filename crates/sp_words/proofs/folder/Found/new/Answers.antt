use Rattle.std.proofs.Common.{ap, ◌++◌, ◌∷◌, [], ◌∙◌}
use Rattle.sp_words.proofs.Below.{begun}
use Rattle.sp_words.proofs.folder.Found.new.Goals as goal

pub returns : goal.returns
returns c =
    begun c.args.folder.now c.new.result.items c.push.new.self.items c.in_ok-from_str.field-0 c.new.ensures.items
    ((c.in_ok-push.ensures).items ∙ ap (λ l. l ++ c.in_ok-from_str.field-0 ∷ []) c.new-folders.ensures.items)
    (c.in_ok-from_str.ensures).ok
