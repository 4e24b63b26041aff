use Rattle.std.proofs.Common.{ap, ◌∙◌}
use Rattle.std.specs.Prelude.{is_some}
use Rattle.sp_book.specs.Passes.{Seen, has}
use Rattle.sp_book.proofs.HandLemmas.{is_found}
use Rattle.sp_book.proofs.pass.Pass.has.Goals as goal

pub returns : goal.returns
returns g c =
    let task = c.args.task in
    c.is_some.ensures ∙ ap is_some c.find.ensures ∙ is_found task c.as_slice.result.now ∙ ap (has task) (c.as_slice.ensures.value ∙ ap (λ (s : Seen). s.hand) c.self.view_is)
