use Rattle.std.proofs.Common.{◌==◌, ℕ, sym, ap, ◌∙◌}
use Rattle.std.specs.Prelude.{position}
use Rattle.sp_book.specs.Passes.{Seen}
use Rattle.sp_book.proofs.HandLemmas.{found, not_missing}
use Rattle.sp_book.proofs.pass.Pass.place.Goals as goal

pub unreachable-requires : goal.unreachable-requires
unreachable-requires g c =
    let task = c.args.task in
    let same = ap (position (λ (x : ℕ). x == task)) (c.as_slice.ensures.value ∙ ap (λ (s : Seen). s.hand) c.self.view_is) in
    not_missing task c.args.self.now.hand (sym (c.find.ensures ∙ same) ∙ c.in-None.is) c.requires

pub returns : goal.returns
returns g c =
    let task = c.args.task in
    let same = ap (position (λ (x : ℕ). x == task)) (c.as_slice.ensures.value ∙ ap (λ (s : Seen). s.hand) c.self.view_is) in
    let is = found task c.in-Some.at c.args.self.now.hand (sym (c.find.ensures ∙ same) ∙ c.in-Some.is) c.requires in
    record { within = is.0; first = is.1 }
