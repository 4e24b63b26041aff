use Rattle.std.proofs.Common.{sym, ap, ◌∙◌}
use Rattle.std.specs.Prelude.{◌||◌}
use Rattle.sp_holders.proofs.PlaceLemmas.{frames, if-ok}
use Rattle.sp_holders.proofs.holders.is_away.Goals as goal

pub returns-then-branch : goal.returns-then-branch
returns-then-branch c = λ g s a.
    ap (λ t. t || frames s c.args.reference.now) (sym c.if-branch.true ∙ c.in_ok-has_reference.ensures s.moment s.results (c.call_results.ensures g s a))

pub returns : goal.returns
returns c = if-ok c.is_in_frames.result _ _ (λ n told. λ g s a.
    told s.parked (c.parked.ensures g s a)
    ∙ ap (λ t. t || frames s c.args.reference.now) (sym c.if-branch.false ∙ c.in_ok-has_reference.ensures s.moment s.results (c.call_results.ensures g s a))) c.is_in_frames.ensures
