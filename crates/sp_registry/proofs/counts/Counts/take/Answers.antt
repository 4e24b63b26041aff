use Rattle.std.proofs.Common.{◌≡◌, ℕ, ◌-◌, List, None, Some, sym, ap, ◌∙◌}
use Rattle.std.specs.Map.{lookup}
use Rattle.space_ids.specs.declared.ids.ObjId.{ObjId}
use Rattle.sp_registry.specs.Counts.{is_same, number_in}
use Rattle.sp_registry.proofs.CountsLemmas.{number-set, some-is}
use Rattle.sp_registry.proofs.counts.Counts.take.Goals as goal

pub returns-then-left-eq0 : goal.returns-then-left-eq0
returns-then-left-eq0 c = λ other.
    let count = c.get.ensures ∙ ap (λ (es : List (ObjId × ℕ)). number_in es c.args.object) (sym c.self.view_is) in
    rw (← c.self.view_is) (number-set c.args.object None (λ n. n - 1) c.self.inside.counts.entries c.remove.new.self.entries
    (sym c.if-left-eq0.true ∙ c.saturating_sub-left.ensures ∙ ap (λ n. n - 1) count) c.remove.ensures.updates.0 other)

pub returns-in-Some : goal.returns-in-Some
returns-in-Some c = λ other.
    let count = c.get.ensures ∙ ap (λ (es : List (ObjId × ℕ)). number_in es c.args.object) (sym c.self.view_is) in
    let left = c.saturating_sub-left.result in
    let found : Some c.in-Some.count.now ≡ lookup (is_same c.args.object) c.self.inside.counts.entries = c.in-Some.ensures.value in
    let change = (c.get_mut.follows.holds left).3 (some-is _ _ found) in
    rw (← c.self.view_is) (number-set c.args.object (Some left) (λ n. n - 1) c.self.inside.counts.entries (c.get_mut.follows.lender left).entries
    (c.saturating_sub-left.ensures ∙ ap (λ n. n - 1) count) change.0 other)
