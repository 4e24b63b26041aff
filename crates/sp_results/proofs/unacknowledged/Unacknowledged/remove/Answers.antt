use Rattle.std.proofs.Common.{◌≡◌, ℕ, None, Some, filter, sym, ap, cond, ◌∙◌, nat_eq}
use Rattle.std.specs.Prelude.{◌==◌, not}
use Rattle.std.specs.Map.{lookup}
use Rattle.std.specs.Cmp.{nat_eq_equiv}
use Rattle.indexmap.proofs.CallerLemmas.{updates-with_value_at}
use Rattle.sp_results.specs.declared.unacknowledged.Numbers.{Numbers}
use Rattle.sp_results.proofs.NumberLemmas.{Pairs, changed, distinct-less, entry-at, lookup-less, there}
use Rattle.sp_results.proofs.unacknowledged.Unacknowledged.remove.Goals as goal

pub returns-clause-removed : goal.returns-clause-removed
returns-clause-removed c = λ holds a.
    let m = c.args.self.now.numbers in
    let x = c.index_mut.result.now in
    let r = c.args.conn in
    let y : Numbers = record { tickets = c.swap_remove.new.self } in
    let found : lookup (nat_eq r) m.entries ≡ Some x = sym c.in_ok-index.ensures.value ∙ c.index_mut.ensures.value in
    let entry = entry-at r m.entries c.in_ok-index.index x (sym c.in_ok-index.ensures.index) c.index_mut.ensures.value in
    let fits = there holds c.args.self.now r x found a in
    changed (λ (l : Pairs). filter (λ (row : ℕ × ℕ). not (row.0 == c.args.number)) l) holds c.args.self.now _ r y
    (λ q. (updates-with_value_at m c.in_ok-index.index y nat_eq_equiv c.in_ok-index.ensures.unique r x entry).0 q)
    (λ q. c.swap_remove.ensures.updates.0 q ∙ ap (λ o. cond (nat_eq c.args.number q) None o) (fits q) ∙ sym (lookup-less c.args.number q (holds r)))
    (distinct-less c.args.number (holds r) (a.once r)) a
