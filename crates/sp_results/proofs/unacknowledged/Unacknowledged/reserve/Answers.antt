use Rattle.std.proofs.Common.{◌≡◌, List, ℕ, Some, sym, ap, ◌∙◌, nat_eq, arith}
use Rattle.std.specs.Map.{lookup}
use Rattle.std.specs.Cmp.{nat_eq_equiv}
use Rattle.indexmap.proofs.CallerLemmas.{updates-with_value_at}
use Rattle.sp_results.specs.declared.unacknowledged.Numbers.{Numbers}
use Rattle.sp_results.proofs.NumberLemmas.{entry-at, kept, on-ok, room-new, there}
use Rattle.sp_results.proofs.unacknowledged.Unacknowledged.reserve.Goals as goal

pub returns-in-Some-clause-ok : goal.returns-in-Some-clause-ok
returns-in-Some-clause-ok c =
    let m = c.args.self.now.numbers in
    let x = c.index_mut.result.now in
    let r = c.args.conn in
    let y : Numbers = record { tickets = c.reserve.new.self } in
    let entry = entry-at r m.entries c.in-Some.index x (sym c.in-Some.ensures.index) c.index_mut.ensures.value in
    let at = room-new m.entries _ r y (λ q. (updates-with_value_at m c.in-Some.index y nat_eq_equiv c.in-Some.ensures.unique r x entry).0 q) in
    on-ok c.reserve.result _ _ (λ room. omega (arith, room, at)) c.reserve.ensures.ok

pub returns-in-Some-clause-same : goal.returns-in-Some-clause-same
returns-in-Some-clause-same c = λ holds a.
    let m = c.args.self.now.numbers in
    let x = c.index_mut.result.now in
    let r = c.args.conn in
    let y : Numbers = record { tickets = c.reserve.new.self } in
    let found : lookup (nat_eq r) m.entries ≡ Some x = sym c.in-Some.ensures.value ∙ c.index_mut.ensures.value in
    let entry = entry-at r m.entries c.in-Some.index x (sym c.in-Some.ensures.index) c.index_mut.ensures.value in
    kept holds c.args.self.now _ r y (λ q. (updates-with_value_at m c.in-Some.index y nat_eq_equiv c.in-Some.ensures.unique r x entry).0 q)
    (λ q. ap (λ (es : List (ℕ × ℕ)). lookup (nat_eq q) es) c.reserve.ensures.entries ∙ there holds c.args.self.now r x found a q) a
