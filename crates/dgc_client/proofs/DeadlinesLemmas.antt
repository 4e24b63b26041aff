-- The moments of deadlines.
use Rattle.std.proofs.Common.{◌≡◌, ℕ, ◌+◌, ◌-◌, ◌/◌, ◌<◌, ◌≤◌, true, false, cond, ◌==◌, Some, refl, arith}
use Rattle.std.specs.Prelude.{nat_lt}
use Rattle.std.proofs.lemmas.Bool.Decides.{nat_tests}
use Rattle.dgc_index.specs.declared.plans.Term.{Term}
use Rattle.dgc_client.specs.Lease.{is_half_over}
use Rattle.dgc_index.specs.Deadlines.{over_at}
use Rattle.dgc_index.specs.Plans.{half_at, end_at}

over-reached : (sent part m : ℕ) → m ≤ 18446744073709551615 → part ≤ m - sent → over_at sent part ≤ m
over-reached sent part m small over =
    elim (part == 0) as (λ b. part == 0 ≡ b → cond b 0 (cond (nat_lt (18446744073709551615 - sent) part) 18446744073709551615 (sent + part)) ≤ m) [
      | true ↦ λ _. omega arith
      | false ↦ λ some. elim (nat_lt (18446744073709551615 - sent) part) as (λ b. nat_lt (18446744073709551615 - sent) part ≡ b → cond b 18446744073709551615 (sent + part) ≤ m) [
        | true ↦ λ late. let above : 18446744073709551615 - sent < part = grind (arith, nat_tests) in omega arith
        | false ↦ λ _. let positive : 0 < part = grind (arith, nat_tests) in omega arith
      ] refl
    ] refl

-- a lease that is half over is so since its deadline
pub half-reached : (term : Term) (m : ℕ) → m ≤ 18446744073709551615 → is_half_over (Some term) m ≡ true → half_at term ≤ m
half-reached term m small half =
    let left : term.period - (m - term.sent) ≤ m - term.sent = grind (arith, nat_tests) in
    over-reached term.sent (term.period - term.period / 2) m small (omega arith)

-- a lease that does not stand any more ended at its deadline
pub end-reached : (term : Term) (m : ℕ) → m ≤ 18446744073709551615 → nat_lt (m - term.sent) term.period ≡ false → end_at term ≤ m
end-reached term m small ended =
    let over : term.period ≤ m - term.sent = grind (arith, nat_tests) in
    over-reached term.sent term.period m small over

-- one that ended is half over
pub half-at-end : (term : Term) (m : ℕ) → nat_lt (m - term.sent) term.period ≡ false → is_half_over (Some term) m ≡ true
half-at-end term m ended =
    let over : term.period ≤ m - term.sent = grind (arith, nat_tests) in
    grind (arith, nat_tests)
