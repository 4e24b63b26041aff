use Rattle.std.proofs.Common.{◌+◌, ◌≤◌, List, ℕ, Option, length, refl, ap, ◌∙◌, arith}
use Rattle.space_ids.specs.declared.value.Value.{Value}
use Rattle.sp_results.specs.Waiting.{is_waiting}
use Rattle.sp_results.proofs.WaitingLemmas.{absent-from, distinct-held, held-after}
use Rattle.sp_results.proofs.results.Results.hold.Goals as goal

pub invariant_of-self-2 : goal.invariant_of-self-2
invariant_of-self-2 c =
    let cap = c.self.invariant.1 in
    let few : length c.self.inside.results.entries + 1 ≤ c.self.inside.results.cap = omega (arith, c.len-count.ensures.len, c.len-count.ensures.fits, cap) in
    let absent = absent-from c.args.task c.self.inside.results.entries (ap (λ (es : List (ℕ × Option Value)). is_waiting es c.args.task) c.self.view_is ∙ c.requires) in
    let after = held-after c.args.task c.args.value c.self.inside.results c.put.new.self c.demote.new.self absent few c.in_ok-put.ensures.entries c.demote.ensures.entries in
    (rw (after.0) (distinct-held c.args.task c.args.value c.self.inside.results.entries c.self.invariant.0 absent), after.1 ∙ cap)

pub returns-clause-ok : goal.returns-clause-ok
returns-clause-ok c =
    let cap = c.self.invariant.1 in
    let few : length c.self.inside.results.entries + 1 ≤ c.self.inside.results.cap = omega (arith, c.len-count.ensures.len, c.len-count.ensures.fits, cap) in
    let absent = absent-from c.args.task c.self.inside.results.entries (ap (λ (es : List (ℕ × Option Value)). is_waiting es c.args.task) c.self.view_is ∙ c.requires) in
    let after = held-after c.args.task c.args.value c.self.inside.results c.put.new.self c.demote.new.self absent few c.in_ok-put.ensures.entries c.demote.ensures.entries in
    rw (after.0, ← c.self.view_is) refl
