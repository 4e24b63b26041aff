use Rattle.std.proofs.Common.{◌≡◌, ◌∷◌, [], refl, rules, sym, ◌∙◌}
use Rattle.std.proofs.lemmas.List.{nil_from_length}
use Rattle.sp_rules.specs.Requests.{due_groups}
use Rattle.sp_transport.proofs.SettleLemmas.{making-all, making-start, making-step}
use Rattle.sp_transport.proofs.StepLemmas.{with-leases}
use Rattle.sp_transport.proofs.transport.Transport.make_due.Goals as goal

pub loop-group-init : goal.loop-group-init
unfolding due_groups
loop-group-init c = λ s stands may.
    let given : c.into_iter-group-iterator.result.rest.items ≡ c.in_ok-groups.groups.items = search rules in
    let whole : c.into_iter-group-iterator.result.rest.items ≡ due_groups s.leases = given ∙ (c.in_ok-groups.ensures).groups s.leases stands.leases in
    making-start s c.into_iter-group-iterator.result.rest.items (record c.args.self.now { leases = c.due.new.self }) whole (with-leases s c.args.self.now s.leases c.due.new.self refl (c.due.ensures.same s.leases stands.leases) stands)

pub loop-group-preserved : goal.loop-group-preserved
loop-group-preserved c = λ s stands may.
    let next : c.loop-group.group-iterator.rest.items ≡ c.in-Some.group ∷ c.next.new.self.rest.items = search rules in
    making-step s c.loop-group.yielded c.in-Some.group c.loop-group.group-iterator.rest.items c.next.new.self.rest.items c.loop-group.self c.make_group.new.self next may (c.loop-group.invariant s stands may)
    (λ v a notes. (c.in_ok-make_group.ensures) v a notes)

pub returns : goal.returns
returns c = λ s stands may.
    let none : c.loop-group.group-iterator.rest.items ≡ [] = nil_from_length _ (sym c.loop-group.group-iterator.rest.ok.0 ∙ (c.in-None.ensures).steps.0) in
    making-all s c.loop-group.yielded c.loop-group.group-iterator.rest.items c.loop-group.self none (c.loop-group.invariant s stands may)
