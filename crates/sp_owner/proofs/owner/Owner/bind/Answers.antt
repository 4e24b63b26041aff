use Rattle.std.proofs.Common.{Option, ap, subst, ◌∙◌}
use Rattle.space_ids.specs.declared.ids.ObjId.{ObjId}
use Rattle.sp_registry.specs.Bindings as registry
use Rattle.sp_rules.specs.OwnEvents.{set_names}
use Rattle.sp_owner.specs.Owners.{IsOwner, denied}
use Rattle.sp_owner.proofs.OwnerLemmas.{changed-by, denied-by}
use Rattle.sp_owner.proofs.owner.Owner.bind.Goals as goal

pub returns-in-Ok-clause-bound : goal.returns-in-Ok-clause-bound
returns-in-Ok-clause-bound c = λ g s is.
    subst (λ (own : Option ObjId). IsOwner g (set_names (registry.bind s.owner.names c.args.name.now own) s) (record c.args.self.now { names = c.bind.new.self })) (c.own_object-own.ensures g s is)
    (changed-by g s c.args.self.now c.bind.new.self (λ bs. registry.bind bs c.args.name.now c.own_object-own.result) c.in-Ok.ensures.ok is).0

pub returns-in-Ok-clause-denied : goal.returns-in-Ok-clause-denied
returns-in-Ok-clause-denied c = λ g s is.
    (changed-by g s c.args.self.now c.bind.new.self (λ bs. registry.bind bs c.args.name.now c.own_object-own.result) c.in-Ok.ensures.ok is).1
    ∙ ap (λ own. denied (registry.bind s.owner.names c.args.name.now own)) (c.own_object-own.ensures g s is)

pub returns-in_ok-denial-in-Err-clause-bound : goal.returns-in_ok-denial-in-Err-clause-bound
returns-in_ok-denial-in-Err-clause-bound c = λ g s is.
    subst (λ (own : Option ObjId). IsOwner g (set_names (registry.bind s.owner.names c.args.name.now own) s) (record c.args.self.now { names = c.bind.new.self })) (c.own_object-own.ensures g s is)
    (denied-by g s c.args.self.now c.bind.new.self (λ bs. registry.bind bs c.args.name.now c.own_object-own.result) c.in-Err.fault c.in_ok-denial-in-Err.field-0 c.in-Err.ensures.refused c.in_ok-denial-in-Err.ensures c.in-Err.ensures.unchanged is).0

pub returns-in_ok-denial-in-Err-clause-denied : goal.returns-in_ok-denial-in-Err-clause-denied
returns-in_ok-denial-in-Err-clause-denied c = λ g s is.
    (denied-by g s c.args.self.now c.bind.new.self (λ bs. registry.bind bs c.args.name.now c.own_object-own.result) c.in-Err.fault c.in_ok-denial-in-Err.field-0 c.in-Err.ensures.refused c.in_ok-denial-in-Err.ensures c.in-Err.ensures.unchanged is).1
    ∙ ap (λ own. denied (registry.bind s.owner.names c.args.name.now own)) (c.own_object-own.ensures g s is)
