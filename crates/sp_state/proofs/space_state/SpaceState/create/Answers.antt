use Rattle.std.proofs.Common.{Some, sym, ap, ◌∙◌}
use Rattle.space_ids.specs.declared.value.Value.TheVariants as values
use Rattle.uuid.specs.declared.Uuid.{Uuid}
use Rattle.sp_rules.specs.Behaviours.{Gives, Throws}
use Rattle.sp_state.proofs.OpLemmas.{created-reply, created-space, full-reply}
use Rattle.sp_state.proofs.space_state.SpaceState.create.Goals as goal

pub returns-in-Some-clause-reply : goal.returns-in-Some-clause-reply
returns-in-Some-clause-reply w c = λ g s is tells few.
    ap (λ (own : Uuid). Gives (Some (values.Ref (record { space = own; id = c.in-Some.id; class = c.args.class })))) is.id
    ∙ created-reply g s c.args.class c.in-Some.id (sym c.in-Some.is ∙ c.in_ok-id.ensures.id g s is.owner few)

pub returns-in-Some-clause-made : goal.returns-in-Some-clause-made
returns-in-Some-clause-made w c = λ g s is tells few. created-space g c.args.class s c.args.self.now c.create.new.self is (c.in_ok-id.ensures.made g s is.owner tells few)

pub returns-in-None-clause-reply : goal.returns-in-None-clause-reply
returns-in-None-clause-reply w c = λ g s is tells few.
    ap Throws (c.out_of_memory.ensures g.classes tells) ∙ full-reply g s c.args.class (sym c.in-None.is ∙ c.in_ok-id.ensures.id g s is.owner few)

pub returns-in-None-clause-made : goal.returns-in-None-clause-made
returns-in-None-clause-made w c = λ g s is tells few. created-space g c.args.class s c.args.self.now c.create.new.self is (c.in_ok-id.ensures.made g s is.owner tells few)
