use Rattle.std.proofs.Common.{◌≡◌, Some, sym, subst, ◌∙◌}
use Rattle.space_ids.specs.declared.value.Value.{Value}
use Rattle.sp_rules.specs.Holders.{hold}
use Rattle.sp_rules.specs.References.{reference_of}
use Rattle.sp_owner.specs.Owners.{IsOwner}
use Rattle.sp_state.proofs.FrameLemmas.{space-is}
use Rattle.sp_state.proofs.OpLemmas.{field-there, field-value, put-with, with_written, written-space}
use Rattle.sp_state.proofs.space_state.SpaceState.put.Goals as goal

pub returns-in_ok-hold_value-in-Some-clause-put : goal.returns-in_ok-hold_value-in-Some-clause-put
returns-in_ok-hold_value-in-Some-clause-put c = λ g s is has.
    let id = c.args.object in
    let slot = c.args.slot in
    let value = c.args.value.now in
    let had : Some c.in-Some.had ≡ _ = sym c.in-Some.is ∙ c.put_field.ensures.had g s is.owner in
    let stored = subst (λ (v : Value). IsOwner g (with_written id slot v s) c.put_field.new.self) c.in_ok-written.ensures (c.in-Some.ensures.written g s is.owner) in
    let written = written-space g id slot value s c.args.self.now c.put_field.new.self is stored in
    let held = c.in_ok-hold_value-in-Some.ensures.held g (with_written id slot value s) written in
    space-is g _ _ c.drop_value.new.self (put-with g id slot value c.in-Some.had s (field-value g s id slot c.in-Some.had had)) (c.drop_value.ensures.dropped g (hold g (reference_of value) (with_written id slot value s)) held)

pub returns-in-None-clause-put : goal.returns-in-None-clause-put
returns-in-None-clause-put c = λ g s is has. absurd (field-there g s c.args.object c.args.slot (sym c.in-None.is ∙ c.put_field.ensures.had g s is.owner) has)
