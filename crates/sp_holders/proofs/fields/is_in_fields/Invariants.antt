use Rattle.std.proofs.Common.{◌≡◌, false, take}
use Rattle.std.specs.List.{list_any}
use Rattle.sp_owner.specs.Owners.{IsOwner, owner_parts}
use Rattle.sp_rules.specs.Classes.{Setting}
use Rattle.sp_rules.specs.Holders.{fields_of}
use Rattle.sp_rules.specs.References.{is_reference_in, references_of}
use Rattle.sp_rules.specs.State.{State, Object, standing}
use Rattle.sp_state.specs.Spaces.{AreNumbered}
use Rattle.sp_holders.proofs.fields.is_in_fields.Given as goal

-- no field of the objects so far has it
abbrev pub invariant-loop-index : goal.invariant-loop-index
invariant-loop-index l = (g : Setting) (s : State) → IsOwner g s l.owner → AreNumbered (owner_parts s)
    → list_any (λ (o : Object). is_reference_in (references_of (fields_of g s o)) l.reference) (take l.index (standing s.store)) ≡ false
