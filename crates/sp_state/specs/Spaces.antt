-- When the state of a space is that which the rules of spaces give: one line a part. (This project's own.)
use Rattle.std.specs.Prelude.{◌≡◌, [], map}
use Rattle.sp_rules.specs.Classes.{Setting}
use Rattle.sp_rules.specs.Laws.{RisesWithin}
use Rattle.sp_rules.specs.State.{State, Object, standing}
use Rattle.sp_owner.specs.Owners.{IsOwner, OwnerParts, owner_parts}
use Rattle.sp_living.specs.Livings.{IsLiving}
use Rattle.sp_state.specs.declared.space_state.SpaceState.{SpaceState}

-- The standing objects have numbers from 1, each its own, in the order in which they were made, and none above the last that was given (law `numbers_are_fresh`).
abbrev pub AreNumbered : OwnerParts → Type 0
AreNumbered p = RisesWithin 0 p.objects_made (map (λ (o : Object). o.id.0) (standing p.store))

-- The id, the version and the digest are the setting's; what the space keeps for others, and what lives in it, are those of the state.
pub record IsSpace (g : Setting) (s : State) (space : SpaceState) : Type 0 where
  pub id : space.id ≡ g.id
  pub version : space.version ≡ g.version
  pub digest : space.digest ≡ g.digest
  pub numbers : AreNumbered (owner_parts s)
  pub owner : IsOwner g s space.owner
  pub living : IsLiving g s space.living

-- Between events nothing is noted, and no call waits to be asked.
pub record IsAtRest (s : State) : Type 0 where
  pub notes : s.notes ≡ []
  pub fresh : s.fresh ≡ []
