-- What a world owes to the machine of one object and its clients: a root names what its space leases, and what is withdrawn nothing holds and no client has an entry for (Java RMI specification, 3.3: an object that is referenced is not collected).
use Rattle.std.specs.Prelude.{◌≡◌, ◌⊎◌, ℕ, true, false, List, None, Some, is_some}
use Rattle.std.specs.Str.{bytes_eq}
use Rattle.space_ids.specs.declared.ids.ForeignId.{ForeignId}
use Rattle.space_ids.specs.declared.ids.ObjId.{ObjId}
use Rattle.space_ids.specs.declared.ids.Ref.{Ref}
use Rattle.space_ids.specs.declared.value.Value.{Value}
use Rattle.uuid.specs.declared.Uuid.{Uuid}
use Rattle.sp_rules.specs.Classes.{Setting}
use Rattle.sp_rules.specs.Events.{Root}
use Rattle.sp_rules.specs.Holders.{has_reason, lease_now}
use Rattle.sp_rules.specs.Laws.{AllOf}
use Rattle.sp_rules.specs.References.{references_of}
use Rattle.sp_rules.specs.Refusals.{refusal}
use Rattle.sp_rules.specs.State.{State}
use Rattle.sp_rules.specs.Worlds.{Space}
use Rattle.sp_held_laws.specs.OneObject.{own_holders, has_entry_of}

-- ---- roots

-- A reference is of an own object, or the space has a lease for it.
abbrev pub IsOwnOrLeased : Setting → State → Ref → Type 0
IsOwnOrLeased g s r = (bytes_eq r.space g.id ≡ true) ⊎ (is_some (lease_now s (record { space = r.space; id = r.id })).lease ≡ true)

-- So each reference among the arguments of a Root that is not refused.
abbrev pub RootsNameWhatIsLeased : Type 0
RootsNameWhatIsLeased = (g : Setting) (lent : List ℕ) (s : State) (method : ℕ) (arguments : List Value) (fuel : ℕ) → refusal g lent s (Root method arguments fuel) ≡ None → AllOf (IsOwnOrLeased g s) (references_of arguments)

-- ---- sweeps

abbrev pub own_reference : Space → ObjId → ForeignId
own_reference s id = record { space = s.setting.id; id = id }

-- What has no reason to stay, no name, task, field or result of its space holds, and no client has an entry for it.
abbrev pub NothingHoldsWhatGoes : Type 0
NothingHoldsWhatGoes = (s : Space) (id : ObjId) → has_reason s.setting s.state id ≡ false
    → (own_holders (own_reference s id) (Some s) ≡ 0) × ((client : Uuid) → has_entry_of (own_reference s id) (Some s) client ≡ false)
