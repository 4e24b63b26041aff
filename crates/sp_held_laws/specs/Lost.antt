-- Where nothing fails and no entry expires, nothing that is held is lost: a foreign reference that is held names an
-- object that stands, and that its owner keeps for the holder; what a frame names stands; and a call finds the object
-- that it names (Java RMI specification, 3.3: an object that is referenced is not collected).
use Rattle.std.specs.Prelude.{◌≡◌, ◌⊎◌, ◌≤◌, ℕ, true, is_some, List, [], ◌∷◌, Option, Some, slice_get}
use Rattle.net_message.specs.declared.message.Message.TheVariants as message
use Rattle.space_ids.specs.declared.ids.ForeignId.{ForeignId}
use Rattle.space_ids.specs.declared.ids.ObjId.{ObjId}
use Rattle.space_ids.specs.declared.ids.Ref.{Ref}
use Rattle.space_ids.specs.declared.value.Value.{Value}
use Rattle.sp_rules.specs.Classes.{Setting}
use Rattle.sp_rules.specs.Events.{Event, Received}
use Rattle.sp_rules.specs.Laws.{stands}
use Rattle.sp_rules.specs.References.{references_in, references_of}
use Rattle.sp_rules.specs.Space.{state_of}
use Rattle.sp_rules.specs.State.{State, Frame, CallFrame, ReturnedFrame, object_at}
use Rattle.sp_rules.specs.Worlds.{World, Space, Pipe}
use Rattle.sp_order_laws.specs.Ends.{IsOneOf}
use Rattle.sp_order_laws.specs.Places.{IsBetween}
use Rattle.sp_held_laws.specs.Granted.{started_of}
use Rattle.sp_held_laws.specs.Steps.{has_entry_for}
use Rattle.sp_held_laws.specs.Premises.{InQuietRuns}

-- ---- what is held

-- The object of a reference stands at its owner, which has an entry of the client for it.
pub record IsKeptFor (a b : Space) (r : ForeignId) : Type 0 where
  pub stands : stands b.state r.id ≡ true
  pub entry : has_entry_for b.state a.setting.id r.id ≡ true

-- A reference that a task that has started, a field of a standing object or a held result of a space has names an
-- object that is kept for the space, by its owner.
abbrev pub HeldIsKept : ForeignId → World → Type 0
HeldIsKept r w = (i j : ℕ) (a b : Space) → slice_get w.spaces i ≡ Some a → slice_get w.spaces j ≡ Some b
    → r.space ≡ b.setting.id → 1 ≤ started_of a.setting a.state r → IsKeptFor a b r

-- So in every run in which nothing fails and no entry for the object expires.
abbrev pub NothingHeldIsLost : Type 0
NothingHeldIsLost = InQuietRuns HeldIsKept

-- ---- what frames name

-- A frame is parked in a space, under a connection and number.
abbrev pub IsParkedIn : ℕ → ℕ → Frame → Space → Type 0
IsParkedIn conn number f s = (references : List ForeignId)
    × IsOneOf (record { conn = conn; number = number; frame = f; references = references }) s.state.parked

-- A Call is on its way to a space, or parked there.
abbrev pub ComesAsCall : ℕ → ℕ → ObjId → ℕ → ℕ → List Value → Pipe → Space → Type 0
ComesAsCall conn number target method fuel arguments p b =
    IsOneOf (message.Call number target method fuel arguments) p.accepter.queue
    ⊎ IsParkedIn conn number (CallFrame target method fuel arguments) b

-- A Returned is on its way to a space, or parked there.
abbrev pub ComesAsResult : ℕ → ℕ → Option Value → ℕ → Pipe → Space → Type 0
ComesAsResult conn number value fuel p a =
    IsOneOf (message.Returned number fuel value) p.dialler.queue ⊎ IsParkedIn conn number (ReturnedFrame value fuel) a

-- The reference is this one, under some class.
pub record IsReferenceTo (r : ForeignId) (x : Ref) : Type 0 where
  pub space : r.space ≡ x.space
  pub id : r.id ≡ x.id

-- The object of a reference stands, in a space that owns it.
abbrev pub StandsIn : World → ForeignId → Type 0
StandsIn w r = (j : ℕ) (o : Space) → slice_get w.spaces j ≡ Some o → r.space ≡ o.setting.id
    → stands o.state r.id ≡ true

-- An object stands while a Call or a Returned that names it is on its way or parked, in whatever space: as the target
-- of the call, or by a reference among its arguments or as the result.
pub record NamedStands (r : ForeignId) (w : World) : Type 0 where
  pub target : (conn number method fuel : ℕ) (arguments : List Value) (p : Pipe) (a b : Space)
      → IsBetween w conn p a b → r.space ≡ b.setting.id → ComesAsCall conn number r.id method fuel arguments p b
      → stands b.state r.id ≡ true
  pub argument : (conn number method fuel : ℕ) (target : ObjId) (arguments : List Value) (p : Pipe) (a b : Space)
      (x : Ref) → IsBetween w conn p a b → ComesAsCall conn number target method fuel arguments p b
      → IsOneOf x (references_of arguments) → IsReferenceTo r x → StandsIn w r
  pub result : (conn number fuel : ℕ) (value : Option Value) (p : Pipe) (a b : Space) (x : Ref)
      → IsBetween w conn p a b → ComesAsResult conn number value fuel p a → IsOneOf x (references_in value)
      → IsReferenceTo r x → StandsIn w r

-- So in every such run.
abbrev pub WhatIsNamedStands : Type 0
WhatIsNamedStands = InQuietRuns NamedStands

-- ---- calls that came

-- A Call of an object that comes finds it: it is not answered that there is no such object.
abbrev pub FindsObject : State → ObjId → Event → Type 0
FindsObject s id (Received conn (message.Call number target method fuel arguments)) =
    target ≡ id → is_some (object_at s target) ≡ true
FindsObject s id _ = Unit {0}

-- So did each Call of a history, newest event first.
abbrev pub CallsFound : Setting → ObjId → List Event → Type 0
CallsFound g id [] = Unit {0}
CallsFound g id (e ∷ h) = FindsObject (state_of g h) id e × CallsFound g id h

-- Each Call of the object that came to its owner found it.
abbrev pub CallsFindIt : ForeignId → World → Type 0
CallsFindIt r w = (j : ℕ) (b : Space) → slice_get w.spaces j ≡ Some b → r.space ≡ b.setting.id
    → CallsFound b.setting r.id b.history

-- So in every such run.
abbrev pub CallsFindTheirObjects : Type 0
CallsFindTheirObjects = InQuietRuns CallsFindIt
