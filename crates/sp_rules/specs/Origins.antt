-- The references in a space, and their origins: those that were there, those that an event brings without being refused for them, and those
-- of standing objects (Java RMI specification, 2.6: a remote reference names a remote object; 3.3: an object that is referenced stays).
use Rattle.std.specs.Prelude.{◌≡◌, ℕ, true, List, [], ◌∷◌, None}
use Rattle.std.specs.Str.{bytes_eq}
use Rattle.net_message.specs.declared.message.Message.{Message}
use Rattle.net_message.specs.declared.message.Message.TheVariants as message
use Rattle.space_ids.specs.declared.ids.Ref.{Ref}
use Rattle.sp_rules.specs.Classes.{Setting}
use Rattle.sp_rules.specs.Events.{Event, Output, Send}
use Rattle.sp_rules.specs.Holders.{class_is, fields_of, references_of_frame}
use Rattle.sp_rules.specs.Laws.{AllOf, stands}
use Rattle.sp_rules.specs.References.{references_in, references_of}
use Rattle.sp_rules.specs.Refusals.{refusal}
use Rattle.sp_rules.specs.Space.{state_of}
use Rattle.sp_rules.specs.State.{State, Object, Living, Asked, Calls, LooksUp, Tells, KeptResult, Frame, CallFrame, ReturnedFrame, ParkedFrame, standing, object_at}
use Rattle.sp_rules.specs.Worlds.{Space, WorldEvent, run, new_world}

-- ---- the references in frames and requests

-- the references among the values of a frame; a Call's target comes besides
abbrev pub references_of_message : Message → List Ref
references_of_message (message.Call number object method fuel arguments) = references_of arguments
references_of_message (message.Returned number fuel value) = references_in value
references_of_message _ = []

abbrev pub references_of_asked : Asked → List Ref
references_of_asked (Calls number task lent kind m) = references_of_message m
references_of_asked (LooksUp number task name) = []
references_of_asked (Tells call group) = []

abbrev pub references_of_output : Output → List Ref
references_of_output (Send conn m) = references_of_message m
references_of_output _ = []

-- the reference of an own object
abbrev pub own_reference : Setting → Object → Ref
own_reference g o = record { space = g.id; id = o.id; class = o.class }

-- ---- histories that a space took

-- No event of the history was refused, whichever tasks were lent then.
abbrev pub IsTaken : Setting → List Event → Type 0
IsTaken g [] = Unit {0}
IsTaken g (e ∷ h) = ((lent : List ℕ) × (refusal g lent (state_of g h) e ≡ None)) × IsTaken g h

abbrev pub HasTaken : Space → Type 0
HasTaken s = IsTaken s.setting s.history

-- In every run of every world the history of a space has no event that the space refused.
abbrev pub HistoriesAreTaken : Type 0
HistoriesAreTaken = (settings : List Setting) (events : List WorldEvent) → AllOf HasTaken (run (new_world settings) events).spaces

-- ---- own references stand

-- An own reference names a standing object of its class.
abbrev pub IsRight : Setting → State → Ref → Type 0
IsRight g s r = bytes_eq r.space g.id ≡ true → class_is r.class (object_at s r.id) ≡ true

-- The target of a parked call stands.
abbrev pub TargetStands : State → Frame → Type 0
TargetStands s (CallFrame target method fuel arguments) = stands s target ≡ true
TargetStands s (ReturnedFrame value fuel) = Unit {0}

-- Own references name standing objects of their class: those that tasks hold, those in the fields of standing objects, in held results, and
-- in parked frames. So do the targets of parked calls.
pub record OwnStand (g : Setting) (s : State) : Type 0 where
  pub tasks : AllOf (λ (t : Living). AllOf (IsRight g s) t.task.held) s.tasks
  pub fields : AllOf (λ (o : Object). AllOf (IsRight g s) (references_of (fields_of g s o))) (standing s.store)
  pub results : AllOf (λ (k : KeptResult). AllOf (IsRight g s) (references_in k.value)) s.results
  pub parked : AllOf (λ (p : ParkedFrame). AllOf (IsRight g s) (references_of_frame p.frame)) s.parked
  pub targets : AllOf (λ (p : ParkedFrame). TargetStands s p.frame) s.parked

-- After every history that a space took its own references stand.
abbrev pub OwnReferencesStand : Type 0
OwnReferencesStand = (g : Setting) (h : List Event) → IsTaken g h → OwnStand g (state_of g h)
