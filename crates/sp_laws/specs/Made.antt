-- Every reference names an object that its space made, with its class, whatever is lost or fails (Java RMI specification, 2.6: a remote
-- reference names a remote object).
use Rattle.std.specs.Prelude.{◌≡◌, ◌⊎◌, List, [], ◌∷◌}
use Rattle.space_ids.specs.declared.ids.ClassId.{ClassId}
use Rattle.net_message.specs.declared.message.Message.{Message}
use Rattle.space_ids.specs.declared.ids.ObjId.{ObjId}
use Rattle.space_ids.specs.declared.ids.Ref.{Ref}
use Rattle.sp_rules.specs.Classes.{Setting}
use Rattle.sp_rules.specs.Holders.{fields_of, references_of_frame}
use Rattle.sp_rules.specs.Laws.{AllOf}
use Rattle.sp_rules.specs.Origins.{references_of_message, references_of_asked}
use Rattle.sp_rules.specs.References.{references_in, references_of}
use Rattle.sp_rules.specs.State.{Object, Stored, Made, Written, Gone, Living, Request, KeptResult, Frame, CallFrame, ReturnedFrame, ParkedFrame, standing}
use Rattle.sp_rules.specs.Worlds.{World, Space, Side, Pipe, WorldEvent, run, new_world}

-- ---- what was made

-- whether this object was made, with this class; objects that were withdrawn since were made too
abbrev pub IsMade : List Stored → ObjId → ClassId → Type 0
IsMade [] id class = ⊥
IsMade (Made made c ∷ h) id class = ((made ≡ id) × (c ≡ class)) ⊎ IsMade h id class
IsMade (Written to slot value ∷ h) id class = IsMade h id class
IsMade (Gone ids ∷ h) id class = IsMade h id class

-- A space with the reference's id made its object, with its class.
abbrev pub IsMadeBy : List Space → Ref → Type 0
IsMadeBy [] r = ⊥
IsMadeBy (s ∷ ss) r = ((s.setting.id ≡ r.space) × IsMade s.state.store r.id r.class) ⊎ IsMadeBy ss r

-- ---- the references of a space

-- a parked call's target is an own object of some class
abbrev pub TargetIs : Setting → (Ref → Type 0) → Frame → Type 0
TargetIs g Is (CallFrame target method fuel arguments) = (class : ClassId) × Is (record { space = g.id; id = target; class = class })
TargetIs g Is (ReturnedFrame value fuel) = Unit {0}

-- All references of a space are of a kind: those that its tasks hold, those in the fields of standing objects, in held results, in parked
-- frames, and in what is asked of peers.
pub record HasOnly (Is : Ref → Type 0) (s : Space) : Type 0 where
  pub tasks : AllOf (λ (t : Living). AllOf Is t.task.held) s.state.tasks
  pub fields : AllOf (λ (o : Object). AllOf Is (references_of (fields_of s.setting s.state o))) (standing s.state.store)
  pub results : AllOf (λ (k : KeptResult). AllOf Is (references_in k.value)) s.state.results
  pub parked : AllOf (λ (p : ParkedFrame). AllOf Is (references_of_frame p.frame)) s.state.parked
  pub targets : AllOf (λ (p : ParkedFrame). TargetIs s.setting Is p.frame) s.state.parked
  pub requests : AllOf (λ (r : Request). AllOf Is (references_of_asked r.asked)) s.state.requests

-- the references in the frames on their way to an end
abbrev pub QueueIs : (Ref → Type 0) → Side → Type 0
QueueIs Is side = AllOf (λ (m : Message). AllOf Is (references_of_message m)) side.queue

abbrev pub PipeIs : (Ref → Type 0) → Pipe → Type 0
PipeIs Is p = QueueIs Is p.dialler × QueueIs Is p.accepter

pub record AllMade (w : World) : Type 0 where
  pub spaces : AllOf (HasOnly (IsMadeBy w.spaces)) w.spaces
  pub queues : AllOf (PipeIs (IsMadeBy w.spaces)) w.pipes

-- In every run of every world, with every loss, failure and order, each reference names what its space made.
abbrev pub ReferencesAreMade : Type 0
ReferencesAreMade = (settings : List Setting) (events : List WorldEvent) → AllMade (run (new_world settings) events)
