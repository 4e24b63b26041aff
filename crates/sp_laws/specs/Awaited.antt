-- What parked frames wait for: the leases of the foreign references in them (this project's own rule; a client makes a dirty call for a reference that it begins to hold by the Java RMI specification, 9.1).
use Rattle.std.specs.Prelude.{◌≡◌, ◌≤◌, List, [], fold, length}
use Rattle.dgc_client.specs.Table.{with_reference}
use Rattle.space_ids.specs.declared.ids.ForeignId.{ForeignId}
use Rattle.sp_rules.specs.Classes.{Setting}
use Rattle.sp_rules.specs.Events.{Event}
use Rattle.sp_rules.specs.Laws.{AllOf}
use Rattle.sp_rules.specs.Origins.{IsTaken}
use Rattle.sp_rules.specs.References.{references_in, references_of, foreign_ids}
use Rattle.sp_rules.specs.Space.{state_of}
use Rattle.sp_rules.specs.State.{Frame, CallFrame, ReturnedFrame, ParkedFrame}

-- the foreign references in a frame, each once
abbrev pub awaited : Setting → Frame → List ForeignId
awaited g (CallFrame target method fuel arguments) = fold with_reference [] (foreign_ids g.id (references_of arguments))
awaited g (ReturnedFrame value fuel) = foreign_ids g.id (references_in value)

-- A parked frame waits for exactly these, and there is one.
pub record WaitsForLeases (g : Setting) (p : ParkedFrame) : Type 0 where
  pub references : p.references ≡ awaited g p.frame
  pub some : 1 ≤ length p.references

-- This holds of each parked frame after every history that a space took.
abbrev pub ParkedFramesWaitForLeases : Type 0
ParkedFramesWaitForLeases = (g : Setting) (h : List Event) → IsTaken g h → AllOf (WaitsForLeases g) (state_of g h).parked
