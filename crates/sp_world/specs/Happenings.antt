-- The events of a world, as the rules of spaces tell them. (This project's own.)
use Rattle.std.specs.Prelude.{◌≡◌, Option, None, Some}
use Rattle.sp_rules.specs.Events as events
use Rattle.sp_rules.specs.Refusals.{Refusal, refusal_number}
use Rattle.sp_rules.specs.Worlds as rules
use Rattle.sp_events.specs.Events.{event_of}
use Rattle.sp_events.specs.FaultNames.{core_fault_number}
use Rattle.sp_events.specs.declared.fault.CoreFault.{CoreFault}
use Rattle.sp_pipes.specs.Connections.{end_of}
use Rattle.sp_world.specs.declared.event.WorldEvent.{WorldEvent}
use Rattle.sp_world.specs.declared.event.WorldEvent.TheVariants as event

-- the event of the rules
abbrev pub happening_of : WorldEvent → rules.WorldEvent
happening_of (event.Own space e) = rules.Own space (event_of e)
happening_of (event.Root space method arguments fuel) = rules.Own space (events.Root method arguments fuel)
happening_of (event.Step space task) = rules.Step space task
happening_of (event.Open dialler dialled) = rules.Open dialler dialled
happening_of (event.Refuse dialler dialled) = rules.Refuse dialler dialled
happening_of (event.Accept conn) = rules.Accept conn
happening_of (event.Deliver conn to) = rules.Deliver conn (end_of to)
happening_of (event.ReadFails conn at) = rules.ReadFails conn (end_of at)
happening_of (event.WriteFails conn at unsent) = rules.WriteFails conn (end_of at) unsent

-- A fault tells why the last event was refused, by the number of the refusal; there is none if it was not.
abbrev pub TellsRefusal : Option Refusal → Option CoreFault → Type 0
TellsRefusal None None = Unit {0}
TellsRefusal None (Some fault) = ⊥
TellsRefusal (Some why) None = ⊥
TellsRefusal (Some why) (Some fault) = core_fault_number fault ≡ Some (refusal_number why)
