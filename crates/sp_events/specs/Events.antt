-- The events of a space that come from outside, as the rules of spaces tell them. (This project's own.)
use Rattle.sp_rules.specs.Events as rules
use Rattle.sp_events.specs.declared.event.Event.{Event}
use Rattle.sp_events.specs.declared.event.Event.TheVariants as event
use Rattle.sp_events.specs.declared.event.Root.{Root}

-- the event of the rules
abbrev pub event_of : Event → rules.Event
event_of (event.Moment moment) = rules.Moment moment
event_of event.Sweep = rules.Sweep
event_of (event.RootAck task) = rules.RootAck task
event_of (event.Bind name value) = rules.Bind name value
event_of (event.Rebind name value) = rules.Rebind name value
event_of (event.Unbind name) = rules.Unbind name
event_of (event.Lookup peer name) = rules.Lookup peer name
event_of (event.Opened conn dialled) = rules.Opened conn dialled
event_of (event.Refused peer) = rules.Refused peer
event_of (event.Received conn message) = rules.Received conn message
event_of (event.Closed conn) = rules.Closed conn
event_of (event.ReadFailed conn) = rules.ReadFailed conn
event_of (event.Bad conn) = rules.Bad conn
event_of (event.WriteFailed conn unsent) = rules.WriteFailed conn unsent

abbrev pub event_of_root : Root → rules.Event
event_of_root root = rules.Root root.method root.arguments root.fuel
