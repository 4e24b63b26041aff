-- A Lease answers a dirty call, a Cleaned a clean call (Java RMI specification, 9.1).
use Rattle.std.specs.Prelude.{◌≡◌, ℕ, min, Bool, List}
use Rattle.net_message.specs.declared.message.Message.TheVariants as message
use Rattle.space_ids.specs.declared.ids.ObjId.{ObjId}
use Rattle.sp_rules.specs.Classes.{Setting}
use Rattle.sp_rules.specs.Events.{Event, Received, Output, Send}
use Rattle.sp_rules.specs.Laws.{AllOf}
use Rattle.sp_rules.specs.Origins.{IsTaken}
use Rattle.sp_rules.specs.Space.{outputs_of}
use Rattle.sp_laws.specs.Inbound.{OpensOnce}

-- With the event a dirty call of the number came on the connection on which a Lease is answered, for at least its period; or a clean call, for a Cleaned.
abbrev pub AnswersTold : Event → Output → Type 0
AnswersTold e (Send n (message.Lease sequence period)) = (asked : ℕ) × ((ids : List ObjId) × ((e ≡ Received n (message.Dirty sequence asked ids)) × (period ≡ min asked 600000)))
AnswersTold e (Send n (message.Cleaned sequence)) = (strong : Bool) × ((ids : List ObjId) × (e ≡ Received n (message.Clean sequence strong ids)))
AnswersTold e _ = Unit {0}

-- So each Lease and each Cleaned of each event after every history that a space took, in which no number of a connection comes again.
abbrev pub LeasesAnswerDirtyCalls : Type 0
LeasesAnswerDirtyCalls = (g : Setting) (h : List Event) (e : Event) → IsTaken g h → OpensOnce h → AllOf (AnswersTold e) (outputs_of g h e)
