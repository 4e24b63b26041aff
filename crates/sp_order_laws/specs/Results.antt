-- The result of a call is held until its Ack comes (Java RMI specification, 3.3: an object that is referenced is not collected; that a result is held until it is acknowledged is this project's own rule).
use Rattle.std.specs.Prelude.{◌≡◌, ℕ, true, List, Option}
use Rattle.net_message.specs.declared.message.Message.{Message}
use Rattle.net_message.specs.declared.message.Message.TheVariants as message
use Rattle.space_ids.specs.declared.value.Value.{Value}
use Rattle.sp_rules.specs.Classes.{Setting}
use Rattle.sp_rules.specs.Events.{Event}
use Rattle.sp_rules.specs.Laws.{AllOf}
use Rattle.sp_rules.specs.Space.{state_of, all_outputs}
use Rattle.sp_rules.specs.State.{Acked, is_open}
use Rattle.sp_laws.specs.Inbound.{OpensOnce}
use Rattle.sp_order_laws.specs.Delivered.{came_on, sent_on}
use Rattle.sp_order_laws.specs.Ends.{IsOneOf}

-- a frame is no Ack of this number
abbrev pub IsNoAck : ℕ → Message → Type 0
IsNoAck number m = m ≡ message.Ack number → ⊥

-- After every history in which no number of a connection comes again: a result that was sent on a connection is held until its Ack while the connection is open and no Ack of its number came there.
abbrev pub ResultsWaitForAcks : Type 0
ResultsWaitForAcks = (g : Setting) (h : List Event) (conn number fuel : ℕ) (value : Option Value) → OpensOnce h → is_open (state_of g h) conn ≡ true → IsOneOf (message.Returned number fuel value) (sent_on conn (all_outputs g h)) → AllOf (IsNoAck number) (came_on conn h)
    → IsOneOf (record { until = Acked conn number; value = value }) (state_of g h).results
