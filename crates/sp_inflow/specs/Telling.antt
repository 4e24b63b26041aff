-- What was told of the bytes of a stream, and what is left of it. (This project's own.)
use Rattle.std.specs.Prelude.{◌≡◌, ℕ, Bool, true, false, IsTrue, List, [], ◌∷◌, ◌++◌, Option, Some, None, map, option_to_list}
use Rattle.net_message.specs.declared.fault.WireFault.{WireFault}
use Rattle.net_message.specs.declared.message.Message.{Message}
use Rattle.net_message.specs.Wire.{IsWire}
use Rattle.net_frames.specs.Stream.{Rest, Stopped, Stream}
use Rattle.net_engine.specs.Engine.{Receiver, left}
use Rattle.sp_inflow.specs.declared.arrivals.Arrival.{Arrival}
use Rattle.sp_inflow.specs.declared.arrivals.Arrival.TheVariants.{Received, Closed, ReadFailed, Bad}
use Rattle.sp_inflow.specs.Arriving.{is_end}

-- what comes from a source: its receiver, and whether the end was told
pub record Incoming (S : Type 0) : Type 0 where
  pub receiver : Receiver S
  pub ended : Bool

-- whether nothing comes after what came
abbrev pub ends_with : Option Arrival → Bool
ends_with None = true
ends_with (Some arrival) = is_end arrival

-- A read is told to have failed only if the source has failed.
abbrev pub HasCause : {S : Type 0} → (S → Bool) → Option Arrival → S → Type 0
HasCause has_failed None source = Unit {0}
HasCause has_failed (Some (Received message)) source = Unit {0}
HasCause has_failed (Some Closed) source = Unit {0}
HasCause has_failed (Some ReadFailed) source = IsTrue (has_failed source)
HasCause has_failed (Some Bad) source = Unit {0}

-- The bytes are the frames that say these messages, one after the other, and then these bytes.
abbrev pub Begins : List ℕ → List Message → List ℕ → Type 0
Begins bytes [] rest = bytes ≡ rest
Begins bytes (message ∷ messages) rest = (first : List ℕ) × (others : List ℕ) × (IsWire first message × (bytes ≡ first ++ others) × Begins others messages rest)

-- After the frames that were told the stream goes on with these bytes; or it has ended: they are less than a frame, they break the format, or a read failed.
abbrev pub Stands : {S : Type 0} → (S → Option (List ℕ)) → Option Arrival → List ℕ → Incoming S → Type 0
Stands remaining None rest incoming = (incoming.ended ≡ false) × (incoming.receiver.fault ≡ None) × (left remaining incoming.receiver ≡ Some rest)
Stands remaining (Some (Received message)) rest incoming = ⊥
Stands remaining (Some Closed) rest incoming = (incoming.ended ≡ true) × ((begun : List ℕ) × Stream rest [] (Rest begun))
Stands remaining (Some ReadFailed) rest incoming = incoming.ended ≡ true
Stands remaining (Some Bad) rest incoming = (incoming.ended ≡ true) × ((fault : WireFault) × Stream rest [] (Stopped fault))

-- Of a stream of these bytes this was told: its frames, in turn, and then its end, or not yet.
pub record AreTold {S : Type 0} (remaining : S → Option (List ℕ)) (bytes : List ℕ) (told : List Arrival) (incoming : Incoming S) : Type 0 where
  pub messages : List Message
  pub end : Option Arrival
  pub rest : List ℕ
  pub begins : Begins bytes messages rest
  pub are : told ≡ map (λ m. Received m) messages ++ option_to_list end
  pub stands : Stands remaining end rest incoming
