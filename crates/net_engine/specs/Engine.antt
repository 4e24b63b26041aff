-- What an engine holds, a sender of frames or a receiver, and what a call of it leaves. (This project's own.)
use Rattle.std.specs.Prelude.{◌≡◌, ℕ, ◌+◌, ◌<◌, ◌≤◌, ◌↔◌, List, [], ◌∷◌, length, Option, None, Some, Result, Ok, Err, Bool, IsTrue, MatchOption}
use Rattle.std.specs.Io.KnownBytes.{prepend_known, Keeps, Consumes, IsAtEnd}
use Rattle.std.specs.declared.alloc.AllocError.{AllocError}
use Rattle.net_message.specs.declared.fault.WireFault.{WireFault}
use Rattle.net_message.specs.declared.fault.WireFault.TheVariants as faults
use Rattle.net_message.specs.declared.message.Message.{Message}
use Rattle.net_message.specs.Wire.{IsWire}
use Rattle.net_engine.specs.declared.inbound.Look.{Look}
use Rattle.net_engine.specs.declared.inbound.Look.TheVariants as looks
use Rattle.net_engine.specs.declared.inbound.Inflow.{Inflow}
use Rattle.net_engine.specs.declared.inbound.Inflow.TheVariants as inflows
use Rattle.net_frames.specs.Stream.{IsPartial, IsBodyLength, Breaks, told_length, known_end}

-- what sends: its sink, and how many bytes it has room for
pub record Sender (K : Type 0) : Type 0 where
  pub sink : K
  pub room : ℕ

-- a receiver: its source, the bytes read of the frame that has begun, the fault that ended the stream, and how many bytes it has room for
pub record Receiver (S : Type 0) : Type 0 where
  pub source : S
  pub held : List ℕ
  pub fault : Option WireFault
  pub room : ℕ

-- The bytes do not go past the first frame, nor past the fourth byte of a length that no body has.
abbrev pub IsWithinFirst : List ℕ → Type 0
IsWithinFirst bytes = (length bytes ≤ known_end bytes) × (4 < length bytes → IsBodyLength (told_length bytes))

-- how many bytes of a frame show its fault: the fourth byte shows a bad length, the whole body all else
abbrev pub fault_end : WireFault → List ℕ → ℕ
fault_end faults.Length bytes = 4
fault_end faults.Kind bytes = 4 + told_length bytes
fault_end faults.Body bytes = 4 + told_length bytes
fault_end faults.Trailing bytes = 4 + told_length bytes

-- the bytes show this fault of their first frame, and no byte after them was read
abbrev pub TellsFault : WireFault → List ℕ → Type 0
TellsFault fault bytes = Breaks fault bytes × (length bytes ≡ fault_end fault bytes)

-- what is left of the stream, if the source's bytes are known: the bytes held, and then those of the source
abbrev pub left : {S : Type 0} → (S → Option (List ℕ)) → Receiver S → Option (List ℕ)
left remaining receiver = prepend_known receiver.held (remaining receiver.source)

-- the bytes held, and then those of a source, if they are known
abbrev pub known : {S : Type 0} → (S → Option (List ℕ)) → List ℕ → S → Option (List ℕ)
known remaining held source = prepend_known held (remaining source)

-- what the bytes that were read say
abbrev pub Sees : List ℕ → Look → Type 0
Sees held (looks.Come (inflows.Frame message)) = IsWire held message
Sees held (looks.Come (inflows.Bad fault)) = TellsFault fault held
Sees held (looks.Come (inflows.Closed inside)) = ⊥
Sees held (looks.Come inflows.ReadFailed) = ⊥
Sees held (looks.Missing count) = IsPartial held × (0 < count) × (length held + count ≡ known_end held)

-- what comes next, with the bytes that were read of it and the source after them; it may be out of memory instead of any answer
abbrev pub Comes : {S : Type 0} → (S → Option (List ℕ)) → (S → Bool) → Result Inflow AllocError → List ℕ → S → Type 0
Comes remaining has_failed (Ok (inflows.Frame message)) held source = IsWire held message
Comes remaining has_failed (Ok (inflows.Closed inside)) held source = IsAtEnd (remaining source) × IsPartial held × (IsTrue inside ↔ (0 < length held))
Comes remaining has_failed (Ok inflows.ReadFailed) held source = IsTrue (has_failed source) × IsPartial held
Comes remaining has_failed (Ok (inflows.Bad fault)) held source = TellsFault fault held
Comes remaining has_failed (Err error) held source = Unit {0}

-- what a call answers of a stream that no fault has ended
abbrev pub Goes : {S : Type 0} → (S → Option (List ℕ)) → (S → Bool) → Receiver S → Result Inflow AllocError → Receiver S → Type 0
Goes remaining has_failed old (Ok (inflows.Frame message)) new =
    (bytes : List ℕ) × (IsWire bytes message × Consumes (left remaining old) (remaining new.source) bytes × (new.held ≡ []) × (new.fault ≡ None))
Goes remaining has_failed old (Ok (inflows.Closed inside)) new =
    Keeps (left remaining old) (left remaining new) × IsAtEnd (remaining new.source) × IsPartial new.held × (IsTrue inside ↔ (0 < length new.held)) × (new.fault ≡ None)
Goes remaining has_failed old (Ok inflows.ReadFailed) new = Keeps (left remaining old) (left remaining new) × IsTrue (has_failed new.source) × IsPartial new.held × (new.fault ≡ None)
Goes remaining has_failed old (Ok (inflows.Bad fault)) new = Keeps (left remaining old) (left remaining new) × TellsFault fault new.held × (new.fault ≡ Some fault)
Goes remaining has_failed old (Err error) new = Keeps (left remaining old) (left remaining new) × (new.fault ≡ None)

-- What the next call answers, and what it leaves. After the fault that ended the stream each call answers it.
-- A frame takes exactly its bytes off the stream; nothing else takes any.
abbrev pub Receives : {S : Type 0} → (S → Option (List ℕ)) → (S → Bool) → Receiver S → Result Inflow AllocError → Receiver S → Type 0
Receives remaining has_failed old result new =
    MatchOption old.fault (Goes remaining has_failed old result new) (λ fault. (result ≡ Ok (inflows.Bad fault)) × (new ≡ old))

-- Calls, one after the other, answer this and leave that: each receives from what the one before it left.
unfoldable pub Answers : {S : Type 0} → (S → Option (List ℕ)) → (S → Bool) → Receiver S → List (Result Inflow AllocError) → Receiver S → Type 0
Answers {S} remaining has_failed old [] new = new ≡ old
Answers {S} remaining has_failed old (result ∷ results) new =
    (between : Receiver S) × (Receives remaining has_failed old result between × Answers remaining has_failed between results new)

-- what the frames among the answers say, in their order
abbrev pub frames_in : List (Result Inflow AllocError) → List Message
frames_in [] = []
frames_in (Ok (inflows.Frame message) ∷ results) = message ∷ frames_in results
frames_in (Ok (inflows.Closed inside) ∷ results) = frames_in results
frames_in (Ok inflows.ReadFailed ∷ results) = frames_in results
frames_in (Ok (inflows.Bad fault) ∷ results) = frames_in results
frames_in (Err error ∷ results) = frames_in results
