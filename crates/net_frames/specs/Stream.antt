-- A stream of frames: what its bytes say, in whatever pieces they come. (This project's own.)
use Rattle.std.specs.Prelude.{◌≡◌, ◌≢◌, ℕ, ◌+◌, ◌<◌, ◌≤◌, ◌⊎◌, List, [], ◌∷◌, ◌++◌, length, take, drop, slice_index, Option, None, Some, Result, Ok, Err, nat_lt, if◌then◌else◌}
use Rattle.byteorder.specs.Endian.{big_number}
use Rattle.net_message.specs.declared.fault.WireFault.{WireFault}
use Rattle.net_message.specs.declared.fault.WireFault.TheVariants as faults
use Rattle.net_message.specs.declared.fault.WireError.{WireError}
use Rattle.net_message.specs.declared.fault.WireError.TheVariants as errors
use Rattle.net_frames.specs.declared.front.Front.{Front}
use Rattle.net_frames.specs.declared.front.Front.TheVariants as fronts
use Rattle.net_frames.specs.declared.reader.Next.{Next}
use Rattle.net_frames.specs.declared.reader.Next.TheVariants as nexts
use Rattle.net_message.specs.declared.message.Message.{Message}
use Rattle.net_message.specs.Wire.{body, IsInRange, IsWire}

-- ---- the front of a stream

-- the length of the first body, once four bytes are there
unfoldable pub told_length : List ℕ → ℕ
told_length bytes = big_number 4 bytes

-- a body may have this length
abbrev pub IsBodyLength : ℕ → Type 0
IsBodyLength n = (1 ≤ n) × (n ≤ 65536)

-- a frame may have begun, and is not whole
abbrev pub IsPartial : List ℕ → Type 0
IsPartial bytes = (length bytes < 4) ⊎ (IsBodyLength (told_length bytes) × (length bytes < 4 + told_length bytes))

-- the first body is there
abbrev pub HasBody : List ℕ → Type 0
HasBody bytes = IsBodyLength (told_length bytes) × (4 + told_length bytes ≤ length bytes)

-- the first body
unfoldable pub first_body : List ℕ → List ℕ
first_body bytes = take (told_length bytes) (drop 4 bytes)

-- the kinds are numbered from 1 to 11
abbrev pub IsKind : ℕ → Type 0
IsKind kind = (1 ≤ kind) × (kind ≤ 11)

-- a whole body breaks that rule, and no earlier one
unfoldable pub BreaksIn : WireFault → List ℕ → Type 0
BreaksIn faults.Length bytes = ⊥
BreaksIn faults.Kind bytes = ¬ (IsKind (slice_index bytes 0))
BreaksIn faults.Body bytes = IsKind (slice_index bytes 0) × ((message : Message) (more : List ℕ) → IsInRange message → bytes ≡ body message ++ more → ⊥)
BreaksIn faults.Trailing bytes = (message : Message) × (more : List ℕ) × (IsInRange message × (bytes ≡ body message ++ more) × (more ≢ []))

-- The first frame breaks that rule, and no earlier one. A length is known with its fourth byte, all else when the body is there.
unfoldable pub Breaks : WireFault → List ℕ → Type 0
Breaks faults.Length bytes = (4 ≤ length bytes) × ¬ (IsBodyLength (told_length bytes))
Breaks faults.Kind bytes = HasBody bytes × BreaksIn faults.Kind (first_body bytes)
Breaks faults.Body bytes = HasBody bytes × BreaksIn faults.Body (first_body bytes)
Breaks faults.Trailing bytes = HasBody bytes × BreaksIn faults.Trailing (first_body bytes)

-- what reading a whole body answers; it may be out of memory instead of any answer
abbrev pub ReadsBody : List ℕ → Result Message WireError → Type 0
ReadsBody bytes (Ok message) = (bytes ≡ body message) × IsInRange message
ReadsBody bytes (Err (errors.Fault fault)) = BreaksIn fault bytes
ReadsBody bytes (Err errors.Memory) = Unit {0}

-- the end of the first frame, as far as its first bytes tell it
abbrev pub known_end : List ℕ → ℕ
known_end bytes = if nat_lt (length bytes) 4 then 4 else (4 + told_length bytes)

-- what reading the front of some bytes answers
abbrev pub ReadsFront : List ℕ → Result Front WireError → Type 0
ReadsFront bytes (Ok (fronts.Whole message len)) = (len ≤ length bytes) × IsWire (take len bytes) message × (len ≡ known_end bytes)
ReadsFront bytes (Ok (fronts.Missing count)) = IsPartial bytes × (0 < count) × (length bytes + count ≡ known_end bytes)
ReadsFront bytes (Err (errors.Fault fault)) = Breaks fault bytes
ReadsFront bytes (Err errors.Memory) = Unit {0}

-- ---- the stream relation

-- what a reader holds of a stream: the bytes after the last frame, or the fault that ended the stream
pub data Held : Type 0 where
  Rest : List ℕ → Held
  Stopped : WireFault → Held

-- the bytes, if no fault ended the stream
abbrev pub held : List ℕ → Option WireFault → Held
held bytes None = Rest bytes
held bytes (Some fault) = Stopped fault

-- The bytes are the frames that say these messages, one after the other, and then a rest that begins
-- a frame, or a fault.
unfoldable pub Stream : List ℕ → List Message → Held → Type 0
Stream bytes [] (Rest rest) = IsPartial bytes × (rest ≡ bytes)
Stream bytes [] (Stopped fault) = Breaks fault bytes
Stream bytes (message ∷ messages) held =
    (first : List ℕ) × (rest : List ℕ) × (IsWire first message × (bytes ≡ first ++ rest) × Stream rest messages held)

-- what comes next in some bytes
abbrev pub IsNext : List ℕ → Next → Type 0
IsNext bytes (nexts.Frame message len) = (len ≤ length bytes) × IsWire (take len bytes) message
IsNext bytes (nexts.End None) = IsPartial bytes
IsNext bytes (nexts.End (Some fault)) = Breaks fault bytes

-- some bytes are the frames that say these messages, which take the first `taken` bytes, and what is held then
abbrev pub IsSplit : List ℕ → List Message → ℕ → Option WireFault → Type 0
IsSplit bytes messages taken fault = (taken ≤ length bytes) × Stream bytes messages (held (drop taken bytes) fault)

-- ---- feeding a piece

-- no frame came before a fault
abbrev pub StopsAtOnce : List Message → Held → Type 0
StopsAtOnce [] (Stopped fault) = Unit {0}
StopsAtOnce [] (Rest rest) = ⊥
StopsAtOnce (message ∷ messages) held = ⊥

-- there are no messages, and the error is the fault after them
abbrev pub Tells : List Message → Option WireFault → WireError → Type 0
Tells [] (Some fault) error = error ≡ errors.Fault fault
Tells [] None error = ⊥
Tells (message ∷ messages) fault error = ⊥

-- A piece after what is held gives these messages. A fault after them is held for the next call.
abbrev pub Feeds : Held → List ℕ → List Message → Held → Type 0
Feeds (Rest rest) piece messages new = Stream (rest ++ piece) messages new × (¬ (StopsAtOnce messages new))
Feeds (Stopped fault) piece messages new = ⊥

-- A piece after what is held gives this error. A fault stays for good. If memory runs out, the piece counts as not fed.
abbrev pub Refuses : Held → List ℕ → WireError → Held → Type 0
Refuses (Rest rest) piece (errors.Fault fault) new = Stream (rest ++ piece) [] (Stopped fault) × (new ≡ Stopped fault)
Refuses (Rest rest) piece errors.Memory new = new ≡ Rest rest
Refuses (Stopped fault) piece error new = (error ≡ errors.Fault fault) × (new ≡ Stopped fault)

-- ---- laws

-- each is a byte
abbrev pub AreBytes : List ℕ → Type 0
AreBytes bytes = (i : ℕ) → slice_index bytes i < 256

-- Pieces, one after the other, give these messages and leave that. A piece after a fault gives none.
unfoldable pub Reads : Held → List (List ℕ) → List Message → Held → Type 0
Reads start [] messages end = (messages ≡ []) × (end ≡ start)
Reads (Stopped fault) (piece ∷ pieces) messages end = Reads (Stopped fault) pieces messages end
Reads (Rest rest) (piece ∷ pieces) messages end =
    (first : List Message) × (others : List Message) × (middle : Held) × (Stream (rest ++ piece) first middle × Reads middle pieces others end × (messages ≡ first ++ others))
