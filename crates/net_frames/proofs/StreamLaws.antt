-- Streams of frames: one frame more, one reading, and any cut.
use Rattle.std.proofs.Common.{◌≡◌, ℕ, ◌+◌, ◌<◌, ◌≤◌, List, [], ◌∷◌, ◌++◌, length, take, drop, Option, Some, None, Result, Ok, Err, refl, sym, ap, subst, ◌∙◌, append_assoc, arith, inl, inr}
use Rattle.std.proofs.lemmas.List.{append-nil, take-append-drop, get_or-append-add, length-append, length-take, length-drop, drop-drop, drop-append-le, take-append-le}
use Rattle.std.specs.List.{flat_map}
use Rattle.byteorder.specs.Numbers.{big_from-append}
use Rattle.net_message.specs.declared.fault.WireFault.{WireFault}
use Rattle.net_message.specs.declared.fault.WireFault.TheVariants as faults
use Rattle.net_message.specs.declared.fault.WireError.{WireError}
use Rattle.net_message.specs.declared.fault.WireError.TheVariants as errors
use Rattle.net_frames.specs.declared.reader.Next.TheVariants as nexts
use Rattle.net_message.specs.declared.message.Message.{Message}
use Rattle.net_message.specs.Wire.{number_bytes, body, frame, IsWire}
use Rattle.net_message.proofs.Lengths.{length-number_bytes}
use Rattle.net_frames.proofs.FieldLaws.{IsBytes, ok_not_err}
use Rattle.net_frames.proofs.FrontLaws.{front_at, partial_front, breaks_front, wire_front}
use Rattle.net_frames.specs.Stream.{told_length, IsBodyLength, HasBody, first_body, BreaksIn, Reads, IsPartial, Breaks, Held, Rest, Stopped, Stream, IsNext, IsSplit, Feeds, Refuses}

-- what is read of the rest is read of all, after the frames so far
abbrev pub GoesOn : List ℕ → List Message → ℕ → Type 0
GoesOn bytes messages taken = (more : List Message) (end : Held) → Stream (drop taken bytes) more end → Stream bytes (messages ++ more) end

pub goes_on_at_start : (bytes : List ℕ) → GoesOn bytes [] 0
goes_on_at_start bytes more end stream = stream

pub one_frame_more : (bytes all : List ℕ) (messages : List Message) (taken len : ℕ) (message : Message) → all ≡ drop taken bytes → IsWire (take len all) message → GoesOn bytes messages taken → GoesOn bytes (messages ++ message ∷ []) (taken + len)
unfolding Stream
one_frame_more bytes all messages taken len message is wire' so_far more end stream =
    let wire = subst (λ x. IsWire (take len x) message) is wire' in
    let rest : drop (taken + len) bytes ≡ drop len (drop taken bytes) = sym (drop-drop len taken bytes) in
    let next : Stream (drop taken bytes) (message ∷ more) end =
    (take len (drop taken bytes), drop len (drop taken bytes), (wire, sym (take-append-drop len (drop taken bytes)), subst (λ x. Stream x more end) rest stream)) in
    subst (λ ms. Stream bytes ms end) (sym (append_assoc messages (message ∷ []) more)) (so_far (message ∷ more) end next)

-- the split at which no frame follows
pub is_split : (bytes rest : List ℕ) (messages : List Message) (taken : ℕ) (fault : Option WireFault) → rest ≡ drop taken bytes → IsNext rest (nexts.End fault) → taken ≤ length bytes → GoesOn bytes messages taken → IsSplit bytes messages taken fault
unfolding Stream
is_split bytes rest messages taken None is next within so_far =
    let partial = subst IsPartial is next in
    (within, subst (λ ms. Stream bytes ms (Rest (drop taken bytes))) (append-nil messages) (so_far [] (Rest (drop taken bytes)) (partial, refl)))
is_split bytes rest messages taken (Some fault) is next within so_far =
    let breaks = subst (Breaks fault) is next in
    (within, subst (λ ms. Stream bytes ms (Stopped fault)) (append-nil messages) (so_far [] (Stopped fault) breaks))

-- a frame takes some bytes
pub wire_len : (bytes : List ℕ) (len : ℕ) (message : Message) → IsWire (take len bytes) message → 0 < len
wire_len bytes len message wire =
    omega (arith, ap length wire.spelled, length-take len bytes, length-append (number_bytes 4 (length (body message))) (body message), length-number_bytes 4 (length (body message)))

-- ---- the laws

abbrev seen : Option (Message × List ℕ) → Result (Option (Message × List ℕ)) WireFault
seen front = Ok front

abbrev stopped : WireFault → Result (Option (Message × List ℕ)) WireFault
stopped fault = Err fault

some_is : (x y : Message × List ℕ) → seen (Some x) ≡ seen (Some y) → x ≡ y
some_is x y e = cc

none_not_some : (x : Message × List ℕ) → seen None ≡ seen (Some x) → ⊥
none_not_some x e = absurd cc

err_is : (f g : WireFault) → stopped f ≡ stopped g → f ≡ g
err_is f g e = cc

IsBytes-back : (xs ys : List ℕ) → IsBytes (xs ++ ys) → IsBytes ys
IsBytes-back xs ys h i = rw (← get_or-append-add xs ys i 0) (h (length xs + i))

-- the bytes of a frame, whose front it is
pub two_readings : (first second x y : List ℕ) (m n : Message) → IsWire first m → IsWire second n → first ++ x ≡ second ++ y → (m ≡ n) × (first ≡ second) × (x ≡ y)
two_readings first second x y m n wire other same =
    let e = some_is (m, x) (n, y) (sym (wire_front first x m wire) ∙ ap front_at same ∙ wire_front second y n other) in
    let is : m ≡ n = ap (λ (p : Message × List ℕ). p.0) e in
    (is, wire.spelled ∙ ap (λ (k : Message). frame k) is ∙ sym other.spelled, ap (λ (p : Message × List ℕ). p.1) e)

pub nothing_begins : IsPartial []
nothing_begins = inl (omega arith)

pub alone : (bytes : List ℕ) (m : Message) → IsWire bytes m → Stream bytes (m ∷ []) (Rest [])
unfolding Stream
alone bytes m wire = (bytes, [], (wire, sym (append-nil bytes), (nothing_begins, refl)))

pub then_rest : (first rest : List ℕ) (m : Message) (ms : List Message) (end : Held) → IsWire first m → Stream rest ms end → Stream (first ++ rest) (m ∷ ms) end
unfolding Stream
then_rest first rest m ms end wire stream = (first, rest, (wire, refl, stream))

pub rest_of : (first rest : List ℕ) (m : Message) (ms : List Message) (end : Held) → IsWire first m → Stream (first ++ rest) (m ∷ ms) end → Stream rest ms end
unfolding Stream
rest_of first rest m ms end wire stream =
    let two = two_readings first stream.0 rest stream.1 m m wire stream.2.0 stream.2.1 in
    subst (λ x. Stream x ms end) (sym two.2) stream.2.2

pub one_reading : (bytes : List ℕ) (ms ns : List Message) (end other : Held) → IsBytes bytes → Stream bytes ms end → Stream bytes ns other → (ms ≡ ns) × (end ≡ other)
unfolding Stream
one_reading bytes [] [] (Rest x) (Rest y) h s t = (refl, ap (λ (z : List ℕ). Rest z) (s.1 ∙ sym t.1))
one_reading bytes [] [] (Rest x) (Stopped f) h s t = absurd (ok_not_err None f (sym (partial_front bytes s.0) ∙ breaks_front bytes f h t))
one_reading bytes [] [] (Stopped f) (Rest x) h s t = absurd (ok_not_err None f (sym (partial_front bytes t.0) ∙ breaks_front bytes f h s))
one_reading bytes [] [] (Stopped f) (Stopped g) h s t = (refl, ap (λ d. Stopped d) (err_is f g (sym (breaks_front bytes f h s) ∙ breaks_front bytes g h t)))
one_reading bytes [] (n ∷ ns) (Rest x) other h s t = absurd (none_not_some (n, t.1) (sym (partial_front bytes s.0) ∙ ap front_at t.2.1 ∙ wire_front t.0 t.1 n t.2.0))
one_reading bytes [] (n ∷ ns) (Stopped f) other h s t = absurd (ok_not_err (Some (n, t.1)) f (sym (ap front_at t.2.1 ∙ wire_front t.0 t.1 n t.2.0) ∙ breaks_front bytes f h s))
one_reading bytes (m ∷ ms) [] end (Rest x) h s t = absurd (none_not_some (m, s.1) (sym (partial_front bytes t.0) ∙ ap front_at s.2.1 ∙ wire_front s.0 s.1 m s.2.0))
one_reading bytes (m ∷ ms) [] end (Stopped f) h s t = absurd (ok_not_err (Some (m, s.1)) f (sym (ap front_at s.2.1 ∙ wire_front s.0 s.1 m s.2.0) ∙ breaks_front bytes f h t))
one_reading bytes (m ∷ ms) (n ∷ ns) end other h s t =
    let two = two_readings s.0 t.0 s.1 t.1 m n s.2.0 t.2.0 (sym s.2.1 ∙ t.2.1) in
    let rest : IsBytes s.1 = IsBytes-back s.0 s.1 (subst IsBytes s.2.1 h) in
    let later = one_reading s.1 ms ns end other rest s.2.2 (subst (λ x. Stream x ns other) (sym two.2) t.2.2) in
    (ap (λ (k : Message). k ∷ ms) two.0 ∙ ap (λ (ks : List Message). n ∷ ks) later.0, later.1)

-- what follows a rest is read after it
pub goes_on : (bytes rest more : List ℕ) (ms ns : List Message) (end : Held) → Stream bytes ms (Rest rest) → Stream (rest ++ more) ns end → Stream (bytes ++ more) (ms ++ ns) end
unfolding Stream
goes_on bytes rest more [] ns end s t = subst (λ x. Stream (x ++ more) ns end) s.1 t
goes_on bytes rest more (m ∷ ms) ns end s t =
    (s.0, s.1 ++ more, (s.2.0, ap (λ (x : List ℕ). x ++ more) s.2.1 ∙ append_assoc s.0 s.1 more, goes_on s.1 rest more ms ns end s.2.2 t))

-- ---- pieces

pub told_stays : (bytes more : List ℕ) → 4 ≤ length bytes → told_length (bytes ++ more) ≡ told_length bytes
unfolding told_length
told_stays bytes more long = big_from-append 4 bytes more long

body_stays : (bytes more : List ℕ) → HasBody bytes → HasBody (bytes ++ more) × (first_body (bytes ++ more) ≡ first_body bytes)
unfolding first_body
body_stays bytes more has =
    let told = told_stays bytes more (omega (arith, has.1)) in
    let cut : drop 4 (bytes ++ more) ≡ drop 4 bytes ++ more = drop-append-le 4 bytes more (omega (arith, has.1)) in (
      ((omega (arith, told, has.0.0), omega (arith, told, has.0.1)), omega (arith, told, has.1, length-append bytes more)),
      ap (λ (k : ℕ). take k (drop 4 (bytes ++ more))) told ∙ ap (take (told_length bytes)) cut ∙ take-append-le (told_length bytes) (drop 4 bytes) more (omega (arith, has.1, length-drop 4 bytes)),
    )

breaks_stays : (bytes more : List ℕ) (fault : WireFault) → Breaks fault bytes → Breaks fault (bytes ++ more)
unfolding Breaks
breaks_stays bytes more faults.Length b = (omega (arith, b.0, length-append bytes more), λ fits. b.1 (subst IsBodyLength (told_stays bytes more b.0) fits))
breaks_stays bytes more faults.Kind b = let stays = body_stays bytes more b.0 in (stays.0, subst (BreaksIn faults.Kind) (sym stays.1) b.1)
breaks_stays bytes more faults.Body b = let stays = body_stays bytes more b.0 in (stays.0, subst (BreaksIn faults.Body) (sym stays.1) b.1)
breaks_stays bytes more faults.Trailing b = let stays = body_stays bytes more b.0 in (stays.0, subst (BreaksIn faults.Trailing) (sym stays.1) b.1)

-- a fault is one whatever follows
stays_stopped : (bytes more : List ℕ) (ms : List Message) (fault : WireFault) → Stream bytes ms (Stopped fault) → Stream (bytes ++ more) ms (Stopped fault)
unfolding Stream
stays_stopped bytes more [] fault s = breaks_stays bytes more fault s
stays_stopped bytes more (m ∷ ms) fault s = (s.0, s.1 ++ more, (s.2.0, ap (λ (x : List ℕ). x ++ more) s.2.1 ∙ append_assoc s.0 s.1 more, stays_stopped s.1 more ms fault s.2.2))

rest_is_partial : (bytes : List ℕ) (ms : List Message) (rest : List ℕ) → Stream bytes ms (Rest rest) → IsPartial rest
unfolding Stream
rest_is_partial bytes [] rest s = subst IsPartial (sym s.1) s.0
rest_is_partial bytes (m ∷ ms) rest s = rest_is_partial s.1 ms rest s.2.2

reads_none : (fault : WireFault) (pieces : List (List ℕ)) (ms : List Message) (end : Held) → Reads (Stopped fault) pieces ms end → (ms ≡ []) × (end ≡ Stopped fault)
unfolding Reads
reads_none fault [] ms end reads = reads
reads_none fault (piece ∷ pieces) ms end reads = reads_none fault pieces ms end reads

abbrev joined : List (List ℕ) → List ℕ
joined pieces = flat_map (λ piece. piece) pieces

-- what a piece left, and the pieces after it
reads_on : (bytes : List ℕ) (pieces : List (List ℕ)) (first others : List Message) (middle end : Held) → Stream bytes first middle
    → ((rest : List ℕ) → IsPartial rest → Reads (Rest rest) pieces others end → Stream (rest ++ joined pieces) others end) → Reads middle pieces others end → Stream (bytes ++ joined pieces) (first ++ others) end
reads_on bytes pieces first others (Rest rest) end s later reads = goes_on bytes rest (joined pieces) first others end s (later rest (rest_is_partial bytes first rest s) reads)
reads_on bytes pieces first others (Stopped fault) end s later reads =
    let none = reads_none fault pieces others end reads in
    subst (λ x. Stream (bytes ++ joined pieces) (first ++ x) end) (sym none.0) (subst (λ x. Stream (bytes ++ joined pieces) (first ++ []) x) (sym none.1)
    (subst (λ x. Stream (bytes ++ joined pieces) x (Stopped fault)) (sym (append-nil first)) (stays_stopped bytes (joined pieces) first fault s)))

pub reads_whole : (rest : List ℕ) (pieces : List (List ℕ)) (ms : List Message) (end : Held) → IsPartial rest → Reads (Rest rest) pieces ms end → Stream (rest ++ joined pieces) ms end
unfolding Reads Stream
reads_whole rest [] ms end partial reads =
    let none : Stream (rest ++ []) [] (Rest rest) = (subst IsPartial (sym (append-nil rest)) partial, sym (append-nil rest)) in
    subst (λ x. Stream (rest ++ []) x end) (sym reads.0) (subst (λ x. Stream (rest ++ []) [] x) (sym reads.1) none)
reads_whole rest (piece ∷ pieces) ms end partial reads =
    subst (λ x. Stream (rest ++ (piece ++ joined pieces)) x end) (sym reads.3.2)
    (subst (λ x. Stream x (reads.0 ++ reads.1) end) (append_assoc rest piece (joined pieces)) (reads_on (rest ++ piece) pieces reads.0 reads.1 reads.2 end reads.3.0 (λ r p. reads_whole r pieces reads.1 end p) reads.3.1))

-- ---- feeding a new reader

-- a frame's bytes are read as that frame
pub fed_back : (bytes : List ℕ) (m : Message) (ms : List Message) (end : Held) → IsBytes bytes → IsWire bytes m → Feeds (Rest []) bytes ms end → (ms ≡ m ∷ []) × (end ≡ Rest [])
fed_back bytes m ms end h wire fed = one_reading bytes ms (m ∷ []) end (Rest []) h fed.0 (alone bytes m wire)

-- and as no fault
pub not_refused : (bytes : List ℕ) (m : Message) (error : WireError) (end : Held) → IsBytes bytes → IsWire bytes m → Refuses (Rest []) bytes error end → error ≡ errors.Memory
not_refused bytes m errors.Memory end h wire refused = refl
not_refused bytes m (errors.Fault fault) end h wire refused =
    let same = one_reading bytes [] (m ∷ []) (Stopped fault) (Rest []) h refused.0 (alone bytes m wire) in
    absurd (let none : [] ≡ m ∷ [] = same.0 in cc)

-- one frame alone is its bytes
pub fed_one : (bytes : List ℕ) (m : Message) → Feeds (Rest []) bytes (m ∷ []) (Rest []) → IsWire bytes m
unfolding Stream
fed_one bytes m fed =
    let s = fed.0 in
    let nothing : s.1 ≡ [] = sym s.2.2.1 in
    subst (λ x. IsWire x m) (sym (s.2.1 ∙ ap (λ (x : List ℕ). s.0 ++ x) nothing ∙ append-nil s.0)) s.2.0

partial_short : (bytes : List ℕ) → IsPartial bytes → length bytes < 65540
partial_short bytes partial = elim partial [ inl few ↦ omega (arith, few) | inr begun ↦ omega (arith, begun.0.1, begun.1) ]

pub held_short : (bytes rest : List ℕ) (ms : List Message) → Stream bytes ms (Rest rest) → length rest < 65540
held_short bytes rest ms stream = partial_short rest (rest_is_partial bytes ms rest stream)
