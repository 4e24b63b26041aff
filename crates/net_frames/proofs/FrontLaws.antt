-- The front of a stream: what is read of it, and that it has one reading.
use Rattle.std.proofs.Common.{◌≡◌, ℕ, ◌+◌, ◌-◌, ◌<◌, ◌≤◌, false, cond, ltb, List, [], ◌∷◌, ◌++◌, length, take, drop, Option, Some, None, Result, Ok, Err, refl, sym, ap, subst, ◌∙◌, append_assoc, arith, inl, inr, ◌⊎◌}
use Rattle.std.specs.Prelude.{nat_le}
use Rattle.std.proofs.lemmas.Bool.{cases_lt, lt-ltb, le-ltb, lt-leb, and_left, and_right}
use Rattle.std.proofs.lemmas.List.{take_at, drop_at, take-take, take-append-drop, length-append, length-take-le, length-drop, drop-drop, drop-take}
use Rattle.byteorder.specs.Endian.{big_bytes}
use Rattle.byteorder.specs.Numbers.{big_number-reads_back, big_from-take}
use Rattle.net_message.specs.declared.fault.WireFault.{WireFault}
use Rattle.net_message.specs.declared.fault.WireFault.TheVariants as faults
use Rattle.net_message.specs.declared.fault.WireError.{WireError}
use Rattle.net_message.specs.declared.fault.WireError.TheVariants as errors
use Rattle.net_message.specs.declared.message.Message.{Message}
use Rattle.net_message.specs.Wire.{number_bytes, body, IsInRange, IsWire, is_within}
use Rattle.net_frames.specs.Reading.{◌>>=◌, Fails, message_at, whole_at}
use Rattle.net_frames.specs.Stream.{told_length, IsBodyLength, IsPartial, HasBody, first_body, BreaksIn, Breaks, ReadsBody, ReadsFront, known_end}
use Rattle.net_message.proofs.Lengths.{length-number_bytes}
use Rattle.net_frames.proofs.FieldLaws.{IsBytes, IsBytes-drop, IsBytes-take, width4}
use Rattle.net_message.proofs.Names.{true_within}
use Rattle.net_frames.proofs.MessageLaws.{message_again}
use Rattle.net_frames.proofs.BodyLaws.{whole_again, whole_breaks, breaks_whole}

-- ---- what the reader of the front answers

pub body_fails : (bytes : List ℕ) (e : WireError) → IsBytes bytes → Fails e (whole_at bytes) → ReadsBody bytes (Err e)
body_fails bytes errors.Memory h fails = tt
body_fails bytes (errors.Fault fault) h fails = whole_breaks bytes fault h fails

pub length_breaks : (bytes : List ℕ) (n : ℕ) → n ≡ told_length bytes → 4 ≤ length bytes → (n < 1) ⊎ (65536 < n) → Breaks faults.Length bytes
unfolding Breaks
length_breaks bytes n told long out = (long, λ fits. elim out [ inl low ↦ omega (arith, fits.0) | inr high ↦ omega (arith, fits.1) ])

pub is_missing : (bytes : List ℕ) (n : ℕ) → n ≡ told_length bytes → 4 ≤ length bytes → 1 ≤ n → n ≤ 65536 → length bytes < 4 + n
    → IsPartial bytes × (0 < (4 + n) - length bytes) × (length bytes + ((4 + n) - length bytes) ≡ known_end bytes)
is_missing bytes n told long low high short =
    let at_end : known_end bytes ≡ 4 + told_length bytes = rw (le-ltb (length bytes) 4 long) refl in
    (inr ((omega arith, omega arith), omega arith), omega arith, omega arith)

pub front_fails : (bytes first : List ℕ) (n : ℕ) (e : WireError) → first ≡ take n (drop 4 bytes) → n ≡ told_length bytes → 1 ≤ n → n ≤ 65536 → 4 + n ≤ length bytes → ReadsBody first (Err e) → ReadsFront bytes (Err e)
unfolding Breaks BreaksIn first_body
front_fails bytes first n errors.Memory cut told low high long reads = tt
front_fails bytes first n (errors.Fault faults.Length) cut told low high long reads = absurd reads
front_fails bytes first n (errors.Fault faults.Kind) cut told low high long reads =
    (((omega arith, omega arith), omega arith), subst (λ x. BreaksIn faults.Kind x) (cut ∙ ap (λ (k : ℕ). take k (drop 4 bytes)) told) reads)
front_fails bytes first n (errors.Fault faults.Body) cut told low high long reads =
    (((omega arith, omega arith), omega arith), subst (λ x. BreaksIn faults.Body x) (cut ∙ ap (λ (k : ℕ). take k (drop 4 bytes)) told) reads)
front_fails bytes first n (errors.Fault faults.Trailing) cut told low high long reads =
    (((omega arith, omega arith), omega arith), subst (λ x. BreaksIn faults.Trailing x) (cut ∙ ap (λ (k : ℕ). take k (drop 4 bytes)) told) reads)

-- the first four bytes are the length that they tell
told_bytes : (bytes : List ℕ) → IsBytes bytes → 4 ≤ length bytes → number_bytes 4 (told_length bytes) ≡ take 4 bytes
unfolding number_bytes told_length
told_bytes bytes h long =
    ap (big_bytes 4) (sym (big_from-take 0 4 4 bytes (omega arith))) ∙ width4.back (take 4 bytes) (length-take-le 4 bytes long) (IsBytes-take 4 bytes h)

pub is_whole : (bytes first : List ℕ) (n : ℕ) (message : Message) → IsBytes bytes → first ≡ take n (drop 4 bytes) → n ≡ told_length bytes → 1 ≤ n → n ≤ 65536 → 4 + n ≤ length bytes → ReadsBody first (Ok message)
    → (4 + n ≤ length bytes) × IsWire (take (4 + n) bytes) message × (4 + n ≡ known_end bytes)
is_whole bytes first n message h cut told low high long reads =
    let is : take n (drop 4 bytes) ≡ body message = sym cut ∙ reads.0 in
    let len : length (body message) ≡ n = ap length (sym is) ∙ length-take-le n (drop 4 bytes) (omega (arith, length-drop 4 bytes)) in
    let head : number_bytes 4 (length (body message)) ≡ take 4 bytes = ap (number_bytes 4) (len ∙ told) ∙ told_bytes bytes h (omega arith) in
    let parts : take 4 (take (4 + n) bytes) ++ drop 4 (take (4 + n) bytes) ≡ take (4 + n) bytes = take-append-drop 4 (take (4 + n) bytes) in
    let front : take 4 (take (4 + n) bytes) ≡ take 4 bytes = take-take 4 (4 + n) bytes (omega arith) in
    let back : drop 4 (take (4 + n) bytes) ≡ take n (drop 4 bytes) = drop-take 4 n bytes in
    let at_end : known_end bytes ≡ 4 + told_length bytes = rw (le-ltb (length bytes) 4 (omega arith)) refl in (
      long,
      record {
        in_range = reads.1;
        short = omega arith;
        spelled = sym parts ∙ ap (λ (x : List ℕ). x ++ drop 4 (take (4 + n) bytes)) (front ∙ sym head) ∙ ap (λ (x : List ℕ). number_bytes 4 (length (body message)) ++ x) (back ∙ is);
      },
      omega arith,
    )

-- ---- one reading

-- the frame at the front, if it is whole, and what follows it
pub front_at : List ℕ → Result (Option (Message × List ℕ)) WireFault
front_at bytes =
    cond (ltb (length bytes) 4) (Ok None)
    (cond (is_within 1 65536 (told_length bytes))
    (cond (ltb (length bytes) (4 + told_length bytes)) (Ok None) (whole_at (first_body bytes) >>= λ message. Ok (Some (message, drop (4 + told_length bytes) bytes)))) (Err faults.Length))

pub partial_front : (bytes : List ℕ) → IsPartial bytes → front_at bytes ≡ Ok None
unfolding front_at
partial_front bytes (inl short) = rw (lt-ltb (length bytes) 4 short) refl
partial_front bytes (inr begun) =
    elim (cases_lt (length bytes) 4) [
      | inl short ↦ rw (lt-ltb (length bytes) 4 short) refl
      | inr long ↦ rw (le-ltb (length bytes) 4 long, true_within 1 65536 (told_length bytes) begun.0.0 begun.0.1, lt-ltb (length bytes) (4 + told_length bytes) begun.1) refl
    ]

-- the front whose body is there
whole_front : (bytes : List ℕ) → HasBody bytes → front_at bytes ≡ (whole_at (first_body bytes) >>= λ message. Ok (Some (message, drop (4 + told_length bytes) bytes)))
unfolding front_at
whole_front bytes has =
    rw (le-ltb (length bytes) 4 (omega (arith, has.1)), true_within 1 65536 (told_length bytes) has.0.0 has.0.1, le-ltb (length bytes) (4 + told_length bytes) has.1) refl

first_is_bytes : (bytes : List ℕ) → IsBytes bytes → IsBytes (first_body bytes)
unfolding first_body
first_is_bytes bytes h = IsBytes-take (told_length bytes) (drop 4 bytes) (IsBytes-drop 4 bytes h)

body_breaks_front : (bytes : List ℕ) (fault : WireFault) → IsBytes bytes → HasBody bytes → BreaksIn fault (first_body bytes) → front_at bytes ≡ Err fault
body_breaks_front bytes fault h has b = whole_front bytes has ∙ rw (breaks_whole (first_body bytes) fault (first_is_bytes bytes h) b) refl

out_of_bounds : (n : ℕ) → ¬ (IsBodyLength n) → is_within 1 65536 n ≡ false
out_of_bounds n out =
    elim (cases_lt n 1) [
      | inl low ↦ and_left (nat_le 1 n) (nat_le n 65536) (lt-leb 1 n low)
      | inr some ↦ elim (cases_lt 65536 n) [
        | inl high ↦ and_right (nat_le 1 n) (nat_le n 65536) (lt-leb n 65536 high)
        | inr fits ↦ absurd (out (some, fits))
      ]
    ]

pub breaks_front : (bytes : List ℕ) (fault : WireFault) → IsBytes bytes → Breaks fault bytes → front_at bytes ≡ Err fault
unfolding Breaks front_at
breaks_front bytes faults.Length h b = rw (le-ltb (length bytes) 4 b.0, out_of_bounds (told_length bytes) b.1) refl
breaks_front bytes faults.Kind h b = body_breaks_front bytes faults.Kind h b.0 b.1
breaks_front bytes faults.Body h b = body_breaks_front bytes faults.Body h b.0 b.1
breaks_front bytes faults.Trailing h b = body_breaks_front bytes faults.Trailing h b.0 b.1

told_back : (n : ℕ) (rest : List ℕ) → n ≤ 65536 → told_length (number_bytes 4 n ++ rest) ≡ n
unfolding told_length number_bytes
told_back n rest short = big_number-reads_back 4 n rest (omega arith)

first_body_is : (bytes : List ℕ) → first_body bytes ≡ take (told_length bytes) (drop 4 bytes)
unfolding first_body
first_body_is bytes = refl

some_bytes : (bytes : List ℕ) (x : Message × List ℕ) → message_at bytes ≡ Ok x → 1 ≤ length bytes
unfolding message_at
some_bytes [] x e = absurd cc
some_bytes (b ∷ bytes) x e = omega arith

-- a body has a byte at least
pub length-body_pos : (message : Message) → IsInRange message → 1 ≤ length (body message)
length-body_pos message fits = let some = some_bytes (body message ++ []) (message, []) (message_again message [] fits) in omega (arith, some, length-append (body message) [])

pub wire_front : (first rest : List ℕ) (message : Message) → IsWire first message → front_at (first ++ rest) ≡ Ok (Some (message, rest))
wire_front first rest message wire =
    let n = length (body message) in
    let head = number_bytes 4 n in
    let all = head ++ (body message ++ rest) in
    let same : first ++ rest ≡ all = ap (λ (x : List ℕ). x ++ rest) wire.spelled ∙ append_assoc head (body message) rest in
    let some : 1 ≤ n = length-body_pos message wire.in_range in
    let told : told_length all ≡ n = told_back n (body message ++ rest) wire.short in
    let cut : drop 4 all ≡ body message ++ rest = drop_at head (body message ++ rest) 4 (length-number_bytes 4 n) in
    let first_is : first_body all ≡ body message = first_body_is all ∙ ap (λ (k : ℕ). take k (drop 4 all)) told ∙ ap (take n) cut ∙ take_at (body message) rest n refl in
    let rest_is : drop (4 + told_length all) all ≡ rest = ap (λ (k : ℕ). drop (4 + k) all) told ∙ sym (drop-drop n 4 all) ∙ ap (drop n) cut ∙ drop_at (body message) rest n refl in
    let long : 4 + n ≤ length all = omega (arith, length-append head (body message ++ rest), length-append (body message) rest, length-number_bytes 4 n) in
    let has : HasBody all = ((omega (arith, told), omega (arith, told, wire.short)), omega (arith, told, long)) in
    ap front_at same ∙ whole_front all has ∙ rw (first_is, whole_again message wire.in_range, rest_is) refl
