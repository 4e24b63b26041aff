-- Bytes that move from a source into a buffer, and from a buffer into a sink.
use Rattle.std.proofs.Common.{◌≡◌, ℕ, ◌+◌, ◌<◌, ◌≤◌, List, ◌++◌, length, take, drop, Option, Some, None, refl, sym, ap, subst, ◌∙◌, append_assoc, arith, inl, inr}
use Rattle.std.specs.Io.KnownBytes.{Consumes, Keeps, prepend_known}
use Rattle.std.proofs.Math.Seq.{take-add}
use Rattle.std.proofs.lemmas.List.{take-append-le, take_at, drop_at, length-take, length-take-le, length-append}
use borrow.Rule.Slice.PartMut.{put_mid, post_of}
use Rattle.std.proofs.lemmas.Bool.{cases_lt, lt-ltb, le-ltb}
use Rattle.net_message.specs.declared.fault.WireFault.{WireFault}
use Rattle.net_message.specs.declared.fault.WireFault.TheVariants as faults
use Rattle.net_frames.specs.Stream.{told_length, IsPartial, IsBodyLength, HasBody, Breaks, known_end}
use Rattle.net_frames.proofs.StreamLaws.{told_stays}
use Rattle.net_engine.specs.Engine.{known, IsWithinFirst, fault_end}

-- the bytes of a buffer up to those that were read into a part of it
take_read : (old part : List ℕ) (a k count : ℕ) → a + k ≤ length old → length part ≡ k → count ≤ k → take (a + count) (put_mid a k old part) ≡ take a old ++ take count part
take_read old part a k count within len most =
    let new = put_mid a k old part in
    let front : take a old ++ (part ++ post_of a k old) ≡ new = refl in
    let len_front : length (take a old) ≡ a = length-take-le a old (omega arith) in
    take-add a count new ∙ ap (λ (x : List ℕ). x ++ take count (drop a new)) (take_at (take a old) (part ++ post_of a k old) a len_front)
    ∙ ap (λ (x : List ℕ). take a old ++ take count x) (drop_at (take a old) (part ++ post_of a k old) a len_front) ∙ ap (λ (x : List ℕ). take a old ++ x) (take-append-le count part (post_of a k old) (omega arith))

known_moves : (x y : Option (List ℕ)) (held bytes : List ℕ) → Consumes x y bytes → Keeps (prepend_known held x) (prepend_known (held ++ bytes) y)
known_moves None y held bytes consumes = tt
known_moves (Some xs) None held bytes consumes = absurd consumes
known_moves (Some xs) (Some ys) held bytes consumes = append_assoc held bytes ys ∙ ap (λ (z : List ℕ). held ++ z) (sym consumes)

-- what a source gave stands after what was held
pub moved : {S : Type 0} (remaining : S → Option (List ℕ)) (old part : List ℕ) (a k count : ℕ) (s t : S) → a + k ≤ length old → length part ≡ k → count ≤ k → Consumes (remaining s) (remaining t) (take count part)
    → Keeps (known remaining (take a old) s) (known remaining (take (a + count) (put_mid a k old part)) t)
moved remaining old part a k count s t within len most consumes =
    rw (take_read old part a k count within len most) (known_moves (remaining s) (remaining t) (take a old) (take count part) consumes)

-- the first frame ends within the room for one
pub end_fits : (held : List ℕ) → IsPartial held → known_end held ≤ 65540
end_fits held (inl short) = rw (lt-ltb (length held) 4 short) (omega arith)
end_fits held (inr begun) =
    elim (cases_lt (length held) 4) [
      | inl short ↦ rw (lt-ltb (length held) 4 short) (omega arith)
      | inr long ↦ rw (le-ltb (length held) 4 long) (omega (arith, begun.0.1))
    ]

-- bytes that were missing do not go past the first frame
stays_within : (held more : List ℕ) → length (held ++ more) ≤ known_end held → length (held ++ more) ≤ known_end (held ++ more)
stays_within held more within =
    elim (cases_lt (length held) 4) [
      | inl short ↦
          let at_most : length (held ++ more) ≤ 4 = rw (lt-ltb (length held) 4 short) at within in
          elim (cases_lt (length (held ++ more)) 4) [
            | inl still ↦ rw (lt-ltb (length (held ++ more)) 4 still) (omega arith)
            | inr there ↦ rw (le-ltb (length (held ++ more)) 4 there) (omega arith)
          ]
      | inr long ↦
          let at_most : length (held ++ more) ≤ 4 + told_length held = rw (le-ltb (length held) 4 long) at within in
          let there : 4 ≤ length (held ++ more) = omega (arith, length-append held more) in
          rw (le-ltb (length (held ++ more)) 4 there, told_stays held more long) at_most
    ]

-- bytes are read after a length only if a body has it
stays_told : (held more : List ℕ) → IsPartial held → length (held ++ more) ≤ known_end held → 4 < length (held ++ more) → IsBodyLength (told_length (held ++ more))
stays_told held more partial within past =
    elim (cases_lt (length held) 4) [
      | inl short ↦ let at_most : length (held ++ more) ≤ 4 = rw (lt-ltb (length held) 4 short) at within in absurd (omega arith)
      | inr long ↦ elim partial [
        | inl short ↦ absurd (omega arith)
        | inr begun ↦ rw (told_stays held more long) begun.0
      ]
    ]

-- the same of a buffer whose front stayed
pub read_within : (old new : List ℕ) (filled count missing : ℕ) → IsPartial (take filled old) → take filled new ≡ take filled old → filled ≤ length old → count ≤ missing
    → length (take filled old) + missing ≡ known_end (take filled old) → IsWithinFirst (take (filled + count) new)
read_within old new filled count missing partial front fits most ends =
    let parts : take (filled + count) new ≡ take filled old ++ take count (drop filled new) = take-add filled count new ∙ ap (λ (x : List ℕ). x ++ take count (drop filled new)) front in
    let within : length (take filled old ++ take count (drop filled new)) ≤ known_end (take filled old) =
    omega (arith, length-append (take filled old) (take count (drop filled new)), length-take count (drop filled new), ends) in
    subst IsWithinFirst (sym parts) (stays_within (take filled old) (take count (drop filled new)) within, stays_told (take filled old) (take count (drop filled new)) partial within)

whole_at_once : (held : List ℕ) → IsWithinFirst held → HasBody held → length held ≡ 4 + told_length held
whole_at_once held within has =
    let ends : length held ≤ 4 + told_length held = rw (le-ltb (length held) 4 (omega (arith, has.1))) at within.0 in
    omega (arith, has.1)

-- a fault is answered as soon as it can be
pub at_once : (fault : WireFault) (held : List ℕ) → IsWithinFirst held → Breaks fault held → length held ≡ fault_end fault held
unfolding Breaks
at_once faults.Length held within b =
    elim (cases_lt 4 (length held)) [ inl past ↦ absurd (b.1 (within.1 past)) | inr short ↦ omega (arith, b.0) ]
at_once faults.Kind held within b = whole_at_once held within b.0
at_once faults.Body held within b = whole_at_once held within b.0
at_once faults.Trailing held within b = whole_at_once held within b.0
