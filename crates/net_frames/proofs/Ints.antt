-- Ints that stand one after the other, read at once.
use Rattle.std.proofs.Common.{◌≡◌, ℕ, zero, suc, ◌+◌, ◌*◌, ◌<◌, ◌≤◌, List, [], ◌∷◌, ◌++◌, length, get_or, drop, Ok, Err, refl, sym, ap, ◌∙◌, arith, inl, inr}
use Rattle.std.specs.Prelude.{ℤ}
use Rattle.std.specs.Int.{w32, cast_signed}
use Rattle.std.proofs.lemmas.Bool.{cases_lt, lt-ltb, le-ltb}
use Rattle.std.proofs.lemmas.List.{drop-append-le, drop-drop, length-append, length-drop}
use Rattle.byteorder.specs.Endian.{big_number, IsReadBy}
use Rattle.byteorder.specs.Numbers.{big_from-append}
use Rattle.net_message.specs.declared.fault.WireFault.TheVariants as faults
use Rattle.net_frames.specs.Reading.{items_at, number_at, int_at}

-- what four bytes say
abbrev pub int_in : List ℕ → ℤ
int_in bytes = cast_signed w32 (big_number 4 bytes)

few : (bytes : List ℕ) → length bytes < 4 → int_at bytes ≡ Err faults.Body
unfolding int_at number_at
few bytes short = rw (lt-ltb (length bytes) 4 short) refl

enough : (bytes : List ℕ) → 4 ≤ length bytes → int_at bytes ≡ Ok (int_in bytes, drop 4 bytes)
unfolding int_at number_at
enough bytes long = rw (le-ltb (length bytes) 4 long) refl

-- n ints do not stand in fewer bytes
pub too_few : (n : ℕ) (bytes : List ℕ) → length bytes < 4 * n → items_at int_at n bytes ≡ Err faults.Body
too_few zero bytes short = absurd (omega (arith, short))
too_few (suc n) bytes short =
    elim (cases_lt (length bytes) 4) [
      | inl lt ↦ rw (few bytes lt) refl
      | inr le ↦ rw (enough bytes le, too_few n (drop 4 bytes) (omega (arith, short, length-drop 4 bytes))) refl
    ]

-- ints that are read from the front, each from its four bytes, are what reading one by one gives
pub all_read : (ints : List ℤ) (front rest : List ℕ) → length front ≡ 4 * length ints → IsReadBy int_in 4 front ints → items_at int_at (length ints) (front ++ rest) ≡ Ok (ints, rest)
all_read [] [] rest len read = refl
all_read [] (byte ∷ front) rest len read = absurd (omega (arith, len))
all_read (n ∷ ns) front rest len read =
    let long : 4 ≤ length front = omega (arith, len) in
    let first : int_at (front ++ rest) ≡ Ok (n, drop 4 front ++ rest) =
    enough (front ++ rest) (omega (arith, long, length-append front rest))
    ∙ (λ i. Ok ((ap (λ x. cast_signed w32 x) (big_from-append 4 front rest long) ∙ sym (read n 0 (omega arith))) i, drop-append-le 4 front rest long i)) in
    let others : items_at int_at (length ns) (drop 4 front ++ rest) ≡ Ok (ns, rest) = all_read ns (drop 4 front) rest (omega (arith, len, length-drop 4 front)) (λ d k lt. after d k lt) in
    rw (first, others) refl
  where
    after : (d : ℤ) (k : ℕ) → k < length ns → get_or ns k d ≡ int_in (drop (4 * k) (drop 4 front))
    after d k lt =
        let next : 4 * suc k ≡ 4 + 4 * k = omega arith in
        read d (suc k) (omega (arith, lt)) ∙ ap (λ m. int_in (drop m front)) next ∙ ap (λ bytes. int_in bytes) (sym (drop-drop (4 * k) 4 front))
