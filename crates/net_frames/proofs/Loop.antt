-- Reading things of one kind one after the other, as a loop does.
use Rattle.std.proofs.Common.{◌≡◌, ℕ, suc, ◌-◌, ◌+◌, ◌≤◌, ◌<◌, List, [], ◌∷◌, ◌++◌, Result, Ok, Err, refl, sym, ap, ◌∙◌, append_assoc, arith}
use Rattle.std.proofs.lemmas.List.{append-nil}
use Rattle.net_message.specs.declared.fault.WireFault.{WireFault}
use Rattle.net_message.specs.declared.fault.WireError.{WireError}
use Rattle.net_message.specs.declared.fault.WireError.TheVariants as errors
use Rattle.net_frames.specs.Reading.{◌>>=◌, Fails, items_at}

-- what was read before, and what is still read
abbrev pub with_front : {A : Type 0} → List A → Result (List A × List ℕ) WireFault → Result (List A × List ℕ) WireFault
with_front front read = read >>= λ x. Ok (front ++ x.0, x.1)

module _ {A : Type 0} (read : List ℕ → Result (A × List ℕ) WireFault) where
  regroup : (front : List A) (item : A) (rest : Result (List A × List ℕ) WireFault) → with_front front (rest >>= λ x. Ok (item ∷ x.0, x.1)) ≡ with_front (front ++ item ∷ []) rest
  regroup front item (Ok x) = ap (λ (items : List A). Ok (items, x.1)) (simp append_assoc)
  regroup front item (Err f) = refl

  pub goes_on : (front : List A) (count i : ℕ) (bytes : List ℕ) (item : A) (after : List ℕ) (total : Result (List A × List ℕ) WireFault) → i < count → read bytes ≡ Ok (item, after)
      → with_front front (items_at read (count - i) bytes) ≡ total → with_front (front ++ item ∷ []) (items_at read (count - (i + 1)) after) ≡ total
  goes_on front count i bytes item after total lt h so_far =
      let k : count - i ≡ suc (count - (i + 1)) = omega arith in
      let one : with_front front (items_at read (count - i) bytes) ≡ with_front (front ++ item ∷ []) (items_at read (count - (i + 1)) after) = rw (k, h) (regroup front item (items_at read (count - (i + 1)) after)) in
      sym one ∙ so_far

  pub ends : (e : WireError) (front : List A) (count i : ℕ) (bytes : List ℕ) (total : Result (List A × List ℕ) WireFault) → i < count → Fails e (read bytes)
      → with_front front (items_at read (count - i) bytes) ≡ total → Fails e total
  ends errors.Memory front count i bytes total lt h so_far = tt
  ends (errors.Fault f) front count i bytes total lt h so_far =
      let k : count - i ≡ suc (count - (i + 1)) = omega arith in
      let one : with_front front (items_at read (count - i) bytes) ≡ Err f = rw (k, h) refl in
      sym so_far ∙ one

  pub is_done : (front : List A) (count i : ℕ) (bytes : List ℕ) (total : Result (List A × List ℕ) WireFault) → count ≤ i → with_front front (items_at read (count - i) bytes) ≡ total → total ≡ Ok (front, bytes)
  is_done front count i bytes total le so_far =
      let k : count - i ≡ 0 = omega arith in
      let one : with_front front (items_at read (count - i) bytes) ≡ Ok (front, bytes) = rw k (ap (λ (items : List A). Ok (items, bytes)) (append-nil front)) in
      sym so_far ∙ one
