use Rattle.std.proofs.Common.{◌≡◌, ℕ, ◌<◌, Bool, true, false, cond, ◌||◌, List, Option, None, Some, is_some, IsTrue, refl, sym, ap, ◌∙◌, leb-false, arith}
use Rattle.std.specs.Prelude.{unwrap_or, if◌then◌else◌, nat_le, ◌⊎◌}
use Rattle.std.proofs.Common.{inl, inr}
use Rattle.std.specs.Map.{lookup}
use Rattle.std.specs.Str.{bytes_eq}
use Rattle.std.proofs.lemmas.Bool.{false≢true}
use Rattle.std.proofs.lemmas.Bool.Decides.{nat_tests}
use Rattle.dgc_list.specs.declared.remembered.Remembered.{Remembered}
use Rattle.dgc_list.specs.Remembered.{blank, is_blank, after_dirty, after_clean, after_moment, is_late, is_gone}
use Rattle.dgc_list.specs.Clients.{remembered_in, is_known}

abbrev made : Option ℕ → Bool → Option ℕ → Remembered
made number strong expires = record { number = number; strong = strong; expires = expires }

not-below : (n : ℕ) → nat_le n n ≡ true
not-below n = grind (arith, nat_tests)

-- a dirty call that comes twice is one
pub dirty-twice : (n e : ℕ) (r : Remembered) → after_dirty n e (after_dirty n e r) ≡ after_dirty n e r
dirty-twice n e r = by r.number
  where
    by : (number : Option ℕ) → after_dirty n e (after_dirty n e (made number r.strong r.expires)) ≡ after_dirty n e (made number r.strong r.expires)
    by None = rw (not-below n) refl
    by (Some last) = elim (nat_le n last) as (λ t. nat_le n last ≡ t → after_dirty n e (cond t (made (Some last) r.strong r.expires) (made (Some n) r.strong (Some e))) ≡ cond t (made (Some last) r.strong r.expires) (made (Some n) r.strong (Some e)))
        [ true ↦ λ h. rw h refl | false ↦ λ h. rw (not-below n) refl ] refl

-- a dirty call leaves something to remember
pub dirty-some : (n e : ℕ) (r : Remembered) → is_blank (after_dirty n e r) ≡ false
dirty-some n e r = by r.number
  where
    by : (number : Option ℕ) → is_blank (after_dirty n e (made number r.strong r.expires)) ≡ false
    by None = refl
    by (Some last) = elim (nat_le n last) as (λ t. is_blank (cond t (made (Some last) r.strong r.expires) (made (Some n) r.strong (Some e))) ≡ false) [ true ↦ refl | false ↦ refl ]

-- a clean call that comes twice is one
pub clean-twice : (n : ℕ) (s : Bool) (r : Remembered) → after_clean n s (after_clean n s r) ≡ after_clean n s r
clean-twice n s r = by r.number s r.strong
  where
    by : (number : Option ℕ) (s t : Bool) → after_clean n s (after_clean n s (made number t r.expires)) ≡ after_clean n s (made number t r.expires)
    by None true t = rw (not-below n) refl
    by None false true = rw (not-below n) refl
    by None false false = refl
    by (Some last) s t = elim (nat_le n last) as (λ late. nat_le n last ≡ late
        → after_clean n s (cond late (made (Some last) t r.expires) (made (if s || t then Some n else None) (s || t) None)) ≡ cond late (made (Some last) t r.expires) (made (if s || t then Some n else None) (s || t) None))
        [ true ↦ λ h. rw h refl | false ↦ λ h. fresh s t ] refl
      where
        fresh : (s t : Bool) → after_clean n s (made (if s || t then Some n else None) (s || t) None) ≡ made (if s || t then Some n else None) (s || t) None
        fresh true t = rw (not-below n) refl
        fresh false true = rw (not-below n) refl
        fresh false false = refl

-- a strong clean call leaves something to remember
pub strong-some : (n : ℕ) (r : Remembered) → is_blank (after_clean n true r) ≡ false
strong-some n r = by r.number
  where
    by : (number : Option ℕ) → is_blank (after_clean n true (made number r.strong r.expires)) ≡ false
    by None = refl
    by (Some last) = elim (nat_le n last) as (λ t. is_blank (cond t (made (Some last) r.strong r.expires) (made (Some n) true None)) ≡ false) [ true ↦ refl | false ↦ refl ]

-- a clean call leaves an entry only if it is late
pub clean-keeps : (n : ℕ) (s : Bool) (r : Remembered) (at : ℕ) → (after_clean n s r).expires ≡ Some at → r.expires ≡ Some at
clean-keeps n s r at = elim (is_late r n) as (λ t. (cond t r (made (if s || r.strong then Some n else None) (s || r.strong) None)).expires ≡ Some at → r.expires ≡ Some at)
    [ true ↦ λ h. h | false ↦ λ h. cc ]

-- a dirty call leaves the entry that stood if it is late, else its own
pub dirty-keeps : (n e : ℕ) (r : Remembered) (at : ℕ) → (after_dirty n e r).expires ≡ Some at → (r.expires ≡ Some at) ⊎ (e ≡ at)
dirty-keeps n e r at = elim (is_late r n) as (λ t. (cond t r (made (Some n) r.strong (Some e))).expires ≡ Some at → (r.expires ≡ Some at) ⊎ (e ≡ at))
    [ true ↦ λ h. inl h | false ↦ λ h. inr (cc) ]

-- a moment that comes twice is one
pub moment-twice : (m : ℕ) (r : Remembered) → after_moment m (after_moment m r) ≡ after_moment m r
moment-twice m r = elim (is_gone m r.expires) as (λ t. is_gone m r.expires ≡ t → after_moment m (cond t (made (if r.strong then r.number else None) r.strong None) r) ≡ cond t (made (if r.strong then r.number else None) r.strong None) r)
    [ true ↦ λ h. refl | false ↦ λ h. rw h refl ] refl

-- an entry that a moment leaves stood before, and is not gone yet
pub moment-keeps : (m : ℕ) (r : Remembered) (at : ℕ) → (after_moment m r).expires ≡ Some at → (r.expires ≡ Some at) × (m < at)
moment-keeps m r at = by r.expires
  where
    by : (expires : Option ℕ) → (after_moment m (made r.number r.strong expires)).expires ≡ Some at → (expires ≡ Some at) × (m < at)
    by None = λ h. absurd (let e : ◌≡◌ {A = Option ℕ} None (Some at) = h in cc)
    by (Some x) = elim (nat_le x m) as (λ t. nat_le x m ≡ t → (cond t (made (if r.strong then r.number else None) r.strong None) (made r.number r.strong (Some x))).expires ≡ Some at → (◌≡◌ {A = Option ℕ} (Some x) (Some at)) × (m < at)) [
      | true ↦ λ _ h. absurd (let e : ◌≡◌ {A = Option ℕ} None (Some at) = h in cc)
      | false ↦ λ later h. (h, let same : x ≡ at = cc in omega (arith, leb-false x m later))
    ] refl

-- if all entries are later, a moment changes nothing
pub moment-none : (m : ℕ) (r : Remembered) → ((at : ℕ) → r.expires ≡ Some at → m < at) → after_moment m r ≡ r
moment-none m r later = by r.expires later
  where
    by : (expires : Option ℕ) → ((at : ℕ) → expires ≡ Some at → m < at) → after_moment m (made r.number r.strong expires) ≡ made r.number r.strong expires
    by None later = refl
    by (Some x) later = let no : nat_le x m ≡ false = let h = later x refl in grind (arith, nat_tests) in rw no refl

-- what is remembered is something, so the client is known
pub known-some : (es : List (List ℕ × Remembered)) (c : List ℕ) (r : Remembered) → remembered_in es c ≡ r → is_blank r ≡ false → IsTrue (is_known es c)
known-some es c r is some = by (lookup (bytes_eq c) es) refl is
  where
    by : (x : Option Remembered) → lookup (bytes_eq c) es ≡ x → unwrap_or x blank ≡ r → IsTrue (is_some x)
    by None _ h = absurd (false≢true (sym some ∙ ap is_blank (sym h)))
    by (Some v) _ h = refl

-- a client has room, or nothing is remembered of it after the call
pub can-clean : (es : List (List ℕ × Remembered)) (c : List ℕ) (n : ℕ) (s : Bool) → (IsTrue s → IsTrue (is_known es c))
    → IsTrue (is_known es c || is_blank (after_clean n s (remembered_in es c)))
can-clean es c n s known = by (lookup (bytes_eq c) es) s known
  where
    by : (x : Option Remembered) (s : Bool) → (IsTrue s → IsTrue (is_some x)) → IsTrue (is_some x || is_blank (after_clean n s (unwrap_or x blank)))
    by (Some v) s h = refl
    by None true h = absurd (false≢true (h refl))
    by None false h = refl

pub can-expire : (es : List (List ℕ × Remembered)) (c : List ℕ) (m : ℕ) → IsTrue (is_known es c || is_blank (after_moment m (remembered_in es c)))
can-expire es c m = by (lookup (bytes_eq c) es)
  where
    by : (x : Option Remembered) → IsTrue (is_some x || is_blank (after_moment m (unwrap_or x blank)))
    by (Some v) = refl
    by None = refl
