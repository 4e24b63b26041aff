-- The dials that wait, as one is looked for and taken away.
use Rattle.std.proofs.Common.{◌≡◌, ◌∙◌, ℕ, zero, suc, ◌<◌, ◌||◌, Bool, true, false, List, [], ◌∷◌, Option, None, Some, refl, sym, ap, subst, arith, length, map, cond}
use Rattle.std.specs.Prelude.{position, is_some, option_map, if◌then◌else◌}
use Rattle.std.specs.List.{list_any, remove}
use Rattle.std.proofs.lemmas.Option.{none-some, same_Some}
use Rattle.sp_rules.specs.Worlds.{is_pair, without_pair}
use Rattle.sp_pipes.specs.Asked.{pair_of}
use Rattle.sp_pipes.specs.declared.dials.Dial.{Dial}
use Rattle.sp_pipes.proofs.PipeLemmas.{position-no, position-yes}

-- whether it is the dial of a space to another
abbrev pub is_dial : ℕ → ℕ → Dial → Bool
is_dial a b dial = is_pair a b (pair_of dial)

some-map : (o : Option ℕ) → is_some (option_map suc o) ≡ is_some o
some-map None = refl
some-map (Some n) = refl

pub any-found : (a b : ℕ) (xs : List Dial) → is_some (position (is_dial a b) xs) ≡ list_any (is_pair a b) (map pair_of xs)
any-found a b [] = refl
any-found a b (x ∷ xs) = by (is_dial a b x) refl (any-found a b xs)
  where
    by : (t : Bool) → is_dial a b x ≡ t → is_some (position (is_dial a b) xs) ≡ list_any (is_pair a b) (map pair_of xs) → is_some (position (is_dial a b) (x ∷ xs)) ≡ is_dial a b x || list_any (is_pair a b) (map pair_of xs)
    by true e rest = ap is_some (position-yes (is_dial a b) x xs e) ∙ sym (ap (λ (s : Bool). s || list_any (is_pair a b) (map pair_of xs)) e)
    by false e rest = ap is_some (position-no (is_dial a b) x xs e) ∙ some-map (position (is_dial a b) xs) ∙ rest ∙ sym (ap (λ (s : Bool). s || list_any (is_pair a b) (map pair_of xs)) e)

-- a number that is one more than another
one-more : (o : Option ℕ) (i : ℕ) → option_map suc o ≡ Some i → (j : ℕ) × ((o ≡ Some j) × (i ≡ suc j))
one-more None i e = absurd (none-some i e)
one-more (Some j) i e = (j, (refl, sym (same_Some (suc j) i e)))

no-more : (o : Option ℕ) → option_map suc o ≡ None → o ≡ None
no-more None e = refl
no-more (Some j) e = absurd (none-some (suc j) (sym e))

pub within : (a b : ℕ) (xs : List Dial) (i : ℕ) → position (is_dial a b) xs ≡ Some i → i < length xs
within a b [] i e = absurd (none-some i e)
within a b (x ∷ xs) i e = by (is_dial a b x) refl (within a b xs)
  where
    by : (t : Bool) → is_dial a b x ≡ t → ((j : ℕ) → position (is_dial a b) xs ≡ Some j → j < length xs) → i < suc (length xs)
    by true d rest = let z : 0 ≡ i = same_Some 0 i (sym (position-yes (is_dial a b) x xs d) ∙ e) in omega (arith, z)
    by false d rest = let q = one-more (position (is_dial a b) xs) i (sym (position-no (is_dial a b) x xs d) ∙ e) in let h = rest q.0 q.1.0 in let s = q.1.1 in omega (arith, h, s)

pub removed : (a b : ℕ) (xs : List Dial) (i : ℕ) → position (is_dial a b) xs ≡ Some i → map pair_of (remove xs i) ≡ without_pair a b (map pair_of xs)
removed a b [] i e = absurd (none-some i e)
removed a b (x ∷ xs) i e = by (is_dial a b x) refl (removed a b xs)
  where
    by : (t : Bool) → is_dial a b x ≡ t → ((j : ℕ) → position (is_dial a b) xs ≡ Some j → map pair_of (remove xs j) ≡ without_pair a b (map pair_of xs)) → map pair_of (remove (x ∷ xs) i) ≡ without_pair a b (map pair_of (x ∷ xs))
    by true d rest =
        ap (λ (n : ℕ). map pair_of (remove (x ∷ xs) n)) (sym (same_Some 0 i (sym (position-yes (is_dial a b) x xs d) ∙ e)))
        ∙ sym (ap (λ (s : Bool). if s then map pair_of xs else pair_of x ∷ without_pair a b (map pair_of xs)) d)
    by false d rest = let q = one-more (position (is_dial a b) xs) i (sym (position-no (is_dial a b) x xs d) ∙ e) in
        ap (λ (n : ℕ). map pair_of (remove (x ∷ xs) n)) q.1.1
        ∙ ap (λ (l : List (ℕ × ℕ)). pair_of x ∷ l) (rest q.0 q.1.0)
        ∙ sym (ap (λ (s : Bool). if s then map pair_of xs else pair_of x ∷ without_pair a b (map pair_of xs)) d)

pub not-there : (a b : ℕ) (xs : List Dial) → position (is_dial a b) xs ≡ None → map pair_of xs ≡ without_pair a b (map pair_of xs)
not-there a b [] e = refl
not-there a b (x ∷ xs) e = by (is_dial a b x) refl (not-there a b xs)
  where
    by : (t : Bool) → is_dial a b x ≡ t → (position (is_dial a b) xs ≡ None → map pair_of xs ≡ without_pair a b (map pair_of xs)) → map pair_of (x ∷ xs) ≡ without_pair a b (map pair_of (x ∷ xs))
    by true d rest = absurd (none-some 0 (sym e ∙ position-yes (is_dial a b) x xs d))
    by false d rest = ap (λ (l : List (ℕ × ℕ)). pair_of x ∷ l) (rest (no-more (position (is_dial a b) xs) (sym (position-no (is_dial a b) x xs d) ∙ e)))
        ∙ sym (ap (λ (s : Bool). if s then map pair_of xs else pair_of x ∷ without_pair a b (map pair_of xs)) d)
