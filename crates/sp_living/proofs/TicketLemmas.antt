-- Parked frames as they are found and taken out by their tickets.
use Rattle.std.proofs.Common.{◌≡◌, ℕ, ◌<◌, Bool, true, false, cond, List, [], ◌∷◌, ◌++◌, Option, None, Some, refl, sym, ap, ◌∙◌, map, nat_eq, append-nil, append_assoc, arith}
use Rattle.std.specs.Prelude.{filter, not, ◌==◌, ◌||◌, ◌&&◌}
use Rattle.std.specs.List.{list_any}
use Rattle.std.specs.Map.{keys_of, lookup, remove_entry, values_of}
use Rattle.std.proofs.lemmas.Bool.{eq-eqb, ne_eqb}
use Rattle.std.proofs.lemmas.Cmp.{nat_eq_equiv}
use Rattle.rising_map.specs.Rows.{AreAbove, Rises}
use Rattle.sp_parked.specs.Parkings.{parked_of}
use Rattle.sp_parked.specs.declared.frame.ParkedFrame.{ParkedFrame}
use Rattle.sp_rules.specs.Laws.{AllOf}
use Rattle.sp_rules.specs.ParkedFrames.{is_parked_at}
use Rattle.sp_rules.specs.State as rules
use Rattle.sp_living.specs.Tickets.{is_found}

-- ---- taken out one after the other

abbrev pub listed : Option ParkedFrame → List ParkedFrame
listed None = []
listed (Some frame) = frame ∷ []

-- what waits under these tickets, as one after the other is taken
abbrev pub found_at : List ℕ → List (ℕ × ParkedFrame) → List ParkedFrame
found_at [] frames = []
found_at (t ∷ ts) frames = listed (lookup (nat_eq t) frames) ++ found_at ts (remove_entry (nat_eq t) frames)

-- what is left without them
abbrev pub left_at : List ℕ → List (ℕ × ParkedFrame) → List (ℕ × ParkedFrame)
left_at [] frames = frames
left_at (t ∷ ts) frames = left_at ts (remove_entry (nat_eq t) frames)

pub found-more : (ts : List ℕ) (t : ℕ) (frames : List (ℕ × ParkedFrame)) → found_at (ts ++ t ∷ []) frames ≡ found_at ts frames ++ listed (lookup (nat_eq t) (left_at ts frames))
found-more [] t frames = append-nil (listed (lookup (nat_eq t) frames))
found-more (u ∷ us) t frames =
    ap (λ l. listed (lookup (nat_eq u) frames) ++ l) (found-more us t (remove_entry (nat_eq u) frames))
    ∙ sym (append_assoc (listed (lookup (nat_eq u) frames)) (found_at us (remove_entry (nat_eq u) frames)) (listed (lookup (nat_eq t) (left_at us (remove_entry (nat_eq u) frames)))))

pub left-more : (ts : List ℕ) (t : ℕ) (frames : List (ℕ × ParkedFrame)) → left_at (ts ++ t ∷ []) frames ≡ remove_entry (nat_eq t) (left_at ts frames)
left-more [] t frames = refl
left-more (u ∷ us) t frames = left-more us t (remove_entry (nat_eq u) frames)

-- ---- tickets that rise

-- none of these numbers is this one
abbrev Without : ℕ → List ℕ → Type 0
Without n ts = AllOf (λ (t : ℕ). nat_eq t n ≡ false) ts

above-without : (n : ℕ) (ts : List ℕ) → AreAbove n ts → Without n ts
above-without n [] above = tt
above-without n (t ∷ ts) above = let less : n < t = above.0 in (ne_eqb t n (λ same. omega (arith, same, less)), above-without n ts above.1)

without-filter : (n : ℕ) (is : ℕ × ParkedFrame → Bool) (rows : List (ℕ × ParkedFrame)) → Without n (keys_of rows) → Without n (keys_of (filter is rows))
without-filter n is [] all = tt
without-filter n is (row ∷ rows) all =
    let rest = without-filter n is rows all.1 in
    elim (is row) as (λ b. Without n (keys_of (cond b (row ∷ filter is rows) (filter is rows)))) [ true ↦ (all.0, rest) | false ↦ rest ]

-- a row that none of the tickets names
found-past : (row : ℕ × ParkedFrame) (ts : List ℕ) (rows : List (ℕ × ParkedFrame)) → Without row.0 ts → found_at ts (row ∷ rows) ≡ found_at ts rows
found-past row [] rows all = refl
found-past row (t ∷ ts) rows all =
    ap (λ b. listed (cond b (Some row.1) (lookup (nat_eq t) rows)) ++ found_at ts (cond b rows (row ∷ remove_entry (nat_eq t) rows))) all.0
    ∙ ap (λ l. listed (lookup (nat_eq t) rows) ++ l) (found-past row ts (remove_entry (nat_eq t) rows) all.1)

left-past : (row : ℕ × ParkedFrame) (ts : List ℕ) (rows : List (ℕ × ParkedFrame)) → Without row.0 ts → left_at ts (row ∷ rows) ≡ row ∷ left_at ts rows
left-past row [] rows all = refl
left-past row (t ∷ ts) rows all =
    ap (λ b. left_at ts (cond b rows (row ∷ remove_entry (nat_eq t) rows))) all.0 ∙ left-past row ts (remove_entry (nat_eq t) rows) all.1

-- What waits under the tickets of those rows of which this is true are those rows.
pub all-found : (is : ℕ × ParkedFrame → Bool) (rows : List (ℕ × ParkedFrame)) → Rises (keys_of rows) → found_at (keys_of (filter is rows)) rows ≡ values_of (filter is rows)
all-found is [] rises = refl
all-found is (row ∷ rows) rises =
    let rest = all-found is rows rises.1 in
    elim (is row) as (λ b. found_at (keys_of (cond b (row ∷ filter is rows) (filter is rows))) (row ∷ rows) ≡ values_of (cond b (row ∷ filter is rows) (filter is rows))) [
      | true ↦ ap (λ b. listed (cond b (Some row.1) (lookup (nat_eq row.0) rows)) ++ found_at (keys_of (filter is rows)) (cond b rows (row ∷ remove_entry (nat_eq row.0) rows))) (eq-eqb row.0 row.0 refl) ∙ ap (λ l. row.1 ∷ l) rest
      | false ↦ found-past row (keys_of (filter is rows)) rows (without-filter row.0 is rows (above-without row.0 (keys_of rows) rises.0)) ∙ rest
    ]

pub all-left : (is : ℕ × ParkedFrame → Bool) (rows : List (ℕ × ParkedFrame)) → Rises (keys_of rows) → left_at (keys_of (filter is rows)) rows ≡ filter (λ row. not (is row)) rows
all-left is [] rises = refl
all-left is (row ∷ rows) rises =
    let rest = all-left is rows rises.1 in
    elim (is row) as (λ b. left_at (keys_of (cond b (row ∷ filter is rows) (filter is rows))) (row ∷ rows) ≡ cond (not b) (row ∷ filter (λ row. not (is row)) rows) (filter (λ row. not (is row)) rows)) [
      | true ↦ ap (λ b. left_at (keys_of (filter is rows)) (cond b rows (row ∷ remove_entry (nat_eq row.0) rows))) (eq-eqb row.0 row.0 refl) ∙ rest
      | false ↦ left-past row (keys_of (filter is rows)) rows (without-filter row.0 is rows (above-without row.0 (keys_of rows) rises.0)) ∙ ap (λ l. row ∷ l) rest
    ]

-- ---- rows of which something is true

-- the tickets at which a row is found of which this is true are those of the rows of which it is
pub tickets-found : (is : rules.ParkedFrame → Bool) (rows : List (ℕ × ParkedFrame)) → Rises (keys_of rows)
    → filter (λ (t : ℕ). is_found is (lookup (nat_eq t) rows)) (keys_of rows) ≡ keys_of (filter (λ (row : ℕ × ParkedFrame). is (parked_of row.1)) rows)
tickets-found is [] rises = refl
tickets-found is (row ∷ rows) rises =
    let rest = past (keys_of rows) (above-without row.0 (keys_of rows) rises.0) ∙ tickets-found is rows rises.1 in
    ap (λ b. cond (is_found is (cond b (Some row.1) (lookup (nat_eq row.0) rows))) (row.0 ∷ filter (λ (t : ℕ). is_found is (lookup (nat_eq t) (row ∷ rows))) (keys_of rows)) (filter (λ (t : ℕ). is_found is (lookup (nat_eq t) (row ∷ rows))) (keys_of rows))) (eq-eqb row.0 row.0 refl)
    ∙ elim (is (parked_of row.1)) as (λ b. cond b (row.0 ∷ filter (λ (t : ℕ). is_found is (lookup (nat_eq t) (row ∷ rows))) (keys_of rows)) (filter (λ (t : ℕ). is_found is (lookup (nat_eq t) (row ∷ rows))) (keys_of rows))
    ≡ keys_of (cond b (row ∷ filter (λ (row : ℕ × ParkedFrame). is (parked_of row.1)) rows) (filter (λ (row : ℕ × ParkedFrame). is (parked_of row.1)) rows))) [ true ↦ ap (λ l. row.0 ∷ l) rest | false ↦ rest ]
  where
    past : (ts : List ℕ) → Without row.0 ts → filter (λ (t : ℕ). is_found is (lookup (nat_eq t) (row ∷ rows))) ts ≡ filter (λ (t : ℕ). is_found is (lookup (nat_eq t) rows)) ts
    past [] all = refl
    past (t ∷ ts) all =
        ap (λ b. cond (is_found is (cond b (Some row.1) (lookup (nat_eq t) rows))) (t ∷ filter (λ (t : ℕ). is_found is (lookup (nat_eq t) (row ∷ rows))) ts) (filter (λ (t : ℕ). is_found is (lookup (nat_eq t) (row ∷ rows))) ts)) all.0
        ∙ ap (λ l. cond (is_found is (lookup (nat_eq t) rows)) (t ∷ l) l) (past ts all.1)

-- rows in the terms of the rules
pub rows-kept : (is : rules.ParkedFrame → Bool) (rows : List (ℕ × ParkedFrame))
    → map (λ (row : ℕ × ParkedFrame). parked_of row.1) (filter (λ (row : ℕ × ParkedFrame). is (parked_of row.1)) rows) ≡ filter is (map (λ (row : ℕ × ParkedFrame). parked_of row.1) rows)
rows-kept is [] = refl
rows-kept is (row ∷ rows) =
    elim (is (parked_of row.1)) as (λ b. map (λ (row : ℕ × ParkedFrame). parked_of row.1) (cond b (row ∷ filter (λ (row : ℕ × ParkedFrame). is (parked_of row.1)) rows) (filter (λ (row : ℕ × ParkedFrame). is (parked_of row.1)) rows))
    ≡ cond b (parked_of row.1 ∷ filter is (map (λ (row : ℕ × ParkedFrame). parked_of row.1) rows)) (filter is (map (λ (row : ℕ × ParkedFrame). parked_of row.1) rows))) [
      | true ↦ ap (λ l. parked_of row.1 ∷ l) (rows-kept is rows)
      | false ↦ rows-kept is rows
    ]

pub values-parked : (rows : List (ℕ × ParkedFrame)) → map parked_of (values_of rows) ≡ map (λ (row : ℕ × ParkedFrame). parked_of row.1) rows
values-parked [] = refl
values-parked (row ∷ rows) = ap (λ l. parked_of row.1 ∷ l) (values-parked rows)

-- ---- none under a number of a connection

-- If no row of a connection has a number, none is parked under both.
pub none-numbered : (conn number : ℕ) (rows : List (ℕ × ParkedFrame)) → Rises (keys_of rows)
    → list_any (λ (t : ℕ). is_found (λ (p : rules.ParkedFrame). p.number == number) (lookup (nat_eq t) rows)) (keys_of (filter (λ (row : ℕ × ParkedFrame). conn == row.1.conn) rows)) ≡ false
    → list_any (is_parked_at conn number) (map (λ (row : ℕ × ParkedFrame). parked_of row.1) rows) ≡ false
none-numbered conn number [] rises none = refl
none-numbered conn number (row ∷ rows) rises none = by (none-numbered conn number rows rises.1) (conn == row.1.conn) refl none
  where
    has : ℕ → Bool
    has t = is_found (λ (p : rules.ParkedFrame). p.number == number) (lookup (nat_eq t) (row ∷ rows))

    past : (ts : List ℕ) → Without row.0 ts → list_any has ts ≡ list_any (λ (t : ℕ). is_found (λ (p : rules.ParkedFrame). p.number == number) (lookup (nat_eq t) rows)) ts
    past [] all = refl
    past (t ∷ ts) all = λ j. is_found (λ (p : rules.ParkedFrame). p.number == number) (cond (all.0 j) (Some row.1) (lookup (nat_eq t) rows)) || past ts all.1 j

    Others : Type 0
    Others =
        list_any (λ (t : ℕ). is_found (λ (p : rules.ParkedFrame). p.number == number) (lookup (nat_eq t) rows)) (keys_of (filter (λ (row : ℕ × ParkedFrame). conn == row.1.conn) rows)) ≡ false
        → list_any (is_parked_at conn number) (map (λ (row : ℕ × ParkedFrame). parked_of row.1) rows) ≡ false

    rest : Others → list_any has (keys_of (filter (λ (row : ℕ × ParkedFrame). conn == row.1.conn) rows)) ≡ false → list_any (is_parked_at conn number) (map (λ (row : ℕ × ParkedFrame). parked_of row.1) rows) ≡ false
    rest go n = go (sym (past (keys_of (filter (λ (row : ℕ × ParkedFrame). conn == row.1.conn) rows)) (without-filter row.0 (λ (row : ℕ × ParkedFrame). conn == row.1.conn) rows (above-without row.0 (keys_of rows) rises.0))) ∙ n)

    first : (a b : Bool) → (a || b) ≡ false → a ≡ false
    first true b h = h
    first false b h = refl

    second : (a b : Bool) → (a || b) ≡ false → b ≡ false
    second true b h = absurd (no h)
      where
        no : true ≡ false → ⊥
        no e = cc
    second false b h = h

    not-here : has row.0 ≡ false → (row.1.number == number) ≡ false
    not-here h = sym (ap (λ b. is_found (λ (p : rules.ParkedFrame). p.number == number) (cond b (Some row.1) (lookup (nat_eq row.0) rows))) (eq-eqb row.0 row.0 refl)) ∙ h

    by : Others → (b : Bool) → (conn == row.1.conn) ≡ b
        → list_any has (keys_of (cond b (row ∷ filter (λ (row : ℕ × ParkedFrame). conn == row.1.conn) rows) (filter (λ (row : ℕ × ParkedFrame). conn == row.1.conn) rows))) ≡ false
        → ((row.1.conn == conn && row.1.number == number) || list_any (is_parked_at conn number) (map (λ (row : ℕ × ParkedFrame). parked_of row.1) rows)) ≡ false
    by go true here n =
        let other : (row.1.number == number) ≡ false = not-here (first (has row.0) _ n) in
        (λ j. ((row.1.conn == conn && other j) || list_any (is_parked_at conn number) (map (λ (row : ℕ × ParkedFrame). parked_of row.1) rows)))
        ∙ ap (λ b. (row.1.conn == conn && false) || b) (rest go (second (has row.0) _ n))
        ∙ elim (row.1.conn == conn) as (λ b. ((b && false) || false) ≡ false) [ true ↦ refl | false ↦ refl ]
    by go false apart n =
        let away : (row.1.conn == conn) ≡ false = nat_eq_equiv.symm row.1.conn conn ∙ apart in
        (λ j. ((away j && row.1.number == number) || list_any (is_parked_at conn number) (map (λ (row : ℕ × ParkedFrame). parked_of row.1) rows))) ∙ rest go n
