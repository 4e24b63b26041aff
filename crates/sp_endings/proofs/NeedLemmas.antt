-- What is parked, held and kept, counted, and the space's own objects in it.
use Rattle.std.proofs.Common.{◌≡◌, ℕ, suc, ◌+◌, Bool, true, false, cond, nat_eq, List, [], ◌∷◌, ◌++◌, Option, refl, sym, ap, ◌∙◌, map, length, length-append}
use Rattle.std.specs.Prelude.{◌||◌, filter}
use Rattle.std.specs.List.{list_any}
use Rattle.std.specs.Map.{keys_of, lookup}
use Rattle.std.proofs.lemmas.List.Elements.{filter-append}
use Rattle.space_ids.specs.declared.ids.ObjId.{ObjId}
use Rattle.space_ids.specs.declared.value.Value.{Value}
use Rattle.uuid.specs.declared.Uuid.{Uuid}
use Rattle.rising_map.specs.Rows.{Rises}
use Rattle.sp_parked.specs.Parkings.{parked_of}
use Rattle.sp_parked.specs.declared.frame.ParkedFrame.{ParkedFrame}
use Rattle.sp_rules.specs.References.{is_id_in, own_ids, references_in}
use Rattle.sp_rules.specs.State as rules
use Rattle.sp_rules.specs.State.{KeptResult}
use Rattle.sp_tasks.specs.Rows.{TaskRow}
use Rattle.sp_living.specs.Tickets.{is_found}
use Rattle.sp_living.specs.Views.{Seen, kept, seen, seen_row}
use Rattle.sp_living.proofs.TicketLemmas.{rows-kept, tickets-found}

-- ---- lists

abbrev some_in : {A : Type 0} → List A → Bool
some_in [] = false
some_in (x ∷ xs) = true

any-filter : {A : Type 0} (p : A → Bool) (xs : List A) → list_any p xs ≡ some_in (filter p xs)
any-filter p [] = refl
any-filter p (x ∷ xs) = elim (p x) as (λ b. (b || list_any p xs) ≡ some_in (cond b (x ∷ filter p xs) (filter p xs))) [ true ↦ refl | false ↦ any-filter p xs ]

some-keys : (rows : List (ℕ × ParkedFrame)) → some_in (keys_of rows) ≡ some_in rows
some-keys [] = refl
some-keys (row ∷ rows) = refl

any-map : {A B : Type 0} (p : B → Bool) (f : A → B) (xs : List A) → list_any p (map f xs) ≡ list_any (λ (x : A). p (f x)) xs
any-map p f [] = refl
any-map p f (x ∷ xs) = ap (λ b. p (f x) || b) (any-map p f xs)

length-keys : (rows : List (ℕ × ParkedFrame)) → length (keys_of rows) ≡ length rows
length-keys [] = refl
length-keys (row ∷ rows) = ap (λ n. suc n) (length-keys rows)

map-length : {A B : Type 0} (f : A → B) (xs : List A) → length (map f xs) ≡ length xs
map-length f [] = refl
map-length f (x ∷ xs) = ap (λ n. suc n) (map-length f xs)

-- one more that is counted, or not
pub count-more : (p : ℕ → Bool) (ts : List ℕ) (t : ℕ) → length (filter p (ts ++ t ∷ [])) ≡ length (filter p ts) + cond (p t) 1 0
count-more p ts t =
    ap (λ (l : List ℕ). length l) (filter-append p ts (t ∷ [])) ∙ length-append (filter p ts) (filter p (t ∷ []))
    ∙ ap (λ n. length (filter p ts) + n) (elim (p t) as (λ b. length (cond b (t ∷ []) []) ≡ cond b 1 0) [ true ↦ refl | false ↦ refl ])

-- ---- parked frames

pub parked-any : (is : rules.ParkedFrame → Bool) (rows : List (ℕ × ParkedFrame)) → Rises (keys_of rows)
    → list_any (λ (t : ℕ). is_found is (lookup (nat_eq t) rows)) (keys_of rows) ≡ list_any is (map (λ (row : ℕ × ParkedFrame). parked_of row.1) rows)
parked-any is rows rises =
    any-filter (λ (t : ℕ). is_found is (lookup (nat_eq t) rows)) (keys_of rows) ∙ ap (λ (l : List ℕ). some_in l) (tickets-found is rows rises) ∙ some-keys (filter (λ (row : ℕ × ParkedFrame). is (parked_of row.1)) rows)
    ∙ sym (any-filter (λ (row : ℕ × ParkedFrame). is (parked_of row.1)) rows) ∙ sym (any-map is (λ (row : ℕ × ParkedFrame). parked_of row.1) rows)

pub parked-count : (is : rules.ParkedFrame → Bool) (rows : List (ℕ × ParkedFrame)) → Rises (keys_of rows)
    → length (filter (λ (t : ℕ). is_found is (lookup (nat_eq t) rows)) (keys_of rows)) ≡ length (filter (λ (row : ℕ × ParkedFrame). is (parked_of row.1)) rows)
parked-count is rows rises = ap (λ (l : List ℕ). length l) (tickets-found is rows rises) ∙ length-keys (filter (λ (row : ℕ × ParkedFrame). is (parked_of row.1)) rows)

pub parked-length : (is : rules.ParkedFrame → Bool) (rows : List (ℕ × ParkedFrame)) (parked : List rules.ParkedFrame) → map (λ (row : ℕ × ParkedFrame). parked_of row.1) rows ≡ parked
    → length (filter (λ (row : ℕ × ParkedFrame). is (parked_of row.1)) rows) ≡ length (filter is parked)
parked-length is rows parked are =
    sym (map-length (λ (row : ℕ × ParkedFrame). parked_of row.1) (filter (λ (row : ℕ × ParkedFrame). is (parked_of row.1)) rows))
    ∙ ap (λ (l : List rules.ParkedFrame). length l) (rows-kept is rows ∙ ap (filter is) are)

-- ---- tasks and results

pub tasks-length : (es : List (ℕ × TaskRow)) (ts : List rules.Living) → map seen_row es ≡ map seen ts → length es ≡ length ts
tasks-length es ts same = sym (map-length seen_row es) ∙ ap (λ (l : List Seen). length l) same ∙ map-length seen ts

pub tasks-any : (own : Uuid) (id : ObjId) (es : List (ℕ × TaskRow)) (ts : List rules.Living) → map seen_row es ≡ map seen ts
    → list_any (λ (row : ℕ × TaskRow). is_id_in (own_ids own row.1.held) id) es ≡ list_any (λ (t : rules.Living). is_id_in (own_ids own t.task.held) id) ts
tasks-any own id es ts same =
    sym (any-map (λ (x : Seen). is_id_in (own_ids own x.held) id) seen_row es) ∙ ap (list_any (λ (x : Seen). is_id_in (own_ids own x.held) id)) same
    ∙ any-map (λ (x : Seen). is_id_in (own_ids own x.held) id) seen ts

pub roots-any : (own : Uuid) (id : ObjId) (roots : List (ℕ × Option Value)) (results : List KeptResult) → map kept roots ≡ results
    → list_any (λ (row : ℕ × Option Value). is_id_in (own_ids own (references_in row.1)) id) roots ≡ list_any (λ (r : KeptResult). is_id_in (own_ids own (references_in r.value)) id) results
roots-any own id roots results are =
    sym (any-map (λ (r : KeptResult). is_id_in (own_ids own (references_in r.value)) id) kept roots) ∙ ap (list_any (λ (r : KeptResult). is_id_in (own_ids own (references_in r.value)) id)) are

-- ---- ids that are added

or-or : (o t r c p : Bool) → ((((o || t) || r) || c) || p) ≡ (o || (t || ((r || c) || p)))
or-or true t r c p = refl
or-or false true r c p = refl
or-or false false true c p = refl
or-or false false false c p = refl

pub gathered : (n m3 m2 m1 o t r c p : Bool) → m1 ≡ (o || t) → m2 ≡ (m1 || r) → m3 ≡ (m2 || c) → n ≡ (m3 || p) → n ≡ (o || (t || ((r || c) || p)))
gathered n m3 m2 m1 o t r c p h1 h2 h3 h4 = h4 ∙ ap (λ x. x || p) (h3 ∙ ap (λ x. x || c) (h2 ∙ ap (λ x. x || r) h1)) ∙ or-or o t r c p

or-two : (o a b : Bool) → ((o || (a || false)) || b) ≡ (o || (a || b))
or-two true a b = refl
or-two false true b = refl
or-two false false b = refl

pub id-more : (n m o a b : Bool) → m ≡ (o || (a || false)) → n ≡ (m || b) → n ≡ (o || (a || b))
id-more n m o a b h1 h2 = h2 ∙ ap (λ x. x || b) h1 ∙ or-two o a b

or-false : (o : Bool) → (o || false) ≡ o
or-false true = refl
or-false false = refl

any-last : {A : Type 0} (p : A → Bool) (ts : List A) (t : A) → (list_any p ts || p t) ≡ list_any p (ts ++ t ∷ [])
any-last p [] t = sym (or-false (p t))
any-last p (x ∷ xs) t = elim (p x) as (λ b. ((b || list_any p xs) || p t) ≡ (b || list_any p (xs ++ t ∷ []))) [ true ↦ refl | false ↦ any-last p xs t ]

or-three : (o a b : Bool) → ((o || a) || b) ≡ (o || (a || b))
or-three true a b = refl
or-three false a b = refl

pub any-more : {A : Type 0} (p : A → Bool) (ts : List A) (t : A) (n m o : Bool) → m ≡ (o || list_any p ts) → n ≡ (m || p t) → n ≡ (o || list_any p (ts ++ t ∷ []))
any-more p ts t n m o h1 h2 = h2 ∙ ap (λ x. x || p t) h1 ∙ or-three o (list_any p ts) (p t) ∙ ap (λ x. o || x) (any-last p ts t)
