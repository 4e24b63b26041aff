-- Classes are ranked by the number of their supertypes.
use Rattle.std.proofs.Common.{◌≡◌, ◌≢◌, ℕ, zero, suc, ◌+◌, ◌<◌, ◌≤◌, inl, inr, Bool, true, false, Some, List, [], ◌∷◌, ◌++◌, length, get_or, replicate, refl, sym, subst, ap, ◌∙◌, arith, zero-add}
use Rattle.std.specs.Prelude.{◌↔◌, All, Contains, IsTrue, cond, count_by, set, slice_get, option_to_list}
use Rattle.std.proofs.lemmas.List.{get_or-map, get_or-set_other, get_or-set_same, length-map}
use Rattle.std.proofs.lemmas.List.Elements.{All-contains, All-get_or, Contains-append_cases, Contains-append_left, Contains-append_right, Contains-get_or}
use Rattle.std.proofs.lemmas.Option.{slice_get_cases, slice_get-get_or}
use Rattle.cls_order.specs.declared.class.Class.{Class}
use Rattle.space_ids.specs.declared.ids.ClassId.{ClassId}
use Rattle.cls_order.specs.declared.entries.Entry.{Entry}
use Rattle.cls_order.specs.declared.walking.Walk.{Walk}
use Rattle.cls_order.specs.Classes.{direct_supertypes}
use Rattle.cls_order.specs.Entries.{classes_of, IsRanked, IsTable}
use Rattle.std.proofs.Math.ListN.{get_or-append}
use Rattle.cls_order.specs.Subtypes as types
use Rattle.cls_order.specs.Subtypes.{IsProperSubtype}
use Rattle.cls_order.specs.Walks.{Met, met_by, ups, AreWithin, IsOwn, IsWalked}
use Rattle.cls_order.proofs.Hierarchy.{some_and, true_false, by_contradiction_false}
use Rattle.cls_order.proofs.Walks.{IsUnderway, IsWalking, before, complete, count_cons, of_class}

pub none_met : (n k : ℕ) → get_or (replicate n false) k false ≡ true → ⊥
none_met zero k e = true_false (sym e)
none_met (suc n) zero e = true_false (sym e)
none_met (suc n) (suc k) e = none_met n k e

count_none : (n : ℕ) → count_by (λ (b : Bool). b) (replicate n false) ≡ 0
count_none zero = refl
count_none (suc n) = count_cons false (replicate n false) ∙ (zero-add (count_by (λ (b : Bool). b) (replicate n false)) ∙ count_none n)

pub long_none : (n : ℕ) → length (replicate n false) ≡ n
long_none zero = refl
long_none (suc n) = ap suc (long_none n)

-- a walk that has met nothing
pub underway : (classes : List Class) (from : ClassId) (n : ℕ) → n ≡ length classes → IsUnderway classes from (replicate n false, [])
underway classes from n e =
    record {
      long = long_none n ∙ e;
      sound = λ c was. absurd (none_met n c.0 was);
      listed = λ c was. absurd (none_met n c.0 was);
      only = λ c among. absurd (omega (arith, among.1));
      count = sym (count_none n);
    }

pub walked : (classes : List Class) (from : ClassId) (walk : Walk) (next : ℕ) → IsWalking classes from next (met_by walk) → length walk.order.items ≤ next → IsWalked classes from walk
walked classes from walk next w end =
    record {
      long = w.under.long;
      met = λ sup. (w.under.sound sup, λ p. complete classes from (met_by walk) next w end from sup p (inl refl));
      count = w.under.count;
    }

-- how many supertypes a class has that is not its own
pub record IsHeight (classes : List Class) (k : ℕ) (rank : ℕ) : Type 0 where
  pub met : List Bool
  pub long : length met ≡ length classes
  pub supertypes : (sup : ClassId) → IsTrue (get_or met sup.0 false) ↔ IsProperSubtype classes (record { 0 = k }) sup
  pub height : rank ≡ count_by (λ b. b) met
  pub proper : IsOwn classes k → ⊥

pub height_of : (classes : List Class) (k : ℕ) (walk : Walk) → IsWalked classes (record { 0 = k }) walk → get_or walk.met.items k false ≡ false → IsHeight classes k (length walk.order.items)
height_of classes k walk w e =
    record {
      met = walk.met.items;
      long = w.long;
      supertypes = w.met;
      height = w.count;
      proper = λ own. true_false (sym ((w.met (record { 0 = k })).1 own) ∙ e);
    }

fewer_or_same : (xs ys : List Bool) → length xs ≡ length ys → ((i : ℕ) → get_or xs i false ≡ true → get_or ys i false ≡ true) → count_by (λ (b : Bool). b) xs ≤ count_by (λ (b : Bool). b) ys
fewer_or_same [] ys e also = omega arith
fewer_or_same (x ∷ xs) [] e also = absurd (omega (arith, e))
fewer_or_same (x ∷ xs) (y ∷ ys) e also =
    let rest = fewer_or_same xs ys (omega (arith, e)) (λ i. also (suc i)) in
    rw (count_cons x xs, count_cons y ys)
    (elim x as (λ b. (b ≡ true → y ≡ true) → cond b 1 0 + count_by (λ (b : Bool). b) xs ≤ cond y 1 0 + count_by (λ (b : Bool). b) ys) [
      | true ↦ λ f. rw (f refl) (omega (arith, rest))
      | false ↦ λ f. omega (arith, rest)
    ] (also 0))

fewer : (xs ys : List Bool) → length xs ≡ length ys → ((i : ℕ) → get_or xs i false ≡ true → get_or ys i false ≡ true) → (j : ℕ) → get_or ys j false ≡ true → get_or xs j false ≡ false → count_by (λ (b : Bool). b) xs < count_by (λ (b : Bool). b) ys
fewer [] [] e also j there gone = absurd (true_false (sym there))
fewer [] (y ∷ ys) e also j there gone = absurd (omega (arith, e))
fewer (x ∷ xs) [] e also j there gone = absurd (omega (arith, e))
fewer (x ∷ xs) (y ∷ ys) e also zero there gone =
    let rest = fewer_or_same xs ys (omega (arith, e)) (λ i. also (suc i)) in
    let more : y ≡ true = there in
    let less : x ≡ false = gone in
    rw (count_cons x xs, count_cons y ys, more, less) (omega (arith, rest))
fewer (x ∷ xs) (y ∷ ys) e also (suc j) there gone =
    let rest = fewer xs ys (omega (arith, e)) (λ i. also (suc i)) j there gone in
    rw (count_cons x xs, count_cons y ys)
    (elim x as (λ b. (b ≡ true → y ≡ true) → cond b 1 0 + count_by (λ (b : Bool). b) xs < cond y 1 0 + count_by (λ (b : Bool). b) ys) [
      | true ↦ λ f. rw (f refl) (omega (arith, rest))
      | false ↦ λ f. omega (arith, rest)
    ] (also 0))

-- a direct supertype has fewer supertypes
lower_height : (classes : List Class) (k : ℕ) (s : ClassId) (low high : ℕ) → IsHeight classes s.0 low → IsHeight classes k high → IsProperSubtype classes (record { 0 = k }) s → low < high
lower_height classes k s low high l h p =
    let less = fewer l.met h.met (l.long ∙ sym h.long)
    (λ i e. (h.supertypes (record { 0 = i })).1 (types.IsProperSubtype.through (record { 0 = k }) s (record { 0 = i }) p ((l.supertypes (record { 0 = i })).0 e)))
    s.0 ((h.supertypes s).1 p) (by_contradiction_false (get_or l.met s.0 false) (λ e. l.proper ((l.supertypes s).0 e))) in
    let a = l.height in
    let b = h.height in
    omega (arith, less, a, b)

pub to_ups : (c : Class) (s : ClassId) → Contains (direct_supertypes c) s → Contains (ups c) s
to_ups c s among =
    elim (Contains-append_cases (option_to_list c.superclass) c.interfaces s among) [
      | inl o ↦ Contains-append_right c.interfaces (option_to_list c.superclass) s o
      | inr i ↦ Contains-append_left c.interfaces (option_to_list c.superclass) s i
    ]

pub long_classes : (entries : List Entry) → length (classes_of entries) ≡ length entries
long_classes entries = length-map entries (λ m. m.class)

-- entries whose ranks are their heights are ranked
pub ranked_by_heights : (entries : List Entry) (classes : List Class) (n : ℕ) → classes_of entries ≡ classes → length entries ≤ n → AreWithin (length entries) classes → ((j : ℕ) (d : Entry) → j < n → IsHeight classes j (get_or entries j d).rank) → All (IsRanked entries) entries
ranked_by_heights entries classes n same all within heights k d l i e h =
    let m = get_or entries k d in
    let s = get_or (direct_supertypes m.class) i e in
    let among = to_ups m.class s (Contains-get_or (direct_supertypes m.class) i e h) in
    let read : get_or classes k m.class ≡ m.class = ap (λ (cs : List Class). get_or cs k m.class) (sym same) ∙ (get_or-map (λ (m : Entry). m.class) entries k d m.class l) in
    let here : k < length classes = subst (λ (cs : List Class). k < length cs) same (subst (λ n. k < n) (sym (long_classes entries)) l) in
    let inside = subst (λ (c : Class). All (λ (s : ClassId). s.0 < length entries) (ups c)) read (All-get_or (λ (c : Class). All (λ (s : ClassId). s.0 < length entries) (ups c)) classes k m.class here within) in
    let in_set : s.0 < length entries = All-contains (λ (s : ClassId). s.0 < length entries) (ups m.class) s inside among in
    let is : slice_get classes k ≡ Some m.class = slice_get-get_or classes k m.class here ∙ ap (λ c. Some c) read in
    let up = types.IsProperSubtype.direct (record { 0 = k }) s (of_class classes (record { 0 = k }) s m.class is among) in
    some_and (slice_get entries s.0) (λ (t : Entry). t.rank < m.rank) (get_or entries s.0 d) (slice_get-get_or entries s.0 d in_set)
    (lower_height classes k s (get_or entries s.0 d).rank m.rank (heights s.0 d (omega (arith, in_set, all))) (heights k d (omega (arith, l, all))) up)

pub true_within : (xs : List Bool) (k : ℕ) → get_or xs k false ≡ true → k < length xs
true_within [] k e = absurd (true_false (sym e))
true_within (x ∷ xs) zero e = omega arith
true_within (x ∷ xs) (suc k) e = let rest = true_within xs k e in omega (arith, rest)

-- the class that a walk comes to next stands in the set
pub next_in_set : (entries : List Entry) (from : ClassId) (next : ℕ) (met : Met) (c : ClassId) → IsWalking (classes_of entries) from next met → next < length met.1 → c ≡ get_or met.1 next c → c.0 < length entries
next_in_set entries from next met c w h is =
    let was = true_within met.0 c.0 (w.under.only c (next, h, sym is)) in
    let long = w.under.long in
    let same = long_classes entries in
    omega (arith, was, long, same)

pub any_member : (xs : List Entry) (k : ℕ) → k < length xs → Entry
any_member xs k h =
    elim (slice_get_cases xs k).1 [
      | inl r ↦ r.0
      | inr r ↦ absurd (omega (arith, h, r.0))
    ]

-- one more is ranked
pub one_more : (classes : List Class) (entries : List Entry) (index : ℕ) (y : Entry) → index < length entries → ((j : ℕ) (d : Entry) → j < index → IsHeight classes j (get_or entries j d).rank) → IsHeight classes index y.rank → (j : ℕ) (d : Entry) → j < index + 1 → IsHeight classes j (get_or (set entries index y) j d).rank
one_more classes entries index y within old new j d l =
    elim (before j index) [
      | inl past ↦
          let other : j ≢ index = omega (arith, past) in
          subst (λ (m : Entry). IsHeight classes j m.rank) (sym (get_or-set_other entries index j y d other)) (old j d past)
      | inr high ↦
          let here : index ≡ j = omega (arith, high, l) in
          subst (λ i. IsHeight classes i (get_or (set entries index y) i d).rank) here (subst (λ (m : Entry). IsHeight classes index m.rank) (sym (get_or-set_same entries index y d within)) new)
    ]

-- the table of a class is what a walk from it has met
pub table_of : (classes : List Class) (k : ℕ) (walk : Walk) → IsWalked classes (record { 0 = k }) walk → IsTable classes k walk.met.items
table_of classes k walk w = record { long = w.long; supertypes = w.met }

pub last_read : {X : Type 0} (xs : List X) (x d : X) → get_or (xs ++ x ∷ []) (length xs) d ≡ x
last_read [] x d = refl
last_read (y ∷ ys) x d = last_read ys x d

-- a table more
pub table_more : (classes : List Class) (tables : List (List Bool)) (n : ℕ) (row : List Bool) (more : List (List Bool)) → length tables ≡ n → more ≡ tables ++ row ∷ [] → ((j : ℕ) → j < n → IsTable classes j (get_or tables j [])) → IsTable classes n row → (j : ℕ) → j < n + 1 → IsTable classes j (get_or more j [])
table_more classes tables n row more long is old new j l =
    subst (λ (ts : List (List Bool)). IsTable classes j (get_or ts j [])) (sym is)
    (elim (before j n) [
      | inl low ↦ subst (IsTable classes j) (sym (get_or-append tables (row ∷ []) [] j (omega (arith, low, long)))) (old j low)
      | inr high ↦
          let same : length tables ≡ j = omega (arith, long, high, l) in
          let here : n ≡ j = omega (arith, high, l) in
          subst (λ i. IsTable classes j (get_or (tables ++ row ∷ []) i [])) same (subst (IsTable classes j) (sym (last_read tables row [])) (subst (λ i. IsTable classes i row) here new))
    ])
