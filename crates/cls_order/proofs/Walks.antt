-- What a walk up the supertypes of a class has met.
use Rattle.std.proofs.Common.{◌≡◌, ◌≢◌, ℕ, zero, suc, ◌+◌, ◌<◌, ◌≤◌, ◌⊎◌, inl, inr, Bool, true, false, Option, Some, None, List, [], ◌∷◌, ◌++◌, length, get_or, nat_eq, refl, sym, subst, ap, ◌∙◌, arith, zero-add}
use Rattle.std.specs.Prelude.{All, Contains, cond, count_by, nat_lt, set, slice_get, option_to_list}
use Rattle.std.proofs.lemmas.Bool.Decides.{nat_tests}
use Rattle.std.proofs.lemmas.List.{get_or-set_other, get_or-set_same, length-append, length-set}
use Rattle.std.proofs.Math.ListN.{get_or-append}
use Rattle.std.proofs.lemmas.List.Elements.{All-cons, All-contains, All-get_or, All-head, All-nil, All-tail, Contains-append_cases, Contains-append_left, Contains-append_right, Contains-get_or}
use Rattle.std.proofs.lemmas.List.Sums.{sum_by-append, sum_by-set}
use Rattle.std.proofs.lemmas.Option.{slice_get_cases}
use Rattle.cls_order.specs.declared.class.Class.{Class}
use Rattle.space_ids.specs.declared.ids.ClassId.{ClassId}
use Rattle.cls_order.specs.Subtypes as types
use Rattle.cls_order.specs.Subtypes.{IsDirectSupertype, IsProperSubtype}
use Rattle.cls_order.specs.Walks.{Met, WasMet, meet_one, meet_all, ups, ups_of, ups_at, AreWithin}
use Rattle.cls_order.proofs.Hierarchy.{some_of, some_and, equal, differ_by, same_read}

pub same_class : (a b : ClassId) → a.0 ≡ b.0 → a ≡ b
same_class a b e = ap (λ n. record { 0 = n }) e

pub before : (k i : ℕ) → (k < i) ⊎ (i ≤ k)
before k i = elim (nat_lt k i) as (λ b. nat_lt k i ≡ b → (k < i) ⊎ (i ≤ k)) [ true ↦ λ e. inl (grind (arith, nat_tests)) | false ↦ λ e. inr (grind (arith, nat_tests)) ] refl

single_at : (s c : ClassId) (k : ℕ) → k < length (s ∷ []) → get_or (s ∷ []) k c ≡ c → c ≡ s
single_at s c zero h e = sym e
single_at s c (suc k) h e = absurd (omega (arith, h))

single : (s c : ClassId) → Contains (s ∷ []) c → c ≡ s
single s c among = single_at s c among.0 among.1 among.2

pub of_option : (o : Option ClassId) (c : ClassId) → Contains (option_to_list o) c → o ≡ Some c
of_option None c among = absurd (omega (arith, among.1))
of_option (Some s) c among = ap (λ x. Some x) (sym (single s c among))

-- the direct supertypes are those that a walk meets
pub up_among : (classes : List Class) (a b : ClassId) → IsDirectSupertype classes a b → Contains (ups_at classes a) b
up_among classes a b (inl e) =
    let c = some_of (slice_get classes a.0) (λ c. c.superclass ≡ Some b) e in
    let one = subst (λ o. Contains (option_to_list o) b) (sym c.2) (0, omega arith, refl) in
    subst (λ o. Contains (ups_of o) b) (sym c.1) (Contains-append_right c.0.interfaces (option_to_list c.0.superclass) b one)
up_among classes a b (inr d) =
    let c = some_of (slice_get classes a.0) (λ c. Contains c.interfaces b) d in
    subst (λ o. Contains (ups_of o) b) (sym c.1) (Contains-append_left c.0.interfaces (option_to_list c.0.superclass) b c.2)

pub of_class : (classes : List Class) (a b : ClassId) (c : Class) → slice_get classes a.0 ≡ Some c → Contains (ups c) b → IsDirectSupertype classes a b
of_class classes a b c is among =
    elim (Contains-append_cases c.interfaces (option_to_list c.superclass) b among) [
      | inl i ↦ inr (some_and (slice_get classes a.0) (λ c. Contains c.interfaces b) c is i)
      | inr o ↦ inl (some_and (slice_get classes a.0) (λ c. c.superclass ≡ Some b) c is (of_option c.superclass b o))
    ]

pub of_up : (classes : List Class) (a b : ClassId) → Contains (ups_at classes a) b → IsDirectSupertype classes a b
of_up classes a b among =
    elim (slice_get_cases classes a.0).1 [
      | inl r ↦ of_class classes a b r.0 r.2 (subst (λ o. Contains (ups_of o) b) r.2 among)
      | inr r ↦ let none : Contains [] b = subst (λ o. Contains (ups_of o) b) r.1 among in absurd (omega (arith, none.1))
    ]

pub ups_within : (n : ℕ) (classes : List Class) (a : ClassId) → AreWithin n classes → All (λ s. s.0 < n) (ups_at classes a)
ups_within n classes a within =
    elim (slice_get_cases classes a.0).1 [
      | inl r ↦ subst (λ o. All (λ (s : ClassId). s.0 < n) (ups_of o)) (sym r.2) (subst (λ (c : Class). All (λ (s : ClassId). s.0 < n) (ups c)) r.3 (All-get_or (λ (c : Class). All (λ (s : ClassId). s.0 < n) (ups c)) classes a.0 r.0 r.1 within))
      | inr r ↦ subst (λ o. All (λ (s : ClassId). s.0 < n) (ups_of o)) (sym r.1) (All-nil (λ (s : ClassId). s.0 < n))
    ]

-- by number, the same class or another
pub same_or_other : (R : Type 0) (a b : ClassId) → (a ≡ b → R) → (a.0 ≢ b.0 → R) → R
same_or_other R a b same other =
    elim (nat_eq a.0 b.0) as (λ t. nat_eq a.0 b.0 ≡ t → R) [
      | true ↦ λ e. same (equal a b e)
      | false ↦ λ e. other (λ f. differ_by a b e (same_class a b f))
    ] refl

-- the same for indices
pub same_or_other_index : (R : Type 0) (a b : ℕ) → (a ≡ b → R) → (a ≢ b → R) → R
same_or_other_index R a b same other = same_or_other R (record { 0 = a }) (record { 0 = b }) (λ e. same (ap (λ (x : ClassId). x.0) e)) other

long_one : (met : Met) (s : ClassId) → length (meet_one met s).0 ≡ length met.0
long_one met s =
    elim (get_or met.0 s.0 false) as (λ b. length (cond b met (set met.0 s.0 true, met.1 ++ s ∷ [])).0 ≡ length met.0) [
      | true ↦ refl
      | false ↦ length-set met.0 s.0 true
    ]

pub long_all : (met : Met) (cs : List ClassId) → length (meet_all met cs).0 ≡ length met.0
long_all met [] = refl
long_all met (c ∷ cs) = long_all (meet_one met c) cs ∙ long_one met c

set_grows : (met : Met) (s c : ClassId) → s.0 < length met.0 → WasMet met c → get_or (set met.0 s.0 true) c.0 false ≡ true
set_grows met s c h was =
    same_or_other (get_or (set met.0 s.0 true) c.0 false ≡ true) c s
    (λ e. subst (λ (x : ClassId). get_or (set met.0 s.0 true) x.0 false ≡ true) (sym e) (get_or-set_same met.0 s.0 true false h))
    (λ ne. get_or-set_other met.0 s.0 c.0 true false ne ∙ was)

grows_one : (met : Met) (s c : ClassId) → s.0 < length met.0 → WasMet met c → WasMet (meet_one met s) c
grows_one met s c h was =
    elim (get_or met.0 s.0 false) as (λ b. WasMet (cond b met (set met.0 s.0 true, met.1 ++ s ∷ [])) c) [
      | true ↦ was
      | false ↦ set_grows met s c h was
    ]

met_one : (met : Met) (s : ClassId) → s.0 < length met.0 → WasMet (meet_one met s) s
met_one met s h =
    elim (get_or met.0 s.0 false) as (λ b. get_or met.0 s.0 false ≡ b → WasMet (cond b met (set met.0 s.0 true, met.1 ++ s ∷ [])) s) [
      | true ↦ λ e. e
      | false ↦ λ _. get_or-set_same met.0 s.0 true false h
    ] refl

tail_within : (met : Met) (c : ClassId) (cs : List ClassId) → All (λ s. s.0 < length met.0) (c ∷ cs) → All (λ s. s.0 < length (meet_one met c).0) cs
tail_within met c cs h = subst (λ n. All (λ (s : ClassId). s.0 < n) cs) (sym (long_one met c)) (All-tail (λ (s : ClassId). s.0 < length met.0) c cs h)

pub grows_all : (met : Met) (cs : List ClassId) (c : ClassId) → All (λ s. s.0 < length met.0) cs → WasMet met c → WasMet (meet_all met cs) c
grows_all met [] c h was = was
grows_all met (s ∷ cs) c h was =
    grows_all (meet_one met s) cs c (tail_within met s cs h) (grows_one met s c (All-head (λ (s : ClassId). s.0 < length met.0) s cs h) was)

pub each_met : (met : Met) (cs : List ClassId) → All (λ s. s.0 < length met.0) cs → All (WasMet (meet_all met cs)) cs
each_met met [] h = All-nil (WasMet met)
each_met met (s ∷ cs) h =
    let rest = tail_within met s cs h in
    All-cons (WasMet (meet_all met (s ∷ cs))) s cs
    (grows_all (meet_one met s) cs s rest (met_one met s (All-head (λ (s : ClassId). s.0 < length met.0) s cs h)))
    (each_met (meet_one met s) cs rest)

longer_one : (met : Met) (s : ClassId) → length met.1 ≤ length (meet_one met s).1
longer_one met s =
    elim (get_or met.0 s.0 false) as (λ b. length met.1 ≤ length (cond b met (set met.0 s.0 true, met.1 ++ s ∷ [])).1) [
      | true ↦ omega arith
      | false ↦ let long = length-append met.1 (s ∷ []) in omega (arith, long)
    ]

pub longer_all : (met : Met) (cs : List ClassId) → length met.1 ≤ length (meet_all met cs).1
longer_all met [] = omega arith
longer_all met (c ∷ cs) = let one = longer_one met c in let rest = longer_all (meet_one met c) cs in omega (arith, one, rest)

kept_one : (met : Met) (s : ClassId) (i : ℕ) (d : ClassId) → i < length met.1 → get_or (meet_one met s).1 i d ≡ get_or met.1 i d
kept_one met s i d h =
    elim (get_or met.0 s.0 false) as (λ b. get_or (cond b met (set met.0 s.0 true, met.1 ++ s ∷ [])).1 i d ≡ get_or met.1 i d) [
      | true ↦ refl
      | false ↦ get_or-append met.1 (s ∷ []) d i h
    ]

pub kept_all : (met : Met) (cs : List ClassId) (i : ℕ) (d : ClassId) → i < length met.1 → get_or (meet_all met cs).1 i d ≡ get_or met.1 i d
kept_all met [] i d h = refl
kept_all met (c ∷ cs) i d h =
    let one = longer_one met c in
    kept_all (meet_one met c) cs i d (omega (arith, one, h)) ∙ kept_one met c i d h

pub meet_append : (met : Met) (xs ys : List ClassId) → meet_all met (xs ++ ys) ≡ meet_all (meet_all met xs) ys
meet_append met [] ys = refl
meet_append met (x ∷ xs) ys = meet_append (meet_one met x) xs ys

-- the superinterfaces and then the superclass are all
pub whole_with : (met : Met) (classes : List Class) (a : ClassId) (c : Class) (xs : List ClassId) (s : ClassId) → slice_get classes a.0 ≡ Some c → xs ≡ c.interfaces → c.superclass ≡ Some s → meet_one (meet_all met xs) s ≡ meet_all met (ups_at classes a)
whole_with met classes a c xs s is same up =
    ap (λ ys. meet_one (meet_all met ys) s) same
    ∙ (sym (meet_append met c.interfaces (s ∷ [])) ∙ ap (meet_all met) (ap (λ o. c.interfaces ++ option_to_list o) (sym up) ∙ ap ups_of (sym is)))

pub whole_without : (met : Met) (classes : List Class) (a : ClassId) (c : Class) (xs : List ClassId) → slice_get classes a.0 ≡ Some c → xs ≡ c.interfaces → c.superclass ≡ None → meet_all met xs ≡ meet_all met (ups_at classes a)
whole_without met classes a c xs is same up =
    ap (meet_all met) same
    ∙ (sym (meet_append met c.interfaces []) ∙ ap (meet_all met) (ap (λ o. c.interfaces ++ option_to_list o) (sym up) ∙ ap ups_of (sym is)))

pub interfaces_within : (n : ℕ) (classes : List Class) (a : ClassId) (c : Class) (xs : List ClassId) → AreWithin n classes → slice_get classes a.0 ≡ Some c → xs ≡ c.interfaces → All (λ s. s.0 < n) xs
interfaces_within n classes a c xs within is same k d h =
    let s = get_or xs k d in
    All-contains (λ (s : ClassId). s.0 < n) (ups_at classes a) s (ups_within n classes a within)
    (subst (λ o. Contains (ups_of o) s) (sym is) (Contains-append_left c.interfaces (option_to_list c.superclass) s (subst (λ ys. Contains ys s) same (Contains-get_or xs k d h))))

pub superclass_within : (n : ℕ) (classes : List Class) (a : ClassId) (c : Class) (s : ClassId) → AreWithin n classes → slice_get classes a.0 ≡ Some c → c.superclass ≡ Some s → s.0 < n
superclass_within n classes a c s within is up =
    let one = subst (λ o. Contains (option_to_list o) s) (sym up) (0, omega arith, refl) in
    All-contains (λ (s : ClassId). s.0 < n) (ups_at classes a) s (ups_within n classes a within)
    (subst (λ o. Contains (ups_of o) s) (sym is) (Contains-append_right c.interfaces (option_to_list c.superclass) s one))

-- what is met is a supertype, and stands in the order once
pub record IsUnderway (classes : List Class) (from : ClassId) (met : Met) : Type 0 where
  pub long : length met.0 ≡ length classes
  pub sound : (c : ClassId) → WasMet met c → IsProperSubtype classes from c
  pub listed : (c : ClassId) → WasMet met c → Contains met.1 c
  pub only : (c : ClassId) → Contains met.1 c → WasMet met c
  pub count : length met.1 ≡ count_by (λ b. b) met.0

-- a walk that has passed some of what it has met
pub record IsWalking (classes : List Class) (from : ClassId) (next : ℕ) (met : Met) : Type 0 where
  pub under : IsUnderway classes from met
  pub start : All (WasMet met) (ups_at classes from)
  pub done : (i : ℕ) (d : ClassId) → i < next → All (WasMet met) (ups_at classes (get_or met.1 i d))
  pub passed : next ≤ length met.1

module _ (classes : List Class) (from : ClassId) where
  fresh_one : (met : Met) (s : ClassId) → IsUnderway classes from met → s.0 < length met.0 → IsProperSubtype classes from s → get_or met.0 s.0 false ≡ false → IsUnderway classes from (set met.0 s.0 true, met.1 ++ s ∷ [])
  fresh_one met s u h p e =
      record {
        long = length-set met.0 s.0 true ∙ u.long;
        sound = λ c was.
            same_or_other (IsProperSubtype classes from c) c s
            (λ same. subst (IsProperSubtype classes from) (sym same) p)
            (λ ne. u.sound c (sym (get_or-set_other met.0 s.0 c.0 true false ne) ∙ was));
        listed = λ c was.
            same_or_other (Contains (met.1 ++ s ∷ []) c) c s
            (λ same. subst (Contains (met.1 ++ s ∷ [])) (sym same) (Contains-append_right met.1 (s ∷ []) s (0, omega arith, refl)))
            (λ ne. Contains-append_left met.1 (s ∷ []) c (u.listed c (sym (get_or-set_other met.0 s.0 c.0 true false ne) ∙ was)));
        only = λ c among.
            elim (Contains-append_cases met.1 (s ∷ []) c among) [
              | inl old ↦ set_grows met s c h (u.only c old)
              | inr new ↦ subst (λ (x : ClassId). get_or (set met.0 s.0 true) x.0 false ≡ true) (sym (single s c new)) (get_or-set_same met.0 s.0 true false h)
            ];
        count =
            let sums : count_by (λ (b : Bool). b) (set met.0 s.0 true) + 0 ≡ count_by (λ (b : Bool). b) met.0 + 1 = subst (λ b. count_by (λ (b : Bool). b) (set met.0 s.0 true) + cond b 1 0 ≡ count_by (λ (b : Bool). b) met.0 + 1) e (sum_by-set (λ (b : Bool). cond b 1 0) met.0 s.0 true false h) in
            let long = length-append met.1 (s ∷ []) in
            let old = u.count in
            omega (arith, sums, long, old);
      }

  under_one : (met : Met) (s : ClassId) → IsUnderway classes from met → s.0 < length met.0 → IsProperSubtype classes from s → IsUnderway classes from (meet_one met s)
  under_one met s u h p =
      elim (get_or met.0 s.0 false) as (λ b. get_or met.0 s.0 false ≡ b → IsUnderway classes from (cond b met (set met.0 s.0 true, met.1 ++ s ∷ []))) [
        | true ↦ λ _. u
        | false ↦ λ e. fresh_one met s u h p e
      ] refl

  pub under_all : (met : Met) (cs : List ClassId) → IsUnderway classes from met → All (λ s. s.0 < length met.0) cs → All (IsProperSubtype classes from) cs → IsUnderway classes from (meet_all met cs)
  under_all met [] u h p = u
  under_all met (s ∷ cs) u h p =
      under_all (meet_one met s) cs (under_one met s u (All-head (λ (s : ClassId). s.0 < length met.0) s cs h) (All-head (IsProperSubtype classes from) s cs p)) (tail_within met s cs h) (All-tail (IsProperSubtype classes from) s cs p)

  within_met : (met : Met) (a : ClassId) → IsUnderway classes from met → AreWithin (length classes) classes → All (λ s. s.0 < length met.0) (ups_at classes a)
  within_met met a u within = subst (λ n. All (λ (s : ClassId). s.0 < n) (ups_at classes a)) (sym u.long) (ups_within (length classes) classes a within)

  pub walk_starts : (met : Met) → IsUnderway classes from met → AreWithin (length classes) classes → IsWalking classes from 0 (meet_all met (ups_at classes from))
  walk_starts met u within =
      let ups = ups_at classes from in
      let inside = within_met met from u within in
      record {
        under = under_all met ups u inside (λ k d h. types.IsProperSubtype.direct from (get_or ups k d) (of_up classes from (get_or ups k d) (Contains-get_or ups k d h)));
        start = each_met met ups inside;
        done = λ i d h. absurd (omega (arith, h));
        passed = omega arith;
      }

  pub walk_goes_on : (next : ℕ) (met : Met) (c : ClassId) → IsWalking classes from next met → next < length met.1 → c ≡ get_or met.1 next c → AreWithin (length classes) classes → IsWalking classes from (next + 1) (meet_all met (ups_at classes c))
  walk_goes_on next met c w h is within =
      let ups = ups_at classes c in
      let inside = within_met met c w.under within in
      let was : WasMet met c = w.under.only c (next, h, sym is) in
      let more : length met.1 ≤ length (meet_all met ups).1 = longer_all met ups in
      record {
        under = under_all met ups w.under inside
            (λ k d l. types.IsProperSubtype.through from c (get_or ups k d) (w.under.sound c was) (types.IsProperSubtype.direct c (get_or ups k d) (of_up classes c (get_or ups k d) (Contains-get_or ups k d l))));
        start = λ k d l. grows_all met ups (get_or (ups_at classes from) k d) inside (w.start k d l);
        done = λ i d l.
            let low : i < length met.1 = omega (arith, l, h) in
            subst (λ (x : ClassId). All (WasMet (meet_all met ups)) (ups_at classes x)) (sym (kept_all met ups i d low))
            (elim (before i next) [
              | inl past ↦ λ k e l. grows_all met ups (get_or (ups_at classes (get_or met.1 i d)) k e) inside (w.done i d past k e l)
              | inr here ↦
                  let same : i ≡ next = omega (arith, l, here) in
                  let read : get_or met.1 i d ≡ c = ap (λ j. get_or met.1 j d) same ∙ (same_read met.1 next d c h ∙ sym is) in
                  subst (λ (x : ClassId). All (WasMet (meet_all met ups)) (ups_at classes x)) (sym read) (each_met met ups inside)
            ]);
        passed = omega (arith, h, more);
      }

  -- a walk that has passed all has met all supertypes
  pub complete : (met : Met) (next : ℕ) → IsWalking classes from next met → length met.1 ≤ next → (a b : ClassId) → IsProperSubtype classes a b → (a ≡ from) ⊎ WasMet met a → WasMet met b
  complete met next w end a b (types.IsProperSubtype.direct x y d) (inl e) =
      All-contains (WasMet met) (ups_at classes from) y w.start (up_among classes from y (subst (λ z. IsDirectSupertype classes z y) e d))
  complete met next w end a b (types.IsProperSubtype.direct x y d) (inr m) =
      let at = w.under.listed x m in
      All-contains (WasMet met) (ups_at classes x) y (subst (λ (z : ClassId). All (WasMet met) (ups_at classes z)) at.2 (w.done at.0 x (omega (arith, at.1, end)))) (up_among classes x y d)
  complete met next w end a b (types.IsProperSubtype.through x m y p q) start =
      complete met next w end m y q (inr (complete met next w end x m p start))

-- nothing is met at first
pub count_cons : (b : Bool) (bs : List Bool) → count_by (λ (b : Bool). b) (b ∷ bs) ≡ cond b 1 0 + count_by (λ (b : Bool). b) bs
count_cons b bs = sum_by-append (λ (b : Bool). cond b 1 0) (b ∷ []) bs ∙ ap (λ n. n + count_by (λ (b : Bool). b) bs) (zero-add (cond b 1 0))
