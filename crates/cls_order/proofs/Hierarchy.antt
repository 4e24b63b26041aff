use Rattle.std.proofs.Common.{◌≡◌, ◌≢◌, ℕ, ◌<◌, ◌⊎◌, inl, inr, Option, Some, None, List, ◌++◌, length, get_or, refl, sym, subst, ap, ◌∙◌, arith, not, Bool, true, false, nat_eq, take, ◌≤◌}
use Rattle.std.proofs.lemmas.Bool.Decides.{nat_tests}
use Rattle.std.specs.Prelude.{All, Contains, IfSome, IsSomeAnd, slice_get, option_to_list, option_map}
use Rattle.std.proofs.lemmas.List.{take_all}
use Rattle.std.proofs.lemmas.Option.{slice_get-map, slice_get-get_or, slice_get_cases, slice_get_within}
use Rattle.std.proofs.lemmas.List.Elements.{All-contains, All-get_or, Contains-append_right}
use Rattle.cls_order.specs.declared.class.Class.{Class}
use Rattle.space_ids.specs.declared.ids.ClassId.{ClassId}
use Rattle.cls_order.specs.declared.entries.Entry.{Entry}
use Rattle.cls_order.specs.Classes.{direct_supertypes}
use Rattle.cls_order.specs.Entries.{classes_of, IsRanked}
use Rattle.cls_order.specs.Marks.{rank_at, rank_in}
use Rattle.cls_order.specs.Subtypes as types
use Rattle.cls_order.specs.Subtypes.{Extends, Declares, IsSubclass, IsSubtype}

-- the value that there is, with the fact
pub some_of : {X : Type 0} (o : Option X) (P : X → Type 0) → IsSomeAnd o P → (x : X) × (o ≡ Some x) × P x
some_of None P h = absurd h
some_of (Some x) P h = (x, refl, h)

pub some_and : {X : Type 0} (o : Option X) (P : X → Type 0) (x : X) → o ≡ Some x → P x → IsSomeAnd o P
some_and o P x e h = subst (λ o. IsSomeAnd o P) (sym e) h

pub at_some : {X : Type 0} (o : Option X) (P : X → Type 0) (x : X) → o ≡ Some x → IsSomeAnd o P → P x
at_some o P x e h = subst (λ o. IsSomeAnd o P) e h

not_itself : (n : ℕ) → not (nat_eq n n) ≡ true → ⊥
not_itself n e = grind (arith, nat_tests)

not_same : (n : ℕ) → nat_eq n n ≡ false → ⊥
not_same n e = grind (arith, nat_tests)

pub true_false : true ≡ false → ⊥
true_false e = cc

pub not_true : (b : Bool) → b ≡ false → b ≡ true → ⊥
not_true b e f = true_false (sym f ∙ e)

nat_is : (m n : ℕ) → nat_eq m n ≡ true → m ≡ n
nat_is m n e = grind (arith, nat_tests)

pub same_some : {X : Type 0} {x y : X} → Some x ≡ Some y → x ≡ y
same_some e = cc

pub none_some : {X : Type 0} {x : X} → None ≡ Some x → ⊥
none_some e = cc

pub same_read : {X : Type 0} (xs : List X) (i : ℕ) (d e : X) → i < length xs → get_or xs i d ≡ get_or xs i e
same_read xs i d e h = same_some (sym (slice_get-get_or xs i d h) ∙ slice_get-get_or xs i e h)

-- the class of the entry that was read
pub class_read : (entries : List Entry) (m : Entry) (k j : ℕ) → k ≡ j → j < length entries → slice_get (classes_of entries) j ≡ Some (get_or entries k m).class
class_read entries m k j e h =
    slice_get-map (λ m. m.class) entries j ∙ (ap (option_map (λ (m : Entry). m.class)) (slice_get-get_or entries j m h) ∙ ap (λ i. Some (get_or entries i m).class) (sym e))

pub class_of_read : (entries : List Entry) (m : Entry) (k j : ℕ) → k ≡ j → j < length entries → m ≡ get_or entries k m → slice_get (classes_of entries) j ≡ Some m.class
class_of_read entries m k j e h is = class_read entries m k j e h ∙ ap (λ (m : Entry). Some m.class) (sym is)

pub differ_by : (a b : ClassId) → nat_eq a.0 b.0 ≡ false → a ≢ b
differ_by a b e same = not_same a.0 (subst (λ (x : ClassId). nat_eq a.0 x.0 ≡ false) (sym same) e)

pub by_contradiction : (b : Bool) → (b ≡ false → ⊥) → b ≡ true
by_contradiction true h = refl
by_contradiction false h = absurd (h refl)

pub by_contradiction_false : (b : Bool) → (b ≡ true → ⊥) → b ≡ false
by_contradiction_false true h = absurd (h refl)
by_contradiction_false false h = refl

-- what holds of all that a loop has passed holds of the whole list
pub All-whole : {X : Type 0} (P : X → Type 0) (xs : List X) (i : ℕ) (ys : List X) → length xs ≤ i → xs ≡ ys → All P (take i xs) → All P ys
All-whole P xs i ys h e all = subst (All P) (take_all i xs h ∙ e) all

pub equal : (a b : ClassId) → nat_eq a.0 b.0 ≡ true → a ≡ b
equal a b e = ap (λ n. record { 0 = n }) (nat_is a.0 b.0 e)

-- what the test says
pub differ : (a b : ClassId) → not (nat_eq a.0 b.0) ≡ true → a ≢ b
differ a b e same = not_itself a.0 (subst (λ (x : ClassId). not (nat_eq a.0 x.0) ≡ true) (sym same) e)

-- the rank of a class
abbrev pub rank_of : List Entry → ClassId → ℕ
rank_of entries c = rank_at entries c.0

-- a direct supertype stands in the set, with a lower rank
pub record IsLower (entries : List Entry) (c : ClassId) (s : ClassId) : Type 0 where
  pub in_set : s.0 < length entries
  pub lower : rank_of entries s < rank_of entries c

lower : (entries : List Entry) (c : ClassId) (k : Class) (s : ClassId) → All (IsRanked entries) entries → slice_get (classes_of entries) c.0 ≡ Some k → Contains (direct_supertypes k) s → IsLower entries c s
lower entries c k s ranked e among =
    elim (slice_get_cases entries c.0).1 [
      | inl r ↦
          let m = r.0 in
          let same : m.class ≡ k = same_some (sym (slice_get-map (λ m. m.class) entries c.0 ∙ ap (option_map (λ (m : Entry). m.class)) r.2) ∙ e) in
          let above : IsRanked entries m = subst (IsRanked entries) r.3 (All-get_or (IsRanked entries) entries c.0 m r.1 ranked) in
          let P : ClassId → Type 0 = λ t. IsSomeAnd (slice_get entries t.0) (λ n. n.rank < m.rank) in
          let found = some_of (slice_get entries s.0) (λ n. n.rank < m.rank) (All-contains P (direct_supertypes m.class) s above (subst (λ k. Contains (direct_supertypes k) s) (sym same) among)) in
          record {
            in_set = slice_get_within entries s.0 found.0 found.1;
            lower = subst (λ o. rank_of entries s < rank_in o) (sym r.2) (subst (λ o. rank_in o < m.rank) (sym found.1) found.2);
          }
      | inr r ↦ absurd (none_some (sym (slice_get-map (λ m. m.class) entries c.0 ∙ ap (option_map (λ (m : Entry). m.class)) r.1) ∙ e))
    ]

pub superclass_lower : (entries : List Entry) (c : ClassId) (k : Class) (s : ClassId) → All (IsRanked entries) entries → slice_get (classes_of entries) c.0 ≡ Some k → k.superclass ≡ Some s → IsLower entries c s
superclass_lower entries c k s ranked e is =
    lower entries c k s ranked e (subst (λ o. Contains (option_to_list o ++ k.interfaces) s) (sym is) (0, omega arith, refl))

pub superinterface_lower : (entries : List Entry) (c : ClassId) (k : Class) (s : ClassId) → All (IsRanked entries) entries → slice_get (classes_of entries) c.0 ≡ Some k → Contains k.interfaces s → IsLower entries c s
superinterface_lower entries c k s ranked e among =
    lower entries c k s ranked e (Contains-append_right (option_to_list k.superclass) k.interfaces s among)

-- a subclass is the class itself, or its direct superclass is a subclass
module _ (classes : List Class) where
  pub subclass_first : {a b : ClassId} → IsSubclass classes a b → (a ≡ b) ⊎ ((m : ClassId) × Extends classes a m × IsSubclass classes m b)
  subclass_first (types.IsSubclass.itself c) = inl refl
  subclass_first (types.IsSubclass.superclass a b e) = inr (b, e, types.IsSubclass.itself b)
  subclass_first (types.IsSubclass.through a m b p q) =
      elim (subclass_first p) [
        | inl e ↦ subst (λ x. (x ≡ b) ⊎ ((m : ClassId) × Extends classes x m × IsSubclass classes m b)) (sym e) (subclass_first q)
        | inr r ↦ inr (r.0, r.1, types.IsSubclass.through r.0 m b r.2 q)
      ]

  extended : (a m : ClassId) (c : Class) → slice_get classes a.0 ≡ Some c → Extends classes a m → c.superclass ≡ Some m
  extended a m c e h = at_some (slice_get classes a.0) (λ c. c.superclass ≡ Some m) c e h

  pub subclass_up : (a b s : ClassId) (c : Class) → slice_get classes b.0 ≡ Some c → c.superclass ≡ Some s → IsSubclass classes a b → IsSubclass classes a s
  subclass_up a b s c e is h =
      types.IsSubclass.through a b s h (types.IsSubclass.superclass b s (some_and (slice_get classes b.0) (λ c. c.superclass ≡ Some s) c e is))

  pub subclass_on : (a m b : ClassId) (c : Class) → slice_get classes a.0 ≡ Some c → c.superclass ≡ Some m → a ≢ b → IsSubclass classes a b → IsSubclass classes m b
  subclass_on a m b c e is ne h =
      elim (subclass_first h) [
        | inl same ↦ absurd (ne same)
        | inr r ↦ let one : r.0 ≡ m = same_some (sym (extended a r.0 c e r.1) ∙ is) in subst (λ x. IsSubclass classes x b) one r.2
      ]

  pub subclass_ends : (a b : ClassId) (c : Class) → slice_get classes a.0 ≡ Some c → c.superclass ≡ None → a ≢ b → IsSubclass classes a b → ⊥
  subclass_ends a b c e is ne h =
      elim (subclass_first h) [
        | inl same ↦ ne same
        | inr r ↦ none_some (sym is ∙ extended a r.0 c e r.1)
      ]

  -- a subtype is the class itself, or a direct supertype is a subtype
  pub subtype_first : {a b : ClassId} → IsSubtype classes a b → (a ≡ b) ⊎ ((m : ClassId) × (Extends classes a m ⊎ Declares classes a m) × IsSubtype classes m b)
  subtype_first (types.IsSubtype.itself c) = inl refl
  subtype_first (types.IsSubtype.superclass a b e) = inr (b, inl e, types.IsSubtype.itself b)
  subtype_first (types.IsSubtype.superinterface a b e) = inr (b, inr e, types.IsSubtype.itself b)
  subtype_first (types.IsSubtype.through a m b p q) =
      elim (subtype_first p) [
        | inl e ↦ subst (λ x. (x ≡ b) ⊎ ((m : ClassId) × (Extends classes x m ⊎ Declares classes x m) × IsSubtype classes m b)) (sym e) (subtype_first q)
        | inr r ↦ inr (r.0, r.1, types.IsSubtype.through r.0 m b r.2 q)
      ]

  -- a class with no supertype below is no subtype of another
  pub subtype_ends : (a b : ClassId) (c : Class) → slice_get classes a.0 ≡ Some c → a ≢ b → All (λ s. IsSubtype classes s b → ⊥) c.interfaces → IfSome c.superclass (λ s. IsSubtype classes s b → ⊥) → IsSubtype classes a b → ⊥
  subtype_ends a b c e ne interfaces superclass h =
      elim (subtype_first h) [
        | inl same ↦ ne same
        | inr r ↦
            elim r.1 [
              | inl up ↦ subst (λ o. IfSome o (λ s. IsSubtype classes s b → ⊥)) (extended a r.0 c e up) superclass r.2
              | inr up ↦ All-contains (λ s. IsSubtype classes s b → ⊥) c.interfaces r.0 interfaces (at_some (slice_get classes a.0) (λ c. Contains c.interfaces r.0) c e up) r.2
            ]
      ]

  pub subtype_by_superclass : (a s b : ClassId) (c : Class) → slice_get classes a.0 ≡ Some c → c.superclass ≡ Some s → IsSubtype classes s b → IsSubtype classes a b
  subtype_by_superclass a s b c e is h =
      types.IsSubtype.through a s b (types.IsSubtype.superclass a s (some_and (slice_get classes a.0) (λ c. c.superclass ≡ Some s) c e is)) h

  pub subtype_by_superinterface : (a s b : ClassId) (c : Class) → slice_get classes a.0 ≡ Some c → Contains c.interfaces s → IsSubtype classes s b → IsSubtype classes a b
  subtype_by_superinterface a s b c e among h =
      types.IsSubtype.through a s b (types.IsSubtype.superinterface a s (some_and (slice_get classes a.0) (λ c. Contains c.interfaces s) c e among)) h

  pub same_subtype : (a b : ClassId) → nat_eq a.0 b.0 ≡ true → IsSubtype classes a b
  same_subtype a b e = subst (λ x. IsSubtype classes a x) (equal a b e) (types.IsSubtype.itself a)
