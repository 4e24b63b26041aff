-- Supertypes by number are those by name.
use Rattle.std.proofs.Common.{◌≡◌, ℕ, ◌<◌, inl, inr, Option, Some, None, List, [], ◌∷◌, ◌++◌, length, get_or, map, refl, sym, subst, ap, ◌∙◌, arith}
use Rattle.std.specs.Prelude.{All, Contains, slice_get, option_map, option_to_list}
use Rattle.std.specs.List.Sorted.{IsStrictlySortedBy}
use Rattle.std.specs.Ordering.{ordering_reverse}
use Rattle.std.specs.declared.cmp.Ordering.TheVariants.{Less, Greater}
use Rattle.std.proofs.lemmas.Cmp.{nat_list_cmp_total}
use Rattle.std.proofs.lemmas.List.{get_or-map, length-map, map-append}
use Rattle.std.proofs.lemmas.List.Elements.{All-get_or, Contains-append_cases, Contains-append_left, Contains-append_right}
use Rattle.std.proofs.lemmas.Option.{slice_get_cases, slice_get_within, slice_get-get_or, slice_get-map}
use Rattle.cls_order.specs.declared.class.Class.{Class}
use Rattle.space_ids.specs.declared.ids.ClassId.{ClassId}
use Rattle.cls_order.specs.Classes.{name_cmp, names, direct_supertypes}
use Rattle.cls_order.specs.Sets as sets
use Rattle.cls_order.specs.Sets.{Origin, origin, super_names, IsResolved, IsFirstCycle, IsSupertypeByName, NamesSupertype}
use Rattle.cls_order.specs.Subtypes as types
use Rattle.cls_order.specs.Subtypes.{IsDirectSupertype, IsProperSubtype}
use Rattle.cls_order.specs.Walks.{ups, ups_of, IsFirstOwn, IsOwn}
use Rattle.cls_order.proofs.Hierarchy.{same_some, none_some, same_read}
use Rattle.cls_order.proofs.Names.{sorted_far}
use Rattle.cls_order.proofs.Walks.{before, same_class, of_class, up_among}

-- a class has this name
abbrev pub HasName : List Class → ClassId → List ℕ → Type 0
HasName classes id name = slice_get (names classes) id.0 ≡ Some name

less_greater : Less ≡ Greater → ⊥
less_greater e = cc

not_below : (x : List ℕ) → name_cmp x x ≡ Less → ⊥
not_below x e = less_greater (sym e ∙ (nat_list_cmp_total.antisymm x x ∙ ap ordering_reverse e))

not_both : (x y : List ℕ) → name_cmp x y ≡ Less → name_cmp y x ≡ Less → ⊥
not_both x y e f = less_greater (sym e ∙ (nat_list_cmp_total.antisymm x y ∙ ap ordering_reverse f))

name_here : (ns : List (List ℕ)) (i : ℕ) (name : List ℕ) → slice_get ns i ≡ Some name → get_or ns i [] ≡ name
name_here ns i name e = same_some (sym (slice_get-get_or ns i [] (slice_get_within ns i name e)) ∙ e)

-- of two names the later is at a later index
pub later : (ns : List (List ℕ)) (i j : ℕ) (x y : List ℕ) → IsStrictlySortedBy name_cmp ns → slice_get ns i ≡ Some x → slice_get ns j ≡ Some y → name_cmp x y ≡ Less → i < j
later ns i j x y s e f less =
    elim (before i j) [
      | inl low ↦ low
      | inr high ↦
          elim (before j i) [
            | inl above ↦
                let far = sorted_far name_cmp ns j i [] s above (slice_get_within ns i x e) in
                absurd (not_both x y less (subst (λ b. name_cmp y b ≡ Less) (name_here ns i x e) (subst (λ a. name_cmp a (get_or ns i []) ≡ Less) (name_here ns j y f) far)))
            | inr below ↦
                let same : i ≡ j = omega (arith, high, below) in
                let one : x ≡ y = same_some (sym e ∙ (ap (slice_get ns) same ∙ f)) in
                absurd (not_below y (subst (λ a. name_cmp a y ≡ Less) one less))
          ]
    ]

-- a name stands at one index
pub one_index : (ns : List (List ℕ)) (i j : ℕ) (x : List ℕ) → IsStrictlySortedBy name_cmp ns → slice_get ns i ≡ Some x → slice_get ns j ≡ Some x → i ≡ j
one_index ns i j x s e f =
    elim (before i j) [
      | inl low ↦
          let far = sorted_far name_cmp ns i j [] s low (slice_get_within ns j x f) in
          absurd (not_below x (subst (λ b. name_cmp x b ≡ Less) (name_here ns j x f) (subst (λ a. name_cmp a (get_or ns j []) ≡ Less) (name_here ns i x e) far)))
      | inr high ↦
          elim (before j i) [
            | inl above ↦
                let far = sorted_far name_cmp ns j i [] s above (slice_get_within ns i x e) in
                absurd (not_below x (subst (λ b. name_cmp x b ≡ Less) (name_here ns i x e) (subst (λ a. name_cmp a (get_or ns i []) ≡ Less) (name_here ns j x f) far)))
            | inr below ↦ omega (arith, high, below)
          ]
    ]

one_option : (ns : List (List ℕ)) (id : Option ClassId) (name : Option (List ℕ)) → option_map (λ (id : ClassId). slice_get ns id.0) id ≡ option_map (λ (n : List ℕ). Some n) name → map (λ (id : ClassId). slice_get ns id.0) (option_to_list id) ≡ map (λ (n : List ℕ). Some n) (option_to_list name)
one_option ns None None e = refl
one_option ns (Some id) (Some name) e = ap (λ x. x ∷ []) (same_some e)
one_option ns None (Some name) e = absurd (none_some e)
one_option ns (Some id) None e = absurd (none_some (sym e))

-- the direct supertypes by number have the names by which they are declared
pub ids_named : (ns : List (List ℕ)) (c : Class) → IsResolved ns c → map (λ (id : ClassId). slice_get ns id.0) (direct_supertypes c) ≡ map (λ (n : List ℕ). Some n) (super_names c.file)
ids_named ns c r =
    let at : ClassId → Option (List ℕ) = λ id. slice_get ns id.0 in
    let some : List ℕ → Option (List ℕ) = λ n. Some n in
    map-append at (option_to_list c.superclass) c.interfaces
    ∙ (ap (λ xs. xs ++ map at c.interfaces) (one_option ns c.superclass c.file.superclass r.superclass)
    ∙ (ap (λ xs. map some (option_to_list c.file.superclass) ++ xs) r.interfaces
    ∙ sym (map-append some (option_to_list c.file.superclass) c.file.interfaces)))

module _ (ns : List (List ℕ)) (ids : List ClassId) (given : List (List ℕ)) (same : map (λ (id : ClassId). slice_get ns id.0) ids ≡ map (λ (n : List ℕ). Some n) given) where
  long : length ids ≡ length given
  long = sym (length-map ids (λ (id : ClassId). slice_get ns id.0)) ∙ (ap length same ∙ length-map given (λ (n : List ℕ). Some n))

  paired : (i : ℕ) (d : ClassId) → i < length ids → slice_get ns (get_or ids i d).0 ≡ Some (get_or given i [])
  paired i d h =
      sym (get_or-map (λ (id : ClassId). slice_get ns id.0) ids i d None h)
      ∙ (ap (λ (os : List (Option (List ℕ))). get_or os i None) same ∙ get_or-map (λ (n : List ℕ). Some n) given i [] None (subst (λ n. i < n) long h))

  pub to_name : (b : ClassId) → Contains ids b → (n : List ℕ) × Contains given n × (slice_get ns b.0 ≡ Some n)
  to_name b among =
      let i = among.0 in
      (get_or given i [], (i, subst (λ n. i < n) long among.1, same_read given i (get_or given i []) [] (subst (λ n. i < n) long among.1)), ap (λ (id : ClassId). slice_get ns id.0) (sym among.2) ∙ paired i b among.1)

  pub to_id : (n : List ℕ) → Contains given n → (b : ClassId) × Contains ids b × (slice_get ns b.0 ≡ Some n)
  to_id n among =
      let i = among.0 in
      let h : i < length ids = subst (λ n. i < n) (sym long) among.1 in
      let b : ClassId = get_or ids i (record { 0 = 0 }) in
      (b, (i, h, same_read ids i b (record { 0 = 0 }) h), paired i (record { 0 = 0 }) h ∙ ap (λ x. Some x) (same_read given i [] n among.1 ∙ among.2))

-- a resolved class has no absent supertype
pub supertype_present : (ns : List (List ℕ)) (c : Class) → IsResolved ns c → (name : List ℕ) → Contains (super_names c.file) name → (Contains ns name → ⊥) → ⊥
supertype_present ns c r name among none =
    let id = to_id ns (direct_supertypes c) (super_names c.file) (ids_named ns c r) name among in
    let h = slice_get_within ns id.0.0 name id.2 in
    none (id.0.0, h, same_some (sym (slice_get-get_or ns id.0.0 name h) ∙ id.2))

pub turned : (c : Class) (s : ClassId) → Contains (ups c) s → Contains (direct_supertypes c) s
turned c s among =
    elim (Contains-append_cases c.interfaces (option_to_list c.superclass) s among) [
      | inl i ↦ Contains-append_right (option_to_list c.superclass) c.interfaces s i
      | inr o ↦ Contains-append_left (option_to_list c.superclass) c.interfaces s o
    ]

back : (c : Class) (s : ClassId) → Contains (direct_supertypes c) s → Contains (ups c) s
back c s among =
    elim (Contains-append_cases (option_to_list c.superclass) c.interfaces s among) [
      | inl o ↦ Contains-append_right c.interfaces (option_to_list c.superclass) s o
      | inr i ↦ Contains-append_left c.interfaces (option_to_list c.superclass) s i
    ]

-- more classes name no fewer supertypes
pub more_named : (xs ys : List Origin) → ((o : Origin) → Contains xs o → Contains ys o) → (a b : List ℕ) → IsSupertypeByName xs a b → IsSupertypeByName ys a b
more_named xs ys also a b (sets.IsSupertypeByName.direct x y n) =
    sets.IsSupertypeByName.direct x y (record { class = n.class; stands = also n.class n.stands; named = n.named; declared = n.declared })
more_named xs ys also a b (sets.IsSupertypeByName.through x m y p q) =
    sets.IsSupertypeByName.through x m y (more_named xs ys also x m p) (more_named xs ys also m y q)

-- a proper subtype is ranked above
pub ranked_above : (classes : List Class) (rank : ClassId → ℕ) → ((sub sup : ClassId) → IsDirectSupertype classes sub sup → rank sup < rank sub) → (sub sup : ClassId) → IsProperSubtype classes sub sup → rank sup < rank sub
ranked_above classes rank ranked sub sup (types.IsProperSubtype.direct a b d) = ranked a b d
ranked_above classes rank ranked sub sup (types.IsProperSubtype.through a m b p q) =
    let low = ranked_above classes rank ranked a m p in
    let high = ranked_above classes rank ranked m b q in
    omega (arith, low, high)

module _ (classes : List Class) (ordered : IsStrictlySortedBy name_cmp (names classes)) (resolved : All (IsResolved (names classes)) classes) where
  pub class_named : (i : ℕ) (c : Class) → slice_get classes i ≡ Some c → slice_get (names classes) i ≡ Some c.file.name
  class_named i c e = slice_get-map (λ (c : Class). c.file.name) classes i ∙ ap (option_map (λ (c : Class). c.file.name)) e

  pub resolved_read : (i : ℕ) (c : Class) → slice_get classes i ≡ Some c → IsResolved (names classes) c
  resolved_read i c e =
      let h = slice_get_within classes i c e in
      subst (IsResolved (names classes)) (same_some (sym (slice_get-get_or classes i c h) ∙ e)) (All-get_or (IsResolved (names classes)) classes i c h resolved)

  stands : (i : ℕ) (c : Class) → slice_get classes i ≡ Some c → Contains (map origin classes) (origin c)
  stands i c e =
      let h = slice_get_within classes i c e in
      (i, subst (λ n. i < n) (sym (length-map classes origin)) h, get_or-map origin classes i c (origin c) h ∙ ap origin (same_some (sym (slice_get-get_or classes i c h) ∙ e)))

  -- the class at which an origin stands
  pub standing : (o : Origin) → Contains (map origin classes) o → (i : ℕ) × (c : Class) × (slice_get classes i ≡ Some c) × (origin c ≡ o)
  standing o among =
      let i = among.0 in
      let h : i < length classes = subst (λ n. i < n) (length-map classes origin) among.1 in
      elim (slice_get_cases classes i).1 [
        | inl r ↦ (i, r.0, r.2, ap origin (sym r.3) ∙ (sym (get_or-map origin classes i r.0 o h) ∙ among.2))
        | inr r ↦ absurd (omega (arith, h, r.0))
      ]

  -- from numbers to names
  pub direct_name : (a b : ClassId) (x : List ℕ) → HasName classes a x → IsDirectSupertype classes a b → (y : List ℕ) × HasName classes b y × NamesSupertype (map origin classes) x y
  direct_name a b x e d =
      elim (slice_get_cases classes a.0).1 [
        | inl r ↦
            let c = r.0 in
            let among : Contains (direct_supertypes c) b = turned c b (subst (λ o. Contains (ups_of o) b) r.2 (up_among classes a b d)) in
            let found = to_name (names classes) (direct_supertypes c) (super_names c.file) (ids_named (names classes) c (resolved_read a.0 c r.2)) b among in
            (found.0, found.2, record { class = origin c; stands = stands a.0 c r.2; named = same_some (sym (class_named a.0 c r.2) ∙ e); declared = found.1 })
        | inr r ↦ absurd (none_some (sym (slice_get-map (λ (c : Class). c.file.name) classes a.0 ∙ ap (option_map (λ (c : Class). c.file.name)) r.1) ∙ e))
      ]

  pub by_name : (a b : ClassId) (x : List ℕ) → HasName classes a x → IsProperSubtype classes a b → (y : List ℕ) × HasName classes b y × IsSupertypeByName (map origin classes) x y
  by_name a b x e (types.IsProperSubtype.direct p q d) =
      let y = direct_name p q x e d in
      (y.0, y.1, sets.IsSupertypeByName.direct x y.0 y.2)
  by_name a b x e (types.IsProperSubtype.through p m q f g) =
      let y = by_name p m x e f in
      let z = by_name m q y.0 y.1 g in
      (z.0, z.1, sets.IsSupertypeByName.through x y.0 z.0 y.2 z.2)

  -- from names to numbers
  pub named_at : (x y : List ℕ) → IsSupertypeByName (map origin classes) x y → (a : ClassId) × HasName classes a x
  named_at x y (sets.IsSupertypeByName.direct p q n) =
      let at = standing n.class n.stands in
      (record { 0 = at.0 }, class_named at.0 at.1 at.2 ∙ ap (λ x. Some x) (ap (λ (o : Origin). o.0.name) at.3 ∙ n.named))
  named_at x y (sets.IsSupertypeByName.through p m q f g) = named_at p m f

  pub by_number : (x y : List ℕ) (a : ClassId) → HasName classes a x → IsSupertypeByName (map origin classes) x y → (b : ClassId) × HasName classes b y × IsProperSubtype classes a b
  by_number x y a e (sets.IsSupertypeByName.direct p q n) =
      let at = standing n.class n.stands in
      let c = at.1 in
      let called : slice_get (names classes) at.0 ≡ Some p = class_named at.0 c at.2 ∙ ap (λ x. Some x) (ap (λ (o : Origin). o.0.name) at.3 ∙ n.named) in
      let index : at.0 ≡ a.0 = one_index (names classes) at.0 a.0 p ordered called e in
      let is : slice_get classes a.0 ≡ Some c = subst (λ i. slice_get classes i ≡ Some c) index at.2 in
      let declared : Contains (super_names c.file) q = subst (λ (o : Origin). Contains (super_names o.0) q) (sym at.3) n.declared in
      let found = to_id (names classes) (direct_supertypes c) (super_names c.file) (ids_named (names classes) c (resolved_read a.0 c is)) q declared in
      (found.0, found.2, types.IsProperSubtype.direct a found.0 (of_class classes a found.0 c is (back c found.0 found.1)))
  by_number x y a e (sets.IsSupertypeByName.through p m q f g) =
      let b = by_number p m a e f in
      let c = by_number m q b.0 b.1 g in
      (c.0, c.1, types.IsProperSubtype.through a b.0 c.0 b.2 c.2)

  -- a class is its own supertype by name if it is by number
  pub own_by_number : (x : List ℕ) → IsSupertypeByName (map origin classes) x x → (k : ℕ) × (slice_get (names classes) k ≡ Some x) × IsOwn classes k
  own_by_number x s =
      let a = named_at x x s in
      let b = by_number x x a.0 a.1 s in
      let same : b.0 ≡ a.0 = same_class b.0 a.0 (one_index (names classes) b.0.0 a.0.0 x ordered b.1 a.1) in
      (a.0.0, a.1, subst (IsProperSubtype classes a.0) same b.2)

  pub own_by_name : (k : ℕ) (x : List ℕ) → slice_get (names classes) k ≡ Some x → IsOwn classes k → IsSupertypeByName (map origin classes) x x
  own_by_name k x e own =
      let y = by_name (record { 0 = k }) (record { 0 = k }) x e own in
      subst (IsSupertypeByName (map origin classes) x) (same_some (sym y.1 ∙ e)) y.2

  pub first_cycle : (k : ℕ) (x : List ℕ) → slice_get (names classes) k ≡ Some x → IsFirstOwn classes k → IsFirstCycle (map origin classes) x
  first_cycle k x e f =
      record {
        cycle = own_by_name k x e f.own;
        first = λ other less s.
            let own = own_by_number other s in
            f.first own.0 (later (names classes) own.0 k other x ordered own.1 e less) own.2;
      }

  -- no ranked class is its own supertype
  pub none_own : (rank : ClassId → ℕ) → ((sub sup : ClassId) → IsDirectSupertype classes sub sup → rank sup < rank sub) → (x : List ℕ) → IsSupertypeByName (map origin classes) x x → ⊥
  none_own rank ranked x s =
      let own = own_by_number x s in
      let id : ClassId = record { 0 = own.0 } in
      let low = ranked_above classes rank ranked id id own.2 in
      absurd (omega (arith, low))
