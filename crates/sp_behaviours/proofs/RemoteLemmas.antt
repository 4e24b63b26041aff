-- The fields of a remote class are ints and references of interfaces, where files keep the rule on them.
use Rattle.std.proofs.Common.{◌≡◌, ◌⊎◌, inl, inr, ℕ, zero, suc, ◌<◌, Bool, true, false, Option, Some, None, List, [], ◌∷◌, ◌++◌, length, map, refl, sym, subst, ap, ◌∙◌, arith}
use Rattle.std.specs.Prelude.{◌==◌, ◌&&◌, if◌then◌else◌, Contains, IsSomeAnd, bit_and, codes, slice_get}
use Rattle.std.specs.Option.{option_map_or}
use Rattle.std.proofs.lemmas.Bool.{eqb-true}
use Rattle.std.proofs.lemmas.List.{get_or-map, length-map}
use Rattle.std.proofs.lemmas.List.Elements.{Contains-append_right}
use Rattle.std.proofs.lemmas.List.Sorted.{Contains-permutation, IsPermutation-sym}
use Rattle.std.proofs.lemmas.Option.{slice_get-get_or, slice_get_within}
use Rattle.cf_text.specs.declared.types.ElementType.TheVariants as elements
use Rattle.cf_text.specs.declared.types.FieldType.{FieldType}
use Rattle.cf_reader.specs.declared.class_file.ClassFile.{ClassFile}
use Rattle.cf_reader.specs.declared.class_file.Field.{Field}
use Rattle.cf_reader.specs.declared.flags.TheConstants.Flags.{INTERFACE, STATIC}
use Rattle.cls_order.proofs.Absent.{name_absent}
use Rattle.cls_order.proofs.Cycles.{by_name, class_named, more_named, one_index, standing}
use Rattle.cls_order.specs.declared.fault.SetRule.TheVariants.{RemoteField}
use Rattle.cls_link.specs.Fields.{is_instance}
use Rattle.cls_set.proofs.Hierarchy.{at_some, none_some, same_some, some_and, some_of}
use Rattle.cls_set.proofs.Names.{name_at_number}
use Rattle.cls_set.proofs.Remotes.{named_among, proper_of_subtype}
use Rattle.cls_set.specs.Classes.{IsInterface, names, number_of}
use Rattle.cls_set.specs.Faults.{IsKept}
use Rattle.cls_set.specs.Rules.{Breaks, CanBeKept, Has, IsBelowRemote, IsItOrAbove, NamesRemoteInterface}
use Rattle.cls_set.specs.Sets.{HasClasses, IsClassSet, IsSupertypeByName, Origin, origin, origins}
use Rattle.cls_set.specs.Subtypes as types
use Rattle.cls_set.specs.Subtypes.{Extends, IsProperSubtype, IsRemote}
use Rattle.cls_set.specs.declared.class.Class.{Class}
use Rattle.space_ids.specs.declared.ids.ClassId.{ClassId}
use Rattle.sp_rules.proofs.AllLemmas.{all-append}
use Rattle.sp_rules.specs.Laws.{AllOf}
use Rattle.ver_frames.specs.Types.{element_type, field_vtype, is_int}
use Rattle.ver_frames.specs.declared.vtype.VType.{VType}
use Rattle.ver_frames.specs.declared.vtype.VType.TheVariants as vtype
use Rattle.vm_laws.specs.Files.{own_types, types_of, types_up}
use Rattle.sp_behaviours.specs.Told.{CanBeHeld, RemoteFieldsAreHeld}

abbrev pub remote_name : List ℕ
remote_name = codes "java/rmi/Remote"

all-at : {A : Type 0} (P : A → Type 0) (xs : List A) (i : ℕ) (x : A) → AllOf P xs → slice_get xs i ≡ Some x → P x
all-at P [] i x a e = absurd (none_some e)
all-at P (y ∷ ys) zero x a e = subst P (same_some e) a.0
all-at P (y ∷ ys) (suc i) x a e = all-at P ys i x a.1 e

-- an instance field is not static
not_static : (f : Field) → is_instance f ≡ true → ¬ Has f.flags.bits STATIC
not_static f instance static = static (eqb-true (bit_and f.flags.bits STATIC) 0 instance)

-- ---- types

module _ (classes : List Class) where
  -- what cannot be otherwise may be held
  stable : (t : VType) → ((CanBeHeld classes t → ⊥) → ⊥) → CanBeHeld classes t
  stable vtype.Int never = tt
  stable (vtype.Object class) never = on (slice_get classes class.0) refl
    where
      on : (o : Option Class) → slice_get classes class.0 ≡ o → IsSomeAnd (slice_get classes class.0) IsInterface
      on None e = absurd (never (λ h. none_some (sym e ∙ (some_of (slice_get classes class.0) IsInterface h).1)))
      on (Some c) e = some_and (slice_get classes class.0) IsInterface c e (λ none. never (λ h. at_some (slice_get classes class.0) IsInterface c e h none))
  stable vtype.Top never = absurd (never (λ x. x))
  stable vtype.Null never = absurd (never (λ x. x))
  stable vtype.IntArray never = absurd (never (λ x. x))
  stable (vtype.Uninitialized offset) never = absurd (never (λ x. x))
  stable vtype.UninitializedThis never = absurd (never (λ x. x))

  pub plain : (type : FieldType) → type.dimensions ≡ 0 → field_vtype classes type ≡ element_type classes type.element
  unfolding field_vtype
  plain type e = ap (λ (n : ℕ). if n == 0 then element_type classes type.element else (if (n == 1) && is_int type.element then vtype.IntArray else vtype.Top)) e

  int_held : CanBeHeld classes (element_type classes elements.Int)
  unfolding element_type
  int_held = tt

  boolean_held : CanBeHeld classes (element_type classes elements.Boolean)
  unfolding element_type
  boolean_held = tt

  -- the types of the instance fields that a class declares
  own_held : (fields : List Field) → ((f : Field) → Contains fields f → is_instance f ≡ true → CanBeHeld classes (field_vtype classes f.kind)) → AllOf (CanBeHeld classes) (own_types classes fields)
  unfolding own_types
  own_held [] held = tt
  own_held (f ∷ fields) held = on (is_instance f) refl (own_held fields (λ other among. held other (Contains-append_right (f ∷ []) fields other among)))
    where
      on : (b : Bool) → is_instance f ≡ b → AllOf (CanBeHeld classes) (own_types classes fields)
          → AllOf (CanBeHeld classes) (if b then field_vtype classes f.kind ∷ own_types classes fields else own_types classes fields)
      on true e others = (held f (0, omega arith, refl) e, others)
      on false e others = others

-- ---- sets of files: what files name is the class of that name

-- the class itself, or one of its supertypes
abbrev pub Above : List Class → ClassId → ClassId → Type 0
Above classes class u = (class ≡ u) ⊎ IsProperSubtype classes class u

module _ (files : List ClassFile) (classes : List Class) (has : HasClasses files classes) (set : IsClassSet classes) where
  back : (o : Origin) → Contains (map origin classes) o → Contains (origins files) o
  back o among = Contains-permutation (map origin classes) (origins files) o (IsPermutation-sym (origins files) (map origin classes) has) among

  pub forth : (o : Origin) → Contains (origins files) o → Contains (map origin classes) o
  forth o among = Contains-permutation (origins files) (map origin classes) o has among

  pub stands : (i : ℕ) (c : Class) → slice_get classes i ≡ Some c → Contains (origins files) (origin c)
  stands i c e =
      let h = slice_get_within classes i c e in
      back (origin c) (i, subst (λ n. i < n) (sym (length-map classes origin)) h, get_or-map origin classes i c (origin c) h ∙ ap origin (same_some (sym (slice_get-get_or classes i c h) ∙ e)))

  -- a class that is java/rmi/Remote by number, or below it, is so by name
  pub below : (class : ClassId) (c : Class) (remote : ClassId) → slice_get classes class.0 ≡ Some c → number_of classes remote_name ≡ Some remote → types.IsSubtype classes class remote → IsBelowRemote (origins files) c.file.name
  below class c remote e found sub =
      let here : slice_get (names classes) class.0 ≡ Some c.file.name = class_named classes set.ordered set.resolved class.0 c e in
      let named : slice_get (names classes) remote.0 ≡ Some remote_name = name_at_number classes remote_name remote found in
      elim (proper_of_subtype classes class remote sub) [
        | inl same ↦ inl (same_some (sym here ∙ (ap (λ (x : ClassId). slice_get (names classes) x.0) same ∙ named)))
        | inr under ↦
            let y = by_name classes set.ordered set.resolved class remote c.file.name here under in
            let same : y.0 ≡ remote_name = same_some (sym y.1 ∙ named) in
            inr (more_named (map origin classes) (origins files) back c.file.name remote_name (subst (λ name. IsSupertypeByName (map origin classes) c.file.name name) same y.2))
      ]

  pub upper : (class : ClassId) (k : Class) → slice_get classes class.0 ≡ Some k → (u : ClassId) (c : Class) → slice_get classes u.0 ≡ Some c → Above classes class u → IsItOrAbove (origins files) k.file c.file
  upper class k found u c at (inl same) = inl (ap (λ (x : Class). x.file) (same_some (sym at ∙ (ap (λ (x : ClassId). slice_get classes x.0) (sym same) ∙ found))))
  upper class k found u c at (inr p) =
      let here : slice_get (names classes) class.0 ≡ Some k.file.name = class_named classes set.ordered set.resolved class.0 k found in
      let y = by_name classes set.ordered set.resolved class u k.file.name here p in
      let same : y.0 ≡ c.file.name = same_some (sym y.1 ∙ class_named classes set.ordered set.resolved u.0 c at) in
      inr ((c.is_built_in, stands u.0 c at, refl), subst (λ name. IsSupertypeByName (origins files) k.file.name name) same (more_named (map origin classes) (origins files) back k.file.name y.0 y.2))

  -- an interface of the set has this name
  pub record IsNumbered (name : List ℕ) : Type 0 where
    pub id : ClassId
    pub number : number_of classes name ≡ Some id
    pub c : Class
    pub at : slice_get classes id.0 ≡ Some c
    pub is : IsInterface c

  -- the class of a name that a remote interface has is that interface
  pub numbered : (name : List ℕ) → NamesRemoteInterface (origins files) name → IsNumbered name
  numbered name n =
      let b = n.named in
      let at = standing classes set.ordered set.resolved (n.interface, b.0) (forth (n.interface, b.0) b.1) in
      let file : at.1.file ≡ n.interface = ap (λ (o : Origin). o.0) at.3 in
      let here : slice_get (names classes) at.0 ≡ Some name = class_named classes set.ordered set.resolved at.0 at.1 at.2 ∙ ap (λ x. Some x) (ap (λ (f : ClassFile). f.name) file ∙ b.2) in
      by (number_of classes name) refl at.0 at.1 at.2 here (subst (λ (f : ClassFile). Has f.flags.bits INTERFACE) (sym file) n.remote.0)
    where
      by : (found : Option ClassId) → number_of classes name ≡ found → (i : ℕ) (c : Class) → slice_get classes i ≡ Some c → slice_get (names classes) i ≡ Some name → IsInterface c → IsNumbered name
      by None e i c at here is = absurd (name_absent classes name e (named_among (names classes) i name here))
      by (Some id) e i c at here is =
          let same : id.0 ≡ i = one_index (names classes) id.0 i name set.ordered (name_at_number classes name id e) here in
          record { id = id; number = e; c = c; at = ap (slice_get classes) same ∙ at; is = is }

  interface_held : (name : List ℕ) → NamesRemoteInterface (origins files) name → CanBeHeld classes (element_type classes (elements.Class name))
  unfolding element_type
  interface_held name n =
      let x = numbered name n in
      subst (λ (found : Option ClassId). CanBeHeld classes (option_map_or vtype.Object found vtype.Top)) (sym x.number) (some_and (slice_get classes x.id.0) IsInterface x.c x.at x.is)

  type_held : (type : FieldType) → CanBeKept (origins files) type → CanBeHeld classes (field_vtype classes type)
  type_held type (CanBeKept.int d e) = subst (CanBeHeld classes) (sym (plain classes type d)) (subst (λ x. CanBeHeld classes (element_type classes x)) (sym e) (int_held classes))
  type_held type (CanBeKept.boolean d e) = subst (CanBeHeld classes) (sym (plain classes type d)) (subst (λ x. CanBeHeld classes (element_type classes x)) (sym e) (boolean_held classes))
  type_held type (CanBeKept.remote name d e named) =
      subst (CanBeHeld classes) (sym (plain classes type d)) (subst (λ x. CanBeHeld classes (element_type classes x)) (sym e) (interface_held name named))

-- ---- sets of files that keep the rule on the fields of remote classes

module _ (files : List ClassFile) (classes : List Class) (has : HasClasses files classes) (set : IsClassSet classes) (kept : IsKept files RemoteField)
    (class : ClassId) (is : IsRemote classes class) (k : Class) (found : slice_get classes class.0 ≡ Some k) (none : ¬ IsInterface k) where
  field_held : (u : ClassId) (c : Class) → slice_get classes u.0 ≡ Some c → Above classes class u → (f : Field) → Contains c.file.fields f → is_instance f ≡ true → CanBeHeld classes (field_vtype classes f.kind)
  field_held u c at above f among instance =
      stable classes (field_vtype classes f.kind) (λ never. kept (origin k) (stands files classes has set class.0 k found)
      (Breaks.remote_field c.file (none, below files classes has set class k is.remote found is.named is.implements) (upper files classes has set class k found u c at above) (record { field = f; declared = among; of_instances = not_static f instance; not_kept = λ may. never (type_held files classes has set f.kind may) })))

  up_held : (n : ℕ) (u : ClassId) → Above classes class u → AllOf (CanBeHeld classes) (types_up n classes u)
  unfolding types_up
  up_held zero u above = tt
  up_held (suc n) u above = on (up_held n) (slice_get classes u.0) refl
    where
      next : (s : ClassId) → Extends classes u s → Above classes class s
      next s e = elim above [
        | inl same ↦ inr (types.IsProperSubtype.direct class s (inl (subst (λ (x : ClassId). Extends classes x s) (sym same) e)))
        | inr p ↦ inr (types.IsProperSubtype.through class u s p (types.IsProperSubtype.direct u s (inl e)))
      ]

      over : ((s : ClassId) → Above classes class s → AllOf (CanBeHeld classes) (types_up n classes s)) → (o : Option ClassId) → ((s : ClassId) → o ≡ Some s → Above classes class s) → AllOf (CanBeHeld classes) (option_map_or (types_up n classes) o [])
      over go None up = tt
      over go (Some s) up = go s (up s refl)

      on : ((s : ClassId) → Above classes class s → AllOf (CanBeHeld classes) (types_up n classes s)) → (o : Option Class) → slice_get classes u.0 ≡ o
          → AllOf (CanBeHeld classes) (option_map_or (λ (c : Class). option_map_or (types_up n classes) c.superclass [] ++ own_types classes c.file.fields) o [])
      on go None at = tt
      on go (Some c) at =
          all-append (CanBeHeld classes) (option_map_or (types_up n classes) c.superclass []) (own_types classes c.file.fields)
          (over go c.superclass (λ s e. next s (some_and (slice_get classes u.0) (λ x. x.superclass ≡ Some s) c at e)))
          (own_held classes c.file.fields (field_held u c at above))

pub remote_fields_are_held : RemoteFieldsAreHeld
remote_fields_are_held files classes has set kept class slot t is e =
    let c = some_of (slice_get classes class.0) (λ c. ¬ IsInterface c) is.is_class in
    all-at (CanBeHeld classes) (types_of classes class) slot t (up_held files classes has set kept class is c.0 c.1 c.2 (suc (length classes)) class (inl refl)) e
