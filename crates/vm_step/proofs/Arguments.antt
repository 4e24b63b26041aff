-- The values with which a method begins fit the types of what it is passed (JVMS 4.10.1.6).
use Rattle.ver_frames.specs.declared.vtype.VType.{VType}
use Rattle.std.proofs.Common.{◌≡◌, ℕ, suc, ◌+◌, Bool, true, false, List, [], ◌∷◌, ◌++◌, length, map, refl, ap, sym, subst, ◌∙◌, arith, append_assoc, Option, Some, None, ◌⊎◌, inl, inr, eqb-true}
use Rattle.std.proofs.lemmas.List.{length-map}
use Rattle.std.proofs.lemmas.List.Elements.{All-head, All-rest}
use Rattle.std.proofs.lemmas.Option.{slice_get_within}
use Rattle.std.specs.Prelude.{IsSome, IsSomeAnd, slice_get, not, ◌&&◌, ◌||◌, ◌==◌, option_map, if◌then◌else◌}
use Rattle.std.specs.List.{list_all}
use Rattle.std.specs.Option.{option_map_or}
use Rattle.cf_text.specs.declared.types.ElementType.{ElementType}
use Rattle.cf_text.specs.declared.types.ElementType.TheVariants as element
use Rattle.cf_text.specs.declared.types.FieldType.{FieldType}
use Rattle.cls_link.specs.Links.{Links, AreLinks}
use Rattle.cls_set.specs.Classes.{number_of, IsInterface}
use Rattle.cls_set.specs.declared.class.Class.{Class}
use Rattle.space_ids.specs.declared.ids.ClassId.{ClassId}
use Rattle.space_ids.specs.declared.value.Value.{Value}
use Rattle.space_ids.specs.declared.value.Value.TheVariants as value
use Rattle.ver_frames.specs.Method.{Subject, is_static, argument_types, begins_uninit, receiver_types}
use Rattle.ver_frames.specs.Types.{field_vtype, element_type, is_int}
use Rattle.ver_frames.specs.declared.vtype.VType.TheVariants as vtype
use Rattle.uuid.specs.declared.Uuid.{Uuid}
use Rattle.vm_heap.specs.References.{Table, is_own, row_of}
use Rattle.vm_heap.specs.Heap.{Cell, Ints, all_cost, cell_at}
use Rattle.vm_heap.specs.Tagged.{Null, ReferenceRow, Remote}
use Rattle.vm_typing.specs.Fits.{Held, OfHeap, OfSpace, OfStub, pointee_at, remote_pointee, There, IsA, IsInts, Fits, AllFit, CellFits, AllCells, no_marks}
use Rattle.vm_typing.specs.Owed.{Owed}
use Rattle.vm_typing.specs.World.{IsKnown, World}
use Rattle.cls_search.specs.MethodSearches.{is_interface}
use Rattle.cls_set.proofs.Hierarchy.{some_of}
use Rattle.cls_set.specs.Subtypes.{IsRemote}
use Rattle.space_ids.specs.declared.ids.Ref.{Ref}
use Rattle.vm_code.proofs.Remotes.{interface_sound, remote_sound}
use Rattle.vm_code.specs.Classes.{is_remote_interface, is_below_remote, is_remote}
use Rattle.vm_typing.proofs.Arrivals.{known_there}
use Rattle.vm_laws.proofs.Owing.{owed}
use Rattle.vm_laws.specs.Worlds.{is_init, world_of}
use Rattle.vm_step.specs.Sound.{IsSoundSet}
use Rattle.vm_code.specs.Parameters.{is_array_element, is_array_type}
use Rattle.vm_step.specs.Start.{crosses, copies, copy_of, fill, is_int_element, is_int_type, is_of_type, is_remote_element, is_remote_type, passed_at, passed_from, remote_at, AreHeld, IsHeld, refusal, takes_crossing}
use Rattle.vm_step.specs.Subjects.{Declared, declared_of}
use Rattle.vm_step.specs.declared.fault.StartFault.TheVariants as fault
use Rattle.vm_step.proofs.Copying.{all_cost-append, cell_between}
use Rattle.cls_resolve.specs.declared.named.CastType.TheVariants as cast
use Rattle.ver_frames.specs.Assignable.{IsObjectAssignable}
use Rattle.vm_code.proofs.Subtypes.{subtype_sound}
use Rattle.vm_code.specs.Classes.{is_subtype}
use Rattle.vm_laws.proofs.Sets.{casts_to}
use Rattle.vm_typing.specs.Fits.{Points}
use Rattle.std.specs.Str.{bytes_eq}
use Rattle.vm_step.specs.Begin.{begin_refusal, is_receiver, receive, receiver_refusal}

pub both : (a b : Bool) → (a && b) ≡ true → (a ≡ true) × (b ≡ true)
both true b e = (refl, e)
both false b e = absurd (cc)

element-int : (classes : List Class) (e : ElementType) → is_int_element e ≡ true → element_type classes e ≡ vtype.Int
unfolding element_type
element-int classes element.Int is = refl
element-int classes element.Boolean is = refl
element-int classes e is = absurd (cc)

-- the types of ints and booleans, of int[], and of remote interfaces
int_vtype : (classes : List Class) (kind : FieldType) → is_int_type kind ≡ true → field_vtype classes kind ≡ vtype.Int
unfolding field_vtype
int_vtype classes kind e =
    let parts = both (kind.dimensions == 0) (is_int_element kind.element) e in
    rw parts.0 (element-int classes kind.element parts.1)

array_int : (e : ElementType) → is_array_element e ≡ true → is_int e ≡ true
array_int element.Int is = refl
array_int e is = absurd (cc)

array_vtype : (classes : List Class) (kind : FieldType) → is_array_type kind ≡ true → field_vtype classes kind ≡ vtype.IntArray
unfolding field_vtype
array_vtype classes kind e =
    let parts = both (kind.dimensions == 1) (is_array_element kind.element) e in
    let one : kind.dimensions ≡ 1 = eqb-true kind.dimensions 1 parts.0 in
    rw (one, array_int kind.element parts.1) refl

-- the task has come by each of the values that is a reference, one value after the other
abbrev pub EachHeld : Table → List Value → Type 0
EachHeld table [] = Unit {0}
EachHeld table (v ∷ values) = IsHeld table v × EachHeld table values

pub each_held : (table : Table) (values : List Value) → AreHeld table values → EachHeld table values
each_held table [] all = tt
each_held table (v ∷ values) all = (All-head (IsHeld table) v values all, each_held table values (All-rest (IsHeld table) v values (v ∷ values) refl all))

module _ (w : World) (held : Held) where
  -- what is a subtype of a class may stand for it
  abbrev Above : Type 0
  Above = (given asked : ClassId) → IsKnown w given → is_subtype w.classes given asked ≡ true → IsObjectAssignable w.classes given asked

  remote_null : (classes : List Class) (e : ElementType) → is_remote_element classes e ≡ true → Fits w held no_marks (element_type classes e) Null
  unfolding element_type
  remote_null classes (element.Class name) is = by (number_of classes name) is
    where
      by : (o : Option ClassId) → option_map_or (is_remote_interface classes) o false ≡ true → Fits w held no_marks (option_map_or vtype.Object o vtype.Top) Null
      by None e = absurd (cc)
      by (Some class) e = tt
  remote_null classes e is = absurd (cc)

  remote_fits : (classes : List Class) (kind : FieldType) → is_remote_type classes kind ≡ true → Fits w held no_marks (field_vtype classes kind) Null
  unfolding field_vtype
  remote_fits classes kind e =
      let parts = both (kind.dimensions == 0) (is_remote_element classes kind.element) e in
      let none : kind.dimensions ≡ 0 = eqb-true kind.dimensions 0 parts.0 in
      rw none (remote_null classes kind.element parts.1)

  -- null fits each type that crosses and is no int
  null_fits : (classes : List Class) (kind : FieldType) (b : Bool) → is_array_type kind ≡ b → is_remote_type classes kind ≡ true ⊎ (b ≡ true) → Fits w held no_marks (field_vtype classes kind) Null
  null_fits classes kind true is some = rw (array_vtype classes kind is) tt
  null_fits classes kind false is some = elim some [ inl remote ↦ remote_fits classes kind remote | inr never ↦ absurd (cc) ]

  -- a reference to an object of a remote class fits each remote interface, and so does a stub
  object_fits : IsKnown w w.object → (reference : Ref) (row : ℕ) → pointee_at held (ReferenceRow row) ≡ Some (remote_pointee held.references reference) → IsRemote w.classes reference.class
      → (e : ElementType) → is_remote_element w.classes e ≡ true → Fits w held no_marks (element_type w.classes e) (Remote row)
  unfolding element_type
  object_fits object reference row there remote (element.Class name) is = by (number_of w.classes name) is
    where
      known : IsKnown w reference.class
      known = let c = some_of (slice_get w.classes reference.class.0) (λ c. ¬ IsInterface c) remote.is_class in slice_get_within w.classes reference.class.0 c.0 c.1

      placed : (b : Bool) (class : ClassId) → IsSomeAnd (slice_get w.classes class.0) IsInterface → IsA w class (if b then OfSpace reference.class else OfStub reference.class)
      placed true class interface = (known, inl interface, remote)
      placed false class interface = (object, inl interface, (known, remote))

      by : (o : Option ClassId) → option_map_or (is_remote_interface w.classes) o false ≡ true → Fits w held no_marks (option_map_or vtype.Object o vtype.Top) (Remote row)
      by None e = absurd (cc)
      by (Some class) e =
          let interface = interface_sound w.classes class (both (is_interface w.classes class) (is_below_remote w.classes class) e).0 in
          rw there (placed (is_own held.references reference) class interface)
  object_fits object reference row there remote e is = absurd (cc)

  reference_fits : IsKnown w w.object → (kind : FieldType) (reference : Ref) → is_of_type w.classes kind (value.Ref reference) ≡ true
      → IsSome (row_of held.references.rows reference) → Fits w held no_marks (field_vtype w.classes kind) (remote_at (row_of held.references.rows reference))
  unfolding field_vtype
  reference_fits object kind reference is some = by (row_of held.references.rows reference) refl some
    where
      parts : (is_remote_type w.classes kind ≡ true) × (is_remote w.classes reference.class ≡ true)
      parts = both (is_remote_type w.classes kind) (is_remote w.classes reference.class) is

      types : (kind.dimensions == 0 ≡ true) × (is_remote_element w.classes kind.element ≡ true)
      types = both (kind.dimensions == 0) (is_remote_element w.classes kind.element) parts.0

      by : (o : Option ℕ) → row_of held.references.rows reference ≡ o → IsSome o
          → Fits w held no_marks (if kind.dimensions == 0 then element_type w.classes kind.element else (if (kind.dimensions == 1) && is_int kind.element then vtype.IntArray else vtype.Top)) (remote_at o)
      by None e some = absurd (cc)
      by (Some row) e some =
          let none : kind.dimensions ≡ 0 = eqb-true kind.dimensions 0 types.0 in
          rw none (object_fits object reference row (known_there held reference row e) (remote_sound w.classes reference.class parts.1) kind.element types.1)

  -- an argument fits the type of its parameter, where its copy comes next
  value_fits : IsKnown w w.object → (kind : FieldType) (v : Value) (before following : List Cell) → crosses w.classes kind ≡ true
      → is_of_type w.classes kind v ≡ true → held.cells ≡ before ++ (copy_of v ++ following) → IsHeld held.references v
      → Fits w held no_marks (field_vtype w.classes kind) (passed_at (all_cost before) held.references v)
  value_fits object kind value.Null before following cross is are known = by (is_int_type kind) refl is (is_array_type kind) refl cross
    where
      by : (b : Bool) → is_int_type kind ≡ b → not b ≡ true → (c : Bool) → is_array_type kind ≡ c → (b || (c || is_remote_type w.classes kind)) ≡ true → Fits w held no_marks (field_vtype w.classes kind) Null
      by true int other c array cross = absurd (cc)
      by false int other true array cross = null_fits w.classes kind true array (inr refl)
      by false int other false array cross = null_fits w.classes kind false array (inl cross)
  value_fits object kind (value.Int n) before following cross is are known = rw (int_vtype w.classes kind is) tt
  value_fits object kind (value.Ints elements) before following cross is are known =
      rw (array_vtype w.classes kind is)
      (subst (λ (o : Option Cell). There IsInts (option_map (λ cell. OfHeap cell) o)) (sym (ap (λ cs. cell_at cs (all_cost before)) are ∙ cell_between before (Ints elements) following)) tt)
  value_fits object kind (value.Ref reference) before following cross is are known = reference_fits object kind reference is known

  all_fit : IsKnown w w.object → (kinds : List FieldType) (values : List Value) (before : List Cell) → list_all (crosses w.classes) kinds ≡ true
      → fill w.classes kinds values ≡ true → held.cells ≡ before ++ copies values → EachHeld held.references values
      → AllFit w held no_marks (map (field_vtype w.classes) kinds) (passed_from (all_cost before) held.references values)
  unfolding fill copies passed_from
  all_fit object [] [] before cross filled are known = tt
  all_fit object [] (v ∷ values) before cross filled are known = absurd (cc)
  all_fit object (kind ∷ kinds) [] before cross filled are known = absurd (cc)
  all_fit object (kind ∷ kinds) (v ∷ values) before cross filled are known =
      let first = both (crosses w.classes kind) (list_all (crosses w.classes) kinds) cross in
      let given = both (is_of_type w.classes kind v) (fill w.classes kinds values) filled in
      let later : held.cells ≡ (before ++ copy_of v) ++ copies values = are ∙ sym (append_assoc before (copy_of v) (copies values)) in (
        value_fits object kind v before (copies values) first.0 given.0 are known.0,
        subst (λ address. AllFit w held no_marks (map (field_vtype w.classes) kinds) (passed_from address held.references values)) (all_cost-append before (copy_of v))
            (all_fit object kinds values (before ++ copy_of v) first.1 given.1 later known.1),
      )

  -- a receiver fits the class that declares its method
  receiver_fits : Above → (own : Uuid) (class : ClassId) (reference : Ref) → is_receiver w.classes own class (value.Ref reference) ≡ true → held.references.own ≡ own
      → IsSome (row_of held.references.rows reference) → Fits w held no_marks (vtype.Object class) (remote_at (row_of held.references.rows reference))
  receiver_fits above own class reference is same some = by (row_of held.references.rows reference) refl some
    where
      parts : (bytes_eq reference.space own ≡ true) × ((is_remote w.classes reference.class && is_subtype w.classes reference.class class) ≡ true)
      parts = both (bytes_eq reference.space own) (is_remote w.classes reference.class && is_subtype w.classes reference.class class) is

      tests : (is_remote w.classes reference.class ≡ true) × (is_subtype w.classes reference.class class ≡ true)
      tests = both (is_remote w.classes reference.class) (is_subtype w.classes reference.class class) parts.1

      here : is_own held.references reference ≡ true
      here = subst (λ (space : Uuid). bytes_eq reference.space space ≡ true) (sym same) parts.0

      known : IsKnown w reference.class
      known = (subtype_sound w.classes reference.class class tests.1).0

      by : (o : Option ℕ) → row_of held.references.rows reference ≡ o → IsSome o → Points (IsA w class) held (remote_at o)
      by None e some = absurd (cc)
      by (Some row) e some = rw (known_there held reference row e, here) (known, above reference.class class known tests.1, remote_sound w.classes reference.class tests.0)

  -- a receiver and the arguments fit what a method of a class is passed
  received_fit : IsKnown w w.object → Above → (own : Uuid) (m : Declared) (values : List Value) → list_all (crosses w.classes) m.method.types.parameters ≡ true
      → receive w.classes own m values ≡ true → held.cells ≡ copies values → held.references.own ≡ own → EachHeld held.references values
      → AllFit w held no_marks (vtype.Object m.class ∷ map (field_vtype w.classes) m.method.types.parameters) (passed_from 0 held.references values)
  unfolding copies passed_from all_cost
  received_fit object above own m [] cross is are same known = absurd (cc)
  received_fit object above own m (value.Null ∷ values) cross is are same known = absurd (cc)
  received_fit object above own m (value.Int n ∷ values) cross is are same known = absurd (cc)
  received_fit object above own m (value.Ints elements ∷ values) cross is are same known = absurd (cc)
  received_fit object above own m (value.Ref reference ∷ values) cross is are same known =
      let parts = both (is_receiver w.classes own m.class (value.Ref reference)) (fill w.classes m.method.types.parameters values) is in (
        receiver_fits above own m.class reference parts.0 same known.0,
        all_fit object m.method.types.parameters values [] cross parts.1 are known.1,
      )

pub length-fill : (classes : List Class) (kinds : List FieldType) (values : List Value) → fill classes kinds values ≡ true → length values ≡ length kinds
unfolding fill
length-fill classes [] [] e = refl
length-fill classes [] (v ∷ values) e = absurd (cc)
length-fill classes (kind ∷ kinds) [] e = absurd (cc)
length-fill classes (kind ∷ kinds) (v ∷ values) e = ap (λ (n : ℕ). suc n) (length-fill classes kinds values (both (is_of_type classes kind v) (fill classes kinds values) e).1)

-- copies of arrays are of no types that have to be met
pub copies_fit : (w : World) (held : Held) (values : List Value) → AllCells (CellFits w held) (copies values)
unfolding copies
copies_fit w held [] = tt
copies_fit w held (value.Null ∷ values) = copies_fit w held values
copies_fit w held (value.Int n ∷ values) = copies_fit w held values
copies_fit w held (value.Ints elements ∷ values) = (tt, copies_fit w held values)
copies_fit w held (value.Ref reference ∷ values) = copies_fit w held values

length-receive : (classes : List Class) (own : Uuid) (m : Declared) (values : List Value) → receive classes own m values ≡ true → length values ≡ length m.method.types.parameters + 1
length-receive classes own m [] e = absurd (cc)
length-receive classes own m (v ∷ values) e =
    let same : length values ≡ length m.method.types.parameters = length-fill classes m.method.types.parameters values (both (is_receiver classes own m.class v) (fill classes m.method.types.parameters values) e).1 in
    omega (arith, same)

-- ---- what a method is passed

argument_types-static : (m : Subject) → is_static m.method ≡ true → argument_types m ≡ map (field_vtype m.classes) m.method.types.parameters
unfolding argument_types receiver_types
argument_types-static m static = rw static refl

begins-static : (m : Subject) → is_static m.method ≡ true → begins_uninit m ≡ false
unfolding begins_uninit
begins-static m static = rw static refl

begins-named : (m : Subject) → is_init m ≡ false → begins_uninit m ≡ false
unfolding begins_uninit
begins-named m named = rw named (off (not (is_static m.method)) (not m.class.is_built_in))
  where
    off : (a b : Bool) → (a && (b && false)) ≡ false
    off true true = refl
    off true false = refl
    off false b = refl

argument_types-received : (m : Subject) → is_static m.method ≡ false → is_init m ≡ false → argument_types m ≡ vtype.Object m.class_id ∷ map (field_vtype m.classes) m.method.types.parameters
unfolding argument_types receiver_types
argument_types-received m static named = rw (static, begins-named m named) refl

-- what a method begins with, where it is not refused
pub record Accepts (w : World) (own : Uuid) (m : Subject) (values : List Value) : Type 0 where
  pub begins : begins_uninit m ≡ false
  pub count : length values ≡ length (argument_types m)
  pub fits : (held : Held) → held.cells ≡ copies values → held.references.own ≡ own → EachHeld held.references values
      → AllFit w held no_marks (argument_types m) (passed_from 0 held.references values)

-- the two tests of a start
passed : (takes fits : Bool) → (if not takes then Some fault.BadSignature else (if fits then None else Some fault.BadArgument)) ≡ None → (takes ≡ true) × (fits ≡ true)
passed false fits e = absurd (cc)
passed true false e = absurd (cc)
passed true true e = (refl, refl)

module _ (links : Links) (own : Uuid) (m : Subject) (values : List Value) (are : AreLinks links) (sound : IsSoundSet links) (classes : m.classes ≡ links.classes)
    (named : is_init m ≡ false) where
  abbrev world : World
  world = world_of links sound.frames

  owes : Owed world
  owes = owed links sound.frames are sound.typed sound.read

  abbrev kinds : List FieldType
  kinds = m.method.types.parameters

  crossing : takes_crossing links.classes m.method.types ≡ true → list_all (crosses links.classes) kinds ≡ true
  crossing takes = (both (list_all (crosses links.classes) kinds) (option_map_or (crosses links.classes) m.method.types.result true) takes).0

  static_accepts : is_static m.method ≡ true → takes_crossing links.classes m.method.types ≡ true → fill links.classes kinds values ≡ true → Accepts world own m values
  unfolding all_cost
  static_accepts static takes filled = record {
    begins = begins-static m static;
    count = length-fill links.classes kinds values filled ∙ sym (ap (λ (ts : List VType). length ts) types ∙ length-map kinds (field_vtype links.classes));
    fits = λ held are same known.
        subst (λ (ts : List VType). AllFit world held no_marks ts (passed_from 0 held.references values)) (sym types)
        (all_fit world held owes.object kinds values [] (crossing takes) filled are known);
  }
    where
      types : argument_types m ≡ map (field_vtype links.classes) kinds
      types = argument_types-static m static ∙ ap (λ (cs : List Class). map (field_vtype cs) kinds) classes

  received_accepts : is_static m.method ≡ false → takes_crossing links.classes m.method.types ≡ true → receive links.classes own (declared_of m) values ≡ true → Accepts world own m values
  received_accepts static takes is = record {
    begins = begins-named m named;
    count = count;
    fits = λ held are_cells same known.
        subst (λ (ts : List VType). AllFit world held no_marks ts (passed_from 0 held.references values)) (sym types)
        (received_fit world held owes.object above own (declared_of m) values (crossing takes) is are_cells same known);
  }
    where
      types : argument_types m ≡ vtype.Object m.class_id ∷ map (field_vtype links.classes) kinds
      types = argument_types-received m static named ∙ ap (λ (cs : List Class). vtype.Object m.class_id ∷ map (field_vtype cs) kinds) classes

      count : length values ≡ length (argument_types m)
      count =
          let same : length values ≡ length kinds + 1 = length-receive links.classes own (declared_of m) values is in
          let each : length (argument_types m) ≡ length (vtype.Object m.class_id ∷ map (field_vtype links.classes) kinds) = ap (λ (ts : List VType). length ts) types in
          let mapped : length (map (field_vtype links.classes) kinds) ≡ length kinds = length-map kinds (field_vtype links.classes) in
          omega (arith, same, each, mapped)

      above : (given asked : ClassId) → IsKnown world given → is_subtype links.classes given asked ≡ true → IsObjectAssignable links.classes given asked
      above given asked = casts_to world owes are.set sound.read (cast.Class asked) given

  pub accepts : begin_refusal links.classes own (declared_of m) values ≡ None → Accepts world own m values
  accepts e = by (is_static m.method) refl e
    where
      by : (b : Bool) → is_static m.method ≡ b → (if b then refusal links.classes m.method values else receiver_refusal links.classes own (declared_of m) values) ≡ None
          → Accepts world own m values
      by true static e =
          let tests = passed (takes_crossing links.classes m.method.types) (is_static m.method && fill links.classes kinds values) e in
          static_accepts static tests.0 (both (is_static m.method) (fill links.classes kinds values) tests.1).1
      by false static e =
          let tests = passed (takes_crossing links.classes m.method.types) (not (is_static m.method) && receive links.classes own (declared_of m) values) e in
          received_accepts static tests.0 (both (not (is_static m.method)) (receive links.classes own (declared_of m) values) tests.1).1
