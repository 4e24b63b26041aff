-- The classes of a set are as files of the profile say them: each is well formed and names classes of the set, or is built in.
use Rattle.std.proofs.Common.{◌≡◌, ◌≢◌, ℕ, lit<, Bool, true, false, not, Option, Some, None, List, [], ◌∷◌, get_or, map, Result, Ok, refl, sym, subst, ap, ◌∙◌, arith}
use Rattle.std.specs.Prelude.{◌==◌, ◌&&◌, ◌||◌, if◌then◌else◌, All, Contains, IsSome, bit_and, codes, option_map, slice_get}
use Rattle.std.specs.List.{list_all}
use Rattle.std.specs.Option.{option_map_or}
use Rattle.std.proofs.lemmas.Bool.{eqb-true, false≢true}
use Rattle.std.proofs.lemmas.List.Elements.{All-contains, Contains-append_right}
use Rattle.std.proofs.lemmas.Option.{slice_get-get_or, slice_get_within}
use Rattle.cf_text.specs.declared.fault.ReadFault.{ReadFault}
use Rattle.cf_text.specs.declared.types.ElementType.{ElementType}
use Rattle.cf_text.specs.declared.types.ElementType.TheVariants as elements
use Rattle.cf_text.specs.declared.types.FieldType.{FieldType}
use Rattle.cf_text.specs.declared.types.MethodDescriptor.{MethodDescriptor}
use Rattle.cf_text.specs.Types.{method_descriptor_of}
use Rattle.cf_text.proofs.DescriptorLaws.{method_descriptor_again}
use Rattle.cf_reader.specs.declared.class_file.ClassFile.{ClassFile}
use Rattle.cf_reader.specs.declared.class_file.Field.{Field}
use Rattle.cf_reader.specs.declared.class_file.Method.{Method}
use Rattle.cf_reader.specs.declared.flags.TheConstants.Flags.{INTERFACE, STATIC}
use Rattle.cf_reader.specs.Profile.{is_array_element, is_profile_type, is_single_element, method_type_in_profile, result_in_profile}
use Rattle.cf_reader.specs.Rules.{has}
use Rattle.cf_reader.specs.WellFormed.{IsWellFormed, IsWellFormedField, IsWellFormedMethod}
use Rattle.cls_link.specs.Fields.{is_instance}
use Rattle.cls_set.proofs.Hierarchy.{none_some, same_some}
use Rattle.cls_set.specs.BuiltIn.{BuiltIn, built_in, built_ins, file_of}
use Rattle.cls_set.specs.Classes.{names, number_of, IsInterface}
use Rattle.cls_set.specs.Sets.{IsClassSet, IsResolved, Mentions}
use Rattle.cls_set.specs.Sets.Mentions.{by_field, by_method}
use Rattle.cls_set.specs.Sets.DescriptorNames.{by_parameter, by_result}
use Rattle.cls_set.specs.declared.class.Class.{Class}
use Rattle.space_ids.specs.declared.ids.ClassId.{ClassId}
use Rattle.ver_frames.specs.Types.{element_type, field_vtype, is_int}
use Rattle.ver_frames.specs.declared.vtype.VType.TheVariants as vtype
use Rattle.vm_typing.specs.World.{ArePlain, IsPlain}
use Rattle.vm_laws.specs.Files.{AreAsRead, Declares, own_types}

-- ---- lists and booleans

at_index : {X : Type 0} (P : X → Type 0) (xs : List X) (k : ℕ) (x : X) → All P xs → slice_get xs k ≡ Some x → P x
at_index P xs k x all e =
    let h = slice_get_within xs k x e in
    subst P (same_some (sym (slice_get-get_or xs k x h) ∙ e)) (all k x h)

stands : {X : Type 0} (xs : List X) (k : ℕ) (x : X) → slice_get xs k ≡ Some x → Contains xs x
stands xs k x e = let h = slice_get_within xs k x e in (k, h, same_some (sym (slice_get-get_or xs k x h) ∙ e))

both : (one other : Bool) → (one && other) ≡ true → (one ≡ true) × (other ≡ true)
both true other h = (refl, h)
both false other h = absurd (false≢true h)

neither : (b : Bool) → (b && false) ≡ true → ⊥
neither true h = false≢true h
neither false h = false≢true h

denied : (b : Bool) → not b ≡ true → b ≡ false
denied true h = absurd (false≢true h)
denied false h = refl

has_some : (n : ℕ) → n ≢ 0 → not (n == 0) ≡ true
has_some n h =
    elim (n == 0) as (λ b. (n == 0) ≡ b → not b ≡ true) [
      | true ↦ λ e. absurd (h (eqb-true n 0 e))
      | false ↦ λ e. refl
    ] refl

-- ---- types

module _ (classes : List Class) where
  -- each class that a type names stands among the classes
  abbrev AreKnown : ElementType → Type 0
  AreKnown element = (name : List ℕ) → element ≡ elements.Class name → IsSome (number_of classes name)

  class_plain : (number : Option ClassId) → IsSome number → IsPlain (option_map_or vtype.Object number vtype.Top)
  class_plain None some = absurd (false≢true some)
  class_plain (Some class) some = tt

  element_plain : (one : Bool) (element : ElementType) → (is_single_element element || (one && is_array_element element)) ≡ true → AreKnown element → IsPlain (element_type classes element)
  unfolding element_type
  element_plain one elements.Int h known = tt
  element_plain one elements.Boolean h known = tt
  element_plain one (elements.Class name) h known = class_plain (number_of classes name) (known name refl)
  element_plain one elements.Byte h known = absurd (neither one h)
  element_plain one elements.Char h known = absurd (neither one h)
  element_plain one elements.Double h known = absurd (neither one h)
  element_plain one elements.Float h known = absurd (neither one h)
  element_plain one elements.Long h known = absurd (neither one h)
  element_plain one elements.Short h known = absurd (neither one h)

  array_plain : (one : Bool) (element : ElementType) → (one && is_array_element element) ≡ true → IsPlain (if one && is_int element then vtype.IntArray else vtype.Top)
  array_plain false element h = absurd (false≢true h)
  array_plain true elements.Int h = tt
  array_plain true elements.Boolean h = absurd (false≢true h)
  array_plain true (elements.Class name) h = absurd (false≢true h)
  array_plain true elements.Byte h = absurd (false≢true h)
  array_plain true elements.Char h = absurd (false≢true h)
  array_plain true elements.Double h = absurd (false≢true h)
  array_plain true elements.Float h = absurd (false≢true h)
  array_plain true elements.Long h = absurd (false≢true h)
  array_plain true elements.Short h = absurd (false≢true h)

  either_plain : (none one : Bool) (element : ElementType) → ((none && is_single_element element) || (one && is_array_element element)) ≡ true → AreKnown element
      → IsPlain (if none then element_type classes element else (if one && is_int element then vtype.IntArray else vtype.Top))
  either_plain true one element h known = element_plain one element h known
  either_plain false one element h known = array_plain one element h

  -- a type of the profile whose class is known
  type_plain : (type : FieldType) → is_profile_type type ≡ true → AreKnown type.element → IsPlain (field_vtype classes type)
  unfolding is_profile_type field_vtype
  type_plain type h known = either_plain (type.dimensions == 0) (type.dimensions == 1) type.element h known

  types_plain : (types : List FieldType) → list_all is_profile_type types ≡ true → ((type : FieldType) → Contains types type → AreKnown type.element) → ArePlain (map (field_vtype classes) types)
  types_plain [] h known = tt
  types_plain (type ∷ types) h known =
      let p = both (is_profile_type type) (list_all is_profile_type types) h in
      (type_plain type p.0 (known type (0, omega arith, refl)), types_plain types p.1 (λ other among. known other (Contains-append_right (type ∷ []) types other among)))

  -- ---- fields

  own_plain : (fields : List Field) → ((f : Field) → Contains fields f → IsPlain (field_vtype classes f.kind)) → ArePlain (own_types classes fields)
  unfolding own_types
  own_plain [] plain = tt
  own_plain (f ∷ fields) plain = on (is_instance f) (own_plain fields (λ other among. plain other (Contains-append_right (f ∷ []) fields other among)))
    where
      on : (b : Bool) → ArePlain (own_types classes fields) → ArePlain (if b then field_vtype classes f.kind ∷ own_types classes fields else own_types classes fields)
      on true others = (plain f (0, omega arith, refl), others)
      on false others = others

  all_static : (fields : List Field) → ((f : Field) → Contains fields f → has f.flags.bits STATIC ≡ true) → own_types classes fields ≡ []
  unfolding own_types
  all_static [] static = refl
  all_static (f ∷ fields) static =
      let here : is_instance f ≡ false = denied (is_instance f) (static f (0, omega arith, refl)) in
      rw here (all_static fields (λ other among. static other (Contains-append_right (f ∷ []) fields other among)))

-- ---- the classes of a set

abbrev no_class : BuiltIn
no_class = built_in [] []

no_superclass : (ns : List (List ℕ)) (o : Option ClassId) (given : Option (List ℕ)) → option_map (λ (id : ClassId). slice_get ns id.0) o ≡ option_map (λ (n : List ℕ). Some n) given → given ≡ None → o ≡ None
no_superclass ns None given e none = refl
no_superclass ns (Some id) None e none = absurd (none_some (sym e))
no_superclass ns (Some id) (Some name) e none = absurd (none_some (sym none))

module _ (classes : List Class) (set : IsClassSet classes) where
  module _ (class : ClassId) (c : Class) (at : slice_get classes class.0 ≡ Some c) where
    well : IsWellFormed c.file
    well = at_index (λ (c : Class). IsWellFormed c.file) classes class.0 c set.well_formed at

    known : (name : List ℕ) → Mentions c.file name → IsSome (number_of classes name)
    known = at_index (λ (c : Class). (name : List ℕ) → Mentions c.file name → IsSome (number_of classes name)) classes class.0 c set.complete at

    -- java/lang/Object is the built-in one, and java/lang/Throwable
    is_object : c.file.name ≡ codes "java/lang/Object" → (c.file.superclass ≡ None) × (own_types classes c.file.fields ≡ [])
    unfolding built_ins own_types
    is_object named =
        let same = at_index (λ (c : Class). c.file.name ≡ codes "java/lang/Object" → c.file ≡ file_of (get_or built_ins 0 no_class)) classes class.0 c (set.as_built_in 0 no_class (lit< tt)) at named in
        (ap (λ (f : ClassFile). f.superclass) same, ap (λ (f : ClassFile). own_types classes f.fields) same)

    object : c.file.name ≡ codes "java/lang/Object" → (c.superclass ≡ None) × (own_types classes c.file.fields ≡ [])
    object named =
        let is = is_object named in
        let r = at_index (IsResolved (names classes)) classes class.0 c set.resolved at in
        (no_superclass (names classes) c.superclass c.file.superclass r.superclass is.0, is.1)

    throwable : c.file.name ≡ codes "java/lang/Throwable" → ¬ IsInterface c
    unfolding built_ins
    throwable named interface =
        let same = at_index (λ (c : Class). c.file.name ≡ codes "java/lang/Throwable" → c.file ≡ file_of (get_or built_ins 1 no_class)) classes class.0 c (set.as_built_in 1 no_class (lit< tt)) at named in
        interface (ap (λ (f : ClassFile). bit_and f.flags.bits INTERFACE) same)

    field_well : (f : Field) → Contains c.file.fields f → IsWellFormedField (has c.file.flags.bits INTERFACE) f
    field_well f among = All-contains (IsWellFormedField (has c.file.flags.bits INTERFACE)) c.file.fields f well.fields among

    interface_fields : IsInterface c → own_types classes c.file.fields ≡ []
    interface_fields interface = all_static classes c.file.fields (λ f among. (field_well f among).constant (has_some (bit_and c.file.flags.bits INTERFACE) interface))

    fields : ArePlain (own_types classes c.file.fields)
    fields = own_plain classes c.file.fields (λ f among. type_plain classes f.kind (field_well f among).in_profile (λ name is. known name (by_field f among is)))

  module _ (m : Method) (d : Declares classes m) where
    method_among : Contains d.c.file.methods m
    method_among = stands d.c.file.methods d.index m d.is

    method_well : IsWellFormedMethod m
    method_well = at_index IsWellFormedMethod d.c.file.methods d.index m (well d.class d.c d.at).methods d.is

    in_profile : (list_all is_profile_type m.types.parameters ≡ true) × (result_in_profile m.types.result ≡ true)
    unfolding method_type_in_profile
    in_profile = both (list_all is_profile_type m.types.parameters) (result_in_profile m.types.result) method_well.in_profile

    parameters : ArePlain (map (field_vtype classes) m.types.parameters)
    parameters = types_plain classes m.types.parameters in_profile.0 (λ type among name is. known d.class d.c d.at name (by_method m method_among (by_parameter type among is)))

    result : (type : FieldType) → m.types.result ≡ Some type → IsPlain (field_vtype classes type)
    result type is =
        type_plain classes type (subst (λ (o : Option FieldType). result_in_profile o ≡ true) is in_profile.1)
        (λ name named. known d.class d.c d.at name (by_method m method_among (by_result type is named)))

  abbrev spelling : MethodDescriptor → Result MethodDescriptor ReadFault
  spelling types = Ok types

  described : (m n : Method) → Declares classes m → Declares classes n → m.descriptor ≡ n.descriptor → m.types ≡ n.types
  described m n d e same =
      equal m.types n.types
      (sym (method_descriptor_again 0 m.descriptor m.types (method_well m d).spelled) ∙ (ap (method_descriptor_of 0) same ∙ method_descriptor_again 0 n.descriptor n.types (method_well n e).spelled))
    where
      equal : (a b : MethodDescriptor) → spelling a ≡ spelling b → a ≡ b
      equal a b e = cc

  pub as_read : AreAsRead classes
  as_read = record {
    object = object;
    interfaces = interface_fields;
    fields = fields;
    parameters = parameters;
    results = λ m type d is. result m d type is;
    inits = λ m d e. (method_well m d).initializer e;
    described = described;
    superinterfaces = set.implemented;
    throwable = throwable;
  }
