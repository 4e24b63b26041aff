-- What is looked for in a set is of the types of its world: what fields hold, and their slots.
use Rattle.std.proofs.Common.{◌≡◌, ℕ, zero, suc, ◌+◌, ◌++◌, Bool, true, false, Option, Some, None, List, [], ◌∷◌, length, refl, sym, subst, ap, ◌∙◌, arith, append_assoc}
use Rattle.std.specs.Prelude.{◌==◌, ◌&&◌, nat_eq, if◌then◌else◌, map, option_map, option_and_then, slice_get}
use Rattle.std.specs.List.{AllZip}
use Rattle.std.specs.Option.{option_map_or}
use Rattle.std.proofs.lemmas.Bool.{eqb-true}
use Rattle.std.proofs.lemmas.Option.{slice_get-map}
use Rattle.cf_text.specs.declared.types.ElementType.{ElementType}
use Rattle.cf_text.specs.declared.types.ElementType.TheVariants as element
use Rattle.cf_text.specs.declared.types.FieldType.{FieldType}
use Rattle.cf_reader.specs.declared.class_file.Field.{Field}
use Rattle.cls_link.specs.Fields.{is_instance, instance_fields}
use Rattle.cls_search.specs.FieldSearches.{field_at}
use Rattle.cls_search.specs.declared.fields.FieldIndex.{FieldIndex}
use Rattle.cls_set.proofs.Hierarchy.{same_some, true_false, none_some, equal}
use Rattle.cls_set.specs.Classes.{number_of}
use Rattle.cls_set.specs.declared.class.Class.{Class}
use Rattle.space_ids.specs.declared.ids.ClassId.{ClassId}
use Rattle.ver_frames.specs.Types.{field_vtype, element_type, is_int}
use Rattle.ver_frames.specs.declared.vtype.VType.{VType}
use Rattle.ver_frames.specs.declared.vtype.VType.TheVariants as vtype
use Rattle.vm_heap.specs.declared.heap.WordKind.{WordKind}
use Rattle.vm_heap.specs.declared.heap.WordKind.TheVariants as kind
use Rattle.vm_act.specs.declared.crossing.Parameter.TheVariants as parameter
use Rattle.vm_code.specs.Parameters.{is_array_element, parameter_of, parameter_with}
use Rattle.vm_typing.specs.Owed.{HasKind, Takes}
use Rattle.vm_typing.specs.World.{IsPlain, ArePlain}
use Rattle.vm_code.specs.Fields.{element_kind, fields_up, fields_of, index_of, is_field_index, kind_of, kinds_of, kinds_up, own_kinds, slot_of}
use Rattle.vm_laws.specs.Files.{own_types, types_of, types_up, AreAsRead}

module _ (classes : List Class) where
  named_kind : (o : Option ClassId) → IsPlain (option_map_or vtype.Object o vtype.Top) → HasKind (option_map_or vtype.Object o vtype.Top) (element_kind (element.Class []))
  named_kind None plain = absurd plain
  named_kind (Some class) plain = tt

  of_element : (e : ElementType) → IsPlain (element_type classes e) → HasKind (element_type classes e) (element_kind e)
  unfolding element_type
  of_element element.Int plain = tt
  of_element element.Boolean plain = tt
  of_element (element.Class name) plain = named_kind (number_of classes name) plain
  of_element e plain = absurd plain

  pub has_kind : (type : FieldType) → IsPlain (field_vtype classes type) → HasKind (field_vtype classes type) (kind_of type)
  unfolding field_vtype
  has_kind type plain = on (type.dimensions == 0) ((type.dimensions == 1) && is_int type.element) plain
    where
      array : (b : Bool) → IsPlain (if b then vtype.IntArray else vtype.Top) → HasKind (if b then vtype.IntArray else vtype.Top) kind.Reference
      array true plain = tt
      array false plain = absurd plain

      on : (a b : Bool) → IsPlain (if a then element_type classes type.element else (if b then vtype.IntArray else vtype.Top))
          → HasKind (if a then element_type classes type.element else (if b then vtype.IntArray else vtype.Top)) (if a then element_kind type.element else kind.Reference)
      on true b plain = of_element type.element plain
      on false b plain = array b plain

  -- ---- what parameters take

  named_takes : (o : Option ClassId) → IsPlain (option_map_or vtype.Object o vtype.Top) → Takes parameter.Reference (option_map_or vtype.Object o vtype.Top)
  named_takes None plain = absurd plain
  named_takes (Some class) plain = tt

  element_takes : (e : ElementType) → IsPlain (element_type classes e) → Takes (parameter_with false (element_kind e)) (element_type classes e)
  unfolding element_type
  element_takes element.Int plain = tt
  element_takes element.Boolean plain = tt
  element_takes (element.Class name) plain = named_takes (number_of classes name) plain
  element_takes e plain = absurd plain

  array_takes : (e : ElementType) → IsPlain (if is_int e then vtype.IntArray else vtype.Top)
      → Takes (if is_array_element e then parameter.Ints else parameter.Reference) (if is_int e then vtype.IntArray else vtype.Top)
  array_takes element.Int plain = tt
  array_takes e plain = absurd plain

  pub takes_type : (type : FieldType) → IsPlain (field_vtype classes type) → Takes (parameter_of type) (field_vtype classes type)
  unfolding field_vtype
  takes_type type plain = on (type.dimensions == 0) (type.dimensions == 1) apart plain
    where
      apart : (type.dimensions == 0) ≡ true → (type.dimensions == 1) ≡ false
      apart none = let zero_is : type.dimensions ≡ 0 = eqb-true type.dimensions 0 none in rw zero_is refl

      on : (a b : Bool) → (a ≡ true → b ≡ false) → IsPlain (if a then element_type classes type.element else (if b && is_int type.element then vtype.IntArray else vtype.Top))
          → Takes (parameter_with (b && is_array_element type.element) (if a then element_kind type.element else kind.Reference))
          (if a then element_type classes type.element else (if b && is_int type.element then vtype.IntArray else vtype.Top))
      on true true apart plain = absurd (true_false (apart refl))
      on true false apart plain = element_takes type.element plain
      on false true apart plain = array_takes type.element plain
      on false false apart plain = absurd plain

  pub all_take : (types : List FieldType) → ArePlain (map (field_vtype classes) types) → AllZip Takes (map parameter_of types) (map (field_vtype classes) types)
  all_take [] plain = tt
  all_take (type ∷ types) plain = (takes_type type plain.0, all_take types plain.1)

  own_held : (fs : List Field) → ArePlain (own_types classes fs) → AllZip HasKind (own_types classes fs) (own_kinds fs)
  unfolding own_types own_kinds
  own_held [] plain = tt
  own_held (f ∷ fs) plain = on (is_instance f) (own_held fs) plain
    where
      on : (b : Bool) → (ArePlain (own_types classes fs) → AllZip HasKind (own_types classes fs) (own_kinds fs))
          → ArePlain (if b then field_vtype classes f.kind ∷ own_types classes fs else own_types classes fs)
          → AllZip HasKind (if b then field_vtype classes f.kind ∷ own_types classes fs else own_types classes fs) (if b then kind_of f.kind ∷ own_kinds fs else own_kinds fs)
      on true go plain = (has_kind f.kind plain.0, go plain.1)
      on false go plain = go plain

  zip_append : (ts us : List VType) (ks ls : List WordKind) → AllZip HasKind ts ks → AllZip HasKind us ls → AllZip HasKind (ts ++ us) (ks ++ ls)
  zip_append [] us [] ls p q = q
  zip_append [] us (k ∷ ks) ls p q = absurd p
  zip_append (t ∷ ts) us [] ls p q = absurd p
  zip_append (t ∷ ts) us (k ∷ ks) ls p q = (p.0, zip_append ts us ks ls p.1 q)

  held_up : AreAsRead classes → (n : ℕ) (class : ClassId) → AllZip HasKind (types_up n classes class) (kinds_up n classes class)
  unfolding types_up kinds_up
  held_up read zero class = tt
  held_up read (suc n) class = on (held_up read n) (slice_get classes class.0) refl
    where
      above : ((s : ClassId) → AllZip HasKind (types_up n classes s) (kinds_up n classes s)) → (o : Option ClassId)
          → AllZip HasKind (option_map_or (types_up n classes) o []) (option_map_or (kinds_up n classes) o [])
      above go None = tt
      above go (Some s) = go s

      on : ((s : ClassId) → AllZip HasKind (types_up n classes s) (kinds_up n classes s)) → (o : Option Class) → slice_get classes class.0 ≡ o
          → AllZip HasKind (option_map_or (λ (c : Class). option_map_or (types_up n classes) c.superclass [] ++ own_types classes c.file.fields) o [])
          (option_map_or (λ (c : Class). option_map_or (kinds_up n classes) c.superclass [] ++ own_kinds c.file.fields) o [])
      on go None at = tt
      on go (Some c) at =
          zip_append (option_map_or (types_up n classes) c.superclass []) (own_types classes c.file.fields) (option_map_or (kinds_up n classes) c.superclass []) (own_kinds c.file.fields)
          (above go c.superclass) (own_held c.file.fields (read.fields class c at))

  pub held : AreAsRead classes → (class : ClassId) (kinds : List WordKind) → kinds_of classes class ≡ Some kinds → AllZip HasKind (types_of classes class) kinds
  unfolding kinds_of
  held read class kinds e = on (slice_get classes class.0) e
    where
      on : (o : Option Class) → option_map (λ (c : Class). kinds_up (suc (length classes)) classes class) o ≡ Some kinds → AllZip HasKind (types_of classes class) kinds
      on None e = absurd (none_some e)
      on (Some c) e = subst (AllZip HasKind (types_of classes class)) (same_some e) (held_up read (suc (length classes)) class)

  -- ---- the slots of fields

  abbrev type_at : FieldIndex → VType
  type_at index = option_map_or (λ (f : Field). field_vtype classes f.kind) (field_at classes index) vtype.Top

  front : (xs ys : List Field) (y : Field) → slice_get (xs ++ y ∷ ys) (length xs) ≡ Some y
  front [] ys y = refl
  front (x ∷ xs) ys y = front xs ys y

  type_here : (class : ClassId) (c : Class) → slice_get classes class.0 ≡ Some c → (pre fs : List Field) (f : Field) → c.file.fields ≡ pre ++ f ∷ fs
      → type_at (record { class = class; index = length pre }) ≡ field_vtype classes f.kind
  type_here class c at pre fs f e =
      ap (λ (o : Option Field). option_map_or (λ (f : Field). field_vtype classes f.kind) o vtype.Top)
      (ap (option_and_then (λ (c : Class). slice_get c.file.fields (length pre))) at
      ∙ (ap (λ (gs : List Field). slice_get gs (length pre)) e ∙ front pre fs f))

  longer : (pre : List Field) (f : Field) → suc (length pre) ≡ length (pre ++ f ∷ [])
  longer [] f = refl
  longer (g ∷ pre) f = ap suc (longer pre f)

  own_map : (class : ClassId) (c : Class) → slice_get classes class.0 ≡ Some c → (fs pre : List Field) (k : ℕ) → k ≡ length pre → c.file.fields ≡ pre ++ fs
      → map type_at (instance_fields class k fs) ≡ own_types classes fs
  unfolding own_types
  own_map class c at [] pre k long e = refl
  own_map class c at (f ∷ fs) pre k long e =
      on (is_instance f) (own_map class c at fs (pre ++ f ∷ []) (suc k) (ap suc long ∙ longer pre f) (e ∙ sym (append_assoc pre (f ∷ []) fs)))
    where
      here : type_at (record { class = class; index = k }) ≡ field_vtype classes f.kind
      here = ap (λ (n : ℕ). type_at (record { class = class; index = n })) long ∙ type_here class c at pre fs f e

      on : (b : Bool) → map type_at (instance_fields class (suc k) fs) ≡ own_types classes fs
          → map type_at (if b then record { class = class; index = k } ∷ instance_fields class (suc k) fs else instance_fields class (suc k) fs)
          ≡ (if b then field_vtype classes f.kind ∷ own_types classes fs else own_types classes fs)
      on true rest = ap (λ (t : VType). t ∷ map type_at (instance_fields class (suc k) fs)) here ∙ ap (λ ts. field_vtype classes f.kind ∷ ts) rest
      on false rest = rest

  map_both : (xs ys : List FieldIndex) → map type_at (xs ++ ys) ≡ map type_at xs ++ map type_at ys
  map_both [] ys = refl
  map_both (x ∷ xs) ys = ap (λ ts. type_at x ∷ ts) (map_both xs ys)

  types_map : (n : ℕ) (class : ClassId) → map type_at (fields_up n classes class) ≡ types_up n classes class
  unfolding fields_up types_up
  types_map zero class = refl
  types_map (suc n) class = on (types_map n) (slice_get classes class.0) refl
    where
      above : ((s : ClassId) → map type_at (fields_up n classes s) ≡ types_up n classes s) → (o : Option ClassId)
          → map type_at (option_map_or (fields_up n classes) o []) ≡ option_map_or (types_up n classes) o []
      above go None = refl
      above go (Some s) = go s

      on : ((s : ClassId) → map type_at (fields_up n classes s) ≡ types_up n classes s) → (o : Option Class) → slice_get classes class.0 ≡ o
          → map type_at (option_map_or (λ (c : Class). option_map_or (fields_up n classes) c.superclass [] ++ instance_fields class 0 c.file.fields) o [])
          ≡ option_map_or (λ (c : Class). option_map_or (types_up n classes) c.superclass [] ++ own_types classes c.file.fields) o []
      on go None at = refl
      on go (Some c) at =
          map_both (option_map_or (fields_up n classes) c.superclass []) (instance_fields class 0 c.file.fields)
          ∙ (ap (λ ts. ts ++ map type_at (instance_fields class 0 c.file.fields)) (above go c.superclass)
          ∙ ap (λ ts. option_map_or (types_up n classes) c.superclass [] ++ ts) (own_map class c at c.file.fields [] 0 refl refl))

  both_true : (a b : Bool) → (a && b) ≡ true → (a ≡ true) × (b ≡ true)
  both_true true b e = (refl, e)
  both_true false b e = absurd (true_false (sym e))

  same_field_index : (f g : FieldIndex) → is_field_index f g ≡ true → f ≡ g
  same_field_index f g e =
      let both = both_true (nat_eq f.class.0 g.class.0) (nat_eq f.index g.index) e in
      let class = equal f.class g.class both.0 in
      let index = eqb-true f.index g.index both.1 in
      ap (λ (c : ClassId). record { class = c; index = f.index }) class ∙ ap (λ (n : ℕ). record { class = g.class; index = n }) index

  found_at : (field : FieldIndex) (fs : List FieldIndex) (k slot : ℕ) → index_of field k fs ≡ Some slot → (i : ℕ) × (slot ≡ k + i) × (slice_get fs i ≡ Some field)
  found_at field [] k slot e = absurd (none_some e)
  found_at field (f ∷ fs) k slot e = on (is_field_index field f) refl (found_at field fs (suc k) slot) e
    where
      on : (b : Bool) → is_field_index field f ≡ b → (index_of field (suc k) fs ≡ Some slot → (i : ℕ) × (slot ≡ suc k + i) × (slice_get fs i ≡ Some field))
          → (if b then Some k else index_of field (suc k) fs) ≡ Some slot → (i : ℕ) × (slot ≡ k + i) × (slice_get (f ∷ fs) i ≡ Some field)
      on true is go e = let here = same_some e in (0, omega (arith, here), ap (λ (p : FieldIndex). Some p) (sym (same_field_index field f is)))
      on false is go e = let r = go e in let later = r.1 in (suc r.0, omega (arith, later), r.2)

  pub kept_at : (field : FieldIndex) (f : Field) (slot : ℕ) → field_at classes field ≡ Some f → slot_of classes field ≡ Some slot
      → slice_get (types_of classes field.class) slot ≡ Some (field_vtype classes f.kind)
  unfolding slot_of
  kept_at field f slot at e = on (is_instance f) (sym (ap (option_and_then (λ (f : Field). if is_instance f then index_of field 0 (fields_of classes field.class) else None)) at) ∙ e)
    where
      on : (b : Bool) → (if b then index_of field 0 (fields_of classes field.class) else None) ≡ Some slot → slice_get (types_of classes field.class) slot ≡ Some (field_vtype classes f.kind)
      on true e =
          let r = found_at field (fields_of classes field.class) 0 slot e in
          let same = r.1 in
          let index : slot ≡ r.0 = omega (arith, same) in
          ap (slice_get (types_of classes field.class)) index
          ∙ (ap (λ (ts : List VType). slice_get ts r.0) (sym (types_map (suc (length classes)) field.class))
          ∙ (slice_get-map type_at (fields_of classes field.class) r.0
          ∙ (ap (option_map type_at) r.2
          ∙ ap (λ (o : Option Field). Some (option_map_or (λ (f : Field). field_vtype classes f.kind) o vtype.Top)) at)))
      on false e = absurd (none_some e)
