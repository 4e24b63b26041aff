-- The values of a typed frame are of the types that fields, parameters and results declare, so the tests of an instruction let them pass.
use Rattle.std.proofs.Common.{◌≡◌, ◌⊎◌, inl, inr, ℕ, ◌++◌, Bool, true, false, List, [], ◌∷◌, length, map, reverse, refl, sym, subst, ap, ◌∙◌, Option, Some, None}
use Rattle.std.specs.Prelude.{◌==◌, ◌&&◌, ◌||◌, nat_eq, if◌then◌else◌, option_map, slice_get, IsSomeAnd}
use Rattle.std.specs.Option.{option_map_or}
use Rattle.std.proofs.lemmas.Bool.{eq-eqb}
use Rattle.std.proofs.lemmas.List.{length-map, length-reverse, reverse-append}
use Rattle.cf_text.specs.declared.types.ElementType.{ElementType}
use Rattle.cf_text.specs.declared.types.ElementType.TheVariants as element
use Rattle.cf_text.specs.declared.types.FieldType.{FieldType}
use Rattle.cls_search.proofs.Interfaces.{interface_true}
use Rattle.cls_search.specs.MethodSearches.{is_interface}
use Rattle.cls_set.proofs.Hierarchy.{some_of, true_false}
use Rattle.cls_set.specs.Classes.{number_of, IsInterface}
use Rattle.cls_set.specs.Sets.{IsClassSet}
use Rattle.cls_set.specs.Subtypes as subtypes
use Rattle.cls_set.specs.Subtypes.{IsSubclass, IsSubtype}
use Rattle.cls_set.specs.declared.class.Class.{Class}
use Rattle.space_ids.specs.declared.ids.ClassId.{ClassId}
use Rattle.space_ids.specs.declared.ids.Ref.{Ref}
use Rattle.ver_frames.specs.Assignable.{AreAssignable, IsObjectAssignable}
use Rattle.ver_frames.specs.Types as types
use Rattle.ver_frames.specs.Types.{element_type, field_vtype}
use Rattle.ver_frames.specs.declared.vtype.VType.{VType}
use Rattle.ver_frames.specs.declared.vtype.VType.TheVariants as vtype
use Rattle.vm_act.specs.Objects.{referent_in, remote_referent}
use Rattle.vm_act.specs.Steps.{is_int}
use Rattle.vm_act.specs.declared.machine.Machine.{Machine}
use Rattle.vm_act.specs.declared.objects.Referent.{Referent}
use Rattle.vm_act.specs.declared.objects.Referent.TheVariants as referent
use Rattle.vm_code.proofs.Subtypes.{subtype_test}
use Rattle.vm_code.specs.Fields.{element_kind}
use Rattle.vm_code.specs.Fits.{all_fit, fits, fits_as, is_ints, is_of_class, is_of_element, is_very_class, operand_is, refers, stands_for}
use Rattle.vm_code.specs.Parameters.{is_array_element}
use Rattle.vm_heap.specs.Heap.{Cell, Object, Ints, cell_at}
use Rattle.vm_heap.specs.References.{is_own}
use Rattle.vm_heap.specs.Tagged.{Tagged, Site, HeapAddress, ReferenceRow, Int, Null, Local, Remote, Fresh, This, Unset, Head, IsInt, object_at}
use Rattle.vm_heap.specs.declared.heap.WordKind.TheVariants as kind
use Rattle.vm_typing.proofs.Calls.{on_left}
use Rattle.vm_typing.proofs.Leads.{length-AllZip}
use Rattle.vm_typing.proofs.Referents.{found}
use Rattle.vm_typing.proofs.Turns.{ArePlain-reverse, get_front, map-append, popped}
use Rattle.vm_typing.specs.Fits.{OfHeap, OfSpace, OfStub, pointee_at, held_by, remote_pointee, IsA, IsOf, IsInts, There, Points, Marks, Fits, AllFit}
use Rattle.vm_typing.specs.Owed.{IsOne, Owed}
use Rattle.vm_typing.specs.World.{World, IsKnown, IsPlain, ArePlain}
use Rattle.vm_laws.proofs.Sets.{object_is}

pub and_true : (a b : Bool) → a ≡ true → b ≡ true → (a && b) ≡ true
and_true true b e f = f
and_true false b e f = absurd (true_false (sym e))

or_left : (a b : Bool) → a ≡ true → (a || b) ≡ true
or_left true b e = refl
or_left false b e = absurd (true_false (sym e))

or_right : (a b : Bool) → b ≡ true → (a || b) ≡ true
or_right true b e = refl
or_right false b e = e

operand_at : (n : ℕ) (operands passed left : List Tagged) (v : Tagged) → operands ≡ passed ++ v ∷ left → length passed ≡ n → slice_get operands n ≡ Some v
operand_at n operands passed left v whole long = rw (whole, ← long) (get_front passed left v)

int_passes : (v : Tagged) → IsInt v → is_int v ≡ true
int_passes (Int n) is = refl
int_passes Null is = absurd is
int_passes (Local address) is = absurd is
int_passes (Remote row) is = absurd is
int_passes (Fresh index site) is = absurd is
int_passes (This site) is = absurd is
int_passes Unset is = absurd is
int_passes (Head header) is = absurd is

map-reverse : {A B : Type 0} (f : A → B) (xs : List A) → map f (reverse xs) ≡ reverse (map f xs)
map-reverse f [] = refl
map-reverse f (x ∷ xs) =
    ap (map f) (reverse-append (x ∷ []) xs) ∙ (map-append f (reverse xs) (x ∷ [])
    ∙ (ap (λ (ys : List _). ys ++ f x ∷ []) (map-reverse f xs) ∙ sym (reverse-append (f x ∷ []) (map f xs))))

-- a subclass is a subtype
subtype_of : (classes : List Class) (a b : ClassId) → IsSubclass classes a b → IsSubtype classes a b
subtype_of classes a b (subtypes.IsSubclass.itself c) = subtypes.IsSubtype.itself c
subtype_of classes a b (subtypes.IsSubclass.superclass c d extends) = subtypes.IsSubtype.superclass c d extends
subtype_of classes a b (subtypes.IsSubclass.through c d e one other) =
    subtypes.IsSubtype.through c d e (subtype_of classes c d one) (subtype_of classes d e other)

interface_passes : (classes : List Class) (class : ClassId) → IsSomeAnd (slice_get classes class.0) IsInterface → is_interface classes class ≡ true
interface_passes classes class interface =
    let c = some_of (slice_get classes class.0) IsInterface interface in interface_true classes class c.0 c.1 c.2

module _ (w : World) (owed : Owed w) (set : IsClassSet w.classes) where
  class_passes : (given asked : ClassId) → IsKnown w given → IsObjectAssignable w.classes given asked → stands_for w.classes asked given ≡ true
  class_passes given asked known (inl interface) = or_left (is_interface w.classes asked) _ (interface_passes w.classes asked interface)
  class_passes given asked known (inr below) =
      or_right (is_interface w.classes asked) _ (sym (subtype_test w.classes set given asked true known (λ e. subtype_of w.classes given asked below, λ is. refl)))

  referent_passes : (asked : ClassId) (r : Referent) → IsOne w (vtype.Object asked) r → is_of_class w.classes asked r ≡ true
  referent_passes asked referent.Null one = refl
  referent_passes asked (referent.Object class) one = class_passes class asked one.0 one.1
  referent_passes asked referent.Ints one = rw (object_is w owed set) (class_passes w.object asked one.0 one.1)
  referent_passes asked (referent.Stub reference) one = rw (object_is w owed set) (class_passes w.object asked one.0 one.1)

  ints_pass : (r : Referent) → IsOne w vtype.IntArray r → is_ints r ≡ true
  ints_pass referent.Null one = refl
  ints_pass (referent.Object class) one = absurd one
  ints_pass referent.Ints one = refl
  ints_pass (referent.Stub reference) one = absurd one

  module _ (m : Machine) (k : Marks) where
    -- an object that may stand for a class
    pub object_passes : (class : ClassId) (v : Tagged) → Points (IsA w class) (held_by m) v → refers (is_of_class w.classes class) m v ≡ true
    object_passes class v fit =
        let f = found w (held_by m) k (vtype.Object class) v tt fit in rw f.is (referent_passes class f.stands f.one)

    named_passes : (o : Option ClassId) (v : Tagged) → IsPlain (option_map_or vtype.Object o vtype.Top)
        → Fits w (held_by m) k (option_map_or vtype.Object o vtype.Top) v → refers (λ r. option_map_or (λ asked. is_of_class w.classes asked r) o false) m v ≡ true
    named_passes None v plain fit = absurd plain
    named_passes (Some class) v plain fit = object_passes class v fit

    array_passes : (v : Tagged) → Points IsInts (held_by m) v → refers is_ints m v ≡ true
    array_passes v fit = let f = found w (held_by m) k vtype.IntArray v tt fit in rw f.is (ints_pass f.stands f.one)

    element_passes : (none one : Bool) (e : ElementType) (v : Tagged)
        → IsPlain (if none then element_type w.classes e else (if one && types.is_int e then vtype.IntArray else vtype.Top))
        → Fits w (held_by m) k (if none then element_type w.classes e else (if one && types.is_int e then vtype.IntArray else vtype.Top)) v
        → fits_as (if none then element_kind e else kind.Reference)
        (λ r. if none then is_of_element w.classes e r else ((one && is_array_element e) && is_ints r)) m v ≡ true
    unfolding element_type
    element_passes true one element.Int v plain fit = int_passes v fit
    element_passes true one element.Boolean v plain fit = int_passes v fit
    element_passes true one (element.Class name) v plain fit = named_passes (number_of w.classes name) v plain fit
    element_passes true one e v plain fit = absurd plain
    element_passes false true element.Int v plain fit = array_passes v fit
    element_passes false true e v plain fit = absurd plain
    element_passes false false e v plain fit = absurd plain

    -- a value of the type of a field, a parameter or a result
    pub value_passes : (type : FieldType) (v : Tagged) → IsPlain (field_vtype w.classes type) → Fits w (held_by m) k (field_vtype w.classes type) v
        → fits w.classes type m v ≡ true
    unfolding field_vtype
    value_passes type v plain fit = element_passes (type.dimensions == 0) (type.dimensions == 1) type.element v plain fit

    values_pass : (all : List FieldType) (values rest : List Tagged) → ArePlain (map (field_vtype w.classes) all)
        → AllFit w (held_by m) k (map (field_vtype w.classes) all) values → all_fit w.classes all m (values ++ rest) ≡ true
    values_pass [] values rest plain fit = refl
    values_pass (type ∷ all) [] rest plain fit = absurd fit
    values_pass (type ∷ all) (v ∷ values) rest plain fit =
        and_true (fits w.classes type m v) (all_fit w.classes all m (values ++ rest)) (value_passes type v plain.0 fit.0) (values_pass all values rest plain.1 fit.1)

    -- the arguments of a call, the last one on top
    pub arguments_pass : (parameters : List FieldType) (given below : List VType) → ArePlain (map (field_vtype w.classes) parameters)
        → AreAssignable w.classes given (reverse (map (field_vtype w.classes) parameters)) → AllFit w (held_by m) k (given ++ below) m.stack.frame.operands
        → all_fit w.classes (reverse parameters) m m.stack.frame.operands ≡ true
    arguments_pass parameters given below plain to fit =
        let asked : List VType = reverse (map (field_vtype w.classes) parameters) in
        let off = popped w owed (held_by m) k given asked below m.stack.frame.operands to fit in
        let same : asked ≡ map (field_vtype w.classes) (reverse parameters) = sym (map-reverse (field_vtype w.classes) parameters) in
        subst (λ (os : List Tagged). all_fit w.classes (reverse parameters) m os ≡ true) (sym off.whole)
        (values_pass (reverse parameters) off.passed off.left (subst ArePlain same (ArePlain-reverse (map (field_vtype w.classes) parameters) plain))
        (subst (λ (ts : List VType). AllFit w (held_by m) k ts off.passed) same off.fit))

    -- the operand below the arguments
    pub below_them : (parameters : List FieldType) (given : List VType) (t : VType) (below : List VType)
        → AreAssignable w.classes given (reverse (map (field_vtype w.classes) parameters)) → AllFit w (held_by m) k (given ++ t ∷ below) m.stack.frame.operands
        → (v : Tagged) × ((slice_get m.stack.frame.operands (length parameters) ≡ Some v) × Fits w (held_by m) k t v)
    below_them parameters given t below to fit =
        let asked : List VType = reverse (map (field_vtype w.classes) parameters) in
        let off = popped w owed (held_by m) k given asked (t ∷ below) m.stack.frame.operands to fit in
        let top = on_left (Fits w (held_by m) k) t below off.left off.rest in
        let long : length off.passed ≡ length parameters =
        length-AllZip (Fits w (held_by m) k) asked off.passed off.fit ∙ (length-reverse (map (field_vtype w.classes) parameters) ∙ length-map parameters (field_vtype w.classes)) in
        let whole : m.stack.frame.operands ≡ off.passed ++ top.0 ∷ top.1.0 = off.whole ∙ ap (λ (zs : List Tagged). off.passed ++ zs) top.1.1.0 in
        (top.0, (operand_at (length parameters) m.stack.frame.operands off.passed top.1.0 top.0 whole long, top.1.1.1.0))

    -- what a `new` of a class made
    pub made_passes : (class : ClassId) (site : Site) → There (IsOf w class) (pointee_at (held_by m) site) → refers (is_very_class class) m (object_at site) ≡ true
    made_passes class (HeapAddress address) there = on (cell_at m.heap.cells address) there
      where
        on : (o : Option Cell) → There (IsOf w class) (option_map (λ cell. OfHeap cell) o) → option_map_or (is_very_class class) (option_map referent_in o) false ≡ true
        on None there = absurd there
        on (Some (Object c fields)) there = eq-eqb c.0 class.0 (ap (λ (d : ClassId). d.0) there.0)
        on (Some (Ints elements)) there = absurd there
    made_passes class (ReferenceRow row) there = on (slice_get m.references.rows row) there
      where
        by : (reference : Ref) (b : Bool) → IsOf w class (if b then OfSpace reference.class else OfStub reference.class)
            → is_very_class class (if b then referent.Object reference.class else referent.Stub reference) ≡ true
        by reference true there = eq-eqb reference.class.0 class.0 (ap (λ (d : ClassId). d.0) there.0)
        by reference false there = absurd there

        on : (o : Option Ref) → There (IsOf w class) (option_map (remote_pointee m.references) o) → option_map_or (is_very_class class) (option_map (remote_referent m.references) o) false ≡ true
        on None there = absurd there
        on (Some reference) there = by reference (is_own m.references reference) there
