-- The class of a member that stands in the set.
use Rattle.std.proofs.Common.{◌≡◌, ◌<◌, true, false, Option, Some, None, List, length, refl}
use Rattle.std.specs.Prelude.{IsSome, option_and_then, slice_get}
use Rattle.std.proofs.lemmas.Option.{slice_get_within}
use Rattle.cls_set.specs.declared.class.Class.{Class}
use Rattle.cls_search.specs.declared.fields.FieldIndex.{FieldIndex}
use Rattle.cls_search.specs.declared.methods.MethodIndex.{MethodIndex}
use Rattle.cls_search.specs.FieldSearches.{field_at}
use Rattle.cls_search.specs.MethodSearches.{method_in}

false_true : false ≡ true → ⊥
false_true e = cc

some_is : {A : Type 0} (o : Option A) → IsSome o → (x : A) × (o ≡ Some x)
some_is None h = absurd (false_true h)
some_is (Some x) h = (x, refl)

outer : {A : Type 0} (f : Class → Option A) (o : Option Class) → IsSome (option_and_then f o) → IsSome o
outer f None h = h
outer f (Some c) h = refl

pub class_in : (classes : List Class) (field : FieldIndex) → IsSome (field_at classes field) → field.class.0 < length classes
class_in classes field h =
    let s = some_is (slice_get classes field.class.0) (outer (λ (c : Class). slice_get c.file.fields field.index) (slice_get classes field.class.0) h) in
    slice_get_within classes field.class.0 s.0 s.1

pub class_of_method : (classes : List Class) (method : MethodIndex) → IsSome (method_in classes method) → method.class.0 < length classes
class_of_method classes method h =
    let s = some_is (slice_get classes method.class.0) (outer (λ (c : Class). slice_get c.file.methods method.index) (slice_get classes method.class.0) h) in
    slice_get_within classes method.class.0 s.0 s.1
