-- The method that a name and a descriptor mean in a class or interface, by the search of method resolution (JVMS 5.4.3.3, 5.4.3.4).
use Rattle.std.specs.Prelude.{◌==◌, ◌&&◌, ℕ, suc, Bool, false, not, Option, Some, None, List, [], ◌∷◌, IsTrue, bit_and, bytes_eq, codes, if◌then◌else◌, option_and_then, option_map, slice_get}
use Rattle.std.specs.Option.{option_map_or}
use Rattle.cf_reader.specs.declared.class_file.Method.{Method}
use Rattle.cf_reader.specs.declared.flags.TheConstants.Flags.{INTERFACE}
use Rattle.cls_set.specs.declared.class.Class.{Class}
use Rattle.space_ids.specs.declared.ids.ClassId.{ClassId}
use Rattle.cls_search.specs.declared.methods.MethodIndex.{MethodIndex}
use Rattle.cls_search.specs.Searches.{Finds, superclass_of, supertypes_of}

-- the index of the first method with this name and descriptor; the first of the methods has the index k
abbrev pub first_from : ℕ → List Method → List ℕ → List ℕ → Option ℕ
first_from k [] name descriptor = None
first_from k (m ∷ ms) name descriptor =
    if bytes_eq m.name name && bytes_eq m.descriptor descriptor then Some k else first_from (suc k) ms name descriptor

-- whether a class is an interface (JVMS 4.1)
abbrev pub is_interface : List Class → ClassId → Bool
is_interface classes class = option_map_or (λ (c : Class). not (bit_and c.file.flags.bits INTERFACE == 0)) (slice_get classes class.0) false

-- what an interface has of its own; a class has nothing here
abbrev pub own_of_interface : {A : Type 0} → List Class → (ClassId → Option A) → ClassId → Option A
own_of_interface classes own class = if is_interface classes class then own class else None

-- an initializer of instances (JVMS 2.9)
abbrev pub is_initializer : List ℕ → Bool
is_initializer name = bytes_eq name (codes "<init>")

-- The method of this name that is meant in a class (JVMS 5.4.3.3) or in an interface (JVMS 5.4.3.4), or none; `own` says which one each
-- class has of its own. That `<init>` is looked for in the class alone, and superinterfaces depth first, are rules of this project.
pub data Resolves {A : Type 0} (classes : List Class) (class : ClassId) (name : List ℕ) (own : ClassId → Option A) : Option A → Type 0 where
  of_class_alone : IsTrue (is_initializer name) → Resolves classes class name own (own class)
  -- of a class: itself and its superclasses
  in_superclasses : (method : A) → ¬ IsTrue (is_initializer name) → ¬ IsTrue (is_interface classes class)
      → Finds (superclass_of classes) own (class ∷ []) (Some method) → Resolves classes class name own (Some method)
  -- if these have none: their superinterfaces
  in_superinterfaces : (answer : Option A) → ¬ IsTrue (is_initializer name) → ¬ IsTrue (is_interface classes class)
      → Finds (superclass_of classes) own (class ∷ []) None
      → Finds (supertypes_of classes) (own_of_interface classes own) (class ∷ []) answer → Resolves classes class name own answer
  -- of an interface: itself and its superinterfaces
  in_interfaces : (answer : Option A) → ¬ IsTrue (is_initializer name) → IsTrue (is_interface classes class)
      → Finds (supertypes_of classes) (own_of_interface classes own) (class ∷ []) answer → Resolves classes class name own answer

-- the method that a class declares with this name and descriptor: its class, and its index among the methods of that class
abbrev pub own_method : List Class → List ℕ → List ℕ → ClassId → Option MethodIndex
own_method classes name descriptor class =
    option_and_then (λ (c : Class). option_map (λ index. record { class = class; index = index }) (first_from 0 c.file.methods name descriptor)) (slice_get classes class.0)

-- the method itself
abbrev pub method_in : List Class → MethodIndex → Option Method
method_in classes m = option_and_then (λ (c : Class). slice_get c.file.methods m.index) (slice_get classes m.class.0)
