-- The methods that a name and a descriptor mean, by their numbers (JVMS 5.4.3.3, 5.4.3.4), and the method that a call runs: the
-- selected one, which may override the resolved one (JVMS 5.4.5, 6.5).
use Rattle.std.specs.Prelude.{◌≡◌, ◌==◌, ℕ, Bool, true, not, Option, Some, None, List, [], ◌∷◌, bit_and, if◌then◌else◌, option_and_then, IsSome}
use Rattle.std.specs.Option.{option_map_or}
use Rattle.cf_reader.specs.declared.class_file.Method.{Method}
use Rattle.cf_reader.specs.declared.flags.TheConstants.Flags.{STATIC}
use Rattle.cls_set.specs.declared.class.Class.{Class}
use Rattle.space_ids.specs.declared.ids.ClassId.{ClassId}
use Rattle.cls_link.specs.declared.linked_code.MethodId.{MethodId}
use Rattle.cls_link.specs.declared.linked_code.Selection.{Selection}
use Rattle.cls_link.specs.declared.linked_code.Selection.TheVariants.{Runs, Abstract, Absent}
use Rattle.cls_link.specs.Links.{method_at, number_of}
use Rattle.cls_search.specs.MethodSearches.{Resolves}
use Rattle.cls_search.specs.Searches.{Finds, superclass_of}

-- the number of the method that a name and a descriptor mean
abbrev pub ResolvesMethod : List Class → ClassId → List ℕ → List ℕ → Option MethodId → Type 0
ResolvesMethod classes class name descriptor answer = Resolves classes class name (λ c. number_of classes c name descriptor) answer

-- whether a method is static (JVMS 4.6)
abbrev pub is_static : Method → Bool
is_static m = not (bit_and m.flags.bits STATIC == 0)

-- the instance method that a class declares with this name and descriptor
abbrev pub instance_method : List Class → List ℕ → List ℕ → ClassId → Option MethodId
instance_method classes name descriptor class =
    option_and_then (λ id. if option_map_or is_static (method_at classes id) true then None else Some id) (number_of classes class name descriptor)

-- the selection of a method that was found
pub data IsSelection (classes : List Class) : Option MethodId → Selection → Type 0 where
  runs : (id : MethodId) (m : Method) → method_at classes id ≡ Some m → IsSome m.code → IsSelection classes (Some id) (Runs id)
  abstract : (id : MethodId) (m : Method) → method_at classes id ≡ Some m → m.code ≡ None → IsSelection classes (Some id) (Abstract id)
  absent : IsSelection classes None Absent

-- The method that a call runs (JVMS 5.4.5, 6.5): the first instance method with the name and the descriptor of the one that was resolved,
-- from a class up its superclasses. Private ones count too (a rule of this project).
pub record Selects (classes : List Class) (class : ClassId) (resolved : MethodId) (selection : Selection) : Type 0 where
  pub method : Method
  pub declared : method_at classes resolved ≡ Some method
  pub found : Option MethodId
  pub search : Finds (superclass_of classes) (instance_method classes method.name method.descriptor) (class ∷ []) found
  pub selected : IsSelection classes found selection
