-- The methods that classes select (JVMS 5.4.5, 6.5), in trees by the numbers of names with descriptors.
use Rattle.std.specs.Option.{option_map_or}
use Rattle.std.specs.Prelude.{◌≡◌, ◌<◌, ℕ, Bool, true, suc, Option, Some, None, List, [], ◌∷◌, if◌then◌else◌, length, slice_get, slice_index_or}
use Rattle.cf_reader.specs.declared.class_file.Method.{Method}
use Rattle.cls_set.specs.declared.class.Class.{Class}
use Rattle.space_ids.specs.declared.ids.ClassId.{ClassId}
use Rattle.cls_link.specs.declared.linked_code.MethodId.{MethodId}
use Rattle.cls_link.specs.Links.{method_at}
use Rattle.cls_link.specs.Selections.{instance_method, is_static}
use Rattle.cls_search.specs.Searches.{Finds, superclass_of}
use Rattle.cls_tables.specs.Numbers.{is_same}
use Rattle.cls_tables.specs.Trees.{agree, find, IsTree}
use Rattle.cls_tables.specs.declared.trees.Node.{Node}

-- The method that a class selects for one that was resolved: the first instance method of its name and descriptor, from the class up its
-- superclasses. That private ones count too is a rule of this project.
pub record IsSelected (classes : List Class) (class : ClassId) (resolved : MethodId) (found : Option MethodId) : Type 0 where
  pub method : Method
  pub declared : method_at classes resolved ≡ Some method
  pub search : Finds (superclass_of classes) (instance_method classes method.name method.descriptor) (class ∷ []) found

-- a method as trees keep it: its number and one, and 0 for none
abbrev pub code_of : Option MethodId → ℕ
code_of None = 0
code_of (Some id) = suc id.0

-- the keys of methods agree just where names and descriptors do
pub record AreKeys (classes : List Class) (levels : ℕ) (keys : List ℕ) : Type 0 where
  pub told : (i j : MethodId) (a b : Method) → method_at classes i ≡ Some a → method_at classes j ≡ Some b
      → agree levels (slice_index_or keys i.0 0) (slice_index_or keys j.0 0) ≡ is_same a b

-- what a class selects for a method that is named
pub record IsChosen (classes : List Class) (class : ClassId) (method : Method) (code : ℕ) : Type 0 where
  pub found : Option MethodId
  pub search : Finds (superclass_of classes) (instance_method classes method.name method.descriptor) (class ∷ []) found
  pub is : code ≡ code_of found

-- the tree of a class has what it selects for each method
pub record HasChoices (classes : List Class) (levels : ℕ) (keys : List ℕ) (class : ClassId) (nodes : List Node) (root : ℕ) : Type 0 where
  pub tree : IsTree nodes levels root
  pub chosen : (id : MethodId) (m : Method) → method_at classes id ≡ Some m → IsChosen classes class m (find nodes levels root (slice_index_or keys id.0 0))

-- so it is of each class that has a tree
pub record HaveSome (classes : List Class) (levels : ℕ) (keys : List ℕ) (nodes : List Node) (memo : List (Option ℕ)) : Type 0 where
  pub one_each : length memo ≡ length classes
  pub choices : (class : ClassId) (root : ℕ) → slice_get memo class.0 ≡ Some (Some root) → HasChoices classes levels keys class nodes root

-- a method that is found, or else what is inherited
abbrev pub code_or : Option MethodId → ℕ → ℕ
code_or None inherited = inherited
code_or (Some id) inherited = suc id.0

-- whether a method is static (JVMS 4.6), and so none that is selected
abbrev pub is_static_at : List Class → MethodId → Bool
is_static_at classes id = option_map_or is_static (method_at classes id) true

-- an instance method; a static one leaves what is inherited
abbrev pub own_code : List Class → MethodId → ℕ → ℕ
own_code classes id inherited = if is_static_at classes id then inherited else suc id.0

-- the first method of a name and a descriptor, if there is one
abbrev pub first_code : List Class → Option MethodId → ℕ → ℕ
first_code classes None inherited = inherited
first_code classes (Some id) inherited = own_code classes id inherited

-- each class has a tree
pub record HaveChoices (classes : List Class) (levels : ℕ) (keys : List ℕ) (nodes : List Node) (roots : List ℕ) : Type 0 where
  pub one_each : length roots ≡ length classes
  pub choices : (class : ClassId) → class.0 < length classes → HasChoices classes levels keys class nodes (slice_index_or roots class.0 0)

-- a tree has what a class inherits: what its superclass selects, and nothing where it has none
pub record IsAbove (classes : List Class) (levels : ℕ) (keys : List ℕ) (class : ClassId) (nodes : List Node) (above : ℕ) : Type 0 where
  pub inherited : (id : MethodId) (m : Method) (code : ℕ) → method_at classes id ≡ Some m
      → code ≡ code_or (instance_method classes m.name m.descriptor class) (find nodes levels above (slice_index_or keys id.0 0)) → IsChosen classes class m code
