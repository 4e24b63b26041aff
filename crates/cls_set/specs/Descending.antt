-- What each class inherits, as it is found on the way down from superclasses. (This project's own.)
use Rattle.std.specs.Prelude.{◌≡◌, ◌<◌, ◌⊎◌, ◌↔◌, ℕ, Bool, Option, Some, None, List, Contains, if◌then◌else◌, length, slice_get, slice_index_or}
use Rattle.cf_reader.specs.declared.class_file.ClassFile.{ClassFile}
use Rattle.cf_reader.specs.declared.class_file.Method.{Method}
use Rattle.cls_order.specs.Building.{origins_of}
use Rattle.cls_order.specs.declared.class.Class.{Class}
use Rattle.cls_order.specs.declared.entries.Entry.{Entry}
use Rattle.cls_order.specs.Entries.{classes_of}
use Rattle.cls_order.specs.Marks.{IsMarked}
use Rattle.cls_set.specs.declared.descending.Trees.{Trees}
use Rattle.cls_set.specs.declared.descending.Walk.{Walk}
use Rattle.cls_set.specs.declared.inheriting.Inherited.{Inherited}
use Rattle.cls_set.specs.declared.key_numbers.Keys.{Keys}
use Rattle.cls_set.specs.Inheriting.{Forbids, IsBarred}
use Rattle.cls_set.specs.KeyNumbers.{keys_at, number_at}
use Rattle.cls_set.specs.Orders.{key_at, method_key, Key}
use Rattle.cls_set.specs.Rules.{package_name, IsSuperclass, OverridesBadly}
use Rattle.number_trees.specs.Rows.{Starts}
use Rattle.space_ids.specs.declared.ids.ClassId.{ClassId}
use Rattle.number_trees.specs.Trees.{agree, find, IsTree}

-- the methods of the superclasses of a class, its own, the first n of its own, and what is inherited from it
abbrev pub Above : List Entry → ℕ → ClassFile → Method → Type 0
Above entries index upper high = (c : Class) × (slice_get (classes_of entries) index ≡ Some c) × IsSuperclass (origins_of entries) c.file upper × Contains upper.methods high

abbrev pub Own : List Entry → ℕ → ClassFile → Method → Type 0
Own entries index upper high = (c : Class) × (slice_get (classes_of entries) index ≡ Some c) × (upper ≡ c.file) × Contains c.file.methods high

abbrev pub OwnBelow : List Entry → ℕ → ℕ → ClassFile → Method → Type 0
OwnBelow entries index n upper high =
    (c : Class) × (slice_get (classes_of entries) index ≡ Some c) × (upper ≡ c.file) × (i : ℕ) × (i < n) × (slice_get c.file.methods i ≡ Some high)

abbrev pub AboveAndBelow : List Entry → ℕ → ℕ → ClassFile → Method → Type 0
AboveAndBelow entries index n upper high = Above entries index upper high ⊎ OwnBelow entries index n upper high

abbrev pub Passes : List Entry → ℕ → ClassFile → Method → Type 0
Passes entries index upper high = Above entries index upper high ⊎ Own entries index upper high

-- one of some methods has this name and descriptor, and a method of a class of a package may not stand below it
pub record IsBarredBelow (sources : ClassFile → Method → Type 0) (key : Key) (low : Method) (home : List ℕ) : Type 0 where
  pub upper : ClassFile
  pub high : Method
  pub source : sources upper high
  pub same : method_key high ≡ key
  pub barred : IsBarred low home high (package_name upper.name)

-- what is known at an index says what the methods of a name and a descriptor forbid
pub record Tells (sources : ClassFile → Method → Type 0) (key : Key) (known : List Inherited) (index : ℕ) : Type 0 where
  pub inherited : Inherited
  pub at : slice_get known index ≡ Some inherited
  pub forbids : (low : Method) (home : List ℕ) → Forbids inherited low home ↔ IsBarredBelow sources key low home

-- a tree says it for each name and descriptor
pub record HasInherited (entries : List Entry) (keys : Keys) (trees : Trees) (root : ℕ) (sources : ClassFile → Method → Type 0) : Type 0 where
  pub tree : IsTree trees.nodes.items keys.levels root
  pub each : (k i : ℕ) → i < length (keys_at entries k)
      → Tells sources (key_at (keys_at entries k) i) trees.known.items (find trees.nodes.items keys.levels root (number_at keys.numbers.items k i))

-- trees that go on from others
pub record IsGrown (old new : Trees) : Type 0 where
  pub nodes : Starts old.nodes.items new.nodes.items
  pub known : Starts old.known.items new.known.items

-- a tree that says one thing for a number, and else what another one says
pub record Declares (old new : Trees) (levels root number : ℕ) (inherited : Inherited) (made : ℕ) : Type 0 where
  pub tree : IsTree new.nodes.items levels made
  pub index : ℕ
  pub at : slice_get new.known.items index ≡ Some inherited
  pub found : (k : ℕ) → find new.nodes.items levels made k ≡ (if agree levels k number then index else find old.nodes.items levels root k)

-- the tree 0 says that nothing is inherited
pub record AreStarted (trees : Trees) : Type 0 where
  pub empty : slice_get trees.nodes.items 0 ≡ Some (record { even = 0; odd = 0 })
  pub nothing : Inherited
  pub first : slice_get trees.known.items 0 ≡ Some nothing
  pub none : (low : Method) (home : List ℕ) → Forbids nothing low home → ⊥

-- the tree of what the superclass of a class passes on
abbrev pub root_above : List ℕ → Option ClassId → ℕ
root_above roots None = 0
root_above roots (Some superclass) = slice_index_or roots superclass.0 0

-- which classes have a method that may not stand below one of a superclass, by index
pub record AreOverriding (entries : List Entry) (told : List Bool) : Type 0 where
  pub each : (k : ℕ) (c : Class) → slice_get (classes_of entries) k ≡ Some c → IsMarked told k ↔ OverridesBadly (origins_of entries) c.file

-- the same of the classes that the walk has come to, and what they pass on
pub record IsDescending (entries : List Entry) (keys : Keys) (done : List ℕ) (walk : Walk) : Type 0 where
  pub roots : length walk.roots.items ≡ length entries
  pub long : length walk.told.items ≡ length entries
  pub started : AreStarted walk.trees
  pub passed : (k : ℕ) → Contains done k → HasInherited entries keys walk.trees (slice_index_or walk.roots.items k 0) (Passes entries k)
  pub told : (k : ℕ) (c : Class) → Contains done k → slice_get (classes_of entries) k ≡ Some c → IsMarked walk.told.items k ↔ OverridesBadly (origins_of entries) c.file
