-- Which classes are remote: their objects lie in spaces, and not in the heaps of tasks (Java RMI specification, 2.4).
use Rattle.std.specs.Prelude.{◌≡◌, ◌<◌, ◌↔◌, Bool, false, IsTrue, List, length, slice_index_or}
use Rattle.cls_set.specs.declared.class.Class.{Class}
use Rattle.cls_set.specs.Subtypes.{IsRemote}
use Rattle.space_ids.specs.declared.ids.ClassId.{ClassId}

-- it is told of each class, by class number
pub record TellsRemote (classes : List Class) (told : List Bool) : Type 0 where
  pub one_each : length told ≡ length classes
  pub each : (class : ClassId) → class.0 < length classes → IsTrue (slice_index_or told class.0 false) ↔ IsRemote classes class
