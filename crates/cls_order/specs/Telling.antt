-- What a table of the supertypes of a class tells while it is made. (This project's own.)
use Rattle.std.specs.Prelude.{Bool, List, All}
use Rattle.space_ids.specs.declared.ids.ClassId.{ClassId}
use Rattle.cls_order.specs.declared.class.Class.{Class}
use Rattle.cls_order.specs.Marks.{IsMarked}
use Rattle.cls_order.specs.Subtypes.{IsProperSubtype}

-- some of the supertypes of a class are marked, these among them, each with its own supertypes
pub record IsTelling (classes : List Class) (from : ClassId) (done : List ClassId) (table : List Bool) : Type 0 where
  pub sound : (s : ClassId) → IsMarked table s.0 → IsProperSubtype classes from s
  pub closed : (s t : ClassId) → IsMarked table s.0 → IsProperSubtype classes s t → IsMarked table t.0
  pub told : All (λ (s : ClassId). IsMarked table s.0) done
