-- The class that a `new` of a method makes an object of, by the offset of the instruction, as the type uninitialized(offset) names
-- it (JVMS 4.7.4, 4.10.1.2).
use Rattle.std.specs.Prelude.{ℕ, Option, Some, None, option_and_then, List, slice_get}
use Rattle.cls_link.specs.Targets.{index_from}
use Rattle.cls_link.specs.declared.linked_code.LinkedInsn.{LinkedInsn}
use Rattle.cls_link.specs.declared.linked_code.LinkedInsn.TheVariants.{New}
use Rattle.space_ids.specs.declared.ids.ClassId.{ClassId}

-- the class that an instruction makes an object of
abbrev pub new_class : LinkedInsn → Option ClassId
new_class (New class) = Some class
new_class _ = None

-- of instructions at these offsets, the class of the `new` that stands at an offset
unfoldable pub made_at : List LinkedInsn → List ℕ → ℕ → Option ClassId
made_at insns offsets offset = option_and_then new_class (option_and_then (slice_get insns) (index_from 0 offsets offset))
