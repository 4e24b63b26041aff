-- What the fields of remote objects hold, by slot. (Java RMI specification, 2.4; that each is an int, a boolean or a remote interface is a
-- rule of this project.)
use Rattle.std.specs.Prelude.{List, [], map, if◌then◌else◌}
use Rattle.cls_set.specs.declared.class.Class.{Class}
use Rattle.space_ids.specs.declared.ids.ClassId.{ClassId}
use Rattle.sp_rules.specs.Classes.{Kind, IntKind, ReferenceKind}
use Rattle.ver_frames.specs.declared.vtype.VType.{VType}
use Rattle.ver_frames.specs.declared.vtype.VType.TheVariants as vtype
use Rattle.vm_heap.specs.declared.heap.WordKind.{WordKind}
use Rattle.vm_heap.specs.declared.heap.WordKind.TheVariants as word
use Rattle.vm_code.specs.Classes.{is_remote}
use Rattle.vm_laws.specs.Files.{types_of}

-- an int, or else a reference
abbrev pub kind_of_field : VType → Kind
kind_of_field vtype.Int = IntKind
kind_of_field other = ReferenceKind

-- the same of what a machine keeps of a field
abbrev pub kind_of_word : WordKind → Kind
kind_of_word word.Int = IntKind
kind_of_word word.Reference = ReferenceKind

-- the fields of an object of a remote class, those of its superclasses first; of any other class a space keeps none
abbrev pub fields_of : List Class → ClassId → List Kind
fields_of classes class = if is_remote classes class then map kind_of_field (types_of classes class) else []
