-- The kinds of fields of remote classes, as the rules of spaces name them. (This project's own.)
use Rattle.sp_rules.specs.Classes.{Kind, IntKind, ReferenceKind}
use Rattle.sp_requests.specs.declared.class_set.FieldKind.{FieldKind}
use Rattle.sp_requests.specs.declared.class_set.FieldKind.TheVariants as kind

abbrev pub kind_of : FieldKind → Kind
kind_of kind.Int = IntKind
kind_of kind.Reference = ReferenceKind
