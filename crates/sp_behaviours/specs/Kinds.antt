-- The kinds of what methods take and give: what a remote interface may name (Java RMI specification, 2.4) is an int, a boolean, an array of ints
-- or a remote interface (a rule of this project).
use Rattle.std.specs.Prelude.{ℕ, List, [], Option, Some, None, map, if◌then◌else◌}
use Rattle.std.specs.Option.{option_map_or}
use Rattle.cf_text.specs.declared.types.FieldType.{FieldType}
use Rattle.cf_reader.specs.declared.class_file.Method.{Method}
use Rattle.cls_set.specs.declared.class.Class.{Class}
use Rattle.cls_link.specs.Links.{method_at}
use Rattle.sp_rules.specs.Classes.{Kind, IntKind, IntArrayKind, ReferenceKind, VoidKind}
use Rattle.vm_code.specs.Parameters.{is_array_type}
use Rattle.vm_step.specs.Start.{is_int_type}

-- the kind of a type
abbrev pub kind_of_type : FieldType → Kind
kind_of_type type = if is_int_type type then IntKind else (if is_array_type type then IntArrayKind else ReferenceKind)

abbrev pub result_kind : Option FieldType → Kind
result_kind None = VoidKind
result_kind (Some type) = kind_of_type type

-- what the method of this number takes, and what it gives: nothing if there is no such method
abbrev pub parameters_of : List Class → ℕ → List Kind
parameters_of classes method = option_map_or (λ (m : Method). map kind_of_type m.types.parameters) (method_at classes (record { 0 = method })) []

abbrev pub result_of : List Class → ℕ → Kind
result_of classes method = option_map_or (λ (m : Method). result_kind m.types.result) (method_at classes (record { 0 = method })) VoidKind
