-- The number of a method that a call runs. (`selected_by` of sp_behaviours is the rule.)
use Rattle.std.specs.Prelude.{ℕ, Bool, false, ◌&&◌, nat_le, Option, Some, None, List, if◌then◌else◌}
use Rattle.std.specs.Option.{option_map_or}
use Rattle.cf_reader.specs.declared.class_file.Code.{Code}
use Rattle.cf_reader.specs.declared.class_file.Method.{Method}
use Rattle.cls_link.specs.Links.{method_at}
use Rattle.cls_link.specs.declared.linked_code.MethodId.{MethodId}
use Rattle.cls_set.specs.declared.class.Class.{Class}
use Rattle.vm_code.specs.Methods.{is_public_at, words_passed}

-- whether a method has code whose local variables hold what it is passed, as those of each checked method do
abbrev pub has_code : List Class → MethodId → Bool
has_code classes id =
    option_map_or (λ (m : Method). option_map_or (λ (code : Code). nat_le (words_passed m) code.max_locals) m.code false) (method_at classes id) false

-- what a call runs if a class selects this method: it is public, and has code
abbrev pub run_by : List Class → MethodId → Option ℕ
run_by classes found = if is_public_at classes found && has_code classes found then Some found.0 else None
