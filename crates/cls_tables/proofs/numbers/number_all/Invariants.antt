use Rattle.std.proofs.Common.{◌≡◌, ◌<◌, ◌≤◌, Some, length}
use Rattle.std.specs.Prelude.{slice_index_or}
use Rattle.cf_reader.specs.declared.class_file.Method.{Method}
use Rattle.cls_link.specs.declared.linked_code.MethodId.{MethodId}
use Rattle.cls_link.specs.Links.{method_at}
use Rattle.cls_tables.specs.Numbers.{IsNumber}
use Rattle.cls_tables.proofs.numbers.number_all.Given as goal

-- the methods so far are numbered
abbrev pub invariant-loop-id : goal.invariant-loop-id
invariant-loop-id l =
    (length l.numbers.items ≡ l.id) × (length l.keys.keys ≤ l.id)
    × ((id : MethodId) (m : Method) → id.0 < l.id → method_at l.linked.classes id ≡ Some m → IsNumber l.keys.keys m.name m.descriptor (slice_index_or l.numbers.items id.0 0))
