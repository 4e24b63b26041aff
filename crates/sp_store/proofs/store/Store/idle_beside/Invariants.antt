use Rattle.std.proofs.Common.{◌≡◌, take, filter}
use Rattle.std.specs.Prelude.{nat_lt, not, ◌||◌}
use Rattle.indexmap.specs.IndexMap.{keys}
use Rattle.sp_rules.specs.References.{is_id_in}
use Rattle.sp_store.specs.Stores.{holds_of}
use Rattle.sp_store.proofs.store.Store.idle_beside.Given as goal

-- the idle ones so far
abbrev pub invariant-loop-index : goal.invariant-loop-index
invariant-loop-index l = l.ids.items ≡ filter (λ id. not (nat_lt 0 (holds_of l.self id) || is_id_in l.named id)) (take l.index (keys l.self.objects))
