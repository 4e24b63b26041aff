use Rattle.std.proofs.Common.{◌≡◌, drop}
use Rattle.cf_text.specs.Demands.{of_each, verdict}
use Rattle.cf_text.specs.Names.{is_name}
use Rattle.cf_pool.specs.Known.{Knows}
use Rattle.cf_pool.specs.Pools.{index_demands, is_class_entry_name, pool_demands}
use Rattle.cf_pool.proofs.check.check_pool.Given as goal

-- what is left to judge decides; and what is known of texts is right
abbrev pub invariant-loop-index : goal.invariant-loop-index
invariant-loop-index l = record {
  left : verdict (of_each (index_demands l.layout.pool) l.index (drop l.index l.layout.positions)) ≡ verdict (pool_demands l.layout);
  classes : Knows is_class_entry_name l.layout.pool l.known.classes.items;
  names : Knows is_name l.layout.pool l.known.names.items;
}
