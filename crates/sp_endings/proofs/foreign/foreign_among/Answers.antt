use Rattle.std.proofs.Common.{sym, subst}
use Rattle.std.specs.List.{IsDistinct}
use Rattle.dgc_client.specs.Table.{is_same}
use Rattle.sp_endings.proofs.ForeignLemmas.{none-distinct}
use Rattle.sp_endings.proofs.foreign.foreign_among.Goals as goal

pub loop-value-init : goal.loop-value-init
loop-value-init c = record {
  foreign = c.new-ids.ensures.items;
  distinct = subst (IsDistinct is_same) (sym c.new-ids.ensures.items) none-distinct;
}
