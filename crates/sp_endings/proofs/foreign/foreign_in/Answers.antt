use Rattle.std.proofs.Common.{sym, subst}
use Rattle.std.specs.List.{IsDistinct}
use Rattle.dgc_client.specs.Table.{is_same}
use Rattle.sp_endings.proofs.ForeignLemmas.{none-distinct}
use Rattle.sp_endings.proofs.foreign.foreign_in.Goals as goal

pub add_foreign-requires : goal.add_foreign-requires
add_foreign-requires c = subst (IsDistinct is_same) (sym c.new-ids.ensures.items) none-distinct

pub returns-in-None-clause-distinct : goal.returns-in-None-clause-distinct
returns-in-None-clause-distinct c = subst (IsDistinct is_same) (sym c.new-ids.ensures.items) none-distinct
