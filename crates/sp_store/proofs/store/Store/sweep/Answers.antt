use Rattle.std.proofs.Common.{List, subst}
use Rattle.space_ids.specs.declared.ids.ObjId.{ObjId}
use Rattle.sp_store.specs.Stores.{IsAfter, swept}
use Rattle.sp_store.proofs.store.Store.sweep.Goals as goal

pub returns-clause-gone : goal.returns-clause-gone
returns-clause-gone c = λ g h after. subst (λ (ids : List ObjId). IsAfter g (swept ids h) c.withdraw.new.self) c.deref.ensures.value (c.in_ok-withdraw.ensures.ok g h after)
