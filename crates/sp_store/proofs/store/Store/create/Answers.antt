use Rattle.std.proofs.Common.{sym, subst, ◌∙◌}
use Rattle.sp_store.specs.declared.store.Store.{Store}
use Rattle.sp_store.specs.Stores.{IsAfter}
use Rattle.sp_store.proofs.StoreLemmas.{if-none, if-some}
use Rattle.sp_store.proofs.store.Store.create.Goals as goal

pub returns-clause-id : goal.returns-clause-id
returns-clause-id c = λ g h after. c.create_reserved.ensures.id g h (c.in_ok-reserve.ensures.after g h after)

pub returns-clause-made : goal.returns-clause-made
returns-clause-made c = if-some c.create_reserved.result _ _ (λ id is made. λ g h after blank. made g h (c.in_ok-reserve.ensures.after g h after) blank) c.create_reserved.ensures.made

pub returns-clause-full : goal.returns-clause-full
returns-clause-full c =
    if-none c.create_reserved.result _ _ (λ same. λ g h after. subst (λ (s : Store). IsAfter g h s) (sym same) (c.in_ok-reserve.ensures.after g h after)) c.create_reserved.ensures.full

pub returns-clause-holds : goal.returns-clause-holds
returns-clause-holds c = λ g h other after. c.create_reserved.ensures.holds g h other (c.in_ok-reserve.ensures.after g h after) ∙ c.in_ok-reserve.ensures.holds other
