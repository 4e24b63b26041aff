use Rattle.std.proofs.Common.{filter, length, ap, ◌∙◌}
use Rattle.std.specs.Prelude.{nat_lt, not}
use Rattle.dgc_list.specs.History as owner
use Rattle.sp_owner.proofs.OwnerLemmas.{if-ok, idle-is}
use Rattle.sp_owner.proofs.owner.Owner.idle.Goals as goal

pub returns : goal.returns
returns c = if-ok c.unlisted.result _ _ (λ left lefts. λ g s is.
    idle-is g s c.args.self.now c.args.needed c.insert_bound.new.needed c.in_ok-idle.idle.items left.items is c.in_ok-insert_bound.ensures (c.in_ok-idle.ensures g s.store is.store)
    (lefts s.owner.entries is.entries ∙ ap (filter (λ id. not (nat_lt 0 (length (owner.clients_of s.owner.entries id))))) c.deref.ensures.value)) c.unlisted.ensures
