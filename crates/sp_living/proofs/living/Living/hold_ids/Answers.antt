use Rattle.sp_rules.specs.Holders.{hold_ids}
use Rattle.sp_living.proofs.LivingLemmas.{held-own, moved}
use Rattle.sp_living.proofs.living.Living.hold_ids.Goals as goal

pub returns-clause-held : goal.returns-clause-held
returns-clause-held c = λ g s a.
    moved g s (hold_ids c.args.references.now s) c.args.self.now c.hold_ids_reserved.new.self (held-own c.args.references.now s)
    (λ t. c.hold_ids_reserved.ensures.held s (c.in_ok-reserve_holders.ensures.same s t)) a
