use Rattle.std.proofs.Common.{None, refl}
use Rattle.sp_rules.specs.OwnEvents.{add_connection}
use Rattle.sp_living.proofs.LivingLemmas.{moved}
use Rattle.sp_living.proofs.living.Living.accept_late.Goals as goal

pub returns-clause-opened : goal.returns-clause-opened
returns-clause-opened c = λ g s a quiet free.
    moved g s (add_connection c.args.conn None s) c.args.self.now c.accept_late_reserved.new.self refl
    (λ t. c.accept_late_reserved.ensures.opened s (c.in_ok-reserve_connections.ensures.same s t) quiet free) a
