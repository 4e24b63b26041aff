use Rattle.std.proofs.Common.{cond, Some, sym, ap}
use Rattle.sp_events.specs.declared.fault.CoreFault.TheVariants as fault
use Rattle.sp_core.proofs.HandLemmas.{unlent-commit, unlent-end, unlent-park}
use Rattle.sp_core.proofs.space_core.SpaceCore.refuse_unlent.Goals as goal

pub returns-then-is_worn-clause-committed : goal.returns-then-is_worn-clause-committed
returns-then-is_worn-clause-committed c = λ g s lent op is lending.
    unlent-commit g s c.args.self.now c.args.task.now.task lent op c.is_worn.result fault.WornOut is lending (c.is_worn.ensures g s is) c.requires (sym (ap (λ b. cond b (Some 98) (Some 91)) c.if-is_worn.true))

pub returns-then-is_worn-clause-parked : goal.returns-then-is_worn-clause-parked
returns-then-is_worn-clause-parked c = λ g s lent is lending.
    unlent-park g s c.args.self.now c.args.task.now.task lent c.is_worn.result fault.WornOut is lending (c.is_worn.ensures g s is) c.requires (sym (ap (λ b. cond b (Some 98) (Some 91)) c.if-is_worn.true))

pub returns-then-is_worn-clause-finished : goal.returns-then-is_worn-clause-finished
returns-then-is_worn-clause-finished c = λ g s lent is lending.
    unlent-end g s c.args.self.now c.args.task.now.task lent c.is_worn.result fault.WornOut is lending (c.is_worn.ensures g s is) c.requires (sym (ap (λ b. cond b (Some 98) (Some 91)) c.if-is_worn.true))

pub returns-else-is_worn-clause-committed : goal.returns-else-is_worn-clause-committed
returns-else-is_worn-clause-committed c = λ g s lent op is lending.
    unlent-commit g s c.args.self.now c.args.task.now.task lent op c.is_worn.result fault.NotLent is lending (c.is_worn.ensures g s is) c.requires (sym (ap (λ b. cond b (Some 98) (Some 91)) c.if-is_worn.false))

pub returns-else-is_worn-clause-parked : goal.returns-else-is_worn-clause-parked
returns-else-is_worn-clause-parked c = λ g s lent is lending.
    unlent-park g s c.args.self.now c.args.task.now.task lent c.is_worn.result fault.NotLent is lending (c.is_worn.ensures g s is) c.requires (sym (ap (λ b. cond b (Some 98) (Some 91)) c.if-is_worn.false))

pub returns-else-is_worn-clause-finished : goal.returns-else-is_worn-clause-finished
returns-else-is_worn-clause-finished c = λ g s lent is lending.
    unlent-end g s c.args.self.now c.args.task.now.task lent c.is_worn.result fault.NotLent is lending (c.is_worn.ensures g s is) c.requires (sym (ap (λ b. cond b (Some 98) (Some 91)) c.if-is_worn.false))
