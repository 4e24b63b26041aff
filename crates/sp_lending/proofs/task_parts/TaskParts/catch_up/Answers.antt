use Rattle.std.proofs.Common.{Some, sym, subst}
use Rattle.sp_machines.specs.Players.{Played}
use Rattle.sp_machines.proofs.ResultLemmas.{on-err, on-ok}
use Rattle.sp_lending.specs.Hands.{IsLevelTask, IsTask}
use Rattle.sp_lending.specs.declared.task_parts.TaskParts.{TaskParts}
use Rattle.sp_lending.proofs.TaskLemmas.{can-catch-up, caught}
use Rattle.sp_lending.proofs.task_parts.TaskParts.catch_up.Goals as goal

pub catch_up-caught-requires : goal.catch_up-caught-requires
catch_up-caught-requires c =
    let k = c.requires.known in
    can-catch-up k.setting c.args.self.now.hand.task k.is.now c.args.player c.record.result.now.past k.is.is k.is.held c.record.ensures

pub returns-clause-level : goal.returns-clause-level
returns-clause-level c =
    let e = c.catch_up-caught.ensures in
    on-ok c.catch_up-caught.result _ _ (λ levels. λ g is.
    subst (λ (task : TaskParts). IsLevelTask g task) (sym c.put_player.ensures) (caught g c.args.self.now c.args.player c.catch_up-caught.new.self c.record.result.now.past c.record.ensures is levels e.ahead)) e.level

pub returns-clause-of : goal.returns-clause-of
returns-clause-of c =
    let task = c.args.self.now in
    on-err c.catch_up-caught.result _ _ (λ same. λ g is.
    subst (λ (task : TaskParts). IsTask g task) (sym c.put_player.ensures) (subst (λ (p : Played). IsTask g (record task { player = Some p })) (sym same) is)) c.catch_up-caught.ensures.same
