use Rattle.std.proofs.Common.{refl, sym, subst}
use Rattle.sp_lending.specs.Hands.{IsLevelTask}
use Rattle.sp_lending.specs.declared.task_parts.TaskParts.{TaskParts}
use Rattle.sp_lending.proofs.TaskLemmas.{beginning, begun-level, may-begin}
use Rattle.sp_lending.proofs.task_parts.TaskParts.begin.Goals as goal

pub new-requires : goal.new-requires
new-requires c =
    let k = c.requires.known in
    record { begins = may-begin k.setting c.args.self.now c.record-record.result.now.past _ c.record-record.ensures (beginning k.setting c.args.self.now c.requires.none k.is) }

pub returns-clause-level : goal.returns-clause-level
returns-clause-level c = λ g is.
    let task = c.args.self.now in
    let e = c.in_ok-player.ensures in
    subst (λ (task : TaskParts). IsLevelTask g task) (sym c.put_player.ensures)
    (begun-level g task c.record-record.result.now.past c.in_ok-player.player _ c.fuel.result c.record-record.ensures (beginning g task c.requires.none is) c.fuel.ensures refl
    e.begins e.program e.never_stuck e.new.0 e.new.1)
