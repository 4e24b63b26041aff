use Rattle.std.proofs.Common.{Some, sym, ◌∙◌}
use Rattle.sp_machines.proofs.ResultLemmas.{on-err, on-ok}
use Rattle.sp_lending.proofs.TaskLemmas.{with-player}
use Rattle.sp_lending.proofs.task_parts.TaskParts.level.Goals as goal

pub catch_up-requires : goal.catch_up-requires
catch_up-requires c =
    let k = c.requires.known in
    record { known = record { setting = k.setting; is = with-player k.setting c.args.self.now (Some c.in-Some.player) (sym c.take.ensures.value ∙ c.in-Some.is) k.is } }

pub begin-requires-clause-known : goal.begin-requires-clause-known
begin-requires-clause-known c =
    let k = c.requires.known in
    record { setting = k.setting; is = with-player k.setting c.args.self.now c.take.new.self (sym c.take.ensures.value ∙ c.in-None.is ∙ sym c.take.ensures.after) k.is }

pub returns-in-Some-clause-level : goal.returns-in-Some-clause-level
returns-in-Some-clause-level c =
    on-ok c.catch_up.result _ _ (λ level. λ g is. level g (with-player g c.args.self.now (Some c.in-Some.player) (sym c.take.ensures.value ∙ c.in-Some.is) is)) c.catch_up.ensures.level

pub returns-in-Some-clause-of : goal.returns-in-Some-clause-of
returns-in-Some-clause-of c =
    on-err c.catch_up.result _ _ (λ kept. λ g is. kept g (with-player g c.args.self.now (Some c.in-Some.player) (sym c.take.ensures.value ∙ c.in-Some.is) is)) c.catch_up.ensures.of

pub returns-in-None-clause-level : goal.returns-in-None-clause-level
returns-in-None-clause-level c =
    on-ok c.begin.result _ _ (λ level. λ g is. level g (with-player g c.args.self.now c.take.new.self (sym c.take.ensures.value ∙ c.in-None.is ∙ sym c.take.ensures.after) is)) c.begin.ensures.level

pub returns-in-None-clause-of : goal.returns-in-None-clause-of
returns-in-None-clause-of c =
    on-err c.begin.result _ _ (λ kept. λ g is. kept g (with-player g c.args.self.now c.take.new.self (sym c.take.ensures.value ∙ c.in-None.is ∙ sym c.take.ensures.after) is)) c.begin.ensures.of
