use Rattle.sp_lending.proofs.task_parts.TaskParts.run.Goals as goal

pub go_on-requires : goal.go_on-requires
go_on-requires c = let k = c.requires.known in record { known = record { setting = k.setting; is = c.in-Ok.ensures.level k.setting k.is } }

pub returns-in-Ok-clause-of : goal.returns-in-Ok-clause-of
returns-in-Ok-clause-of c = λ g is. c.go_on.ensures.of g (c.in-Ok.ensures.level g is)
