use Rattle.dgc_client.proofs.table.Clients.note.Goals as goal

pub returns-clause-touched_kept : goal.returns-clause-touched_kept
returns-clause-touched_kept c = λ at is. c.add.ensures.kept at is

pub returns-clause-later_kept : goal.returns-clause-later_kept
returns-clause-later_kept c = λ at is. c.add_if.ensures.kept at is

pub returns-clause-planned_kept : goal.returns-clause-planned_kept
returns-clause-planned_kept c = λ term other apart was. c.change.ensures.others term other apart was
