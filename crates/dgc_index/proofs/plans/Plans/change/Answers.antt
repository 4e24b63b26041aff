use Rattle.dgc_index.proofs.plans.Plans.change.Goals as goal

pub returns-clause-others : goal.returns-clause-others
returns-clause-others c = λ term other apart was. c.add.ensures.kept term other (c.remove.ensures.others term other apart was)

pub returns-clause-halves : goal.returns-clause-halves
returns-clause-halves c = λ other apart was. c.add.ensures.halves other (c.remove.ensures.halves other apart was)
