use Rattle.cf_pool.proofs.LookUpLaws.{classes_exactly, integers_exactly, members_exactly, names_and_types_exactly, texts_exactly}
use Rattle.cf_pool.proofs.pool.look_ups.Goals as goal

pub returns-clause-texts : goal.returns-clause-texts
returns-clause-texts c = texts_exactly

pub returns-clause-integers : goal.returns-clause-integers
returns-clause-integers c = integers_exactly

pub returns-clause-classes : goal.returns-clause-classes
returns-clause-classes c = classes_exactly

pub returns-clause-names_and_types : goal.returns-clause-names_and_types
returns-clause-names_and_types c = names_and_types_exactly

pub returns-clause-members : goal.returns-clause-members
returns-clause-members c = members_exactly
