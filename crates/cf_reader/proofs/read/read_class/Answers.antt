use Rattle.cf_reader.proofs.SpellsLaws.{class_found, class_only, class_fault}
use Rattle.cf_reader.proofs.WellFormedLaws.{class_well_formed}
use Rattle.cf_reader.proofs.read.read_class.Goals as goal

pub returns-clause-found : goal.returns-clause-found
returns-clause-found c = class_found c.args.bytes.now c.reading_of.result c.reading_of.ensures

pub returns-clause-only : goal.returns-clause-only
returns-clause-only c = class_only c.args.bytes.now c.reading_of.result c.reading_of.ensures

pub returns-clause-fault : goal.returns-clause-fault
returns-clause-fault c = class_fault c.args.bytes.now c.reading_of.result c.reading_of.ensures

pub returns-clause-well_formed : goal.returns-clause-well_formed
returns-clause-well_formed c = class_well_formed c.args.bytes.now c.reading_of.result c.reading_of.ensures
