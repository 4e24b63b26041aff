use Rattle.cf_layout.proofs.FileLaws.{layout_faults, layout_found, layout_only}
use Rattle.cf_layout.proofs.layout.read_layout.Goals as goal

pub returns-clause-found : goal.returns-clause-found
returns-clause-found c = layout_found c.args.bytes.now c.layout_of.result c.layout_of.ensures

pub returns-clause-only : goal.returns-clause-only
returns-clause-only c = layout_only c.args.bytes.now c.layout_of.result c.layout_of.ensures

pub returns-clause-fault : goal.returns-clause-fault
returns-clause-fault c = layout_faults c.args.bytes.now c.layout_of.result c.layout_of.ensures
