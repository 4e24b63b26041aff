use Rattle.cf_layout.proofs.CodeLaws.{constant_tells, look_faults, look_found, look_only}
use Rattle.cf_layout.proofs.constant.read_constant.Goals as goal

pub returns-clause-found : goal.returns-clause-found
returns-clause-found c = look_found (constant_tells c.args.bytes.now c.args.attribute) c.constant_of.result c.constant_of.ensures

pub returns-clause-only : goal.returns-clause-only
returns-clause-only c = look_only (constant_tells c.args.bytes.now c.args.attribute) c.constant_of.result c.constant_of.ensures

pub returns-clause-fault : goal.returns-clause-fault
returns-clause-fault c = look_faults (constant_tells c.args.bytes.now c.args.attribute) c.constant_of.result c.constant_of.ensures
