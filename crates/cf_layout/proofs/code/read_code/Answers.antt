use Rattle.cf_layout.proofs.CodeLaws.{code_tells, look_faults, look_found, look_only}
use Rattle.cf_layout.proofs.code.read_code.Goals as goal

pub returns-clause-found : goal.returns-clause-found
returns-clause-found c = look_found (code_tells c.args.bytes.now c.args.attribute) c.code_of.result c.code_of.ensures.exact

pub returns-clause-only : goal.returns-clause-only
returns-clause-only c = look_only (code_tells c.args.bytes.now c.args.attribute) c.code_of.result c.code_of.ensures.exact

pub returns-clause-fault : goal.returns-clause-fault
returns-clause-fault c = look_faults (code_tells c.args.bytes.now c.args.attribute) c.code_of.result c.code_of.ensures.exact
