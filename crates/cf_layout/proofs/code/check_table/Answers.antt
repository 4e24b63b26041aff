use Rattle.cf_layout.proofs.CodeLaws.{table_tells, look_faults, look_found, look_only}
use Rattle.cf_layout.proofs.code.check_table.Goals as goal

pub returns-clause-found : goal.returns-clause-found
returns-clause-found c = look_found (table_tells c.args.bytes.now c.args.attribute) c.table_of.result c.table_of.ensures

pub returns-clause-only : goal.returns-clause-only
returns-clause-only c = look_only (table_tells c.args.bytes.now c.args.attribute) c.table_of.result c.table_of.ensures tt

pub returns-clause-fault : goal.returns-clause-fault
returns-clause-fault c = look_faults (table_tells c.args.bytes.now c.args.attribute) c.table_of.result c.table_of.ensures
