use Rattle.cf_text.proofs.FormatLaws.{found, only, faults}
use Rattle.cf_pool.proofs.PoolLaws.{layout_reads}
use Rattle.cf_pool.proofs.entries.read_layout.Goals as goal

pub returns-clause-found : goal.returns-clause-found
returns-clause-found c = found (layout_reads c.args.bytes.now c.args.at) c.layout_from.result c.layout_from.ensures

pub returns-clause-only : goal.returns-clause-only
returns-clause-only c = only (layout_reads c.args.bytes.now c.args.at) c.layout_from.result c.layout_from.ensures

pub returns-clause-fault : goal.returns-clause-fault
returns-clause-fault c = faults (layout_reads c.args.bytes.now c.args.at) c.layout_from.result c.layout_from.ensures
