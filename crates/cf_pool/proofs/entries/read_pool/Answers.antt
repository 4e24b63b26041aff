use Rattle.cf_text.proofs.FormatLaws.{found, only, faults}
use Rattle.cf_pool.proofs.PoolLaws.{pool_reads}
use Rattle.cf_pool.proofs.entries.read_pool.Goals as goal

pub returns-clause-found : goal.returns-clause-found
returns-clause-found c = found (pool_reads c.args.bytes.now c.args.at) c.pool_from.result c.pool_from.ensures

pub returns-clause-only : goal.returns-clause-only
returns-clause-only c = only (pool_reads c.args.bytes.now c.args.at) c.pool_from.result c.pool_from.ensures

pub returns-clause-fault : goal.returns-clause-fault
returns-clause-fault c = faults (pool_reads c.args.bytes.now c.args.at) c.pool_from.result c.pool_from.ensures
