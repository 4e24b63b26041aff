use Rattle.cf_text.proofs.FormatLaws.{one_stands}
use Rattle.cf_pool.proofs.PoolLaws.{pool_reads}
use Rattle.cf_pool.proofs.entries.one_pool.Goals as goal

pub returns : goal.returns
returns c = λ bytes at x y a b. one_stands (pool_reads bytes at) x y a b
