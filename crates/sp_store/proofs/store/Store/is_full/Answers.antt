use Rattle.std.proofs.Common.{ap}
use Rattle.std.specs.Prelude.{nat_le}
use Rattle.sp_store.proofs.store.Store.is_full.Goals as goal

pub returns : goal.returns
returns c = λ g h after. ap (λ n. nat_le 65536 n) (c.len.ensures g h after)
