use Rattle.std.proofs.Common.{refl}
use Rattle.sp_pipes.proofs.PipeLemmas.{opened}
use Rattle.sp_pipes.proofs.pipes.Pipes.open_reserved.Goals as goal

pub returns : goal.returns
returns c = λ pipes a. opened c.args.dialler c.args.accepter pipes c.args.self.now _ c.new.result c.push_reserved.ensures.items refl c.new.ensures a
