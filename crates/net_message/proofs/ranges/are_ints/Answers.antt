use Rattle.std.proofs.Common.{length, pos, arith}
use Rattle.std.specs.Prelude.{FitsSigned}
use Rattle.std.specs.Int.{w32}
use Rattle.std.specs.List.{AllByRecursion}
use Rattle.std.proofs.lemmas.Bool.{leb-true, le-leb}
use Rattle.std.proofs.lemmas.List.Elements.{All-from_get_or, recursion_from_All}
use Rattle.net_message.proofs.ranges.are_ints.Goals as goal

pub returns : goal.returns
returns c =
    let each : AllByRecursion (FitsSigned w32) c.args.ints.now =
    recursion_from_All (FitsSigned w32) c.args.ints.now (All-from_get_or (FitsSigned w32) c.args.ints.now (pos 0) (λ k lt. c.loop-int.invariant k (omega arith))) in
    (λ short. (leb-true (length c.args.ints.now) 8000 short, each), λ are. le-leb (length c.args.ints.now) 8000 are.0)
