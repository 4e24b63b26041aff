use Rattle.std.proofs.Common.{◌≡◌, arith}
use Rattle.sp_registry.specs.Counts.{count_of, number_in}
use Rattle.sp_registry.proofs.CountsLemmas.{count-few}
use Rattle.sp_registry.proofs.registry.Registry.add.Goals as goal

pub add-requires : goal.add-requires
add-requires c =
    let count : number_in c.self.inside.counts c.args.object ≡ count_of c.self.inside.table c.args.object = c.self.invariant c.args.object in
    omega (arith, count, count-few c.self.inside.table c.args.object, c.len-count.ensures.len, c.len-count.ensures.fits)
