use Rattle.std.proofs.Common.{◌≡◌, Some, ap, ◌∙◌, arith}
use Rattle.sp_registry.specs.Bindings.{Names, lookup}
use Rattle.sp_registry.specs.Counts.{count_of, number_in}
use Rattle.sp_registry.proofs.CountsLemmas.{count-few, counted-rebound}
use Rattle.sp_registry.proofs.registry.Registry.change.Goals as goal

pub add-requires : goal.add-requires
add-requires c =
    let count : number_in c.self.inside.counts c.args.object ≡ count_of c.self.inside.table c.args.object = c.self.invariant c.args.object in
    omega (arith, count, count-few c.self.inside.table c.args.object, c.len-count.ensures.len, c.len-count.ensures.fits)

pub invariant_of-self-2 : goal.invariant_of-self-2
invariant_of-self-2 c =
    let bound : lookup c.self.inside.table c.args.name.now ≡ Some c.args.before = ap (λ (n : Names). lookup n.bindings c.args.name.now) c.self.view_is ∙ c.requires in
    rw c.set.ensures (counted-rebound c.self.inside.table c.args.name.now c.args.object c.args.before c.self.inside.counts c.add.new.self c.take.new.self
    bound c.self.invariant c.in_ok-add.ensures.ok c.take.ensures)
