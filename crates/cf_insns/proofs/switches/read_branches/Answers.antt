use Rattle.std.proofs.Common.{rules, ◌≡◌, ◌∙◌}
use Rattle.std.specs.Int.{w32}
use Rattle.std.proofs.lemmas.Int.{to_z-of_z}
use mir.Val.{SFits, of_z, to_z}
use Rattle.cf_insns.proofs.SwitchLoops.{ints_of-next}
use Rattle.cf_insns.proofs.switches.read_branches.Goals as goal

pub loop-index-preserved : goal.loop-index-preserved
loop-index-preserved c =
    let fits : SFits w32 c.int_at.result = search rules in
    let same : to_z w32 (of_z w32 c.int_at.result) ≡ c.int_at.result = to_z-of_z w32 c.int_at.result fits in
    rw (c.in_ok-push.ensures.items, same)
    (ints_of-next c.args.from c.args.count c.loop-index.index c.args.operands.now c.loop-index-test.true c.loop-index.branches.items c.int_at.result c.int_at.ensures ∙ c.loop-index.invariant)
