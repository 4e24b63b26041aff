use Rattle.std.proofs.Common.{rules, ◌≡◌, ◌∙◌}
use Rattle.std.specs.Int.{w32}
use Rattle.std.proofs.lemmas.Int.{to_z-of_z}
use mir.Val.{SFits, of_z, to_z}
use Rattle.cf_insns.proofs.SwitchLoops.{cases_of-next}
use Rattle.cf_insns.proofs.switches.read_cases.Goals as goal

pub loop-index-preserved : goal.loop-index-preserved
loop-index-preserved c =
    let key_fits : SFits w32 c.int_at-key.result = search rules in
    let branch_fits : SFits w32 c.int_at-branch.result = search rules in
    let key : to_z w32 (of_z w32 c.int_at-key.result) ≡ c.int_at-key.result = to_z-of_z w32 c.int_at-key.result key_fits in
    let branch : to_z w32 (of_z w32 c.int_at-branch.result) ≡ c.int_at-branch.result = to_z-of_z w32 c.int_at-branch.result branch_fits in
    rw (c.in_ok-push.ensures.items, key, branch)
    (cases_of-next c.args.from c.args.count c.loop-index.index c.args.operands.now c.loop-index-test.true c.loop-index.cases.items c.int_at-key.result c.int_at-branch.result c.int_at-key.ensures c.int_at-branch.ensures ∙ c.loop-index.invariant)
