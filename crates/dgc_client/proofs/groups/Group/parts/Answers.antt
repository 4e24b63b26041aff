use Rattle.std.proofs.Common.{ℕ, ◌<◌, length, take, drop, ap, ◌∙◌, arith}
use Rattle.dgc_client.proofs.GroupsLemmas.{next-part}
use Rattle.dgc_client.proofs.groups.Group.parts.Goals as goal

pub loop-rest-preserved : goal.loop-rest-preserved
loop-rest-preserved c =
    let left : 0 < length c.loop-rest.rest.now = search (arith, c.loop-rest-test.true, c.is_empty.ensures) in
    rw (c.in_ok-push.ensures.items, c.in_ok-part.ensures)
    (next-part c.args.self.now c.args.most c.loop-rest.parts.items c.loop-rest.rest.now c.split_at.result.0.now c.split_at.result.1.now c.requires left
    (c.split_at.ensures.front ∙ ap (λ (n : ℕ). take n c.loop-rest.rest.now) c.min.ensures)
    (c.split_at.ensures.back ∙ ap (λ (n : ℕ). drop n c.loop-rest.rest.now) c.min.ensures) c.loop-rest.invariant)
