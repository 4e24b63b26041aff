use Rattle.cls_tables.proofs.ClassTrees.{root_added}
use Rattle.cls_tables.proofs.Grown.{get_on}
use Rattle.cls_tables.proofs.choices.choose_all.Goals as goal

pub loop-number-preserved : goal.loop-number-preserved
loop-number-preserved c =
    let so = c.loop-number.invariant in
    let was = c.in_ok-root.ensures in
    let keys = c.in_ok-keys.keys in
    let more =
    root_added c.args.linked.now.classes keys.levels keys.keys.items c.loop-number.nodes.items c.choose.new.nodes.items c.loop-number.roots.items c.push.new.self.items c.loop-number.number c.in_ok-root.root so.2
    was.starts so.3 was.choices c.in_ok-push.ensures.items in
    (get_on was.starts 0 (record { even = 0; odd = 0 }) so.0, was.some, more.0, more.1)
