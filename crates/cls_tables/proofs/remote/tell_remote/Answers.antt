use Rattle.cls_set.specs.Subtypes.{IsRemote}
use Rattle.cls_tables.proofs.Told.{told_more}
use Rattle.cls_tables.proofs.remote.tell_remote.Goals as goal

pub loop-number-preserved : goal.loop-number-preserved
loop-number-preserved c =
    let so = c.loop-number.invariant in
    told_more (λ class. IsRemote c.args.set.now class) c.loop-number.told.items c.push.new.self.items c.loop-number.number c.is_remote.result so.0 so.1 c.is_remote.ensures c.in_ok-push.ensures.items
