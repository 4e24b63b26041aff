use Rattle.std.proofs.Common.{length, ap, arith}
use Rattle.cls_order.specs.declared.class.Class.{Class}
use Rattle.cls_set.proofs.KeyOrder.{keys_read, method_added}
use Rattle.cls_set.proofs.key_numbers.add_declared.Goals as goal

pub loop-method-preserved : goal.loop-method-preserved
loop-method-preserved c =
    method_added c.args.class c.loop-method.method c.args.all.now.items c.loop-method.all.items c.push.new.self.items c.loop-method.invariant c.in_ok-push.ensures.items

pub returns-clause-each : goal.returns-clause-each
returns-clause-each c = λ i h.
    let keys = keys_read c.args.entries.now c.index-entries-class.result c.args.class c.requires c.draft.inside.file (ap (λ (x : Class). x.file) c.draft.view_is) in
    let long = ap (λ ks. length ks) keys in
    let count = c.count-method-end.ensures in
    let over = c.loop-method-test.false in
    c.loop-method.invariant.1 i (omega (arith, h, long, count, over))
