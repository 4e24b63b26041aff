use Rattle.std.proofs.Common.{length, ap, arith}
use Rattle.cls_order.specs.declared.class.Class.{Class}
use Rattle.cls_set.proofs.KeyOrder.{keys_read, number_more}
use Rattle.cls_set.proofs.key_numbers.numbers_of.Goals as goal

pub loop-method-preserved : goal.loop-method-preserved
loop-method-preserved c =
    number_more c.args.entries.now c.args.all.now c.args.class c.loop-method.method c.loop-method.numbers.items c.push.new.self.items c.number-number.result c.loop-method.invariant
    c.in_ok-push.ensures.items c.number-number.ensures

pub returns : goal.returns
returns c =
    let keys = keys_read c.args.entries.now c.index-entries-class.result c.args.class c.requires.in_set c.draft.inside.file (ap (λ (x : Class). x.file) c.draft.view_is) in
    let long = ap (λ ks. length ks) keys in
    let count = c.count-method-end.ensures in
    let over = c.loop-method-test.false in
    let end = c.loop-method.auto.method-end in
    let was = c.loop-method.invariant in
    let own = was.0 in
    record {
      one_each = omega (arith, own, long, count, over, end);
      number = λ i h. was.1 i (omega (arith, h, long, count, over));
    }
