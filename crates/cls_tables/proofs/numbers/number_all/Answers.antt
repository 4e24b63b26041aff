use Rattle.std.proofs.Common.{arith, subst}
use Rattle.cls_tables.specs.Numbers.{IsNumber}
use Rattle.cls_tables.proofs.Numbered.{number_added}
use Rattle.cls_tables.proofs.numbers.number_all.Goals as goal

pub loop-id-preserved : goal.loop-id-preserved
loop-id-preserved c =
    let so = c.loop-id.invariant in
    let was = c.in_ok-number.ensures in
    let few = was.few in
    let old_few = so.1 in
    let m = c.declaration-method.result.now in
    let more =
    number_added c.args.linked.now.classes c.loop-id.keys.keys c.number_one.new.keys.keys c.loop-id.numbers.items c.push.new.self.items c.loop-id.id c.in_ok-number.number m so.0 was.starts
    c.declaration-method.ensures.declared so.2
    (subst (λ n. IsNumber c.number_one.new.keys.keys n m.descriptor c.in_ok-number.number) c.as_bytes.ensures
    (subst (λ d. IsNumber c.number_one.new.keys.keys c.as_bytes.result.now d c.in_ok-number.number) c.as_bytes-in-loop-id.ensures was.number))
    c.in_ok-push.ensures.items in
    (more.0, omega (arith, few, old_few), more.1)

pub returns : goal.returns
returns c =
    let so = c.loop-id.invariant in
    let over = c.loop-id-test.false in
    let end = c.loop-id.auto.id-end in
    let count = c.len-id-end.ensures.count in
    let long = so.0 in
    let few = so.1 in
    record {
      one_each = omega (arith, over, end, count, long);
      keys = c.loop-id.keys.keys;
      few = omega (arith, over, end, count, few);
      number = λ id m low at. so.2 id m (omega (arith, over, end, count, low)) at;
    }
