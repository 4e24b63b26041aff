use Rattle.std.proofs.Common.{◌≡◌, ◌∙◌, ◌<◌, false, length, get_or, sym, subst, ap, arith}
use Rattle.std.proofs.Math.Seq.{map-set_same}
use Rattle.cls_order.specs.declared.entries.Entry.{Entry}
use Rattle.cls_order.specs.Entries.{classes_of}
use Rattle.cls_order.specs.Walks.{AreWithin, IsWalked}
use Rattle.cls_order.proofs.Heights.{IsHeight, any_member, height_of, long_classes, one_more, ranked_by_heights}
use Rattle.cls_order.proofs.Hierarchy.{same_read}
use Rattle.cls_order.proofs.walking.rank_by_walks.Goals as goal

pub returns-then-index-clause-ranks : goal.returns-then-index-clause-ranks
returns-then-index-clause-ranks c =
    let start = c.args.entries.now.items in
    let entries = c.loop-index.entries.items in
    let k = c.loop-index.index in
    let walk = c.in_ok-walk.walk in
    let same = ap classes_of c.as_slice.ensures.value ∙ c.loop-index.invariant.0 in
    let w = subst (λ cs. IsWalked cs (record { 0 = k }) walk) same (subst (λ i. IsWalked (classes_of c.as_slice.result.now) i walk) c.new.ensures c.in_ok-walk.ensures) in
    let long = sym (long_classes entries) ∙ (ap length c.loop-index.invariant.0 ∙ long_classes start) in
    let within : k < length (classes_of start) = subst (λ n. k < n) (sym (long_classes start)) (omega arith) in
    let table = w.long in
    let read : get_or walk.met.items k false ≡ c.index.result.now = same_read walk.met.items k false c.index.result.now (omega (arith, table, within)) ∙ sym c.index.ensures in
    let any = any_member entries k (omega (arith, long)) in
    record {
      within = within;
      own = (w.met (record { 0 = k })).0 (read ∙ c.if-index.true);
      first = λ j l own. (c.loop-index.invariant.1 j any l).proper own;
    }

pub loop-index-preserved : goal.loop-index-preserved
loop-index-preserved c =
    let start = c.args.entries.now.items in
    let entries = c.loop-index.entries.items in
    let k = c.loop-index.index in
    let walk = c.in_ok-walk.walk in
    let same = ap classes_of c.as_slice.ensures.value ∙ c.loop-index.invariant.0 in
    let w = subst (λ cs. IsWalked cs (record { 0 = k }) walk) same (subst (λ i. IsWalked (classes_of c.as_slice.result.now) i walk) c.new.ensures c.in_ok-walk.ensures) in
    let long = sym (long_classes entries) ∙ (ap length c.loop-index.invariant.0 ∙ long_classes start) in
    let within : k < length (classes_of start) = subst (λ n. k < n) (sym (long_classes start)) (omega arith) in
    let table = w.long in
    let read : get_or walk.met.items k false ≡ c.index.result.now = same_read walk.met.items k false c.index.result.now (omega (arith, table, within)) ∙ sym c.index.ensures in
    let high : length walk.order.items ≡ c.len.result = omega arith in
    let y : Entry = record { class = c.index_mut.result.now.class; rank = c.len.result } in (
      map-set_same (λ (m : Entry). m.class) entries k y c.index_mut.result.now (ap (λ (m : Entry). m.class) c.index_mut.ensures.value) ∙ c.loop-index.invariant.0,
      one_more (classes_of start) entries k y (omega (arith, long)) c.loop-index.invariant.1 (subst (λ n. IsHeight (classes_of start) k n) high (height_of (classes_of start) k walk w (read ∙ c.if-index.false))),
    )

pub returns-clause-ranks : goal.returns-clause-ranks
returns-clause-ranks c =
    let start = c.args.entries.now.items in
    let entries = c.loop-index.entries.items in
    let long = sym (long_classes entries) ∙ (ap length c.loop-index.invariant.0 ∙ long_classes start) in
    ranked_by_heights entries (classes_of start) c.loop-index.index c.loop-index.invariant.0 (omega (arith, long))
    (subst (λ n. AreWithin n (classes_of start)) (sym long) c.requires) c.loop-index.invariant.1
