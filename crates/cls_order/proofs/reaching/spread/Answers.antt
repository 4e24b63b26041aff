use Rattle.std.proofs.Common.{◌<◌, List, Bool, length, get_or, take, refl, sym, subst, ◌∙◌, arith}
use Rattle.std.specs.Prelude.{◌↔◌, IsTrue}
use Rattle.std.specs.List.{Any}
use Rattle.std.proofs.lemmas.List.{take_all, take_more}
use Rattle.cls_order.specs.Entries.{classes_of}
use Rattle.cls_order.specs.Marks.{IsMarked}
use Rattle.cls_order.specs.Walks.{ups}
use Rattle.cls_order.proofs.Heights.{long_classes}
use Rattle.cls_order.proofs.Hierarchy.{true_false}
use Rattle.cls_order.proofs.Marks.{comes_before, marked_up, spread_ends, spread_leaves, spread_marks, standing_at, up_marked}
use Rattle.cls_order.proofs.reaching.spread.Goals as goal
use Rattle.cls_order.proofs.reaching.spread.Goals.{then-is_up_marked, else-is_up_marked}

pub loop-index-preserved : goal.loop-index-preserved
loop-index-preserved c =
    let entries = c.args.entries.now in
    let classes = classes_of entries in
    let order = c.args.order.now in
    let marks = c.args.marks.now.items in
    let told = c.loop-index.marks.items in
    let i = c.loop-index.index-index in
    let n = get_or order i 0 in
    let inside : n < length entries = c.requires.order.only i 0 c.loop-index-test.true in
    let long = long_classes entries in
    let class = standing_at classes n (omega (arith, inside, long)) in
    let tells : IsTrue c.is_up_marked.result ↔ Any (λ s. IsMarked told s.0) (ups class.0) =
    subst (λ (xs : List Bool). IsTrue c.is_up_marked.result ↔ Any (λ s. IsMarked xs s.0) (ups class.0)) c.as_slice.ensures.value (c.is_up_marked.ensures class.0 class.1)
    in
    let old = c.loop-index.invariant in
    rw (take_more order i 0 c.loop-index-test.true)
    (elim c.if-is_up_marked.branch [
      | then-is_up_marked w ↦
          let up = up_marked classes n class.0 told class.1 (tells.0 w.if-is_up_marked.true) in
          let within : n < length told = let a = old.long in let b = c.requires.one_each in omega (arith, inside, a, b) in
          rw w.marks-is (spread_marks classes marks told (take i order) n old within up.0 up.1 up.2)
      | else-is_up_marked w ↦
          rw w.marks-is
          (spread_leaves classes marks told (take i order) n old
          (λ s d. comes_before entries order i n s c.requires.arranged c.requires.order c.loop-index-test.true refl d)
          (λ s d m. true_false (sym (tells.1 (marked_up classes n class.0 told class.1 s d m)) ∙ w.if-is_up_marked.false)))
    ])

pub returns : goal.returns
returns c = λ k h.
    let order = c.args.order.now in
    spread_ends (classes_of c.args.entries.now) c.args.marks.now.items c.loop-index.marks.items (take c.loop-index.index-index order) c.loop-index.invariant k
    (rw (take_all c.loop-index.index-index order c.loop-index-test.false) (c.requires.order.each k h))
