use Rattle.std.proofs.Common.{◌≡◌, ◌-◌, List, Some, arith, subst, length}
use Rattle.std.specs.Prelude.{slice_get}
use Rattle.cls_set.specs.declared.class.Class.{Class}
use Rattle.cls_tables.proofs.Chosen.{is_added, so_added, so_at_last}
use Rattle.cls_tables.proofs.Grown.{starts_both}
use Rattle.cls_tables.specs.Trees.{find}
use Rattle.cls_tables.specs.declared.trees.Node.{Node}
use Rattle.cls_tables.proofs.choices.choose_own.Goals as goal

pub loop-index-preserved : goal.loop-index-preserved
loop-index-preserved c =
    let was = c.loop-index.invariant in
    let now = c.in_ok-root.ensures in
    let classes = c.args.linked.now.classes in
    let keys = c.args.keys.now.keys.items in
    let at = subst (λ (cs : List Class). slice_get cs c.args.class.0 ≡ Some c.class.result.now) c.set.ensures c.class.ensures in
    let id = c.method_id-id.ensures in
    let low = id.within in
    let one_each = c.requires.one_each in
    let end = c.loop-index.auto.index in
    let more = c.loop-index-test.true in
    let added =
    is_added classes c.args.class c.class.result.now keys c.as_slice-count.result.now (length c.args.linked.now.methods) (c.loop-index.index - 1) c.method_id-id.result c.index-key.result.now at
    c.as_slice-count.ensures.items (omega (arith, end, more)) one_each low id.declared id.number c.index-key.ensures in (
      starts_both was.0 now.starts,
      now.tree,
      so_added classes c.args.keys.now.levels keys c.args.class c.args.nodes.now.items c.loop-index.nodes.items c.with.new.nodes.items c.args.above c.loop-index.root c.in_ok-root.root c.loop-index.index
          c.method_id-id.result c.index-key.result.now c.find-inherited.result c.own_code-code.result c.requires.keys more added
          (subst (λ (nodes : List Node). c.find-inherited.result ≡ find nodes c.args.keys.now.levels c.args.above c.index-key.result.now) c.deref.ensures.value c.find-inherited.ensures) c.own_code-code.ensures was.0 c.requires.tree now.found was.2,
    )

pub returns-clause-own : goal.returns-clause-own
returns-clause-own c =
    let at = subst (λ (cs : List Class). slice_get cs c.args.class.0 ≡ Some c.class.result.now) c.set.ensures c.class.ensures in
    so_at_last c.args.linked.now.classes c.args.keys.now.levels c.args.keys.now.keys.items c.args.class c.class.result.now c.args.nodes.now.items c.loop-index.nodes.items c.args.above c.loop-index.root c.loop-index.index at
    (let over = c.loop-index-test.false in omega (arith, over)) c.loop-index.invariant.2
