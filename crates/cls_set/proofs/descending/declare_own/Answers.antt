use Rattle.std.proofs.Common.{length, get_or, refl, ap, ◌∙◌, arith}
use Rattle.cf_reader.specs.declared.class_file.ClassFile.{ClassFile}
use Rattle.cls_order.specs.declared.class.Class.{Class}
use Rattle.cls_order.proofs.Hierarchy.{class_read}
use Rattle.cls_set.specs.Rules.{package_name}
use Rattle.cls_set.proofs.Descends.{all_passed, declared_step, grown_both, grown_itself, method_read, none_yet}
use Rattle.cls_set.proofs.KeyOrder.{number_read}
use Rattle.cls_set.proofs.descending.declare_own.Goals as goal

pub loop-method-init : goal.loop-method-init
loop-method-init c =
    let entries = c.args.entries.now in
    let e = c.index-entries-index.result in
    let is = class_read entries e c.args.index c.args.index refl c.requires.in_set in
    (grown_itself c.args.trees.now, none_yet entries c.args.keys.now c.args.index (get_or entries c.args.index e).class is c.args.trees.now c.args.above c.requires.above)

pub loop-method-preserved : goal.loop-method-preserved
loop-method-preserved c =
    let entries = c.args.entries.now in
    let n = c.loop-method.method in
    let e = c.index-entries-index.result in
    let own = (get_or entries c.args.index e).class in
    let is = class_read entries e c.args.index c.args.index refl c.requires.in_set in
    let file = ap (λ (x : Class). x.file) c.class.view_is in
    let m = c.index-methods-method.result in
    let at = method_read own.file c.as_slice-methods.result.now n m (c.as_slice-methods.ensures.items ∙ ap (λ (f : ClassFile). f.methods) file) c.loop-method-test.true c.index-methods-method.is in
    let one_each = c.requires.numbers.one_each in
    let inside = c.requires.in_set in
    let number = number_read c.args.keys.now.numbers.items c.args.index n c.as_slice-numbers.result.now c.index.result.now (omega (arith, one_each, inside)) (c.as_slice-numbers.ensures ∙ c.index.ensures) in
    let home = c.package_name-package.ensures ∙ ap package_name (c.as_bytes.ensures ∙ ap (λ (f : ClassFile). f.name) file) in
    let was = c.loop-method.invariant in
    let now = c.in_ok-root.ensures in (
      grown_both was.0 now.grown,
      declared_step entries c.args.keys.now c.args.index own is n m at c.loop-method.trees c.declare.new.self c.loop-method.root c.in_ok-root.root (get_or c.as_slice-numbers.result.now n 0)
          c.package_name-package.result.now c.inherited-inherited.result c.with-more.result c.requires.numbers now.grown was.1 number home now.made c.inherited-inherited.ensures c.with-more.ensures,
    )

pub returns-clause-passed : goal.returns-clause-passed
returns-clause-passed c =
    let entries = c.args.entries.now in
    let n = c.loop-method.method in
    let e = c.index-entries-index.result in
    let own = (get_or entries c.args.index e).class in
    let is = class_read entries e c.args.index c.args.index refl c.requires.in_set in
    let file = ap (λ (x : Class). x.file) c.class.view_is in
    let long = ap (λ ms. length ms) (c.as_slice-methods.ensures.items ∙ ap (λ (f : ClassFile). f.methods) file) in
    let over = c.loop-method-test.false in
    all_passed entries c.args.keys.now c.args.index own is c.loop-method.trees c.loop-method.root n (omega (arith, long, over)) c.loop-method.invariant.1
