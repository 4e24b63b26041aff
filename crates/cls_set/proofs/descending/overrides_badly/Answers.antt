use Rattle.std.proofs.Common.{length, get_or, refl, sym, subst, ap, ◌∙◌, arith}
use Rattle.std.proofs.lemmas.Option.{slice_get-get_or, slice_get_within}
use Rattle.cf_reader.specs.declared.class_file.ClassFile.{ClassFile}
use Rattle.cls_order.specs.Building.{origins_of}
use Rattle.cls_order.specs.declared.class.Class.{Class}
use Rattle.cls_order.proofs.Hierarchy.{class_read, same_some, true_false}
use Rattle.cls_set.specs.Rules.{package_name, OverridesBadly}
use Rattle.cls_set.proofs.Descends.{bad_none, method_read, one_not_barred, tested}
use Rattle.cls_set.proofs.KeyOrder.{number_read}
use Rattle.cls_set.proofs.Overrides.{bad_in}
use Rattle.cls_set.proofs.descending.overrides_badly.Goals as goal

pub returns-then-forbids : goal.returns-then-forbids
returns-then-forbids c = λ k there.
    let entries = c.args.entries.now in
    let n = c.loop-method.method in
    let e = c.index-entries-index.result in
    let own = (get_or entries c.args.index e).class in
    let is = class_read entries e c.args.index c.args.index refl c.requires.in_set in
    let file = ap (λ (x : Class). x.file) c.class.view_is in
    let m = c.index-methods-method.result in
    let at = method_read own.file c.as_slice-methods.result.now n m (c.as_slice-methods.ensures.items ∙ ap (λ (f : ClassFile). f.methods) file) c.loop-method-test.true c.index-methods-method.is in
    let one_each = c.requires.numbers.one_each in
    let inside = c.requires.in_set in
    let number = number_read c.args.keys.now.numbers.items c.args.index n c.as_slice-numbers.result.now c.index.result.now (omega (arith, one_each, inside)) (c.as_slice-numbers.ensures ∙ c.index.ensures) in
    let home = c.package_name-package.ensures ∙ ap package_name (c.as_bytes.ensures ∙ ap (λ (f : ClassFile). f.name) file) in
    let test = tested entries c.args.keys.now c.args.index own is n m at c.args.trees.now c.args.above (get_or c.as_slice-numbers.result.now n 0) c.package_name-package.result.now c.inherited-inherited.result c.forbids.result
    c.requires.above number home c.inherited-inherited.ensures c.forbids.ensures in
    let bad = test.0 c.if-forbids.true in
    let same = same_some (sym is ∙ there) in
    let low = slice_get_within own.file.methods n m at in
    let read = same_some (sym (slice_get-get_or own.file.methods n m low) ∙ at) in
    (λ _. subst (λ (x : Class). OverridesBadly (origins_of entries) x.file) same (bad_in entries c.args.index own is m (n, low, read) bad.0 bad.1), λ _. refl)

pub loop-method-preserved : goal.loop-method-preserved
loop-method-preserved c =
    let entries = c.args.entries.now in
    let n = c.loop-method.method in
    let e = c.index-entries-index.result in
    let own = (get_or entries c.args.index e).class in
    let is = class_read entries e c.args.index c.args.index refl c.requires.in_set in
    let file = ap (λ (x : Class). x.file) c.class.view_is in
    let m = c.index-methods-method.result in
    let at = method_read own.file c.as_slice-methods.result.now n m (c.as_slice-methods.ensures.items ∙ ap (λ (f : ClassFile). f.methods) file) c.loop-method-test.true c.index-methods-method.is in
    let one_each = c.requires.numbers.one_each in
    let inside = c.requires.in_set in
    let number = number_read c.args.keys.now.numbers.items c.args.index n c.as_slice-numbers.result.now c.index.result.now (omega (arith, one_each, inside)) (c.as_slice-numbers.ensures ∙ c.index.ensures) in
    let home = c.package_name-package.ensures ∙ ap package_name (c.as_bytes.ensures ∙ ap (λ (f : ClassFile). f.name) file) in
    let test = tested entries c.args.keys.now c.args.index own is n m at c.args.trees.now c.args.above (get_or c.as_slice-numbers.result.now n 0) c.package_name-package.result.now c.inherited-inherited.result c.forbids.result
    c.requires.above number home c.inherited-inherited.ensures c.forbids.ensures in
    one_not_barred entries c.args.keys.now c.args.index own is n m at c.loop-method.invariant (λ named b. true_false (sym (test.1 (named, b)) ∙ c.if-forbids.false))

pub returns : goal.returns
returns c = λ k there.
    let entries = c.args.entries.now in
    let n = c.loop-method.method in
    let e = c.index-entries-index.result in
    let own = (get_or entries c.args.index e).class in
    let is = class_read entries e c.args.index c.args.index refl c.requires.in_set in
    let file = ap (λ (x : Class). x.file) c.class.view_is in
    let same = same_some (sym is ∙ there) in
    let long = ap (λ ms. length ms) (c.as_slice-methods.ensures.items ∙ ap (λ (f : ClassFile). f.methods) file) in
    let over = c.loop-method-test.false in (
      λ t. absurd (true_false (sym t)),
      λ bad.
          absurd
          (bad_none entries c.args.keys.now c.args.index own is n (omega (arith, long, over)) c.loop-method.invariant
          (subst (λ (x : Class). OverridesBadly (origins_of entries) x.file) (sym same) bad)),
    )
