use Rattle.std.proofs.Common.{◌||◌, not, sym, ◌∙◌}
use Rattle.std.specs.Prelude.{IsTrue}
use Rattle.cf_reader.specs.declared.flags.TheConstants.Flags.{FINAL, STATIC}
use Rattle.cls_order.proofs.Hierarchy.{by_contradiction_false, true_false}
use Rattle.cls_set.specs.Rules.{Has}
use Rattle.cls_set.proofs.Inherits.{none_more, one_more, test_both, test_more}
use Rattle.cls_set.proofs.inheriting.Inherited.with.Goals as goal

pub returns-then-has : goal.returns-then-has
returns-then-has c = none_more c.args.self c.args.high.now c.args.home.now (c.has.ensures.set.0 c.if-has.true)

pub returns : goal.returns
returns c =
    let high = c.args.high.now in
    let s = c.has-is_static.result in
    let old = c.args.self in
    one_more old
    (record { has_instance = old.has_instance || not s; has_fixed = (old.has_fixed || s) || c.has-is_final.result; packages = c.with_that_of.result })
    high c.args.home.now (λ h. true_false (sym (c.has.ensures.set.1 h) ∙ c.if-has.false)) s c.has-is_static.ensures.set
    (test_more old.has_instance s (IsTrue old.has_instance) (¬ Has high.flags.bits STATIC) (λ h. h, λ h. h)
    (λ e h. true_false (sym (c.has-is_static.ensures.set.1 h) ∙ e))
    (λ n. by_contradiction_false s (λ e. n (c.has-is_static.ensures.set.0 e))))
    (test_both old.has_fixed s c.has-is_final.result (IsTrue old.has_fixed) (Has high.flags.bits STATIC) (Has high.flags.bits FINAL) (λ h. h, λ h. h)
    c.has-is_static.ensures.set c.has-is_final.ensures.set)
    c.with_that_of.ensures
