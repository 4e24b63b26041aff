use Rattle.std.proofs.Common.{◌∙◌, inl, inr, refl, sym}
use Rattle.cls_order.specs.declared.fault.SetRule.TheVariants.{BadSuper}
use Rattle.cls_order.specs.Building.{origins_of}
use Rattle.cls_set.specs.Rules as rules
use Rattle.cls_set.proofs.Broken.{rooted_badly, way}
use Rattle.cls_order.proofs.Hierarchy.{true_false}
use Rattle.cls_set.proofs.rules.has_bad_super.Goals as goal

pub returns-then-is_badly_rooted : goal.returns-then-is_badly_rooted
returns-then-is_badly_rooted c = (
  λ _. rooted_badly (origins_of c.args.entries.now) c.args.class.now.file (c.is_badly_rooted.ensures.0 c.if-is_badly_rooted.true),
  λ _. refl,
)

pub returns-then-extends_one_with : goal.returns-then-extends_one_with
returns-then-extends_one_with c = (
  λ _. let x = c.extends_one_with.ensures.0 c.if-extends_one_with.true in rules.Breaks.interface_extended x.0 x.1 x.2,
  λ _. refl,
)

pub returns : goal.returns
returns c = (
  λ e. let x = c.implements_class.ensures.0 e in rules.Breaks.class_implemented x.0 x.1 x.2,
  λ h.
      elim (way (origins_of c.args.entries.now) c.args.class.now.file BadSuper h) [
        | inl r ↦ absurd (true_false (sym (c.is_badly_rooted.ensures.1 r) ∙ c.if-is_badly_rooted.false))
        | inr o ↦
            elim o [
              | inl x ↦ absurd (true_false (sym (c.extends_one_with.ensures.1 x) ∙ c.if-extends_one_with.false))
              | inr y ↦ c.implements_class.ensures.1 y
            ]
      ],
)
