use Rattle.std.proofs.Common.{◌≡◌, Some, get_or, sym, subst, ap, ◌∙◌}
use Rattle.std.specs.Prelude.{◌↔◌, IsTrue}
use Rattle.cls_order.specs.declared.class.Class.{Class}
use Rattle.cls_set.specs.Rules.{Has}
use Rattle.cls_order.proofs.Hierarchy.{class_read, true_false}
use Rattle.cls_set.proofs.Supers.{extends_in, extends_none, extends_out, superclass_in_set}
use Rattle.cls_set.proofs.rules.extends_one_with.Goals as goal

pub returns-in-Some : goal.returns-in-Some
returns-in-Some c =
    let entries = c.args.entries.now in
    let a = c.requires.arranged in
    let class = c.args.class.now in
    let s = c.in-Some.superclass in
    let is : class.superclass ≡ Some s = sym (ap (λ (x : Class). x.superclass) c.class.view_is) ∙ c.in-Some.is in
    let inside = superclass_in_set entries a class c.requires.among s is in
    let k = class_read entries c.index-entries-get.result c.get.result s.0 c.get.ensures inside in
    let up = (get_or entries c.get.result c.index-entries-get.result).class in
    let has = subst (λ (x : Class). IsTrue c.has.result ↔ Has x.file.flags.bits c.args.mask) c.superclass.view_is c.has.ensures.set in (
      λ e. extends_in entries a class c.requires.among s up c.args.mask is k (has.0 e),
      λ x. has.1 (extends_out entries a class c.requires.among s up c.args.mask is k x),
    )

pub returns-in-None : goal.returns-in-None
returns-in-None c = (
  λ e. absurd (true_false (sym e)),
  λ x. absurd (extends_none c.args.entries.now c.requires.arranged c.args.class.now c.requires.among c.args.mask (sym (ap (λ (x : Class). x.superclass) c.class.view_is) ∙ c.in-None.is) x),
)
