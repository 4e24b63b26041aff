use Rattle.std.proofs.Common.{◌∙◌, refl, sym, subst}
use Rattle.std.specs.Prelude.{IsSome}
use Rattle.cls_link.specs.Selections as selections
use Rattle.cls_link.proofs.linked.Linked.selection.Goals as goal

pub returns-in-Some : goal.returns-in-Some
returns-in-Some c =
    selections.IsSelection.runs c.args.method c.declaration.result.now c.declaration.ensures.declared
    (subst IsSome (sym (sym (c.deref.ensures) ∙ c.in-Some.is)) refl)

pub returns-in-None : goal.returns-in-None
returns-in-None c =
    selections.IsSelection.abstract c.args.method c.declaration.result.now c.declaration.ensures.declared (sym (c.deref.ensures) ∙ c.in-None.is)
