use Rattle.std.proofs.Common.{◌≡◌, ◌∙◌, ◌<◌, [], inl, inr, false, length, get_or, sym, subst, ap, arith}
use Rattle.cls_order.specs.Entries.{classes_of}
use Rattle.cls_order.specs.Subtypes.{IsSubtype}
use Rattle.cls_order.proofs.Hierarchy.{differ_by, same_read, same_subtype}
use Rattle.cls_set.proofs.Remotes.{proper_of_subtype, subtype_of_proper}
use Rattle.cls_set.proofs.class_set.ClassSet.implements.Goals as goal

pub returns-then-eq : goal.returns-then-eq
returns-then-eq c = (λ _. same_subtype c.args.self.now c.args.class c.args.interface (sym c.eq.ensures ∙ c.if-eq.true), λ _. c.if-eq.true)

pub returns-else-eq : goal.returns-else-eq
returns-else-eq c =
    let a = c.args.class in
    let b = c.args.interface in
    let tables = c.self.inside.tables.items in
    let classes = classes_of c.self.inside.members.items in
    let long = c.self.invariant.tables.one_each in
    let viewed = ap length c.self.view_is in
    let inside : a.0 < length classes = omega (arith, c.requires, viewed) in
    let within : a.0 < length tables = omega (arith, long, inside) in
    let table = c.self.invariant.tables.table a.0 inside in
    let read : get_or tables a.0 [] ≡ c.index-table.result.now = same_read tables a.0 [] c.index-table.result.now within ∙ (ap (λ i. get_or tables i c.index-table.result.now) (sym c.from.ensures) ∙ sym c.index-table.ensures) in
    let bit : get_or (get_or tables a.0 []) b.0 false ≡ c.has.result = ap (λ xs. get_or xs b.0 false) read ∙ (ap (λ i. get_or c.index-table.result.now i false) (sym c.from-else-eq.ensures) ∙ sym c.has.ensures) in (
      λ e. subst (λ cs. IsSubtype cs a b) c.self.view_is (subtype_of_proper classes a b ((table.supertypes b).0 (bit ∙ e))),
      λ h.
          elim (proper_of_subtype classes a b (subst (λ cs. IsSubtype cs a b) (sym c.self.view_is) h)) [
            | inl same ↦ absurd (differ_by a b (sym c.eq.ensures ∙ c.if-eq.false) same)
            | inr proper ↦ sym bit ∙ (table.supertypes b).1 proper
          ],
    )
