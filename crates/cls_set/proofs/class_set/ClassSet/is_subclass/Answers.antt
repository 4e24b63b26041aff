use Rattle.std.proofs.Common.{◌≡◌, ◌∙◌, ◌<◌, [], inl, inr, Some, Bool, false, true, not, refl, length, get_or, sym, subst, ap, arith}
use Rattle.std.specs.Prelude.{slice_get}
use Rattle.cls_order.specs.Classes.{IsInterface}
use Rattle.cls_order.specs.Entries.{classes_of}
use Rattle.cls_order.specs.Subtypes as types
use Rattle.cls_order.specs.Subtypes.{IsProperSubtype, IsSubclass}
use Rattle.cls_order.proofs.Heights.{true_within}
use Rattle.cls_order.proofs.Hierarchy.{differ_by, equal, not_true, same_read, same_some, some_and, some_of}
use Rattle.cls_set.proofs.Superclasses.{proper_of_subclass, subclass_of_proper}
use Rattle.cls_set.proofs.class_set.ClassSet.is_subclass.Goals as goal

not_is : (b : Bool) → not b ≡ true → b ≡ false
not_is true e = sym e
not_is false e = refl

is_not : (b : Bool) → (b ≡ true → ⊥) → not b ≡ true
is_not true h = absurd (h refl)
is_not false h = refl

pub class-requires : goal.class-requires
class-requires c =
    let a = c.args.sub in
    let b = c.args.sup in
    let classes = classes_of c.self.inside.members.items in
    let tables = c.self.inside.tables.items in
    let long = c.self.invariant.tables.one_each in
    let viewed = ap length c.self.view_is in
    let inside : a.0 < length classes = omega (arith, c.requires, viewed) in
    let within : a.0 < length tables = omega (arith, long, inside) in
    let table = c.self.invariant.tables.table a.0 inside in
    let read : get_or tables a.0 [] ≡ c.index-table.result.now = same_read tables a.0 [] c.index-table.result.now within ∙ (ap (λ i. get_or tables i c.index-table.result.now) (sym c.from.ensures) ∙ sym c.index-table.ensures) in
    let bit : get_or (get_or tables a.0 []) b.0 false ≡ c.has.result = ap (λ xs. get_or xs b.0 false) read ∙ (ap (λ i. get_or c.index-table.result.now i false) (sym c.from-else-eq.ensures) ∙ sym c.has.ensures) in
    let low = true_within (get_or tables a.0 []) b.0 (bit ∙ c.if-has.true) in
    let same = table.long in
    omega (arith, low, same, viewed)

pub returns-then-eq : goal.returns-then-eq
returns-then-eq c = (
  λ _. subst (λ x. IsSubclass c.args.self.now c.args.sub x) (equal c.args.sub c.args.sup (sym c.eq.ensures ∙ c.if-eq.true)) (types.IsSubclass.itself c.args.sub),
  λ _. c.if-eq.true,
)

pub returns-then-has : goal.returns-then-has
returns-then-has c =
    let a = c.args.sub in
    let b = c.args.sup in
    let classes = classes_of c.self.inside.members.items in
    let set = c.self.invariant.set in
    let tables = c.self.inside.tables.items in
    let long = c.self.invariant.tables.one_each in
    let viewed = ap length c.self.view_is in
    let inside : a.0 < length classes = omega (arith, c.requires, viewed) in
    let within : a.0 < length tables = omega (arith, long, inside) in
    let table = c.self.invariant.tables.table a.0 inside in
    let read : get_or tables a.0 [] ≡ c.index-table.result.now = same_read tables a.0 [] c.index-table.result.now within ∙ (ap (λ i. get_or tables i c.index-table.result.now) (sym c.from.ensures) ∙ sym c.index-table.ensures) in
    let bit : get_or (get_or tables a.0 []) b.0 false ≡ c.has.result = ap (λ xs. get_or xs b.0 false) read ∙ (ap (λ i. get_or c.index-table.result.now i false) (sym c.from-else-eq.ensures) ∙ sym c.has.ensures) in
    let proper : IsProperSubtype classes a b = (table.supertypes b).0 (bit ∙ c.if-has.true) in
    let there : slice_get classes b.0 ≡ Some c.class.result.now = ap (λ cs. slice_get cs b.0) c.self.view_is ∙ c.class.ensures in (
      λ e. subst (λ cs. IsSubclass cs a b) c.self.view_is
          (subclass_of_proper classes set a b (some_and (slice_get classes b.0) (λ k. ¬ IsInterface k) c.class.result.now there (λ h. not_true c.is_interface.result (not_is c.is_interface.result e) (c.is_interface.ensures.1 h))) proper),
      λ h.
          elim (proper_of_subclass classes set a b (subst (λ cs. IsSubclass cs a b) (sym c.self.view_is) h)) [
            | inl same ↦ absurd (differ_by a b (sym c.eq.ensures ∙ c.if-eq.false) same)
            | inr up ↦
                let found = some_of (slice_get classes b.0) (λ k. ¬ IsInterface k) up.1 in
                is_not c.is_interface.result (λ e. found.2 (subst IsInterface (same_some (sym there ∙ found.1)) (c.is_interface.ensures.0 e)))
          ],
    )

pub returns-else-has : goal.returns-else-has
returns-else-has c =
    let a = c.args.sub in
    let b = c.args.sup in
    let classes = classes_of c.self.inside.members.items in
    let set = c.self.invariant.set in
    let tables = c.self.inside.tables.items in
    let long = c.self.invariant.tables.one_each in
    let viewed = ap length c.self.view_is in
    let inside : a.0 < length classes = omega (arith, c.requires, viewed) in
    let within : a.0 < length tables = omega (arith, long, inside) in
    let table = c.self.invariant.tables.table a.0 inside in
    let read : get_or tables a.0 [] ≡ c.index-table.result.now = same_read tables a.0 [] c.index-table.result.now within ∙ (ap (λ i. get_or tables i c.index-table.result.now) (sym c.from.ensures) ∙ sym c.index-table.ensures) in
    let bit : get_or (get_or tables a.0 []) b.0 false ≡ c.has.result = ap (λ xs. get_or xs b.0 false) read ∙ (ap (λ i. get_or c.index-table.result.now i false) (sym c.from-else-eq.ensures) ∙ sym c.has.ensures) in (
      λ e. absurd (not_true c.has.result c.if-has.false e),
      λ h.
          elim (proper_of_subclass classes set a b (subst (λ cs. IsSubclass cs a b) (sym c.self.view_is) h)) [
            | inl same ↦ absurd (differ_by a b (sym c.eq.ensures ∙ c.if-eq.false) same)
            | inr up ↦ sym bit ∙ (table.supertypes b).1 up.0
          ],
    )
