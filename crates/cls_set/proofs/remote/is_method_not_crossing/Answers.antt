use Rattle.std.proofs.Common.{ap, inl, inr, refl, sym, subst, ◌∙◌}
use Rattle.std.specs.List.{Any}
use Rattle.cf_text.specs.declared.types.MethodDescriptor.{MethodDescriptor}
use Rattle.cls_order.specs.Building.{origins_of}
use Rattle.cls_set.specs.ClassRules.{CannotCross}
use Rattle.cls_set.specs.Rules.{CanCross}
use Rattle.cls_order.proofs.Hierarchy.{none_some, same_some, true_false}
use Rattle.cls_set.proofs.remote.is_method_not_crossing.Goals as goal
use Rattle.cls_set.proofs.remote.is_method_not_crossing.Goals.{in_default-via-in-Some+else-does_not_cross, in_default-via-in_default}

pub returns-in-Some : goal.returns-in-Some
returns-in-Some c = (
  λ _. record { type = c.in-Some.kind; used = inr (ap (λ (types : MethodDescriptor). types.result) (sym c.deref.ensures) ∙ c.in-Some.is); not_crossing = (c.does_not_cross.ensures.0 c.if-does_not_cross.true).not_crossing },
  λ _. refl,
)

pub returns-in_default : goal.returns-in_default
returns-in_default c =
    let os = origins_of c.args.entries.now in
    let slice = ap (λ (types : MethodDescriptor). types.parameters) c.deref-in_default.ensures in (
      λ e.
          let a = subst (Any (CannotCross os)) slice (c.is_one_not_crossing.ensures.0 e) in
          record { type = a.1; used = inl (a.0, a.2, a.3); not_crossing = a.4.not_crossing },
      λ x.
          elim x.used [
            | inl among ↦ c.is_one_not_crossing.ensures.1 (subst (Any (CannotCross os)) (sym slice) (among.0, x.type, among.1, among.2, record { not_crossing = x.not_crossing }))
            | inr used ↦
                let is = ap (λ (types : MethodDescriptor). types.result) c.deref.ensures ∙ used in
                elim c.in_default.branch [
                  | in_default-via-in-Some+else-does_not_cross w ↦
                      absurd (true_false (sym (w.does_not_cross.ensures.1 (record { not_crossing = subst (λ t. CanCross os t → ⊥) (same_some (sym is ∙ w.in-Some.is)) x.not_crossing })) ∙ w.if-does_not_cross.false))
                  | in_default-via-in_default w ↦ absurd (none_some (sym w.in_default.is ∙ is))
                ]
          ],
    )
