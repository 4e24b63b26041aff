use Rattle.std.proofs.Common.{inl, inr, refl, sym, subst, ◌∙◌}
use Rattle.cls_order.specs.Building.{NamesAbsent}
use Rattle.cls_order.specs.Classes.{names}
use Rattle.cls_order.specs.Entries.{classes_of}
use Rattle.cls_order.proofs.Absent.{by_either, by_parameter, by_result}
use Rattle.cls_order.proofs.Hierarchy.{none_some, same_some, true_false}
use Rattle.cls_order.proofs.mentions.descriptor_names_absent.Goals as goal
use Rattle.cls_order.proofs.mentions.descriptor_names_absent.Goals.{in_default-via-in-Some+else-is_type_absent, in_default-via-in_default}

pub returns-in-Some : goal.returns-in-Some
returns-in-Some c = (
  λ _. by_result (names (classes_of c.args.entries.now)) c.args.types.now c.in-Some.kind c.in-Some.is (c.is_type_absent.ensures.0 c.if-is_type_absent.true),
  λ _. refl,
)

pub returns-in_default : goal.returns-in_default
returns-in_default c =
    let ns = names (classes_of c.args.entries.now) in
    let types = c.args.types.now in (
      λ e. by_parameter ns types (c.is_one_absent.ensures.0 e),
      λ a.
          elim (by_either ns types a) [
            | inl one ↦ c.is_one_absent.ensures.1 one
            | inr r ↦
                elim c.in_default.branch [
                  | in_default-via-in-Some+else-is_type_absent w ↦
                      absurd (true_false (sym (w.is_type_absent.ensures.1 (subst (NamesAbsent ns) (same_some (sym r.1 ∙ w.in-Some.is)) r.2)) ∙ w.if-is_type_absent.false))
                  | in_default-via-in_default w ↦ absurd (none_some (sym w.in_default.is ∙ r.1))
                ]
          ],
    )
