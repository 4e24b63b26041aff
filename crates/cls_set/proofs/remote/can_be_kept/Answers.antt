use Rattle.std.proofs.Common.{inl, inr, sym, subst, ◌∙◌}
use Rattle.cls_order.specs.Building.{origins_of}
use Rattle.cls_set.specs.Rules as rules
use Rattle.cls_set.specs.Rules.{NamesRemoteInterface}
use Rattle.cls_order.proofs.Absent.{no_bool, no_int, same_class_name}
use Rattle.cls_set.proofs.Unfit.{kept_kind}
use Rattle.cls_set.proofs.remote.can_be_kept.Goals as goal

pub returns-in-Class : goal.returns-in-Class
returns-in-Class c =
    let os = origins_of c.args.entries.now in
    let kind = c.args.kind.now in
    let is = c.in-Class.is in (
      λ e. rules.CanBeKept.remote c.in-Class.name c.if-kind-ne0.false is (c.names_remote_interface.ensures.0 e),
      λ k.
          elim (kept_kind os kind k) [
            | inl int ↦ absurd (no_int c.in-Class.name (sym is ∙ int))
            | inr other ↦
                elim other [
                  | inl bool ↦ absurd (no_bool c.in-Class.name (sym is ∙ bool))
                  | inr r ↦ c.names_remote_interface.ensures.1 (subst (NamesRemoteInterface os) (same_class_name r.0 c.in-Class.name (sym r.1 ∙ is)) r.2)
                ]
          ],
    )
