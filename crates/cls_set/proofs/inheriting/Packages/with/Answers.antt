use Rattle.std.proofs.Common.{◌≢◌, ◌⊎◌, ◌∙◌, rules, sym, subst}
use Rattle.std.proofs.lemmas.Slice.Eq.{bytes_eq-Decides}
use Rattle.cls_order.proofs.Hierarchy.{true_false}
use Rattle.cls_set.specs.declared.inheriting.Packages.{Packages}
use Rattle.cls_set.specs.Inheriting.{HasOther}
use Rattle.cls_set.proofs.Inherits.{one_differs}
use Rattle.cls_set.proofs.inheriting.Packages.with.Goals as goal

pub returns-else-eq : goal.returns-else-eq
returns-else-eq c = λ other. (
  λ h.
      subst (λ (s : Packages). HasOther s other ⊎ (c.args.home.now ≢ other)) (sym c.in-In.is)
      (one_differs c.in-In.known.now c.args.home.now other (λ e. true_false (sym ((bytes_eq-Decides c.in-In.known.now c.args.home.now).1 e) ∙ (search rules)))),
  λ h. tt,
)
