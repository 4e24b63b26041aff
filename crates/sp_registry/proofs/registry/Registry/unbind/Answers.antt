use Rattle.std.proofs.Common.{◌≡◌, sym, ap, ◌∙◌, List}
use Rattle.sp_registry.specs.declared.registry.Binding.{Binding}
use Rattle.sp_registry.specs.Bindings.{Names}
use Rattle.sp_registry.specs.Counts.{count_of}
use Rattle.sp_registry.proofs.BindingsLemmas.{unbound-absent}
use Rattle.sp_registry.proofs.CountsLemmas.{counted-unbound}
use Rattle.sp_registry.proofs.registry.Registry.unbind.Goals as goal
use Rattle.sp_registry.proofs.registry.Registry.unbind.Goals.{In-None}

pub invariant_of-self : goal.invariant_of-self
invariant_of-self c =
    rw c.remove.ensures.left (counted-unbound c.self.inside.table c.args.name.now c.in-Some.object c.self.inside.counts c.take.new.self
    (sym c.in-Some.ensures.object) c.self.invariant c.take.ensures)

-- nothing is taken away
same : (c : In-None) → c.remove.new.self ≡ c.self.inside.table
same c = c.remove.ensures.left ∙ unbound-absent c.self.inside.table c.args.name.now (sym c.in-None.ensures.object)

pub invariant_of-self-in-None : goal.invariant_of-self-in-None
invariant_of-self-in-None c = λ object. c.self.invariant object ∙ ap (λ (bs : List Binding). count_of bs object) (sym (same c))

pub returns-in-None-clause-unchanged : goal.returns-in-None-clause-unchanged
returns-in-None-clause-unchanged c =
    ap (λ (bs : List Binding). let n : Names = record { bindings = bs } in n) (same c) ∙ c.self.view_is
