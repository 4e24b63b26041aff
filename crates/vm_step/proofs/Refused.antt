-- What a start is refused for.
use Rattle.std.proofs.Common.{◌≡◌, List, Option, Some, None, refl, sym, ap, ◌∙◌}
use Rattle.std.specs.Prelude.{Err, IfNone, IfSome, IsOk}
use Rattle.std.specs.Option.{option_map_or}
use Rattle.cls_link.specs.Links.{Links}
use Rattle.cls_link.specs.declared.linked_code.MethodId.{MethodId}
use Rattle.cls_set.specs.declared.class.Class.{Class}
use Rattle.space_ids.specs.declared.value.Value.{Value}
use Rattle.uuid.specs.declared.Uuid.{Uuid}
use Rattle.vm_step.specs.Start.{refusal, start_fault, startable, started}
use Rattle.vm_step.specs.Subjects.{Declared, shown}
use Rattle.vm_step.specs.declared.fault.StartFault.{StartFault}
use Rattle.vm_step.specs.declared.fault.StartFault.TheVariants as fault
use Rattle.vm_step.specs.declared.found.Found.{Found}
use Rattle.vm_step.specs.declared.limits.Limits.{Limits}

module _ (links : Links) (id : MethodId) (arguments : List Value) where
  abbrev fault_at : Option Declared → Option StartFault
  fault_at o = option_map_or (λ (m : Declared). refusal links.classes m.method arguments) o (Some fault.AbsentMethod)

  -- what is found, and what its method is refused for
  pub fault_found : (found : Found) (classes : List Class) (why : Option StartFault) → Some (shown found) ≡ startable links id → classes ≡ links.classes
      → why ≡ refusal classes found.method.now arguments → why ≡ start_fault links id arguments
  fault_found found classes why is set refuses =
      refuses ∙ (ap (λ (cs : List Class). refusal cs found.method.now arguments) set ∙ ap fault_at is)

  pub fault_absent : None ≡ startable links id → Some fault.AbsentMethod ≡ start_fault links id arguments
  fault_absent is = ap fault_at is

  -- starting refuses the same
  pub refused : (own : Uuid) (why : Option StartFault) → why ≡ start_fault links id arguments → IfSome why (λ w. (limits : Limits) → started links own id arguments limits ≡ Err w)
  refused own why is = by (startable links id) refl why (sym is)
    where
      by : (o : Option Declared) → startable links id ≡ o → (why : Option StartFault) → fault_at o ≡ why
          → IfSome why (λ w. (limits : Limits) → started links own id arguments limits ≡ Err w)
      by o at None e = tt
      by None at (Some w) e = λ limits. rw at (cc)
      by (Some m) at (Some w) e = λ limits. rw (at, e) refl

  pub starts : (own : Uuid) (why : Option StartFault) → why ≡ start_fault links id arguments → IfNone why ((limits : Limits) → IsOk (started links own id arguments limits))
  starts own why is = by (startable links id) refl why (sym is)
    where
      by : (o : Option Declared) → startable links id ≡ o → (why : Option StartFault) → fault_at o ≡ why
          → IfNone why ((limits : Limits) → IsOk (started links own id arguments limits))
      by o at (Some w) e = tt
      by None at None e = absurd (cc)
      by (Some m) at None e = λ limits. rw (at, e) refl
