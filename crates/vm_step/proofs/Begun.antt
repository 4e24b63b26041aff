-- A task that starts at a static method begins the same.
use Rattle.std.proofs.Common.{◌≡◌, Bool, true, false, Option, Some, None, List, refl, sym, ◌∙◌}
use Rattle.std.specs.Prelude.{◌&&◌, not, if◌then◌else◌, IsOk, Result, Ok, Err}
use Rattle.std.specs.Option.{option_map_or}
use Rattle.cls_link.specs.Links.{Links}
use Rattle.cls_link.specs.declared.linked_code.MethodId.{MethodId}
use Rattle.space_ids.specs.declared.value.Value.{Value}
use Rattle.uuid.specs.declared.Uuid.{Uuid}
use Rattle.ver_frames.specs.Method.{is_static}
use Rattle.vm_step.specs.Begin.{begun}
use Rattle.vm_step.specs.Start.{fill, opening_state, refusal, startable, started, takes_crossing}
use Rattle.vm_step.specs.Subjects.{Declared}
use Rattle.vm_step.specs.Task.{Tasked}
use Rattle.vm_step.specs.declared.fault.StartFault.{StartFault}
use Rattle.vm_step.specs.declared.fault.StartFault.TheVariants as fault
use Rattle.vm_step.specs.declared.limits.Limits.{Limits}

module _ (links : Links) (own : Uuid) (id : MethodId) (values : List Value) (limits : Limits) where
  abbrev begin : Declared → Option StartFault → Result Tasked StartFault
  begin m (Some why) = Err why
  begin m None = Ok (record { program = links; own = own; state = opening_state own id m.code values limits })

  abbrev start_at : Option Declared → Result Tasked StartFault
  start_at None = Err fault.AbsentMethod
  start_at (Some m) = begin m (refusal links.classes m.method values)

  has_static : (task : Tasked) (m : Declared) (takes static filled : Bool)
      → begin m (if not takes then Some fault.BadSignature else (if static && filled then None else Some fault.BadArgument)) ≡ Ok task → static ≡ true
  has_static task m false static filled e = absurd (cc)
  has_static task m true true filled e = refl
  has_static task m true false filled e = absurd (cc)

  static_at : (task : Tasked) (o : Option Declared) → start_at o ≡ Ok task → option_map_or (λ (m : Declared). is_static m.method) o false ≡ true
  static_at task None e = absurd (cc)
  static_at task (Some m) e = has_static task m (takes_crossing links.classes m.method.types) (is_static m.method) (fill links.classes m.method.types.parameters values) e

  -- what starts begins so
  pub started_begun : (task : Tasked) → started links own id values limits ≡ Ok task → begun links own id values limits ≡ Ok task
  started_begun task e = rw (static_at task (startable links id) e) e

  pub begun_started : IsOk (started links own id values limits) → begun links own id values limits ≡ started links own id values limits
  begun_started ok = by (started links own id values limits) refl ok
    where
      by : (r : Result Tasked StartFault) → started links own id values limits ≡ r → IsOk r → begun links own id values limits ≡ started links own id values limits
      by (Ok task) e ok = started_begun task e ∙ sym e
      by (Err why) e ok = absurd (cc)
