-- What is known of the machine of a task as it begins.
use Rattle.std.proofs.Common.{◌≡◌, Bool, true, false, Option, Some, None, List, refl, subst, ◌∙◌}
use Rattle.std.specs.Prelude.{if◌then◌else◌, IsOk, Result, Ok, Err}
use Rattle.std.specs.Option.{option_map_or}
use Rattle.cls_link.specs.Links.{Links, AreLinks}
use Rattle.cls_link.specs.declared.linked_code.MethodId.{MethodId}
use Rattle.space_ids.specs.declared.value.Value.{Value}
use Rattle.uuid.specs.declared.Uuid.{Uuid}
use Rattle.ver_frames.specs.Method.{is_static}
use Rattle.vm_step.specs.Begin.{begin_refusal, begun, receiver_refusal}
use Rattle.vm_step.specs.Limited.{AlwaysKeepsWithin}
use Rattle.vm_step.specs.Run.{IsNeverStuck}
use Rattle.vm_step.specs.Sound.{IsSoundSet}
use Rattle.vm_step.specs.Start.{opening_state, refusal, startable}
use Rattle.vm_step.specs.Subjects.{Declared}
use Rattle.vm_step.specs.Task.{Tasked}
use Rattle.vm_step.specs.declared.fault.StartFault.{StartFault}
use Rattle.vm_step.specs.declared.fault.StartFault.TheVariants as fault
use Rattle.vm_step.specs.declared.limits.Limits.{Limits}
use Rattle.vm_step.proofs.Begins.{startable-begins}

-- A machine is never stuck, and keeps its frames within the limits of their methods.
pub record IsSafe (links : Links) (task : Tasked) : Type 0 where
  pub never_stuck : IsNeverStuck links task.state
  pub within : AlwaysKeepsWithin links task.state

-- a result that is a machine, which is safe
pub record IsBegun (links : Links) (r : Result Tasked StartFault) : Type 0 where
  pub task : Tasked
  pub is : r ≡ Ok task
  pub safe : IsSafe links task

module _ (links : Links) (own : Uuid) (id : MethodId) (values : List Value) (limits : Limits) (are : AreLinks links) (sound : IsSoundSet links) where
  abbrev begin : Declared → Option StartFault → Result Tasked StartFault
  begin m (Some why) = Err why
  begin m None = Ok (record { program = links; own = own; state = opening_state own id m.code values limits })

  -- a static method, and one that has a receiver
  abbrev start_at : Option Declared → Result Tasked StartFault
  start_at None = Err fault.AbsentMethod
  start_at (Some m) = begin m (refusal links.classes m.method values)

  abbrev receive_at : Option Declared → Result Tasked StartFault
  receive_at None = Err fault.AbsentMethod
  receive_at (Some m) = begin m (receiver_refusal links.classes own m values)

  abbrev begun_at : Option Declared → Result Tasked StartFault
  begun_at o = if option_map_or (λ (m : Declared). is_static m.method) o false then start_at o else receive_at o

  either : (m : Declared) (x y : Option StartFault) (b : Bool) → (if b then begin m x else begin m y) ≡ begin m (if b then x else y)
  either m x y true = refl
  either m x y false = refl

  begins : (m : Declared) → startable links id ≡ Some m → (why : Option StartFault) → begin_refusal links.classes own m values ≡ why → IsOk (begin m why) → IsBegun links (begin m why)
  begins m found (Some why) taken ok = absurd (cc)
  begins m found None taken ok =
      let known = startable-begins links own id m values limits are sound found taken in
      record {
        task = record { program = links; own = own; state = opening_state own id m.code values limits };
        is = refl;
        safe = record { never_stuck = known.never_stuck; within = known.within_replies };
      }

  at : (o : Option Declared) → startable links id ≡ o → IsOk (begun_at o) → IsBegun links (begun_at o)
  at None found ok = absurd (cc)
  at (Some m) found ok =
      let same : begun_at (Some m) ≡ begin m (begin_refusal links.classes own m values) =
      either m (refusal links.classes m.method values) (receiver_refusal links.classes own m values) (is_static m.method) in
      let known = begins m found (begin_refusal links.classes own m values) refl (subst IsOk same ok) in
      record { task = known.task; is = same ∙ known.is; safe = known.safe }

  -- a task that begins is on a machine that is safe
  pub begun-safe : IsOk (begun links own id values limits) → IsBegun links (begun links own id values limits)
  begun-safe ok = at (startable links id) refl ok
