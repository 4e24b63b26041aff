-- How the tasks of a space begin: at a static method, or at a method of an object of the space, which a call runs on it. "The objectref and the
-- argument values are made available as the values of local variables" (JVMS 6.5, invokeinterface): objectref is in local variable 0, and the
-- arguments are in those after it. (That the receiver is a remote object of the task's own space, is a rule of this project.)
use Rattle.std.specs.Prelude.{Bool, false, not, ◌&&◌, if◌then◌else◌, Option, Some, None, Result, Ok, Err, List, [], ◌∷◌}
use Rattle.std.specs.Option.{option_map_or}
use Rattle.std.specs.Str.{bytes_eq}
use Rattle.cls_link.specs.Links.{Links}
use Rattle.cls_link.specs.declared.linked_code.MethodId.{MethodId}
use Rattle.cls_set.specs.declared.class.Class.{Class}
use Rattle.space_ids.specs.declared.ids.ClassId.{ClassId}
use Rattle.space_ids.specs.declared.value.Value.{Value}
use Rattle.space_ids.specs.declared.value.Value.TheVariants as value
use Rattle.uuid.specs.declared.Uuid.{Uuid}
use Rattle.ver_frames.specs.Method.{is_static}
use Rattle.vm_code.specs.Classes.{is_remote, is_subtype}
use Rattle.vm_step.specs.Start.{fill, opening_state, refusal, startable, started, takes_crossing}
use Rattle.vm_step.specs.Subjects.{Declared}
use Rattle.vm_step.specs.Task.{Tasked}
use Rattle.vm_step.specs.declared.fault.StartFault.{StartFault}
use Rattle.vm_step.specs.declared.fault.StartFault.TheVariants as fault
use Rattle.vm_step.specs.declared.limits.Limits.{Limits}

-- whether a value may be the receiver of a method that a class declares: a reference to an object of the task's own space, of a remote class
-- that is this class or a subtype of it
abbrev pub is_receiver : List Class → Uuid → ClassId → Value → Bool
is_receiver classes own class value.Null = false
is_receiver classes own class (value.Int n) = false
is_receiver classes own class (value.Ints elements) = false
is_receiver classes own class (value.Ref reference) =
    bytes_eq reference.space own && (is_remote classes reference.class && is_subtype classes reference.class class)

-- whether values are a receiver of a method, and an argument for each of its parameters
abbrev pub receive : List Class → Uuid → Declared → List Value → Bool
receive classes own m [] = false
receive classes own m (v ∷ values) = is_receiver classes own m.class v && fill classes m.method.types.parameters values

-- why a method with a receiver is not started with these values
abbrev pub receiver_refusal : List Class → Uuid → Declared → List Value → Option StartFault
receiver_refusal classes own m values =
    if not (takes_crossing classes m.method.types) then Some fault.BadSignature
    else (if not (is_static m.method) && receive classes own m values then None else Some fault.BadArgument)

-- what starting a method with a receiver gives, where memory does not run out
abbrev pub received : Links → Uuid → MethodId → List Value → Limits → Result Tasked StartFault
received links own id values limits =
    start_at (startable links id)
  where
    begin : Declared → Option StartFault → Result Tasked StartFault
    begin m (Some why) = Err why
    begin m None = Ok (record { program = links; own = own; state = opening_state own id m.code values limits })

    start_at : Option Declared → Result Tasked StartFault
    start_at None = Err fault.AbsentMethod
    start_at (Some m) = begin m (receiver_refusal links.classes own m values)

-- whether a task may start at a method, and it is static
abbrev pub is_static_at : Links → MethodId → Bool
is_static_at links id = option_map_or (λ (m : Declared). is_static m.method) (startable links id) false

-- what a task of a space begins as at a method, where memory does not run out
abbrev pub begun : Links → Uuid → MethodId → List Value → Limits → Result Tasked StartFault
begun links own id values limits =
    if is_static_at links id then started links own id values limits else received links own id values limits

-- why it does not begin at a method at which a task may start
abbrev pub begin_refusal : List Class → Uuid → Declared → List Value → Option StartFault
begin_refusal classes own m values =
    if is_static m.method then refusal classes m.method values else receiver_refusal classes own m values
