-- The replies that the rules of spaces give to operations are ones that the machines of their tasks take (JVMS 6.5: new, getfield, putfield).
use Rattle.std.specs.Prelude.{◌≡◌, ℕ, true, List, Some}
use Rattle.cls_set.specs.declared.class.Class.{Class}
use Rattle.space_ids.specs.declared.ids.Ref.{Ref}
use Rattle.space_ids.specs.declared.value.Value.{Value}
use Rattle.sp_behaviours.specs.Behaviours.{op_of, reply_of, IsOfStore}
use Rattle.sp_behaviours.specs.Told.{AreTold, AreRemoteFields}
use Rattle.sp_rules.specs.Behaviours as rules
use Rattle.sp_rules.specs.Classes.{Setting}
use Rattle.sp_rules.specs.Events.{Event}
use Rattle.sp_rules.specs.Holders.{class_is}
use Rattle.sp_rules.specs.LivingTasks.{op_reply}
use Rattle.sp_rules.specs.Origins.{IsTaken}
use Rattle.sp_rules.specs.References.{is_reference_in}
use Rattle.sp_rules.specs.Space.{state_of}
use Rattle.sp_rules.specs.State.{State, Living, object_at, task_at}
use Rattle.vm_act.specs.declared.asked.Asked.{Asked}
use Rattle.vm_act.specs.declared.asked.Asked.TheVariants as asked
use Rattle.vm_act.specs.declared.asked.Reply.TheVariants as reply
use Rattle.vm_heap.specs.References.{Table}
use Rattle.vm_step.specs.Run.{IsAsked, IsReply}
use Rattle.vm_typing.specs.Fits.{There}

-- The object of which a field is asked for stands, and is of its reference's class.
abbrev pub AsksOfStanding : State → Asked → Type 0
AsksOfStanding s (asked.Create class) = Unit {0}
AsksOfStanding s (asked.Get object slot) = class_is object.class (object_at s object.id) ≡ true
AsksOfStanding s (asked.Put object slot value) = Unit {0}
AsksOfStanding s (asked.Call target method count) = Unit {0}

-- It does where the task holds that very reference, as one of the space.
abbrev pub HoldsObject : List Ref → Asked → Type 0
HoldsObject held (asked.Create class) = Unit {0}
HoldsObject held (asked.Get object slot) = is_reference_in held object ≡ true
HoldsObject held (asked.Put object slot value) = Unit {0}
HoldsObject held (asked.Call target method count) = Unit {0}

abbrev pub AskedObjectsStand : Type 0
AskedObjectsStand =
    (g : Setting) (h : List Event) (id : ℕ) (t : Living) (classes : List Class) (table : Table) (op : Asked) → IsTaken g h → task_at (state_of g h) id ≡ Some t
    → table.own ≡ g.id → IsAsked classes table op → HoldsObject t.task.held op → AsksOfStanding (state_of g h) op

-- What a machine with this table of references asks the store of a space, after a history that the space took, is of typed words. Its task is one of the
-- space, and the object of which it asks stands.
pub record IsAskedOf (g : Setting) (h : List Event) (classes : List Class) (table : Table) (op : Asked) : Type 0 where
  pub store : IsOfStore op
  pub taken : IsTaken g h
  pub own : table.own ≡ g.id
  pub fits : IsAsked classes table op
  pub stands : AsksOfStanding (state_of g h) op

-- A reply of the rules fits what was asked, as the reply that the machine is given: a value that is of the kind, or an exception.
abbrev pub FitsAsked : List Class → Table → Asked → rules.Reply → Type 0
FitsAsked classes table op (rules.Gives value) = There (IsReply classes table op) (reply_of op value)
FitsAsked classes table op (rules.GivesBack value fuel) = ⊥
FitsAsked classes table op (rules.Throws class) = IsReply classes table op (reply.Throws class)
FitsAsked classes table op rules.RunsOut = ⊥

abbrev pub RepliesFit : Type 0
RepliesFit =
    (g : Setting) (h : List Event) (classes : List Class) (table : Table) (op : Asked) (arguments : List Value) → AreTold classes g.classes → AreRemoteFields classes
    → IsAskedOf g h classes table op → FitsAsked classes table op (op_reply g (op_of arguments op) (state_of g h))
