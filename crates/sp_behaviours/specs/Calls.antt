-- The replies of the rules to what machines ask are ones that they take. What they call are methods of remote interfaces, which take and give what crosses (Java RMI specification, 2.4; that it does is a rule of this project).
use Rattle.std.specs.Prelude.{◌≡◌, ℕ, true, List, Some}
use Rattle.cf_reader.specs.declared.class_file.Method.{Method}
use Rattle.cls_link.specs.Links.{Links, AreLinks, method_at}
use Rattle.cls_set.specs.declared.class.Class.{Class}
use Rattle.sp_behaviours.specs.Behaviours.{op_at, reply_to, IsOfStore}
use Rattle.sp_behaviours.specs.Follows.{Follows, IsCalledRemotely}
use Rattle.sp_behaviours.specs.Classes.{classes_of}
use Rattle.sp_laws.specs.Calls.{FitsCall, IsAtCall}
use Rattle.sp_rules.specs.Behaviours as rules
use Rattle.sp_rules.specs.Classes.{Kind, Setting}
use Rattle.sp_rules.specs.Events.{Event}
use Rattle.sp_rules.specs.LivingTasks.{op_reply}
use Rattle.sp_rules.specs.Origins.{IsTaken}
use Rattle.sp_rules.specs.Space.{state_of}
use Rattle.sp_rules.specs.State.{Living, task_at}
use Rattle.sp_rules.specs.Tasks.{Task}
use Rattle.vm_act.specs.declared.asked.Asked.{Asked}
use Rattle.vm_act.specs.declared.asked.Reply.{Reply}
use Rattle.vm_act.specs.declared.machine.Machine.{Machine}
use Rattle.vm_step.specs.Run.{Waits, IsDue}
use Rattle.vm_step.specs.Sound.{IsSoundSet}
use Rattle.vm_step.specs.Start.{takes_crossing}
use Rattle.sp_behaviours.specs.Told.{AreRemoteFields, AreRemoteMethods}

-- ---- methods of remote interfaces

-- all that the method of this number takes and gives crosses
pub record IsCrossing (classes : List Class) (number : ℕ) : Type 0 where
  pub method : Method
  pub named : method_at classes (record { 0 = number }) ≡ Some method
  pub crosses : takes_crossing classes method.types ≡ true

-- So it is of each method that is called through a remote interface.
abbrev pub AreCrossing : Links → Type 0
AreCrossing links = (number : ℕ) → IsCalledRemotely links number → IsCrossing links.classes number

-- This holds in each linked set where so it is of remote interfaces.
abbrev pub CalledMethodsCross : Type 0
CalledMethodsCross = (links : Links) → AreLinks links → AreRemoteMethods links.classes → AreCrossing links

-- ---- replies

-- A setting is of a linked and checked set, whose remote classes and interfaces keep the rules on them.
pub record IsSettingOf (links : Links) (g : Setting) : Type 0 where
  pub classes : g.classes ≡ classes_of links
  pub are : AreLinks links
  pub sound : IsSoundSet links
  pub fields : AreRemoteFields links.classes
  pub methods : AreRemoteMethods links.classes

-- A reply is one to what a machine asks that waits with this fuel, and is due.
pub record IsTakenAs (classes : List Class) (op : Asked) (m : Machine) (fuel : ℕ) (r : rules.Reply) : Type 0 where
  pub given : Reply
  pub told : reply_to op r ≡ Some given
  pub due : IsDue classes given (Waits op m fuel)

-- So is a reply that fits the call at which a task stands that follows the machine.
abbrev pub CallRepliesAreTaken : Type 0
CallRepliesAreTaken =
    (links : Links) (g : Setting) (t : Task) (op : Asked) (m : Machine) (fuel lent : ℕ) (kind : Kind) (r : rules.Reply) → IsSettingOf links g
    → Follows links g t (Waits op m fuel) → IsAtCall g t lent kind → FitsCall g lent kind r → IsTakenAs links.classes op m fuel r

-- So is the reply of the store to what a living task asks, after every history that its space took.
abbrev pub StoreRepliesAreTaken : Type 0
StoreRepliesAreTaken =
    (links : Links) (g : Setting) (h : List Event) (id : ℕ) (t : Living) (op : Asked) (m : Machine) (fuel : ℕ) → IsSettingOf links g → IsTaken g h
    → task_at (state_of g h) id ≡ Some t → Follows links g t.task (Waits op m fuel) → IsOfStore op
    → IsTakenAs links.classes op m fuel (op_reply g (op_at links.classes op m) (state_of g h))
