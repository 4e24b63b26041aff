-- A task of the rules of spaces stands where a machine stands: it does from there on what the machine does, with its fuel, and holds the
-- references by which the machine has come. (This project's own rule.)
use Rattle.std.specs.Prelude.{◌≡◌, ◌≤◌, ℕ, Bool, true, false, zero, suc, List, length, Some, codes}
use Rattle.cls_link.specs.Links.{Links}
use Rattle.cls_set.specs.Classes.{number_of}
use Rattle.cls_link.specs.declared.linked_code.LinkedInsn.TheVariants as insn
use Rattle.cls_resolve.specs.declared.named.MemberIndex.{MemberIndex}
use Rattle.space_ids.specs.declared.ids.ClassId.{ClassId}
use Rattle.space_ids.specs.declared.ids.Ref.{Ref}
use Rattle.space_ids.specs.declared.value.Value.{Value}
use Rattle.uuid.specs.declared.Uuid.{Uuid}
use Rattle.sp_rules.specs.Behaviours as rules
use Rattle.sp_rules.specs.Classes.{Limits, Setting}
use Rattle.sp_rules.specs.References.{is_reference_in}
use Rattle.sp_rules.specs.Tasks.{Task, Stand, Runs, AsksFor, HasEnded, lend_fuel, stand}
use Rattle.vm_code.specs.Calls.{id_of}
use Rattle.vm_code.specs.Classes.{is_remote_interface}
use Rattle.vm_act.specs.Next.{Next, On, Ends, Asks, Stuck}
use Rattle.vm_act.specs.declared.asked.Asked.{Asked}
use Rattle.vm_act.specs.declared.asked.Asked.TheVariants as asked
use Rattle.vm_heap.specs.References.{Table}
use Rattle.vm_laws.specs.Steps.{insn_at}
use Rattle.vm_step.specs.Steps as insns
use Rattle.vm_step.specs.Run.{State, Running, Waits, Over, Lost, IsNeverStuck}
use Rattle.vm_step.specs.Task.{fuel_left}
use Rattle.sp_behaviours.specs.Behaviours.{asking, behaviour, behaviour_of, op_at, told_end}

-- The classes of a setting play on a linked set: what tasks do is what its machines do, and the class that a task throws over its limits is
-- java/lang/OutOfMemoryError there.
pub record PlaysOn (links : Links) (g : Setting) : Type 0 where
  pub behaviour : (own : Uuid) (limits : Limits) (method : ℕ) (arguments : List Value) (fuel : ℕ) → g.classes.behaviour own limits method arguments fuel ≡ behaviour links own limits method arguments fuel
  pub out_of_memory : number_of links.classes (codes "java/lang/OutOfMemoryError") ≡ Some g.classes.out_of_memory

-- The references by which a machine has come are those that its task holds, within the limit of its space.
pub record HoldsAs (g : Setting) (held : List Ref) (table : Table) : Type 0 where
  pub rows : table.rows ≡ held
  pub own : table.own ≡ g.id
  pub limit : table.limit ≡ g.limits.references
  pub within : length held ≤ g.limits.references

-- The object of which a field is asked for is one to which a reference is held, and so is that of which a method is called.
abbrev pub HoldsAsked : List Ref → Asked → Type 0
HoldsAsked held (asked.Create class) = Unit {0}
HoldsAsked held (asked.Get object slot) = is_reference_in held object ≡ true
HoldsAsked held (asked.Put object slot value) = is_reference_in held object ≡ true
HoldsAsked held (asked.Call target method count) = is_reference_in held target ≡ true

-- A task that is over holds nothing on its machine.
abbrev pub HoldsIn : Setting → List Ref → State → Type 0
HoldsIn g held (Running m fuel) = HoldsAs g held m.references
HoldsIn g held (Waits op m fuel) = HoldsAs g held m.references × HoldsAsked held op
HoldsIn g held (Over end fuel) = Unit {0}
HoldsIn g held Lost = Unit {0}

-- An instruction of the set calls the method of this number through a remote interface.
pub record IsCalledRemotely (links : Links) (method : ℕ) : Type 0 where
  pub running : ℕ
  pub index : ℕ
  pub count : ℕ
  pub interface : ClassId
  pub member : MemberIndex
  pub at : insn_at links running index ≡ Some (insn.InvokeInterface count interface member)
  pub remote : is_remote_interface links.classes interface ≡ true
  pub names : method ≡ (id_of links.classes member).0

abbrev pub IsAskedRemotely : Links → Asked → Type 0
IsAskedRemotely links (asked.Create class) = Unit {0}
IsAskedRemotely links (asked.Get object slot) = Unit {0}
IsAskedRemotely links (asked.Put object slot value) = Unit {0}
IsAskedRemotely links (asked.Call target method count) = IsCalledRemotely links method

-- what a machine waits for, if it called, is the method of a remote interface (Java RMI specification, 2.4)
abbrev pub CallsRemotely : Links → State → Type 0
CallsRemotely links (Running m fuel) = Unit {0}
CallsRemotely links (Waits op m fuel) = IsAskedRemotely links op
CallsRemotely links (Over end fuel) = Unit {0}
CallsRemotely links Lost = Unit {0}

-- The task does what the machine does. Its tree is as deep as its fuel, or deeper: a call may give back less than the task had.
abbrev pub Does : Links → ℕ → Task → State → Type 0
Does links depth t (Running m fuel) = (fuel ≤ depth) × (t.behaviour ≡ behaviour_of links depth m)
Does links depth t (Waits op m fuel) = (fuel ≤ depth) × (t.behaviour ≡ asking links.classes (behaviour_of links depth) op m)
Does links depth t (Over end fuel) = stand t ≡ HasEnded (told_end links.classes end)
Does links depth t Lost = Unit {0}

-- The task follows a machine that is never stuck.
pub record Follows (links : Links) (g : Setting) (t : Task) (s : State) : Type 0 where
  pub depth : ℕ
  pub behaviour : Does links depth t s
  pub fuel : t.fuel ≡ fuel_left s
  pub held : HoldsIn g t.held s
  pub calls : CallsRemotely links s
  pub never_stuck : IsNeverStuck links s

-- A task that waits for the reply to a call has lent its fuel.
abbrev pub waiting : Asked → Task → Task
waiting (asked.Create class) t = t
waiting (asked.Get object slot) t = t
waiting (asked.Put object slot value) t = t
waiting (asked.Call target method count) t = lend_fuel t

-- ---- where a machine stands

abbrev pub stand_before : Links → Next → Stand
stand_before links (On m) = Runs
stand_before links (Ends ending) = Runs
stand_before links (Asks op m) = AsksFor (op_at links.classes op m)
stand_before links Stuck = Runs

-- before an instruction of its own, at one that asks, or at its end
abbrev pub stand_of : Links → State → Stand
stand_of links (Running m zero) = HasEnded rules.Spent
stand_of links (Running m (suc fuel)) = stand_before links (insns.step links m)
stand_of links (Waits op m fuel) = AsksFor (op_at links.classes op m)
stand_of links (Over end fuel) = HasEnded (told_end links.classes end)
stand_of links Lost = HasEnded rules.Spent

-- whether a machine in this state has ended its task, whatever fuel is left
abbrev pub is_over : State → Bool
is_over (Running m fuel) = false
is_over (Waits op m fuel) = false
is_over (Over end fuel) = true
is_over Lost = false
