-- What a step of a typed machine leads to: it is not stuck, goes on typed, asks for what is of typed words, and ends only as the method that
-- was started may (JVMS 2.6.4, 2.6.5).
use Rattle.std.specs.Prelude.{◌≡◌, ℕ, Option, Some, None}
use Rattle.ver_frames.specs.declared.vtype.VType.{VType}
use Rattle.ver_frames.specs.declared.vtype.VType.TheVariants as vtype
use Rattle.vm_heap.specs.Tagged.{Tagged, Null, Local}
use Rattle.vm_act.specs.Next.{Next, On, Ends, Asks, Stuck}
use Rattle.vm_act.specs.Remote.{answered}
use Rattle.vm_act.specs.declared.asked.Asked.{Asked}
use Rattle.vm_act.specs.declared.asked.FieldValue.TheVariants as field
use Rattle.vm_act.specs.declared.asked.Reply.{Reply}
use Rattle.vm_act.specs.declared.machine.Machine.{Machine}
use Rattle.vm_act.specs.declared.ending.Ending.{Ending}
use Rattle.vm_act.specs.declared.ending.Ending.TheVariants as ending
use Rattle.vm_typing.specs.World.{World, IsKnown}
use Rattle.vm_typing.specs.Fits.{Held, Fits, There, held_by, no_marks}
use Rattle.vm_typing.specs.Asking.{AskedFits, CallCrosses, ReplyFits, ValueFits}
use Rattle.vm_typing.specs.Typed.{StandsBefore}

-- null, or the object or array at an address
abbrev pub reference_to : Option ℕ → Tagged
reference_to None = Null
reference_to (Some address) = Local address

-- A value that is returned is of the result type of the method's descriptor (JVMS 2.6.4), over what the task holds at the end; what is thrown is
-- of a class of the set.
abbrev pub IsGiven : World → Option VType → Held → Ending → Type 0
IsGiven w asked held ending.ReturnedNothing = asked ≡ None
IsGiven w asked held (ending.ReturnedInt n) = asked ≡ Some vtype.Int
IsGiven w asked held (ending.ReturnedReference address) = There (λ t. Fits w held no_marks t (reference_to address)) asked
IsGiven w asked held (ending.ReturnedRemote reference) = There (λ t. ValueFits w held.references t (field.Reference reference)) asked
IsGiven w asked held (ending.Threw thrown) = Unit {0}
IsGiven w asked held (ending.ThrewObject class) = IsKnown w class
IsGiven w asked held ending.Spent = Unit {0}

-- what the reply to what was asked leads to: nothing more is asked
abbrev pub Completes : World → Option VType → Held → (Machine → Type 0) → Next → Type 0
Completes w asked held P (On m) = P m
Completes w asked held P (Ends ending) = IsGiven w asked held ending
Completes w asked held P (Asks op m) = ⊥
Completes w asked held P Stuck = ⊥

-- A machine waits for a reply: what it asks is of typed words, the arguments of a call cross, it stands before the next instruction, and with
-- each reply that fits it goes on with the property, or ends its task with what is given
pub record IsWaiting (w : World) (asked : Option VType) (P : Machine → Type 0) (op : Asked) (m : Machine) : Type 0 where
  pub fits : AskedFits w m.references op
  pub call : CallCrosses w op m
  pub before : StandsBefore w asked m
  pub completes : (given : Reply) → ReplyFits w m.references op given → Completes w asked (held_by m) P (answered op given m)

-- a step is not stuck: what it goes on with has the property, what it asks for is waited for, and what it ends with is given
abbrev pub LeadsTo : World → Option VType → Held → (Machine → Type 0) → Next → Type 0
LeadsTo w asked held P (On m) = P m
LeadsTo w asked held P (Ends ending) = IsGiven w asked held ending
LeadsTo w asked held P (Asks op m) = IsWaiting w asked P op m
LeadsTo w asked held P Stuck = ⊥
