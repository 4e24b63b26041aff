-- What a function of vm_act asks, and what it makes of a machine, if its step leads to typed machines.
use Rattle.std.proofs.Common.{◌≡◌, ℕ, ◌<◌, List, [], ◌∷◌, refl, sym, subst, Option, Some, None, inr}
use Rattle.cls_set.specs.declared.class.Class.{Class}
use Rattle.cls_set.specs.Subtypes.IsSubclass.{itself}
use Rattle.ver_frames.specs.Frames.{Frame}
use Rattle.ver_frames.specs.Assignable.{IsAssignable, AreAssignable, IsFrameAssignable}
use Rattle.ver_frames.specs.declared.vtype.VType.{VType}
use Rattle.ver_frames.specs.declared.vtype.VType.TheVariants as vtype
use Rattle.vm_act.specs.Next.{Next, On, Ends, Asks, Stuck, NotStuck, GoesOn, Does}
use Rattle.vm_act.specs.Steps.{on_some}
use Rattle.vm_act.specs.Objects.{referent_at, on_referent}
use Rattle.vm_act.specs.declared.machine.Machine.{Machine}
use Rattle.vm_act.specs.declared.objects.Referent.{Referent}
use Rattle.vm_act.specs.declared.asked.Asked.{Asked}
use Rattle.vm_act.specs.declared.ending.Ending.{Ending}
use Rattle.vm_act.specs.declared.ending.Flow.{Flow}
use Rattle.vm_act.specs.declared.ending.Flow.TheVariants as flow
use Rattle.vm_typing.specs.World.{World, Enters}
use Rattle.vm_typing.specs.Fits.{Held}
use Rattle.vm_typing.specs.Leads.{LeadsTo, IsGiven}

-- each type may stand for itself, and each frame
IsAssignable-itself : (classes : List Class) (t : VType) → IsAssignable classes t t
unfolding IsAssignable
IsAssignable-itself classes vtype.Top = tt
IsAssignable-itself classes vtype.Int = tt
IsAssignable-itself classes vtype.Null = tt
IsAssignable-itself classes (vtype.Object c) = inr (itself c)
IsAssignable-itself classes vtype.IntArray = tt
IsAssignable-itself classes (vtype.Uninitialized o) = refl
IsAssignable-itself classes vtype.UninitializedThis = tt

AreAssignable-itself : (classes : List Class) (types : List VType) → AreAssignable classes types types
AreAssignable-itself classes [] = tt
AreAssignable-itself classes (t ∷ types) = (IsAssignable-itself classes t, AreAssignable-itself classes types)

pub IsFrameAssignable-itself : (classes : List Class) (f : Frame) → IsFrameAssignable classes f f
IsFrameAssignable-itself classes f = record { locals = AreAssignable-itself classes f.locals; stack = AreAssignable-itself classes f.stack; flag = λ is. is }

-- a frame comes in if it is the frame that stands there
pub same_enters : (w : World) (number index : ℕ) (f : Frame) → index < (w.method number).count → (w.method number).frames index ≡ f → Enters w number index f
same_enters w number index f inside is =
    record { inside = inside; to = subst (λ (g : Frame). IsFrameAssignable w.classes f g) (sym is) (IsFrameAssignable-itself w.classes f) }

module _ (w : World) (asked : Option VType) (held : Held) (P : Machine → Type 0) where
  -- what a function of vm_act asks
  pub not_stuck : (next : Next) → LeadsTo w asked held P next → NotStuck next
  not_stuck (On m) leads = tt
  not_stuck (Ends ending) leads = tt
  not_stuck (Asks op m) leads = tt
  not_stuck Stuck leads = leads

  -- what it makes of a machine with which the task goes on
  pub goes_on : (next : Next) (did : Flow) (after : Machine) → LeadsTo w asked held P next → Does next did after → GoesOn did → P after
  goes_on (On m) did after leads does goes = subst P (sym does.1) leads
  goes_on (Ends ending) did after leads does goes = absurd (subst GoesOn does goes)
  goes_on (Asks op m) did after leads does goes = absurd (subst GoesOn does.0 goes)
  goes_on Stuck did after leads does goes = absurd leads

  -- and what a task ends with
  pub ends : (next : Next) (ending : Ending) (after : Machine) → LeadsTo w asked held P next → Does next (flow.Ends ending) after → IsGiven w asked held ending
  ends (On m) ending after leads does = absurd does.0
  ends (Ends other) ending after leads does = subst (IsGiven w asked held) (same_ending other ending does) leads
    where
      same_ending : (a b : Ending) → Path Flow (flow.Ends b) (flow.Ends a) → a ≡ b
      same_ending a b e = cc
  ends (Asks op m) ending after leads does = absurd (no_ending op ending does.0)
    where
      no_ending : (op : Asked) (ending : Ending) → Path Flow (flow.Ends ending) (flow.Asks op) → ⊥
      no_ending op ending e = cc
  ends Stuck ending after leads does = absurd leads

  -- there is what an instruction asks of an object
  pub referent_is : (depth : ℕ) (next : Referent → Machine → Next) (m : Machine) → LeadsTo w asked held P (on_referent depth next m)
      → (r : Referent) × ((referent_at depth m ≡ Some r) × LeadsTo w asked held P (next r m))
  referent_is depth next m leads = by (referent_at depth m) refl leads
    where
      by : (o : Option Referent) → referent_at depth m ≡ o → LeadsTo w asked held P (on_some (λ r. next r m) o)
          → (r : Referent) × ((referent_at depth m ≡ Some r) × LeadsTo w asked held P (next r m))
      by None is leads = absurd leads
      by (Some r) is leads = (r, (is, leads))
