-- Runs of typed machines.
use Rattle.std.proofs.Common.{◌≡◌, ℕ, zero, suc, List, [], ◌∷◌, refl, subst, Option}
use Rattle.ver_frames.specs.declared.vtype.VType.{VType}
use Rattle.vm_act.specs.Next.{Next, On, Ends, Asks, Stuck}
use Rattle.vm_act.specs.Remote.{answered}
use Rattle.vm_act.specs.declared.asked.Asked.{Asked}
use Rattle.vm_act.specs.declared.machine.Machine.{Machine}
use Rattle.vm_act.specs.declared.ending.Ending.{Ending}
use Rattle.vm_typing.specs.World.{World}
use Rattle.vm_typing.specs.Fits.{AllFit, held_by, held_in, no_marks, no_site}
use Rattle.vm_typing.specs.Typed.{IsTyped, marks_of}
use Rattle.vm_typing.specs.Owed.{Owed}
use Rattle.vm_typing.specs.Leads.{Completes, LeadsTo}
use Rattle.vm_typing.specs.Runs.{Move, Steps, Replied, steps, moved, played, MoveFits, MovesFit, KeepsTyped, IsSound, StartsTyped, RunsSound, PlaysSound}
use Rattle.vm_typing.proofs.Turns.{all_plain_fit}
use Rattle.vm_typing.proofs.Calls.{start-typed, parameters_normal}

module _ (w : World) (owed : Owed w) where
  pub starts_typed : StartsTyped w
  starts_typed callee values lowest free heap references agrees fit fits normal =
      let plainly = parameters_normal (w.method callee.method) normal in
      let given : AllFit w (held_in heap references) no_marks (w.method callee.method).arguments values =
      subst (λ ts. AllFit w (held_in heap references) no_marks ts values) plainly fit in
      start-typed w owed (w.method callee.method).result callee values lowest free heap references agrees refl
      (rw plainly (all_plain_fit w (held_in heap references) no_marks (marks_of w callee.method (λ o. no_site) no_site) (w.method callee.method).arguments values
      (owed.methods callee.method agrees.known).plain given)) fits

over_stays : (step : Machine → Next) (n : ℕ) (ending : Ending) → steps step n (Ends ending) ≡ Ends ending
unfolding steps
over_stays step zero ending = refl
over_stays step (suc n) ending = over_stays step n ending

waits_on : (step : Machine → Next) (n : ℕ) (op : Asked) (m : Machine) → steps step n (Asks op m) ≡ Asks op m
unfolding steps
waits_on step zero op m = refl
waits_on step (suc n) op m = waits_on step n op m

module _ (w : World) (asked : Option VType) (step : Machine → Next) (keeps : KeepsTyped w asked step) where
  abbrev Typed : Machine → Type 0
  Typed = IsTyped w asked

  one_step : (m : Machine) (next : Next) → LeadsTo w asked (held_by m) Typed next → IsSound w asked next
  one_step m (On m1) leads = leads
  one_step m (Ends ending) leads = (held_by m, leads)
  one_step m (Asks op m1) leads = leads
  one_step m Stuck leads = absurd leads

  -- some steps more
  further : (n : ℕ) (next : Next) → IsSound w asked next → IsSound w asked (steps step n next)
  unfolding steps
  further zero next sound = sound
  further (suc n) (On m) sound = further n (step m) (one_step m (step m) (keeps m sound))
  further (suc n) (Ends ending) sound = rw (over_stays step n ending) sound
  further (suc n) (Asks op m) sound = rw (waits_on step n op m) sound
  further (suc n) Stuck sound = absurd sound

  -- the reply that is waited for
  completed : (m : Machine) (next : Next) → Completes w asked (held_by m) Typed next → IsSound w asked next
  completed m (On m1) done = done
  completed m (Ends ending) done = (held_by m, done)
  completed m (Asks op m1) done = absurd done
  completed m Stuck done = absurd done

  one_move : (move : Move) (next : Next) → IsSound w asked next → MoveFits w move next → IsSound w asked (moved step move next)
  one_move (Steps n) next sound fits = further n next sound
  one_move (Replied given) (On m) sound fits = absurd fits
  one_move (Replied given) (Ends ending) sound fits = absurd fits
  one_move (Replied given) (Asks op m) sound fits = completed m (answered op given m) (sound.completes given fits)
  one_move (Replied given) Stuck sound fits = absurd fits

  plays : (moves : List Move) (next : Next) → IsSound w asked next → MovesFit w step moves next → IsSound w asked (played step moves next)
  unfolding played MovesFit
  plays [] next sound fit = sound
  plays (move ∷ moves) next sound fit = plays moves (moved step move next) (one_move move next sound fit.0) fit.1

pub runs_sound : (w : World) → RunsSound w
runs_sound w asked step keeps m typed n = further w asked step keeps n (On m) typed

pub plays_sound : (w : World) → PlaysSound w
plays_sound w asked step keeps m typed moves fit = plays w asked step keeps moves (On m) typed fit
