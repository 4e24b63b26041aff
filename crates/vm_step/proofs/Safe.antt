-- The task of a typed machine is never stuck.
use Rattle.std.proofs.Common.{◌≡◌, ℕ, zero, suc, ◌+◌, ◌<◌, Bool, true, false, List, [], ◌∷◌, length, refl, ap, subst, ◌∙◌, Option, Some, None}
use Rattle.std.specs.Prelude.{option_map}
use Rattle.std.specs.Option.{option_map_or}
use Rattle.cls_link.specs.Links.{Links}
use Rattle.ver_frames.specs.Frames as types
use Rattle.ver_frames.specs.Method.{Subject}
use Rattle.ver_frames.specs.declared.vtype.VType.{VType}
use Rattle.ver_frames.specs.declared.vtype.VType.TheVariants as vtype
use Rattle.vm_heap.specs.Heap.{Cell, Object, Ints, cell_at}
use Rattle.vm_act.specs.Next.{Next, On, Ends, Asks, Stuck}
use Rattle.vm_act.specs.Remote.{answered}
use Rattle.vm_act.specs.declared.asked.Reply.{Reply}
use Rattle.vm_act.specs.declared.ending.Ending.{Ending}
use Rattle.vm_act.specs.declared.ending.Ending.TheVariants as ending
use Rattle.vm_act.specs.declared.machine.Machine.{Machine}
use Rattle.vm_typing.specs.Fits.{Held, OfHeap, There, Pointee, held_by, no_method}
use Rattle.vm_typing.specs.Leads.{Completes, IsGiven, IsWaiting, LeadsTo}
use Rattle.vm_typing.specs.Runs.{KeepsTyped, Move, Replied, Steps}
use Rattle.vm_typing.specs.Typed.{IsTyped}
use Rattle.vm_typing.specs.World.{World, IsPlain}
use Rattle.vm_laws.specs.Worlds.{method_type, subject_at, world_of}
use Rattle.vm_laws.proofs.Entries.{is_entry}
use Rattle.vm_laws.specs.Steps as rows
use Rattle.vm_step.specs.Ends.{End, IsEndIn, end_of, returned_cell}
use Rattle.vm_step.specs.Steps.{crossing}
use Rattle.vm_replies.specs.Results.{end_for_caller, gives_ints}
use Rattle.vm_step.specs.Run.{State, Running, Waits, Over, Lost, over, after, answer, fuel_after, code_of, played, step, run, AreDue, IsDue, IsNotLost, IsNeverStuck}

cell-there : (links : Links) (P : Pointee → Type 0) (o : Option Cell) (fuel : ℕ) → There P (option_map (λ cell. OfHeap cell) o)
    → IsNotLost links (over (option_map returned_cell o) fuel)
cell-there links P None fuel there = absurd there
cell-there links P (Some (Object class fields)) fuel there = tt
cell-there links P (Some (Ints elements)) fuel there = tt

-- a result of a type that fields and results have is there
given-there : (w : World) (links : Links) (held : Held) (asked : Option VType) (address : ℕ) (fuel : ℕ) → ((t : VType) → asked ≡ Some t → IsPlain t)
    → IsGiven w asked held (ending.ReturnedReference (Some address)) → IsNotLost links (over (option_map returned_cell (cell_at held.cells address)) fuel)
given-there w links held None address fuel plain given = absurd given
given-there w links held (Some vtype.Top) address fuel plain given = absurd (plain vtype.Top refl)
given-there w links held (Some vtype.Int) address fuel plain given = absurd given
given-there w links held (Some vtype.Null) address fuel plain given = absurd given
given-there w links held (Some (vtype.Object class)) address fuel plain given = cell-there links _ (cell_at held.cells address) fuel given
given-there w links held (Some vtype.IntArray) address fuel plain given = cell-there links _ (cell_at held.cells address) fuel given
given-there w links held (Some (vtype.Uninitialized offset)) address fuel plain given = absurd (plain (vtype.Uninitialized offset) refl)
given-there w links held (Some vtype.UninitializedThis) address fuel plain given = absurd (plain vtype.UninitializedThis refl)

-- the instructions of a method with code are as many as its type says
pub counted : (links : Links) (frames : ℕ → ℕ → types.Frame) (number : ℕ) → (world_of links frames).has_code number ≡ true
    → ((world_of links frames).method number).count ≡ length (code_of links number)
unfolding code_of
counted links frames number known = by (subject_at links number) refl known
  where
    by : (o : Option Subject) → subject_at links number ≡ o → option_map_or (λ (s : Subject). true) o false ≡ true
        → ((world_of links frames).method number).count ≡ length (code_of links number)
    by None e has = absurd (cc)
    by (Some s) e has =
        let entry = is_entry links number s e in
        ap (λ (o : Option Subject). (option_map_or (λ (s : Subject). method_type s (frames number)) o no_method).count) e ∙ rw (entry.at, entry.code) refl

module _ (links : Links) (frames : ℕ → ℕ → types.Frame) (asked : Option VType) (plain : (t : VType) → asked ≡ Some t → IsPlain t)
    (keeps : KeepsTyped (world_of links frames) asked (rows.step links)) where
  abbrev world : World
  world = world_of links frames

  abbrev Typed : Machine → Type 0
  Typed = IsTyped world asked

  -- a state of a typed machine
  abbrev pub IsSound : State → Type 0
  IsSound (Running m fuel) = Typed m
  IsSound (Waits op m fuel) = IsWaiting world asked Typed op m
  IsSound (Over end fuel) = IsEndIn links.classes end
  IsSound Lost = ⊥

  over-sound : (o : Option End) (fuel : ℕ) → IsNotLost links (over o fuel) → IsSound (over o fuel)
  over-sound None fuel kept = kept
  over-sound (Some end) fuel kept = kept

  ended : (held : Held) (e : Ending) (fuel : ℕ) → IsGiven world asked held e → IsSound (over (end_of held.cells e) fuel)
  ended held ending.ReturnedNothing fuel given = tt
  ended held (ending.ReturnedInt n) fuel given = tt
  ended held (ending.ReturnedReference None) fuel given = tt
  ended held (ending.ReturnedReference (Some address)) fuel given =
      over-sound (option_map returned_cell (cell_at held.cells address)) fuel (given-there world links held asked address fuel plain given)
  ended held (ending.ReturnedRemote reference) fuel given = tt
  ended held (ending.Threw thrown) fuel given = tt
  ended held (ending.ThrewObject class) fuel given = given
  ended held ending.Spent fuel given = tt

  after-sound : (m : Machine) (next : Next) (fuel : ℕ) → LeadsTo world asked (held_by m) Typed next → IsSound (after m.heap.cells next fuel)
  after-sound m (On m1) fuel leads = leads
  after-sound m (Ends e) fuel leads = ended (held_by m) e fuel leads
  after-sound m (Asks op m1) fuel leads = leads
  after-sound m Stuck fuel leads = leads

  completed-sound : (m : Machine) (next : Next) (fuel : ℕ) → Completes world asked (held_by m) Typed next → IsSound (after m.heap.cells next fuel)
  completed-sound m (On m1) fuel done = done
  completed-sound m (Ends e) fuel done = ended (held_by m) e fuel done
  completed-sound m (Asks op m1) fuel done = absurd done
  completed-sound m Stuck fuel done = done

  -- what crosses of a result is given, as the result is
  end-given : (held : Held) (ints : Bool) (e : Ending) → IsGiven world asked held e → IsGiven world asked held (end_for_caller ints e)
  end-given held ints ending.ReturnedNothing given = given
  end-given held ints (ending.ReturnedInt n) given = given
  end-given held ints (ending.ReturnedReference None) given = given
  end-given held true (ending.ReturnedReference (Some address)) given = given
  end-given held false (ending.ReturnedReference (Some address)) given = tt
  end-given held ints (ending.ReturnedRemote reference) given = given
  end-given held ints (ending.Threw thrown) given = tt
  end-given held ints (ending.ThrewObject class) given = given
  end-given held ints ending.Spent given = tt

  crossing-leads : (held : Held) (ints : Bool) (n : Next) → LeadsTo world asked held Typed n → LeadsTo world asked held Typed (crossing ints n)
  crossing-leads held ints (On m) leads = leads
  crossing-leads held ints (Ends e) leads = end-given held ints e leads
  crossing-leads held ints (Asks op m) leads = leads
  crossing-leads held ints Stuck leads = leads

  -- each step leads to such a state
  pub step-sound : (s : State) → IsSound s → IsSound (step links s)
  unfolding step
  step-sound (Running m zero) sound = tt
  step-sound (Running m (suc fuel)) sound =
      let ints = gives_ints links.classes m.stack.frame.method in
      after-sound m (crossing ints (rows.step links m)) fuel (crossing-leads (held_by m) ints (rows.step links m) (keeps m sound))
  step-sound (Waits op m fuel) sound = sound
  step-sound (Over end fuel) sound = sound
  step-sound Lost sound = sound

  pub run-sound : (k : ℕ) (s : State) → IsSound s → IsSound (run links k s)
  unfolding run
  run-sound zero s sound = sound
  run-sound (suc k) s sound = run-sound k (step links s) (step-sound s sound)

  -- and each reply that is due
  pub answer-sound : (given : Reply) (s : State) → IsSound s → IsDue links.classes given s → IsSound (answer given s)
  unfolding answer
  answer-sound given (Running m fuel) sound due = absurd due
  answer-sound given (Waits op m fuel) sound due = completed-sound m (answered op given m) (fuel_after op given fuel) (sound.completes given due.0)
  answer-sound given (Over end fuel) sound due = absurd due
  answer-sound given Lost sound due = absurd due

  pub plays-sound : (moves : List Move) (s : State) → IsSound s → AreDue links moves s → IsSound (played links moves s)
  unfolding played AreDue
  plays-sound [] s sound due = sound
  plays-sound (Steps k ∷ moves) s sound due = plays-sound moves (run links k s) (run-sound k s sound) due
  plays-sound (Replied given ∷ moves) s sound due = plays-sound moves (answer given s) (answer-sound given s sound due.0) due.1

  not-lost : (s : State) → IsSound s → IsNotLost links s
  not-lost (Running m fuel) sound = tt
  not-lost (Waits op m fuel) sound =
      (sound.fits, subst (λ (n : ℕ). m.stack.frame.index + 1 < n) (counted links frames m.stack.frame.method sound.before.known) sound.before.enters.inside, sound.call)
  not-lost (Over end fuel) sound = sound
  not-lost Lost sound = sound

  pub sound-IsNeverStuck : (s : State) → IsSound s → IsNeverStuck links s
  sound-IsNeverStuck s sound = record { always = λ moves due. not-lost (played links moves s) (plays-sound moves s sound due) }
