-- What events make of the tasks of a space and their machines.
use Rattle.std.proofs.Common.{◌≡◌, ◌⊎◌, inl, inr, ℕ, ◌+◌, Bool, true, false, cond, List, [], ◌∷◌, Option, None, Some, refl, sym, ap, subst, ◌∙◌, arith}
use Rattle.std.specs.Prelude.{is_some, length}
use Rattle.std.proofs.lemmas.Bool.{false≢true, true≢false}
use Rattle.cls_link.specs.Links.{Links}
use Rattle.sp_behaviours.specs.Classes.{classes_of}
use Rattle.sp_events.specs.Events.{event_of, event_of_root}
use Rattle.sp_events.specs.declared.event.Event.{Event as Told}
use Rattle.sp_events.specs.declared.event.Event.TheVariants as told
use Rattle.sp_events.specs.declared.event.Root.{Root}
use Rattle.sp_laws.specs.Changes.{GoesOn, HasBegun, IsAnswered, IsOfSpace}
use Rattle.sp_laws.specs.Calls.{IsAtCall}
use Rattle.sp_laws.proofs.FittedLemmas.{tasks_go_on}
use Rattle.sp_behaviours.specs.Calls.{IsSettingOf}
use Rattle.sp_behaviours.specs.ReplyStarts.{Begins}
use Rattle.sp_behaviours.proofs.StartLemmas.{tasks_begin}
use Rattle.sp_behaviours.proofs.TakenLemmas.{call_replies_are_taken}
use Rattle.sp_rules.specs.Classes.{Setting}
use Rattle.sp_rules.specs.Events.{Event}
use Rattle.sp_rules.specs.LivingTasks.{after_reply}
use Rattle.sp_rules.specs.Refusals.{refusal}
use Rattle.sp_rules.specs.Space.{on, state_of}
use Rattle.sp_rules.specs.State.{State, Living, task_at}
use Rattle.sp_rules.specs.Tasks.{Task}
use Rattle.sp_core.specs.Cores.{IsCore, is_lent}
use Rattle.sp_core.specs.declared.space_core.SpaceCore.{SpaceCore}
use Rattle.sp_space.specs.Machines.{machine_at}
use Rattle.sp_machines.specs.Players.{IsBehind, IsLevel, IsPlayed, IsPlayedBy, IsUntouched, IsWaiting, Played}
use Rattle.sp_space.specs.Spaces.{IsFree, IsSpace, Stands}
use Rattle.sp_space.specs.declared.parts.Parts.{Parts}
use Rattle.sp_space.proofs.FreeLemmas.{still-free}
use Rattle.sp_machines.proofs.GoingLemmas.{goes-on, outside}

pub after-event : (g : Setting) (h : List Event) (e : Event) (space : Parts) (core : SpaceCore) → Stands g h space → IsOfSpace e → (lent : List ℕ) → refusal g lent (state_of g h) e ≡ None
    → IsCore g (state_of g (e ∷ h)) core → Stands g (e ∷ h) (record space { core = core })
after-event g h e space core is of lent unrefused core-is = record {
  of = record { classes = is.of.classes; program = is.of.program; plays = is.of.plays; set = is.of.set; id = is.of.id; limits = is.of.limits };
  taken = ((lent, unrefused), is.taken);
  core = core-is;
  played = λ id. goes-on space.program.now g (state_of g h) e (task_at (state_of g h) id) (task_at (state_of g (e ∷ h)) id) (machine_at id space.machines) is.of.set
      (λ t begun. tasks_begin space.program.now g h e t is.of.set ((lent, unrefused), is.taken) begun) (tasks_go_on g h e id of) (is.played id);
}

-- the same of a space that is in a state
pub event-space : (g : Setting) (s : State) (e : Event) (space : Parts) (core : SpaceCore) → IsSpace g s space → IsOfSpace e → (lent : List ℕ) → refusal g lent s e ≡ None
    → IsCore g (on g e s).0 core → IsFree core → IsSpace g (on g e s).0 (record space { core = core })
unfolding state_of
event-space g s e space core is of lent unrefused core-is free = record {
  history = e ∷ is.history;
  leaves = ap (λ (s : State). (on g e s).0) is.leaves;
  stands = after-event g is.history e space core is.stands of lent (subst (λ (s : State). refusal g lent s e ≡ None) is.leaves unrefused)
      (subst (λ (s : State). IsCore g (on g e s).0 core) is.leaves core-is);
  free = free;
}

pub space-core : (g : Setting) (s : State) (space : Parts) → IsSpace g s space → IsCore g s space.core
space-core g s space is = subst (λ (s : State). IsCore g s space.core) (sym is.leaves) is.stands.core

-- A call that leaves the core in each state in which it was leaves the space in its state.
pub same-space : (g : Setting) (s : State) (space : Parts) (core : SpaceCore) → IsSpace g s space → ((t : State) → IsCore g t space.core → IsCore g t core) → IsFree core → IsSpace g s (record space { core = core })
same-space g s space core is keeps free = record {
  history = is.history;
  leaves = is.leaves;
  stands = record {
    of = record { classes = is.stands.of.classes; program = is.stands.of.program; plays = is.stands.of.plays; set = is.stands.of.set; id = is.stands.of.id; limits = is.stands.of.limits };
    taken = is.stands.taken;
    core = keeps (state_of g is.history) is.stands.core;
    played = is.stands.played;
  };
  free = free;
}

-- ---- events that the core was given

abbrev pub KeepsLending : SpaceCore → SpaceCore → Type 0
KeepsLending old new = (g : Setting) (s : State) → IsCore g s old → (id : ℕ) → is_lent new id ≡ is_lent old id

pub on-space : (space : Parts) (core : SpaceCore) (e : Told) → ((g : Setting) (s : State) (lent : List ℕ) → IsCore g s space.core → refusal g lent s (event_of e) ≡ None)
    → ((g : Setting) (s : State) → IsCore g s space.core → g.classes ≡ classes_of space.classes.now → IsCore g (on g (event_of e) s).0 core) → KeepsLending space.core core
    → (g : Setting) (s : State) → IsSpace g s space → IsSpace g (on g (event_of e) s).0 (record space { core = core })
on-space space core e accepted state lent g s is =
    let core-is = space-core g s space is in
    event-space g s (event_of e) space core is (outside e) [] (accepted g s [] core-is) (state g s core-is is.stands.of.classes) (still-free space.core core is.free (lent g s core-is))

pub kept-space : (space : Parts) (core : SpaceCore) → ((g : Setting) (s : State) → IsCore g s space.core → IsCore g s core) → KeepsLending space.core core
    → (g : Setting) (s : State) → IsSpace g s space → IsSpace g s (record space { core = core })
kept-space space core keeps lent g s is = same-space g s space core is (keeps g) (still-free space.core core is.free (lent g s (space-core g s space is)))
