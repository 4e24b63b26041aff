-- How spaces, roots and machines begin.
use Rattle.std.proofs.Common.{◌≡◌, inl, ℕ, ◌+◌, Bool, true, false, cond, List, [], ◌∷◌, Option, None, Some, refl, sym, ap, subst, ◌∙◌, length, map, arith}
use Rattle.std.specs.Prelude.{is_some, IsOk, codes, unwrap_or, option_map, ◌==◌, Result, Ok, Err}
use Rattle.std.proofs.lemmas.Bool.{eq-eqb, false≢true, true≢false}
use Rattle.cls_link.specs.Links.{AreLinks, Links}
use Rattle.cls_set.specs.Classes.{number_of}
use Rattle.space_ids.specs.declared.ids.ClassId.{ClassId}
use Rattle.space_ids.specs.declared.value.Value.{Value}
use Rattle.uuid.specs.declared.Uuid.{Uuid}
use Rattle.sp_behaviours.specs.Behaviours.{limits_of}
use Rattle.sp_behaviours.specs.Follows.{Follows, PlaysOn}
use Rattle.sp_behaviours.proofs.Starting.{starts-follow}
use Rattle.sp_behaviours.specs.Classes.{class_named, classes_of}
use Rattle.sp_behaviours.specs.Starts.{start_refusal_in}
use Rattle.sp_events.specs.Events.{event_of_root}
use Rattle.sp_events.specs.FaultNames.{start_refusal}
use Rattle.sp_events.specs.declared.event.Root.{Root}
use Rattle.sp_living.specs.Views.{recorded_in, seen_row}
use Rattle.sp_behaviours.specs.Told.{AreRemoteRules}
use Rattle.sp_rules.specs.Classes.{Classes, Setting}
use Rattle.sp_rules.specs.Events.{Event, Root as Roots}
use Rattle.sp_rules.specs.Refusals.{refusal}
use Rattle.sp_rules.specs.Space.{on, state_of}
use Rattle.sp_rules.specs.State.{State, Living, opening, task_at}
use Rattle.sp_rules.specs.Tasks.{Task, start}
use Rattle.sp_tasks.specs.Recorded.{Recorded}
use Rattle.sp_tasks.specs.Rows.{TaskRow, row_of}
use Rattle.sp_core.specs.Cores.{IsCore}
use Rattle.sp_core.specs.Roots.{IsTold}
use Rattle.sp_core.specs.declared.space_core.SpaceCore.{SpaceCore}
use Rattle.vm_step.specs.Begin.{begun}
use Rattle.vm_step.specs.Run.{IsNeverStuck}
use Rattle.vm_step.specs.Sound.{IsSoundSet}
use Rattle.vm_step.specs.Task.{Tasked}
use Rattle.vm_step.specs.declared.fault.StartFault.{StartFault}
use Rattle.vm_step.specs.declared.limits.Limits.{Limits}
use Rattle.sp_space.specs.Hands.{LivesAs}
use Rattle.sp_space.specs.Machines.{machine_at}
use Rattle.sp_machines.specs.Players.{IsLevel, IsPlayed, IsUntouched, Played, reached}
use Rattle.sp_machines.specs.Limits.{AreLimits}
use Rattle.sp_space.specs.Spaces.{IsFree, IsOf, IsSpace, Stands}
use Rattle.sp_space.specs.declared.machines.Machines.{Machines}
use Rattle.sp_space.specs.declared.parts.Parts.{Parts}
use Rattle.sp_space.proofs.EventLemmas.{KeepsLending, event-space, space-core}
use Rattle.sp_space.proofs.FreeLemmas.{still-free}
use Rattle.sp_machines.proofs.BeginLemmas.{no-machine, plays-on}
use Rattle.sp_space.proofs.StandLemmas.{machine-change}

-- ---- a new space

-- no task lives, so none is lent
no-rows : (es : List (ℕ × TaskRow)) → map seen_row es ≡ [] → (id : ℕ) → unwrap_or (option_map (λ (row : TaskRow). row.lent) (row_of id es)) false ≡ false
no-rows [] none id = refl
no-rows (e ∷ es) none id = absurd (cc)

pub of-setting : (g : Setting) (space : Parts) (memory : ClassId) → g.classes ≡ classes_of space.program.now → space.classes.now ≡ space.program.now → g.id ≡ space.id → AreLimits g space.limits
    → number_of space.program.now.classes (codes "java/lang/OutOfMemoryError") ≡ Some memory → AreLinks space.program.now → IsSoundSet space.program.now → AreRemoteRules space.program.now.classes → IsOf g space
of-setting g space memory classes same id limits known are sound rules = record {
  classes = classes ∙ ap classes_of (sym same);
  program = sym same;
  plays = plays-on g space.program.now memory classes known;
  set = record { classes = classes; are = are; sound = sound; fields = rules.fields; methods = rules.methods };
  id = sym id;
  limits = limits;
}

pub new-space : (g : Setting) (space : Parts) → IsOf g space → IsCore g opening space.core → ((id : ℕ) → machine_at id space.machines ≡ None) → IsSpace g opening space
unfolding state_of opening
new-space g space is core none = record {
  history = [];
  leaves = refl;
  stands = record {
    of = is;
    taken = tt;
    core = core;
    played = λ id. subst (λ (o : Option Played). IsPlayed space.program.now g None o) (sym (none id)) tt;
  };
  free = no-rows space.core.state.living.tasks.rows core.state.living.tasks.rows;
}

-- a setting of which a new space is
abbrev pub setting_of : Links → Uuid → List ℕ → Limits → ℕ → Setting
setting_of links id digest limits version =
    record { classes = classes_of links; id = id; digest = digest; version = version; limits = record { heap = limits.heap_words; stack = limits.stack_words; references = limits.references; fuel = limits.fuel } }

-- ---- roots

told : (g : Setting) (space : Parts) (root : Root) (arguments : List Value) → g.classes ≡ classes_of space.classes.now → space.program.now ≡ space.classes.now → root.arguments ≡ arguments
    → ((own : Uuid) → start_refusal_in space.program.now own root.method arguments ≡ option_map start_refusal root.refused) → IsTold g root
told g space root arguments classes same args refuses =
    (λ j. (classes j).start_refusal g.id root.method (args j)) ∙ ap (λ (l : Links). start_refusal_in l g.id root.method arguments) (sym same) ∙ refuses g.id

-- what a space makes a root of
pub record Tells (space : Parts) (root : Root) (args : List Value) : Type 0 where
  pub arguments : root.arguments ≡ args
  pub refused : (own : Uuid) → start_refusal_in space.program.now own root.method args ≡ option_map start_refusal root.refused

pub told-root : (g : Setting) (s : State) (space : Parts) (root : Root) (arguments : List Value) → IsSpace g s space → Tells space root arguments → IsTold g root
told-root g s space root arguments is tells = told g space root arguments is.stands.of.classes is.stands.of.program tells.arguments tells.refused

pub root-space : (space : Parts) (core : SpaceCore) (root : Root) (arguments : List Value) → Tells space root arguments
    → ((g : Setting) (s : State) (lent : List ℕ) → IsCore g s space.core → IsTold g root → refusal g lent s (event_of_root root) ≡ None)
    → ((g : Setting) (s : State) → IsCore g s space.core → IsCore g (on g (event_of_root root) s).0 core) → KeepsLending space.core core
    → (g : Setting) (s : State) → IsSpace g s space → IsSpace g (on g (Roots root.method arguments root.fuel) s).0 (record space { core = core })
root-space space core root arguments tells accepted state lent g s is =
    let core-is = space-core g s space is in
    subst (λ (args : List Value). IsSpace g (on g (Roots root.method args root.fuel) s).0 (record space { core = core })) tells.arguments
    (event-space g s (event_of_root root) space core is refl [] (accepted g s [] core-is (told-root g s space root arguments is tells)) (state g s core-is) (still-free space.core core is.free (lent g s core-is)))

-- ---- machines

pub untouched-at : (g : Setting) (h : List Event) (space : Parts) (id : ℕ) (t : Living) → Stands g h space → task_at (state_of g h) id ≡ Some t → is_some (machine_at id space.machines) ≡ false → IsUntouched space.program.now g t
untouched-at g h space id t is lives none =
    no-machine space.program.now g t (machine_at id space.machines) none (subst (λ (o : Option Living). IsPlayed space.program.now g o (machine_at id space.machines)) lives (is.played id))

-- its method begins
pub may-begin : (g : Setting) (h : List Event) (space : Parts) (id : ℕ) (past : Recorded) (limits : Limits) → LivesAs g h space id past → is_some (machine_at id space.machines) ≡ false
    → IsOk (begun space.program.now space.id (record { 0 = past.began.method }) past.began.arguments limits)
may-begin g h space id past limits l none =
    let untouched = untouched-at g h space id l.living l.stands l.lives none in
    subst (λ own. IsOk (begun space.program.now own (record { 0 = past.began.method }) past.began.arguments limits)) (sym l.stands.of.id)
    (subst (λ (r : Recorded). IsOk (begun space.program.now g.id (record { 0 = r.began.method }) r.began.arguments limits)) l.same (untouched.begins limits))

-- a task has got its machine
pub machine-made : (g : Setting) (h : List Event) (space : Parts) (machines : Machines) (id : ℕ) (t : Living) (p : Played) → Stands g h space → task_at (state_of g h) id ≡ Some t → IsLevel space.program.now g t p
    → ((other : ℕ) → machine_at other machines ≡ cond (id == other) (Some p) (machine_at other space.machines)) → Stands g h (record space { machines = machines })
machine-made g h space machines id t p is lives level comes =
    let here : machine_at id machines ≡ Some p = comes id ∙ ap (λ b. cond b (Some p) (machine_at id space.machines)) (eq-eqb id id refl) in
    machine-change g h space machines id is
    (subst (IsPlayed space.program.now g (task_at (state_of g h) id)) (sym here) (subst (λ (o : Option Living). IsPlayed space.program.now g o (Some p)) (sym lives) (inl level)))
    (λ other apart. comes other ∙ ap (λ b. cond b (Some p) (machine_at other space.machines)) apart)
