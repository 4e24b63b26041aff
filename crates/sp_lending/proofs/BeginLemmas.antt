-- How lending spaces and roots begin.
use Rattle.std.proofs.Common.{◌≡◌, ℕ, false, List, [], ◌∷◌, Option, None, Some, refl, sym, subst, ◌∙◌, map}
use Rattle.std.specs.Prelude.{codes, unwrap_or, option_map}
use Rattle.std.proofs.lemmas.Bool.{false≢true}
use Rattle.cls_link.specs.Links.{AreLinks}
use Rattle.cls_set.specs.Classes.{number_of}
use Rattle.space_ids.specs.declared.ids.ClassId.{ClassId}
use Rattle.space_ids.specs.declared.value.Value.{Value}
use Rattle.uuid.specs.declared.Uuid.{Uuid}
use Rattle.sp_behaviours.specs.Classes.{classes_of}
use Rattle.sp_behaviours.specs.Starts.{start_refusal_in}
use Rattle.sp_core.specs.Cores.{IsCore, is_lent}
use Rattle.sp_core.specs.Roots.{IsTold}
use Rattle.sp_core.specs.declared.space_core.SpaceCore.{SpaceCore}
use Rattle.sp_events.specs.Events.{event_of_root}
use Rattle.sp_events.specs.FaultNames.{start_refusal}
use Rattle.sp_events.specs.declared.event.Root.{Root}
use Rattle.sp_living.specs.Views.{seen_row}
use Rattle.sp_machines.specs.Limits.{AreLimits}
use Rattle.sp_machines.specs.Players.{Played}
use Rattle.sp_machines.proofs.BeginLemmas.{plays-on}
use Rattle.sp_behaviours.specs.Told.{AreRemoteRules}
use Rattle.sp_rules.specs.Classes.{Setting}
use Rattle.sp_rules.specs.Events.{Root as Roots}
use Rattle.sp_rules.specs.Refusals.{refusal}
use Rattle.sp_rules.specs.Space.{on, state_of}
use Rattle.sp_rules.specs.State.{State, opening}
use Rattle.sp_tasks.specs.Rows.{TaskRow, row_of}
use Rattle.vm_step.specs.Sound.{IsSoundSet}
use Rattle.sp_lending.specs.Hands.{IsHome}
use Rattle.sp_lending.specs.Rows.{IsRow, row_at}
use Rattle.sp_lending.specs.Spaces.{IsSpace}
use Rattle.sp_lending.specs.declared.home.Home.{Home}
use Rattle.sp_lending.specs.declared.parts.Parts.{Parts}
use Rattle.sp_lending.proofs.SpaceLemmas.{event-space, space-core}

-- ---- a new space

pub home-of : (g : Setting) (home : Home) (memory : ClassId) → g.classes ≡ classes_of home.program.now → g.id ≡ home.id → AreLimits g home.limits
    → number_of home.program.now.classes (codes "java/lang/OutOfMemoryError") ≡ Some memory → AreLinks home.program.now → IsSoundSet home.program.now → AreRemoteRules home.program.now.classes → IsHome g home
home-of g home memory classes id limits known are sound rules = record {
  plays = plays-on g home.program.now memory classes known;
  set = record { classes = classes; are = are; sound = sound; fields = rules.fields; methods = rules.methods };
  own = sym id;
  limits = limits;
}

-- no task lives, so none is lent
no-rows : (es : List (ℕ × TaskRow)) → map seen_row es ≡ [] → (id : ℕ) → unwrap_or (option_map (λ (row : TaskRow). row.lent) (row_of id es)) false ≡ false
no-rows [] none id = refl
no-rows (e ∷ es) none id = absurd (cc)

pub new-space : (g : Setting) (space : Parts) → IsHome g space.home → g.classes ≡ classes_of space.classes.now → IsCore g opening space.core → ((id : ℕ) → row_at id space.rows ≡ None) → IsSpace g opening space
unfolding state_of opening
new-space g space home classes core none = record {
  history = [];
  leaves = refl;
  stands = record {
    home = home;
    classes = classes;
    taken = tt;
    core = core;
    rows = λ id. subst (λ (o : Option (Option Played)). IsRow g None o) (sym (none id)) (λ links set. tt);
    out = λ id here. absurd (false≢true (sym (no-rows space.core.state.living.tasks.rows core.state.living.tasks.rows id) ∙ here));
  };
}

-- ---- roots

-- what a space makes a root of
pub record Tells (space : Parts) (root : Root) (args : List Value) : Type 0 where
  pub arguments : root.arguments ≡ args
  pub refused : (own : Uuid) → start_refusal_in space.home.program.now own root.method args ≡ option_map start_refusal root.refused

pub told-root : (g : Setting) (s : State) (space : Parts) (root : Root) (args : List Value) → IsSpace g s space → Tells space root args → IsTold g root
told-root g s space root args is tells =
    (λ j. (is.stands.home.set.classes j).start_refusal g.id root.method (tells.arguments j)) ∙ tells.refused g.id

pub root-space : (space : Parts) (core : SpaceCore) (root : Root) (args : List Value) → Tells space root args
    → ((g : Setting) (s : State) (lent : List ℕ) → IsCore g s space.core → IsTold g root → refusal g lent s (event_of_root root) ≡ None)
    → ((g : Setting) (s : State) → IsCore g s space.core → IsCore g (on g (event_of_root root) s).0 core)
    → ((g : Setting) (s : State) → IsCore g s space.core → (id : ℕ) → is_lent core id ≡ is_lent space.core id)
    → (g : Setting) (s : State) → IsSpace g s space → IsSpace g (on g (Roots root.method args root.fuel) s).0 (record space { core = core })
root-space space core root args tells accepted state lent g s is =
    let core-is = space-core g s space is in
    subst (λ (given : List Value). IsSpace g (on g (Roots root.method given root.fuel) s).0 (record space { core = core })) tells.arguments
    (event-space g s (event_of_root root) space core is refl [] (accepted g s [] core-is (told-root g s space root args is tells)) (state g s core-is) (lent g s core-is))
