-- The state of a space, as what it keeps for others and what lives in it change one by one.
use Rattle.std.proofs.Common.{◌≡◌, ℕ, ◌+◌, ◌≤◌, ◌<◌, nat_lt, lit≤, arith, cond, true, false, List, [], ◌∷◌, Option, None, Some, refl, sym, ap, subst, ◌∙◌}
use Rattle.std.proofs.lemmas.Bool.Decides.{nat_tests}
use Rattle.dgc_client.specs.Table as client
use Rattle.dgc_list.specs.History as owner
use Rattle.uuid.specs.declared.Uuid.{Uuid}
use Rattle.std.specs.Prelude.{Result, Ok, Err}
use Rattle.sp_registry.specs.declared.fault.RegistryFault.{RegistryFault}
use Rattle.sp_registry.specs.declared.registry.Binding.{Binding}
use Rattle.sp_rules.specs.Behaviours.{Op, Create, Get, Put, Call}
use Rattle.sp_rules.specs.Classes.{Setting}
use Rattle.sp_registry.specs.Names.{is_name}
use Rattle.sp_registry.specs.declared.fault.RegistryFault.TheVariants.{BadName}
use Rattle.sp_rules.specs.Events.{Denied, Started}
use Rattle.sp_rules.specs.Frames.{release}
use Rattle.sp_rules.specs.Lists.{with_some}
use Rattle.sp_rules.specs.LivingTasks.{park_at, park_call, park_op}
use Rattle.sp_rules.specs.Tasks.{Stand, Runs, AsksFor, HasEnded, stand, steps}
use Rattle.sp_rules.specs.OwnEvents.{is_over_at, on_lookup, on_moment, set_names}
use Rattle.sp_rules.specs.Space.{finish_event}
use Rattle.sp_rules.specs.State.{State, Living as Task, LooksUp, Waits, opening, ready_at, say, tell_owner}
use Rattle.sp_rules.proofs.Stable.{Core, IsFramed, finish_event_keeps}
use Rattle.sp_owner.specs.Owners.{KeepsParts, OwnerParts, denied, owner_parts}
use Rattle.sp_living.specs.Livings.{IsLiving}
use Rattle.sp_living.specs.declared.living.Living.{Living}
use Rattle.sp_state.specs.Denying.{told_denied}
use Rattle.sp_state.specs.Spaces.{AreNumbered, IsSpace}
use Rattle.sp_state.proofs.QuietLemmas.{HasParts, parts-quiet, release_keeps}
use Rattle.sp_state.specs.declared.space_state.SpaceState.{SpaceState}

-- ---- the two halves

-- What leaves the owner's parts leaves what the space keeps for others.
pub quiet : (g : Setting) (s t : State) (space : SpaceState) (l : Living) → owner_parts t ≡ owner_parts s → IsLiving g t l → IsSpace g s space → IsSpace g t (record space { living = l })
quiet g s t space l same now is = record {
  id = is.id;
  version = is.version;
  digest = is.digest;
  numbers = subst AreNumbered (sym same) is.numbers;
  owner = subst (λ (p : OwnerParts). KeepsParts g p space.owner) (sym same) is.owner;
  living = now;
}

-- a state with other parts of the owner
abbrev pub with_owner : OwnerParts → State → State
with_owner p s = record s { store = p.store; objects_made = p.objects_made; owner = record { names = p.names; entries = p.entries } }

-- What changes the owner's parts alone leaves what lives in the space.
pub living-still : (g : Setting) (p : OwnerParts) (s : State) (l : Living) → IsLiving g s l → IsLiving g (with_owner p s) l
living-still g p s l is = record {
  id = is.id;
  moment = is.moment;
  transport = record {
    leases = is.transport.leases;
    connections = is.transport.connections;
    noted = is.transport.noted;
    asked = is.transport.asked;
    calls_made = is.transport.calls_made;
    groups_made = is.transport.groups_made;
    fresh = is.transport.fresh;
    notes = is.transport.notes;
    lines = is.transport.lines;
  };
  tasks = is.tasks;
  results = is.results;
  parked = is.parked;
}

-- a space begins with no object
pub opening-numbered : AreNumbered (owner_parts opening)
unfolding opening
opening-numbered = lit≤ tt

-- ---- names

pub named : (g : Setting) (r : Result (List Binding) RegistryFault) (s : State) (l : Living) → IsLiving g (told_denied (denied r) s) l → IsLiving g (set_names r s) l
unfolding set_names
named g (Ok names) s l is = living-still g (record { store = s.store; objects_made = s.objects_made; names = names; entries = s.owner.entries }) s l is
named g (Err fault) s l is = is

pub named-numbers : (r : Result (List Binding) RegistryFault) (s : State) → AreNumbered (owner_parts s) → AreNumbered (owner_parts (set_names r s))
unfolding set_names
named-numbers (Ok names) s is = is
named-numbers (Err fault) s is = is

-- ---- what leaves the owner's parts

-- a lookup that is made
abbrev with_lookup : Uuid → List ℕ → State → State
with_lookup peer name s = say (Started (s.tasks_made + 1)) (record s {
  tasks_made = s.tasks_made + 1;
  calls_made = s.calls_made + 1;
  fresh = record { peer = peer; asked = LooksUp (s.calls_made + 1) (s.tasks_made + 1) name; stage = Waits } ∷ [];
})

pub lookup-parts : (g : Setting) (peer : Uuid) (name : List ℕ) (s : State) → owner_parts (on_lookup g peer name s) ≡ owner_parts s
unfolding on_lookup
lookup-parts g peer name s =
    elim (is_name name) as (λ b. owner_parts (cond b (with_lookup peer name s) (say (Denied BadName) s)) ≡ owner_parts s) [ true ↦ refl | false ↦ refl ]

-- a name that is not allowed
pub denied-name : (g : Setting) (peer : Uuid) (name : List ℕ) (s : State) → is_name name ≡ false → on_lookup g peer name s ≡ say (Denied BadName) s
unfolding on_lookup
denied-name g peer name s bad = ap (λ b. cond b (with_lookup peer name s) (say (Denied BadName) s)) bad

-- the end of an event
parts_in : Core → OwnerParts
parts_in c = record { store = c.store; objects_made = c.objects_made; names = c.owner.names; entries = c.owner.entries }

parts-framed : (p : OwnerParts) → IsFramed (HasParts p)
unfolding parts_in
parts-framed p = record { frame = λ s t same h. ap parts_in same ∙ h }

pub finished-parts : (s : State) → owner_parts (finish_event true s).0 ≡ owner_parts s
finished-parts s = finish_event_keeps (parts-framed (owner_parts s)) {s = s} true refl

-- ---- moments

pub moment-parts : (g : Setting) (moment : ℕ) (s : State) → s.moment ≤ moment → owner_parts (on_moment g moment s) ≡ owner_parts (tell_owner (owner.Moment moment) s)
unfolding on_moment
moment-parts g moment s h =
    let after : State = record s { moment = moment; owner = record s.owner { entries = owner.Moment moment ∷ s.owner.entries }; leases = client.At moment ∷ s.leases } in
    let early : nat_lt moment s.moment ≡ false = grind (arith, nat_tests) in
    ap (λ b. owner_parts (cond b s (release g (is_over_at moment) after))) early
    ∙ release_keeps (parts-quiet g (owner_parts after)) {s = after} (is_over_at moment) refl

pub late : (g : Setting) (moment : ℕ) (s : State) → moment < s.moment → on_moment g moment s ≡ s
unfolding on_moment
late g moment s h =
    let after : State = record s { moment = moment; owner = record s.owner { entries = owner.Moment moment ∷ s.owner.entries }; leases = client.At moment ∷ s.leases } in
    let early : nat_lt moment s.moment ≡ true = grind (arith, nat_tests) in
    ap (λ b. cond b s (release g (is_over_at moment) after)) early

-- ---- lent tasks

pub park-parts : (g : Setting) (id k : ℕ) (s : State) → owner_parts (park_call g id k s) ≡ owner_parts s
unfolding park_call
park-parts g id k s = of (ready_at s id)
  where
    parks : (t : Task) (op : Op) → owner_parts (park_op g id k t op s) ≡ owner_parts s
    parks t (Create class) = refl
    parks t (Get o slot) = refl
    parks t (Put o slot value) = refl
    parks t (Call target method arguments) = refl

    at : (t : Task) (stands : Stand) → owner_parts (park_at g id k t stands s) ≡ owner_parts s
    at t Runs = refl
    at t (AsksFor op) = parks t op
    at t (HasEnded outcome) = refl

    of : (o : Option Task) → owner_parts (with_some o s (λ (t : Task). park_at g id k t (stand (steps k t.task)) s)) ≡ owner_parts s
    of None = refl
    of (Some t) = at t (stand (steps k t.task))
