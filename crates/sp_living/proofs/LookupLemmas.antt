-- A lookup that the space makes.
use Rattle.std.proofs.Common.{◌≡◌, ℕ, ◌+◌, ◌≤◌, arith, true, cond, List, [], ◌∷◌, sym, ap, subst, ◌∙◌}
use Rattle.uuid.specs.declared.Uuid.{Uuid}
use Rattle.sp_registry.specs.Names.{is_name}
use Rattle.sp_registry.specs.declared.fault.RegistryFault.TheVariants.{BadName}
use Rattle.sp_rules.specs.Classes.{Setting}
use Rattle.sp_rules.specs.Events.{Denied, Started}
use Rattle.sp_rules.specs.OwnEvents.{on_lookup}
use Rattle.sp_rules.specs.State as rules
use Rattle.sp_rules.specs.State.{State, LooksUp, Waits, say}
use Rattle.sp_rules.proofs.AllLemmas.{all-weaken}
use Rattle.sp_tasks.specs.Rows.{TaskTable}
use Rattle.sp_transport.specs.Asking.{make_call}
use Rattle.sp_transport.specs.Transports.{IsTransport}
use Rattle.sp_transport.specs.declared.transport.Transport.{Transport}
use Rattle.sp_living.specs.Livings.{IsLiving}
use Rattle.sp_living.specs.Parts.{AreTasks}
use Rattle.sp_living.specs.declared.living.Living.{Living}
use Rattle.sp_living.proofs.LivingLemmas.{beside}

-- A lookup is made, and nothing is answered.
abbrev pub with_lookup : Uuid → List ℕ → State → State
with_lookup peer name s = record s {
  tasks_made = s.tasks_made + 1;
  calls_made = s.calls_made + 1;
  fresh = record { peer = peer; asked = LooksUp (s.calls_made + 1) (s.tasks_made + 1) name; stage = Waits } ∷ [];
}

pub looked-up : (g : Setting) (peer : Uuid) (name : List ℕ) (s : State) → is_name name ≡ true → on_lookup g peer name s ≡ say (Started (s.tasks_made + 1)) (with_lookup peer name s)
unfolding on_lookup
looked-up g peer name s allowed = ap (λ b. cond b (say (Started (s.tasks_made + 1)) (with_lookup peer name s)) (say (Denied BadName) s)) allowed

-- the next id is a lookup's
tasks-counted : (g : Setting) (made : ℕ) (living : List rules.Living) (table new : TaskTable) → new ≡ record table { made = table.made + 1 } → AreTasks g made living table → AreTasks g (made + 1) living new
tasks-counted g made living table new is a = subst (AreTasks g (made + 1) living) (sym is) (record {
  rows = a.rows;
  last = ap (λ n. n + 1) a.last;
  runs = a.runs;
  numbers = all-weaken (λ (t : rules.Living). t.id ≤ made) (λ (t : rules.Living). t.id ≤ made + 1) living (λ t below. omega arith) a.numbers;
  idle = a.idle;
})

pub lookup-made : (g : Setting) (s : State) (l : Living) (peer : Uuid) (name : List ℕ) (number task : ℕ) (t : Transport) (table : TaskTable)
    → number ≡ s.calls_made → task ≡ l.tasks.made + 1 → table ≡ record l.tasks { made = l.tasks.made + 1 }
    → IsTransport (make_call peer (LooksUp (number + 1) task name) s) t → IsLiving g s l → IsLiving g (with_lookup peer name s) (record l { tasks = table; transport = t })
lookup-made g s l peer name number task t table last id now made a = record {
  id = a.id;
  moment = a.moment;
  transport = subst (λ (u : State). IsTransport u t) (λ j. with_lookup_as (last j + 1) ((id ∙ ap (λ n. n + 1) a.tasks.last) j))
      (beside (make_call peer (LooksUp (number + 1) task name) s) (s.tasks_made + 1) s.tasks s.results s.parked s.retired t made);
  tasks = tasks-counted g s.tasks_made s.tasks l.tasks table now a.tasks;
  results = a.results;
  parked = a.parked;
}
  where
    with_lookup_as : ℕ → ℕ → State
    with_lookup_as n k = record s {
      tasks_made = s.tasks_made + 1;
      calls_made = s.calls_made + 1;
      fresh = record { peer = peer; asked = LooksUp n k name; stage = Waits } ∷ [];
    }
