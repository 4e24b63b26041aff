-- What lives in a space is seen of parts of its state: what happens to the others leaves it.
use Rattle.std.proofs.Common.{◌≡◌, ℕ, List, [], subst, sym}
use Rattle.dgc_client.specs.Table as client
use Rattle.uuid.specs.declared.Uuid.{Uuid}
use Rattle.sp_rules.specs.Classes.{Setting}
use Rattle.sp_rules.specs.Events.{Note}
use Rattle.sp_rules.specs.State.{State, Connection, KeptResult, Request}
use Rattle.sp_rules.specs.State as rules
use Rattle.sp_living.specs.Livings.{IsLiving}
use Rattle.sp_living.specs.declared.living.Living.{Living}

-- the parts of a state that are seen in what lives in a space
pub record LivingParts : Type 0 where
  pub moment : ℕ
  pub tasks_made : ℕ
  pub calls_made : ℕ
  pub groups_made : ℕ
  pub leases : List client.Told
  pub tasks : List rules.Living
  pub requests : List Request
  pub results : List KeptResult
  pub connections : List Connection
  pub dialling : List Uuid
  pub noted : List Uuid
  pub parked : List rules.ParkedFrame
  pub fresh : List Request
  pub notes : List Note

abbrev pub living_parts : State → LivingParts
living_parts s = record {
  moment = s.moment;
  tasks_made = s.tasks_made;
  calls_made = s.calls_made;
  groups_made = s.groups_made;
  leases = s.leases;
  tasks = s.tasks;
  requests = s.requests;
  results = s.results;
  connections = s.connections;
  dialling = s.dialling;
  noted = s.noted;
  parked = s.parked;
  fresh = s.fresh;
  notes = s.notes;
}

-- a state of these parts alone
abbrev of_parts : LivingParts → State
of_parts p = record {
  moment = p.moment;
  objects_made = 0;
  tasks_made = p.tasks_made;
  calls_made = p.calls_made;
  groups_made = p.groups_made;
  store = [];
  owner = record { names = []; entries = [] };
  leases = p.leases;
  tasks = p.tasks;
  requests = p.requests;
  results = p.results;
  connections = p.connections;
  dialling = p.dialling;
  noted = p.noted;
  parked = p.parked;
  retired = 0;
  fresh = p.fresh;
  notes = p.notes;
}

to-parts : (g : Setting) (s : State) (l : Living) → IsLiving g s l → IsLiving g (of_parts (living_parts s)) l
to-parts g s l is = record {
  id = is.id;
  moment = is.moment;
  transport = record {
    leases = is.transport.leases;
    connections = is.transport.connections;
    noted = is.transport.noted;
    asked = is.transport.asked;
    calls_made = is.transport.calls_made;
    groups_made = is.transport.groups_made;
    fresh = is.transport.fresh;
    notes = is.transport.notes;
    lines = is.transport.lines;
  };
  tasks = is.tasks;
  results = is.results;
  parked = is.parked;
}

from-parts : (g : Setting) (s : State) (l : Living) → IsLiving g (of_parts (living_parts s)) l → IsLiving g s l
from-parts g s l is = record {
  id = is.id;
  moment = is.moment;
  transport = record {
    leases = is.transport.leases;
    connections = is.transport.connections;
    noted = is.transport.noted;
    asked = is.transport.asked;
    calls_made = is.transport.calls_made;
    groups_made = is.transport.groups_made;
    fresh = is.transport.fresh;
    notes = is.transport.notes;
    lines = is.transport.lines;
  };
  tasks = is.tasks;
  results = is.results;
  parked = is.parked;
}

-- What leaves these parts leaves what lives.
pub left-alone : (g : Setting) (s u : State) (l : Living) → living_parts u ≡ living_parts s → IsLiving g s l → IsLiving g u l
left-alone g s u l same is = from-parts g u l (subst (λ (p : LivingParts). IsLiving g (of_parts p) l) (sym same) (to-parts g s l is))
