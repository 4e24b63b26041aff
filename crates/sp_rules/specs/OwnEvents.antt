-- The events that a space's own program gives it: moments, sweeps, names, lookups, acknowledgements; and connections as they open (Java RMI specification, 3.3 on what may be collected, 6.1 on the registry).
use Rattle.std.specs.Prelude.{ℕ, ◌+◌, ◌==◌, not, nat_lt, nat_le, Bool, false, List, [], ◌∷◌, ◌++◌, Option, None, Some, Result, Ok, Err, filter, map, if◌then◌else◌}
use Rattle.std.specs.List.{list_any}
use Rattle.std.specs.Str.{bytes_eq}
use Rattle.dgc_client.specs.Table as client
use Rattle.dgc_list.specs.History as owner
use Rattle.net_message.specs.declared.message.Message.{Message}
use Rattle.sp_registry.specs.Names.{is_name}
use Rattle.sp_registry.specs.declared.fault.RegistryFault.{RegistryFault}
use Rattle.sp_registry.specs.declared.fault.RegistryFault.TheVariants.{BadName}
use Rattle.sp_registry.specs.declared.registry.Binding.{Binding}
use Rattle.uuid.specs.declared.Uuid.{Uuid}
use Rattle.sp_rules.specs.Classes.{Setting}
use Rattle.sp_rules.specs.Endings.{end_requests}
use Rattle.sp_rules.specs.Events.{Started, Withdrawn, Denied}
use Rattle.sp_rules.specs.Frames.{release, receive, say_hello}
use Rattle.sp_rules.specs.Holders.{drop, fields_of, has_reason}
use Rattle.sp_rules.specs.Lists.{each}
use Rattle.sp_rules.specs.References.{references_of}
use Rattle.sp_rules.specs.Requests.{waits_for}
use Rattle.sp_rules.specs.State.{State, Object, Gone, KeptResult, Until, RootAcked, Acked, Passed, Connection, LooksUp, Waits, standing, say, tell_owner}

-- ---- Moment

abbrev pub is_over_at : ℕ → KeptResult → Bool
is_over_at moment r = passed r.until
  where
    passed : Until → Bool
    passed (RootAcked task) = false
    passed (Acked conn number) = false
    passed (Passed until) = nat_le until moment

-- A moment below the last changes nothing. Else entries expire, leases are due for renewal or lapse, and a result whose connection ended goes at the first moment not below its end.
unfoldable pub on_moment : Setting → ℕ → State → State
on_moment g moment s =
    if nat_lt moment s.moment then s
    else release g (is_over_at moment) (record s {
      moment = moment;
      owner = record s.owner { entries = owner.Moment moment ∷ s.owner.entries };
      leases = client.At moment ∷ s.leases;
    })

-- ---- Sweep

abbrev pub without_reason : Setting → State → List Object
without_reason g s = filter (λ (o : Object). not (has_reason g s o.id)) (standing s.store)

-- An object that is withdrawn lets go the references in its fields, and all that clients told of it is forgotten.
abbrev pub withdraw : Setting → State → List Object → State
withdraw g s gone =
    let ids = map (λ (o : Object). o.id) gone in
    say (Withdrawn ids) (each (λ t (o : Object). drop g (references_of (fields_of g s o)) t) gone
    (each (λ t id. tell_owner (owner.Forget id) t) ids (record s { store = Gone ids ∷ s.store })))

-- Withdrawn is answered with the objects that go, if there are any.
abbrev pub sweep_of : Setting → State → List Object → State
sweep_of g s [] = s
sweep_of g s (o ∷ os) = withdraw g s (o ∷ os)

-- A Sweep withdraws exactly the objects that have no reason to stay as it starts.
unfoldable pub on_sweep : Setting → State → State
on_sweep g s = sweep_of g s (without_reason g s)

-- ---- names

-- A change of names that the registry refuses is answered as Denied.
unfoldable pub set_names : Result (List Binding) RegistryFault → State → State
set_names (Ok names) s = record s { owner = record s.owner { names = names } }
set_names (Err fault) s = say (Denied fault) s

-- ---- acknowledgements and lookups

abbrev pub is_of_root : ℕ → KeptResult → Bool
is_of_root task r = is r.until
  where
    is : Until → Bool
    is (RootAcked t) = t == task
    is (Acked conn number) = false
    is (Passed moment) = false

-- A lookup takes a task id but is no living task. One of a name that is not allowed is denied and takes none.
unfoldable pub on_lookup : Setting → Uuid → List ℕ → State → State
on_lookup g peer name s =
    if is_name name then say (Started (s.tasks_made + 1)) (record s {
      tasks_made = s.tasks_made + 1;
      calls_made = s.calls_made + 1;
      fresh = record { peer = peer; asked = LooksUp (s.calls_made + 1) (s.tasks_made + 1) name; stage = Waits } ∷ [];
    })
    else say (Denied BadName) s

-- ---- connections

abbrev pub add_connection : ℕ → Option Uuid → State → State
add_connection conn dialled s =
    record s { connections = s.connections ++ record { number = conn; dialled = dialled; peer = None; version = 1; last = 0; sent = [] } ∷ [] }

abbrev pub dialled_no_more : Option Uuid → State → State
dialled_no_more None s = s
dialled_no_more (Some peer) s = record s { dialling = filter (λ p. not (bytes_eq peer p)) s.dialling }

abbrev pub is_among : List Uuid → Uuid → Bool
is_among peers peer = list_any (bytes_eq peer) peers

-- whether a peer was found to speak version 1 alone
abbrev pub is_noted : State → Uuid → Bool
is_noted s peer = is_among s.noted peer

-- the version with which a peer is greeted that this space dialled
abbrev pub version_to : Setting → State → Uuid → ℕ
version_to g s peer = if is_noted s peer then 1 else g.version

-- The space that dialled says Hello at once, with its own highest version, or with 1 to a peer that was noted. The space that was dialled says it at once if it is of version 1.
abbrev pub first_hello : Setting → ℕ → Option Uuid → State → State
first_hello g conn None s = if nat_le 2 g.version then s else say_hello g 1 conn s
first_hello g conn (Some peer) s = say_hello g (version_to g s peer) conn s

unfoldable pub on_opened : Setting → ℕ → Option Uuid → State → State
on_opened g conn dialled s = first_hello g conn dialled (dialled_no_more dialled (add_connection conn dialled s))

-- Refused ends the calls and lookups that wait to be sent to the peer with ConnectException, and fails each dirty and clean call that waits.
unfoldable pub on_refused : Setting → Uuid → State → State
on_refused g peer s = end_requests g (waits_for peer) (λ asked. g.classes.connect) (dialled_no_more (Some peer) s)

abbrev pub received_on : Setting → Option Connection → Message → State → State
received_on g None m s = s
received_on g (Some c) m s = receive g c m s
