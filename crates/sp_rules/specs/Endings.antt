-- Failures and ends of connections: dirty and clean calls fail, calls end with an exception, results are held on (Java RMI specification, appendix A: ConnectException, MarshalException, UnmarshalException). A failure removes no entry and no name.
use Rattle.std.specs.Prelude.{ℕ, ◌+◌, ◌==◌, ◌&&◌, ◌||◌, not, Bool, true, false, List, [], ◌∷◌, ◌++◌, Option, None, Some, is_none, filter, map, take, if◌then◌else◌}
use Rattle.std.specs.List.{list_any, flat_map}
use Rattle.space_ids.specs.declared.ids.ClassId.{ClassId}
use Rattle.dgc_client.specs.Lease as lease
use Rattle.dgc_client.specs.History as lease_events
use Rattle.dgc_client.specs.Table as client
use Rattle.dgc_client.specs.declared.groups.Group.{Group}
use Rattle.dgc_client.specs.declared.lease.Due.{Due}
use Rattle.dgc_client.specs.declared.lease.Due.TheVariants as due
use Rattle.space_ids.specs.declared.ids.ForeignId.{ForeignId}
use Rattle.net_message.specs.declared.message.Message.{Message}
use Rattle.net_message.specs.declared.message.Message.TheVariants as message
use Rattle.uuid.specs.declared.Uuid.{Uuid}
use Rattle.sp_rules.specs.Behaviours.{Throws}
use Rattle.sp_rules.specs.Classes.{Setting}
use Rattle.sp_rules.specs.Events.{Close}
use Rattle.sp_rules.specs.Holders.{lease_now}
use Rattle.sp_rules.specs.Lists.{each, with_some}
use Rattle.sp_rules.specs.LivingTasks.{reply_to}
use Rattle.sp_rules.specs.ParkedFrames.{is_out_on, remove_requests, take_parked, let_go_parked, fail_parked, names}
use Rattle.sp_rules.specs.Requests.{waits_for, dial}
use Rattle.sp_rules.specs.State.{State, Request, Asked, Calls, LooksUp, Tells, Until, RootAcked, Acked, Passed, KeptResult, Connection, ParkedFrame, connection_at, say}

-- ---- dirty and clean calls fail

-- A failed dirty call ends the frames parked for it, those that lack its lease. The failure of one that was overtaken does nothing of its own.
unfoldable pub fail_dirty : Setting → ℕ → State → ForeignId → State
fail_dirty g call s r =
    let l = lease_now s r in
    let t = record s { leases = client.On r (lease_events.DirtyFailed call) ∷ s.leases } in
    if lease.is_made l.dirty call && is_none l.lease then each (fail_parked g) (filter (names r) s.parked) t else t

abbrev pub fail_clean : ℕ → State → ForeignId → State
fail_clean call s r = record s { leases = client.On r (lease_events.CleanFailed call) ∷ s.leases }

abbrev pub fail_group : Setting → Due → Group → ℕ → State → State
fail_group g due.Dirty group call s = each (fail_dirty g call) (client.references_at group.peer group.ids) s
fail_group g (due.Clean strong) group call s = each (fail_clean call) (client.references_at group.peer group.ids) s

-- ---- requests end

abbrev pub end_asked : Setting → ClassId → Asked → State → State
end_asked g class (Calls number task lent kind m) s = reply_to g (Calls number task lent kind m) (Throws class) s
end_asked g class (LooksUp number task name) s = reply_to g (LooksUp number task name) (Throws class) s
end_asked g class (Tells call group) s = fail_group g group.kind group call s

-- A call or lookup ends with this exception, a dirty or clean call fails.
abbrev pub end_request : Setting → (Asked → ClassId) → State → Request → State
end_request g why s r = end_asked g (why r.asked) r.asked s

abbrev pub is_group : Asked → Bool
is_group (Calls n task lent kind m) = false
is_group (LooksUp n task name) = false
is_group (Tells call group) = true

-- Of requests that end together the calls and lookups end first, then dirty and clean calls fail, each as they were made.
unfoldable pub end_requests : Setting → (Request → Bool) → (Asked → ClassId) → State → State
end_requests g is why s =
    let ending = filter is s.requests in
    each (end_request g why) (filter (λ r. is_group r.asked) ending)
    (each (end_request g why) (filter (λ r. not (is_group r.asked)) ending) (remove_requests is s))

-- ---- a connection ends

-- A parked call of the connection is dropped.
abbrev pub unpark : State → ParkedFrame → State
unpark s p = let_go_parked p s.parked (take_parked p s)

-- If the connection ends before the Ack of a result, the owner holds the result for 600,000 ms after its last moment.
abbrev pub orphan : ℕ → ℕ → KeptResult → KeptResult
orphan conn moment r = orphaned r.until
  where
    orphaned : Until → KeptResult
    orphaned (RootAcked task) = r
    orphaned (Acked c number) = if c == conn then record r { until = Passed (moment + 600000) } else r
    orphaned (Passed m) = r

-- The end of a dialled connection ends all that was asked of its peer, what waits to be sent too.
abbrev pub is_of_connection : ℕ → Option Uuid → Request → Bool
is_of_connection conn None r = false
is_of_connection conn (Some peer) r = is_out_on conn r.stage || waits_for peer r

abbrev pub without_connection : ℕ → State → State
without_connection conn s = record s {
  connections = filter (λ (d : Connection). not (d.number == conn)) s.connections;
  results = map (orphan conn s.moment) s.results;
}

-- A connection goes, and what came on it: its parked calls are dropped, its results held on.
abbrev pub let_connection_go : ℕ → State → State
let_connection_go conn s = each unpark (filter (λ (p : ParkedFrame). p.conn == conn) s.parked) (without_connection conn s)

unfoldable pub end_connection : Setting → (Asked → ClassId) → ℕ → State → State
end_connection g why conn s = with_some (connection_at s conn) s (λ c.
    end_requests g (is_of_connection conn c.dialled) why (let_connection_go conn s))

-- Closed, ReadFailed, Bad and any closing but for a wrong first Hello end all calls of the connection with UnmarshalException.
abbrev pub by_unmarshal : Setting → Asked → ClassId
by_unmarshal g asked = g.classes.unmarshal

unfoldable pub close : Setting → ClassId → ℕ → State → State
close g class conn s = say (Close conn) (end_connection g (λ asked. class) conn s)

-- ---- a peer of version 1

abbrev pub note_peer : Uuid → State → State
note_peer peer s = record s { noted = s.noted ++ peer ∷ [] }

-- A peer that was found to speak version 1 alone is noted, for good, and dialled again once its connection is closed. What waits for it waits on: no request ends or fails.
unfoldable pub redial : Uuid → ℕ → State → State
redial peer conn s = dial peer (say (Close conn) (let_connection_go conn (note_peer peer s)))

-- ---- a write fails

abbrev pub call_number_in : Message → List ℕ
call_number_in (message.Call number object method fuel arguments) = number ∷ []
call_number_in (message.Lookup number name) = number ∷ []
call_number_in _ = []

abbrev pub sent_on : Option Connection → List Message
sent_on None = []
sent_on (Some c) = c.sent

-- the numbers of the calls among the last frames of a connection
abbrev pub unsent_calls : State → ℕ → ℕ → List ℕ
unsent_calls s conn unsent = flat_map call_number_in (take unsent (sent_on (connection_at s conn)))

-- A failed write ends calls among the frames that were not sent whole with MarshalException, and the others with UnmarshalException.
abbrev pub why_unsent : Setting → List ℕ → Asked → ClassId
why_unsent g unsent (Calls number task lent kind m) = if list_any (◌==◌ number) unsent then g.classes.marshal else g.classes.unmarshal
why_unsent g unsent (LooksUp number task name) = if list_any (◌==◌ number) unsent then g.classes.marshal else g.classes.unmarshal
why_unsent g unsent (Tells call group) = g.classes.unmarshal

unfoldable pub fail_write : Setting → ℕ → ℕ → State → State
fail_write g conn unsent s = end_connection g (why_unsent g (unsent_calls s conn unsent)) conn s
