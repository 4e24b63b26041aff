-- After each event that answers, the event may end: all that it noted stands before what is noted then.
use Rattle.std.proofs.Common.{◌≡◌, ℕ, ◌+◌, Bool, true, false, cond, List, [], ◌∷◌, Option, None, Some, sym, subst, map, true≢false}
use Rattle.std.specs.Prelude.{Result, Ok, Err, is_none, is_some, nat_lt}
use Rattle.dgc_client.specs.Table as client
use Rattle.dgc_list.specs.History as owner
use Rattle.net_message.specs.declared.message.Message.{Message}
use Rattle.net_message.specs.declared.message.Message.TheVariants as message
use Rattle.dgc_client.specs.History as lease_events
use Rattle.sp_registry.specs.Bindings as registry
use Rattle.sp_registry.specs.Names.{is_name}
use Rattle.sp_registry.specs.declared.fault.RegistryFault.{RegistryFault}
use Rattle.sp_registry.specs.declared.fault.RegistryFault.TheVariants.{BadName}
use Rattle.sp_registry.specs.declared.registry.Binding.{Binding}
use Rattle.uuid.specs.declared.Uuid.{Uuid}
use Rattle.sp_rules.specs.Behaviours.{Op, Create, Get, Put, Call}
use Rattle.sp_rules.specs.Classes.{Setting}
use Rattle.sp_rules.specs.Endings.{by_unmarshal}
use Rattle.sp_rules.specs.Events
use Rattle.sp_rules.specs.Events.{Event, Moment, Sweep, Root, RootAck, Bind, Rebind, Unbind, Lookup, Opened, Refused, Received, Closed, ReadFailed, Bad, WriteFailed, Committed, Parked, GivenBack, Finished, Started, Denied, Withdrawn, Replies, Note, Says, Cleans}
use Rattle.sp_rules.specs.Frames
use Rattle.sp_rules.specs.Holders.{drop, fields_of, own_object}
use Rattle.sp_rules.specs.Laws.{AllOf}
use Rattle.sp_rules.specs.Lists.{each, with_some}
use Rattle.sp_rules.specs.LivingTasks
use Rattle.sp_rules.specs.OwnEvents
use Rattle.sp_rules.specs.References.{references_of, foreign_ids}
use Rattle.sp_rules.specs.Space.{answers_outputs, happen}
use Rattle.sp_rules.specs.State.{State, Connection, Gone, Living, LooksUp, Object, OfRoot, Waits, connection_at, ready_at, say, tell_owner}
use Rattle.sp_rules.specs.Tasks.{Stand, Runs, AsksFor, HasEnded, stand, steps}
use Rattle.sp_rules.proofs.AllLemmas.{all-more}
use Rattle.sp_transport.specs.Said.{IsNotAfter, IsNotAfterButAcks}
use Rattle.sp_transport.specs.Settling.{MaySettle}
use Rattle.sp_state.proofs.QuietLemmas
use Rattle.sp_state.specs.Spaces.{IsAtRest}

-- An event that made no call may end.
settles : (s : State) → QuietLemmas.MayEnd s → MaySettle s
settles s may = record { due = may.0; fresh = subst (AllOf (λ r. Rattle.sp_transport.specs.Said.CallsMayGo Events.Calls s)) (sym may.1) tt }

either : (b : Bool) (t u : State) → QuietLemmas.MayEnd t → QuietLemmas.MayEnd u → QuietLemmas.MayEnd (cond b t u)
either true t u a b = a
either false t u a b = b

abbrev told : Setting → State → Type 0
told g s = QuietLemmas.MayEnd s

said : (g : Setting) (s : State) (o : Events.Output) → QuietLemmas.MayEnd s → QuietLemmas.MayEnd (say o s)
said g s o may = QuietLemmas.say_keeps (QuietLemmas.may-end-quiet g) {s = s} o may

named-may : (g : Setting) (r : Result (List Binding) RegistryFault) (s : State) → QuietLemmas.MayEnd s → QuietLemmas.MayEnd (OwnEvents.set_names r s)
unfolding OwnEvents.set_names
named-may g (Ok names) s may = may
named-may g (Err fault) s may = said g s (Denied fault) may

moment-may : (g : Setting) (moment : ℕ) (s : State) → QuietLemmas.MayEnd s → QuietLemmas.MayEnd (OwnEvents.on_moment g moment s)
unfolding OwnEvents.on_moment
moment-may g moment s may =
    let after : State = record s { moment = moment; owner = record s.owner { entries = owner.Moment moment ∷ s.owner.entries }; leases = client.At moment ∷ s.leases } in
    either (nat_lt moment s.moment) s (Frames.release g (OwnEvents.is_over_at moment) after) may
    (QuietLemmas.release_keeps (QuietLemmas.may-end-quiet g) {s = after} (OwnEvents.is_over_at moment) may)

sweep-may : (g : Setting) (s : State) → QuietLemmas.MayEnd s → QuietLemmas.MayEnd (OwnEvents.on_sweep g s)
unfolding OwnEvents.on_sweep
sweep-may g s may = sweeps (OwnEvents.without_reason g s)
  where
    withdraws : (gone : List Object) → QuietLemmas.MayEnd (OwnEvents.withdraw g s gone)
    withdraws gone =
        let ids = map (λ (o : Object). o.id) gone in
        let begun : State = record s { store = Gone ids ∷ s.store } in
        let left : State = each (λ t id. tell_owner (owner.Forget id) t) ids begun in
        let dropped : State = each (λ t (o : Object). drop g (references_of (fields_of g s o)) t) gone left in
        said g dropped (Withdrawn ids)
        (QuietLemmas.each_keeps (QuietLemmas.may-end-quiet g) {s = left} (λ t (o : Object). drop g (references_of (fields_of g s o)) t) gone (λ t o h. QuietLemmas.drop_keeps (QuietLemmas.may-end-quiet g) {s = t} (foreign_ids g.id (references_of (fields_of g s o))) h)
        (QuietLemmas.each_keeps (QuietLemmas.may-end-quiet g) {s = begun} (λ t id. tell_owner (owner.Forget id) t) ids (λ t id h. h) may))

    sweeps : (gone : List Object) → QuietLemmas.MayEnd (OwnEvents.sweep_of g s gone)
    sweeps [] = may
    sweeps (o ∷ os) = withdraws (o ∷ os)

frame-may : (g : Setting) (c : Connection) (m : Message) (s : State) → QuietLemmas.MayEnd s → QuietLemmas.MayEnd (Frames.got g c m s)
unfolding Frames.got Frames.got_dirty Frames.got_clean
frame-may g c (message.Hello version space digest) s may = QuietLemmas.close_keeps (QuietLemmas.may-end-quiet g) {s = s} g.classes.unmarshal c.number may
frame-may g c (message.Call number object method fuel arguments) s may = QuietLemmas.got_call_keeps (QuietLemmas.may-end-quiet g) {s = s} c number object method fuel arguments may
frame-may g c (message.Returned number fuel value) s may =
    QuietLemmas.answered_by_keeps (QuietLemmas.may-end-quiet g) {s = s} c number (Frames.returned_for g c number fuel value) (λ asked. QuietLemmas.returned_keeps (QuietLemmas.may-end-quiet g) {s = s} c number fuel value asked may) may
frame-may g c (message.Threw number class) s may =
    QuietLemmas.answered_by_keeps (QuietLemmas.may-end-quiet g) {s = s} c number (Frames.ends_as g c number (λ a. Frames.thrown_reply g class)) (λ asked. QuietLemmas.ends_as_keeps (QuietLemmas.may-end-quiet g) {s = s} c number (λ a. Frames.thrown_reply g class) asked may) may
frame-may g c (message.Spent number) s may =
    QuietLemmas.answered_by_keeps (QuietLemmas.may-end-quiet g) {s = s} c number (Frames.ends_as g c number (Frames.spent_reply g)) (λ asked. QuietLemmas.ends_as_keeps (QuietLemmas.may-end-quiet g) {s = s} c number (Frames.spent_reply g) asked may) may
frame-may g c (message.Ack number) s may = QuietLemmas.got_ack_keeps (QuietLemmas.may-end-quiet g) {s = s} c number may
frame-may g c (message.Dirty sequence period objects) s may = either (Frames.fit_frame c objects) _ _ (QuietLemmas.send_keeps (QuietLemmas.may-end-quiet g) {s = tell_owner (owner.Dirty (Frames.client_of c.peer g.id) (Frames.that_stand s objects) sequence period) s} Replies c.number _ QuietLemmas.replies-early may)
    (QuietLemmas.close_keeps (QuietLemmas.may-end-quiet g) {s = s} g.classes.unmarshal c.number may)
frame-may g c (message.Lease sequence period) s may = QuietLemmas.told_by_keeps (QuietLemmas.may-end-quiet g) {s = s} c true sequence (λ call. lease_events.DirtyAnswered call period) may
frame-may g c (message.Clean sequence strong objects) s may = either (Frames.fit_frame c objects) _ _ (QuietLemmas.send_keeps (QuietLemmas.may-end-quiet g) {s = tell_owner (owner.Clean (Frames.client_of c.peer g.id) (Frames.that_stand s objects) sequence strong) s} Replies c.number _ QuietLemmas.replies-early may)
    (QuietLemmas.close_keeps (QuietLemmas.may-end-quiet g) {s = s} g.classes.unmarshal c.number may)
frame-may g c (message.Cleaned sequence) s may = QuietLemmas.told_by_keeps (QuietLemmas.may-end-quiet g) {s = s} c false sequence lease_events.CleanAnswered may
frame-may g c (message.Lookup number name) s may = QuietLemmas.got_lookup_keeps (QuietLemmas.may-end-quiet g) {s = s} c number name may

received-may : (g : Setting) (o : Option Connection) (m : Message) (s : State) → QuietLemmas.MayEnd s → QuietLemmas.MayEnd (OwnEvents.received_on g o m s)
unfolding Frames.receive
received-may g None m s may = may
received-may g (Some c) m s may =
    either (is_none c.peer) (Frames.first_frame g c m s) (cond (Frames.is_wrong_way (Frames.is_asking m) (is_some c.dialled)) (Rattle.sp_rules.specs.Endings.close g g.classes.unmarshal c.number s) (Frames.got g c m s))
    (QuietLemmas.first_frame_keeps (QuietLemmas.may-end-quiet g) {s = s} c m may)
    (either (Frames.is_wrong_way (Frames.is_asking m) (is_some c.dialled)) _ _ (QuietLemmas.close_keeps (QuietLemmas.may-end-quiet g) {s = s} g.classes.unmarshal c.number may) (frame-may g c m s may))

-- ---- events that make a call

none-noted : (s : State) → s.notes ≡ [] → AllOf (IsNotAfterButAcks Cleans) s.notes
none-noted s quiet = subst (AllOf (IsNotAfterButAcks Cleans)) (sym quiet) tt

none-after : (s : State) → s.notes ≡ [] → AllOf (IsNotAfter Events.Calls) s.notes
none-after s quiet = subst (AllOf (IsNotAfter Events.Calls)) (sym quiet) tt

rests : (s : State) → IsAtRest s → MaySettle s
rests s rest = settles s (none-noted s rest.notes, rest.fresh)

settles-either : (b : Bool) (t u : State) → MaySettle t → MaySettle u → MaySettle (cond b t u)
settles-either true t u a b = a
settles-either false t u a b = b

settles-some : {A : Type 0} (o : Option A) (none : State) (some : A → State) → MaySettle none → ((x : A) → MaySettle (some x)) → MaySettle (with_some o none some)
settles-some None none some a b = a
settles-some (Some x) none some a b = b x

lookup-settles : (g : Setting) (peer : Uuid) (name : List ℕ) (s : State) → IsAtRest s → MaySettle (OwnEvents.on_lookup g peer name s)
unfolding OwnEvents.on_lookup
lookup-settles g peer name s rest =
    let made : State = say (Started (s.tasks_made + 1)) (record s {
      tasks_made = s.tasks_made + 1;
      calls_made = s.calls_made + 1;
      fresh = record { peer = peer; asked = LooksUp (s.calls_made + 1) (s.tasks_made + 1) name; stage = Waits } ∷ [];
    }) in
    settles-either (is_name name) made (say (Denied BadName) s)
    (record { due = all-more (IsNotAfterButAcks Cleans) s.notes (Says (Started (s.tasks_made + 1))) (none-noted s rest.notes) tt; fresh = (all-more (IsNotAfter Events.Calls) s.notes (Says (Started (s.tasks_made + 1))) (none-after s rest.notes) tt, tt) })
    (settles (say (Denied BadName) s) (said g s (Denied BadName) (none-noted s rest.notes, rest.fresh)))

park-settles : (g : Setting) (id k : ℕ) (s : State) → IsAtRest s → MaySettle (LivingTasks.park_call g id k s)
unfolding LivingTasks.park_call
park-settles g id k s rest = settles-some (ready_at s id) s (λ t. LivingTasks.park_at g id k t (stand (steps k t.task)) s) (rests s rest) (λ t. at t (stand (steps k t.task)))
  where
    parks : (t : Living) (op : Op) → MaySettle (LivingTasks.park_op g id k t op s)
    parks t (Create class) = rests s rest
    parks t (Get o slot) = rests s rest
    parks t (Put o slot value) = rests s rest
    parks t (Call target method arguments) = record { due = none-noted s rest.notes; fresh = (none-after s rest.notes, tt) }

    at : (t : Living) (stands : Stand) → MaySettle (LivingTasks.park_at g id k t stands s)
    at t Runs = rests s rest
    at t (AsksFor op) = parks t op
    at t (HasEnded outcome) = rests s rest

-- ---- all events that answer

pub happen-settles : (g : Setting) (e : Event) (s : State) → answers_outputs e ≡ true → IsAtRest s → MaySettle (happen g e s)
unfolding happen
happen-settles g (Moment moment) s a rest = settles _ (moment-may g moment s (none-noted s rest.notes, rest.fresh))
happen-settles g Sweep s a rest = settles _ (sweep-may g s (none-noted s rest.notes, rest.fresh))
happen-settles g (Root method arguments fuel) s a rest = settles _ (QuietLemmas.add_task_keeps (QuietLemmas.may-end-quiet g) {s = s} OfRoot method arguments fuel (none-noted s rest.notes, rest.fresh))
happen-settles g (RootAck task) s a rest = settles _ (QuietLemmas.release_keeps (QuietLemmas.may-end-quiet g) {s = s} (OwnEvents.is_of_root task) (none-noted s rest.notes, rest.fresh))
happen-settles g (Bind name value) s a rest = settles _ (named-may g (registry.bind s.owner.names name (own_object g s value)) s (none-noted s rest.notes, rest.fresh))
happen-settles g (Rebind name value) s a rest = settles _ (named-may g (registry.rebind s.owner.names name (own_object g s value)) s (none-noted s rest.notes, rest.fresh))
happen-settles g (Unbind name) s a rest = settles _ (named-may g (registry.unbind s.owner.names name) s (none-noted s rest.notes, rest.fresh))
happen-settles g (Lookup peer name) s a rest = lookup-settles g peer name s rest
happen-settles g (Opened conn dialled) s a rest = settles _ (QuietLemmas.opened_keeps (QuietLemmas.may-end-quiet g) {s = s} conn dialled (none-noted s rest.notes, rest.fresh))
happen-settles g (Refused peer) s a rest = settles _ (QuietLemmas.refused_keeps (QuietLemmas.may-end-quiet g) {s = s} peer (none-noted s rest.notes, rest.fresh))
happen-settles g (Received conn m) s a rest = settles _ (received-may g (connection_at s conn) m s (none-noted s rest.notes, rest.fresh))
happen-settles g (Closed conn) s a rest = settles _ (QuietLemmas.end_connection_keeps (QuietLemmas.may-end-quiet g) {s = s} (by_unmarshal g) conn (none-noted s rest.notes, rest.fresh))
happen-settles g (ReadFailed conn) s a rest = settles _ (QuietLemmas.end_connection_keeps (QuietLemmas.may-end-quiet g) {s = s} (by_unmarshal g) conn (none-noted s rest.notes, rest.fresh))
happen-settles g (Bad conn) s a rest = settles _ (QuietLemmas.end_connection_keeps (QuietLemmas.may-end-quiet g) {s = s} (by_unmarshal g) conn (none-noted s rest.notes, rest.fresh))
happen-settles g (WriteFailed conn unsent) s a rest = settles _ (QuietLemmas.fail_write_keeps (QuietLemmas.may-end-quiet g) {s = s} conn unsent (none-noted s rest.notes, rest.fresh))
happen-settles g (Committed task k op) s a rest = absurd (true≢false (sym a))
happen-settles g (Parked task k) s a rest = park-settles g task k s rest
happen-settles g (GivenBack task k) s a rest = absurd (true≢false (sym a))
happen-settles g (Finished task k) s a rest = settles _ (QuietLemmas.finish_keeps (QuietLemmas.may-end-quiet g) {s = s} task k (none-noted s rest.notes, rest.fresh))
