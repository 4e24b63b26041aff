-- The names and the entries of a space are what its history makes of them.
use mathlib.Core.Path.{sym, ap, ◌∙◌}
use Rattle.std.specs.Prelude.{◌≡◌, refl, ℕ, Bool, true, false, List, [], ◌∷◌, Option, None, Some, Result, Ok, Err, fold, map, length, nat_le, nat_lt, if◌then◌else◌}
use Rattle.std.proofs.lemmas.Bool.{true≢false}
use Rattle.dgc_list.specs.History as owner
use Rattle.dgc_list.proofs.LawsLemmas.{own-remembered}
use Rattle.net_message.specs.declared.message.Message.{Message}
use Rattle.net_message.specs.declared.message.Message.TheVariants as message
use Rattle.sp_registry.specs.Bindings as registry
use Rattle.sp_registry.specs.declared.fault.RegistryFault.{RegistryFault}
use Rattle.sp_registry.specs.declared.registry.Binding.{Binding}
use Rattle.uuid.specs.declared.Uuid.{Uuid}
use Rattle.space_ids.specs.declared.ids.ObjId.{ObjId}
use Rattle.sp_rules.specs.Classes.{Setting}
use Rattle.sp_rules.specs.Events.{Event, Moment, Sweep, Root, RootAck, Bind, Rebind, Unbind, Lookup, Opened, Refused, Received, Closed, ReadFailed, Bad, WriteFailed, Committed, Parked, GivenBack, Finished}
use Rattle.sp_rules.specs.Frames
use Rattle.sp_rules.specs.Holders
use Rattle.sp_rules.specs.Laws.{tells_owner, leaves_owner, is_naming, unless_denied, named_by, NamesAreBound, told_from, told_on, is_short, told_by, told_after, EntriesAreTold}
use Rattle.sp_rules.specs.Lists.{each}
use Rattle.sp_rules.specs.Requests.{most_ids}
use Rattle.sp_rules.specs.OwnEvents
use Rattle.sp_rules.specs.Space
use Rattle.sp_rules.specs.State
use Rattle.sp_rules.specs.State.{State, Object, Owner, Connection, opening, connection_at}
use Rattle.sp_rules.proofs.Stable.{Core, IsFramed, IsStable, AllowsTelling, AllowsWithdrawal, on_keeps, finish_event_keeps, each_keeps, drop_keeps, send_keeps, release_keeps, close_keeps, receive_keeps}
use Rattle.sp_rules.proofs.OwnerLemmas.{events_leave_owners}

-- ---- names

abbrev HasNames : List Binding → State → Type 0
HasNames names t = t.owner.names ≡ names

names-framed : (names : List Binding) → IsFramed (HasNames names)
names-framed names = record { frame = λ s t e h. ap (λ (c : Core). c.owner.names) e ∙ h }

names-stable : (g : Setting) (names : List Binding) → IsStable g (HasNames names)
names-stable g names = record {
  framed = names-framed names;
  begins = λ s origin method arguments fuel h. h;
  counts = λ s h. h;
  ends = λ s id h. h;
  replies = λ s id t reply is h. h;
  commits = λ s id k t reply is h. h;
  waits = λ s id k t is h. h;
  goes_on = λ s id k t is h. h;
  makes = λ s class h. h;
  writes = λ s id slot value h. h;
}

telling : (names : List Binding) → AllowsTelling (HasNames names)
telling names = record { told = λ s call h. h }

withdrawal : (names : List Binding) → AllowsWithdrawal (HasNames names)
withdrawal names = record { gone = λ s ids h. h }

-- an event that is no change of names leaves them
left : (g : Setting) (e : Event) (s : State) → is_naming e ≡ false → (Space.on g e s).0.owner.names ≡ s.owner.names
left g e s no-naming = on_keeps (names-stable g s.owner.names) s e (λ f. telling s.owner.names) (λ n. absurd (true≢false (sym n ∙ no-naming))) (λ w. withdrawal s.owner.names) refl

set-names : (names : Result (List Binding) RegistryFault) (s : State) → (OwnEvents.set_names names s).owner.names ≡ unless_denied s.owner.names names
unfolding OwnEvents.set_names
set-names (Ok names) s = refl
set-names (Err why) s = refl

ended : (t : State) → (Space.finish_event true t).0.owner.names ≡ t.owner.names
ended t = finish_event_keeps (names-framed t.owner.names) {s = t} true refl

pub named : (g : Setting) (e : Event) (s : State) → (Space.on g e s).0.owner.names ≡ named_by g s e s.owner.names
unfolding Space.on Space.happen
named g (Bind name value) s = ended (OwnEvents.set_names (registry.bind s.owner.names name (Holders.own_object g s value)) s) ∙ set-names (registry.bind s.owner.names name (Holders.own_object g s value)) s
named g (Rebind name value) s = ended (OwnEvents.set_names (registry.rebind s.owner.names name (Holders.own_object g s value)) s) ∙ set-names (registry.rebind s.owner.names name (Holders.own_object g s value)) s
named g (Unbind name) s = ended (OwnEvents.set_names (registry.unbind s.owner.names name) s) ∙ set-names (registry.unbind s.owner.names name) s
named g (Moment moment) s = left g (Moment moment) s refl
named g Sweep s = left g Sweep s refl
named g (Root method arguments fuel) s = left g (Root method arguments fuel) s refl
named g (RootAck task) s = left g (RootAck task) s refl
named g (Lookup peer name) s = left g (Lookup peer name) s refl
named g (Opened conn dialled) s = left g (Opened conn dialled) s refl
named g (Refused peer) s = left g (Refused peer) s refl
named g (Received conn m) s = left g (Received conn m) s refl
named g (Closed conn) s = left g (Closed conn) s refl
named g (ReadFailed conn) s = left g (ReadFailed conn) s refl
named g (Bad conn) s = left g (Bad conn) s refl
named g (WriteFailed conn unsent) s = left g (WriteFailed conn unsent) s refl
named g (Committed task k op) s = left g (Committed task k op) s refl
named g (Parked task k) s = left g (Parked task k) s refl
named g (GivenBack task k) s = left g (GivenBack task k) s refl
named g (Finished task k) s = left g (Finished task k) s refl

pub names_are_bound : NamesAreBound
unfolding Space.state_of opening
names_are_bound g [] = refl
names_are_bound g (e ∷ h) = named g e (Space.state_of g h) ∙ ap (named_by g (Space.state_of g h) e) (names_are_bound g h)

-- ---- entries

abbrev HasEntries : List owner.Call → State → Type 0
HasEntries entries t = t.owner.entries ≡ entries

entries-framed : (entries : List owner.Call) → IsFramed (HasEntries entries)
entries-framed entries = record { frame = λ s t e h. ap (λ (c : Core). c.owner.entries) e ∙ h }

finished : (entries : List owner.Call) (t : State) → t.owner.entries ≡ entries → (Space.finish_event true t).0.owner.entries ≡ entries
finished entries t e = finish_event_keeps (entries-framed entries) {s = t} true e

kept : (g : Setting) (e : Event) (s : State) → leaves_owner e ≡ true → (Space.on g e s).0.owner.entries ≡ s.owner.entries
kept g e s leaves = ap (λ (o : Owner). o.entries) (events_leave_owners g e s leaves)

set-entries : (names : Result (List Binding) RegistryFault) (s : State) → (OwnEvents.set_names names s).owner.entries ≡ s.owner.entries
unfolding OwnEvents.set_names
set-entries (Ok names) s = refl
set-entries (Err why) s = refl

entries-stable : (g : Setting) (entries : List owner.Call) → IsStable g (HasEntries entries)
entries-stable g entries = record {
  framed = entries-framed entries;
  begins = λ s origin method arguments fuel h. h;
  counts = λ s h. h;
  ends = λ s id h. h;
  replies = λ s id t reply is h. h;
  commits = λ s id k t reply is h. h;
  waits = λ s id k t is h. h;
  goes_on = λ s id k t is h. h;
  makes = λ s class h. h;
  writes = λ s id slot value h. h;
}

-- a moment
moment-tells : (g : Setting) (moment : ℕ) (s : State) → (OwnEvents.on_moment g moment s).owner.entries ≡ told_by g s (Moment moment) s.owner.entries
unfolding OwnEvents.on_moment
moment-tells g moment s = pick (nat_lt moment s.moment)
  where
    calls : List owner.Call
    calls = owner.Moment moment ∷ s.owner.entries

    now : State
    now = record s {
      moment = moment;
      owner = record s.owner { entries = owner.Moment moment ∷ s.owner.entries };
      leases = Rattle.dgc_client.specs.Table.At moment ∷ s.leases;
    }

    pick : (b : Bool) → (if b then s else Frames.release g (OwnEvents.is_over_at moment) now).owner.entries ≡ (if b then s.owner.entries else calls)
    pick true = refl
    pick false = release_keeps (entries-stable g calls) {s = now} (OwnEvents.is_over_at moment) refl

-- a Sweep
forgets : (gone : List Object) (t : State) → (each (λ u id. State.tell_owner (owner.Forget id) u) (map (λ (o : Object). o.id) gone) t).owner.entries
    ≡ fold (λ calls (o : Object). owner.Forget o.id ∷ calls) t.owner.entries gone
unfolding each
forgets [] t = refl
forgets (o ∷ os) t = forgets os (State.tell_owner (owner.Forget o.id) t)

sweep-tells : (g : Setting) (s : State) → (OwnEvents.on_sweep g s).owner.entries ≡ told_by g s Sweep s.owner.entries
unfolding OwnEvents.on_sweep
sweep-tells g s = sweeps (OwnEvents.without_reason g s)
  where
    sweeps : (gone : List Object) → (OwnEvents.sweep_of g s gone).owner.entries ≡ fold (λ calls (o : Object). owner.Forget o.id ∷ calls) s.owner.entries gone
    sweeps [] = refl
    sweeps (o ∷ os) =
        let t : State = record s { store = State.Gone (map (λ (p : Object). p.id) (o ∷ os)) ∷ s.store } in
        let told : State = each (λ u id. State.tell_owner (owner.Forget id) u) (map (λ (p : Object). p.id) (o ∷ os)) t in
        let same : HasEntries told.owner.entries told = refl in
        each_keeps (entries-framed told.owner.entries) (λ u (p : Object). Holders.drop g (Rattle.sp_rules.specs.References.references_of (Holders.fields_of g s p)) u) (o ∷ os)
        (λ u p h. drop_keeps (entries-framed told.owner.entries) _ h) same
        ∙ forgets (o ∷ os) t

-- a frame
silent : (peer dialled : Option Uuid) (s : State) (m : Message) (calls : List owner.Call) → tells_owner m ≡ false → told_from peer dialled s m calls ≡ calls
silent None dialled s m calls no-tell = refl
silent (Some client) (Some peer) s m calls no-tell = refl
silent (Some client) None s (message.Hello version space digest) calls no-tell = refl
silent (Some client) None s (message.Call number object method fuel arguments) calls no-tell = refl
silent (Some client) None s (message.Returned number fuel value) calls no-tell = refl
silent (Some client) None s (message.Threw number class) calls no-tell = refl
silent (Some client) None s (message.Spent number) calls no-tell = refl
silent (Some client) None s (message.Ack number) calls no-tell = refl
silent (Some client) None s (message.Dirty sequence period objects) calls no-tell = absurd (true≢false no-tell)
silent (Some client) None s (message.Lease sequence period) calls no-tell = refl
silent (Some client) None s (message.Clean sequence strong objects) calls no-tell = absurd (true≢false no-tell)
silent (Some client) None s (message.Cleaned sequence) calls no-tell = refl
silent (Some client) None s (message.Lookup number name) calls no-tell = refl

row : ℕ → Option Uuid → Option Uuid → ℕ → ℕ → List Message → Connection
row number dialled peer version last sent = record { number = number; dialled = dialled; peer = peer; version = version; last = last; sent = sent }

-- what is told whether or not a frame is short enough
told-either : (b : Bool) {told calls : List owner.Call} → told ≡ calls → (if b then told else calls) ≡ calls
told-either true e = e
told-either false e = refl

closed : (g : Setting) (s : State) (class : Rattle.space_ids.specs.declared.ids.ClassId.ClassId) (conn : ℕ) → (Rattle.sp_rules.specs.Endings.close g class conn s).owner.entries ≡ s.owner.entries
closed g s class conn = close_keeps (entries-stable g s.owner.entries) {s = s} class conn refl

-- A dirty or clean call that is taken is told; one of too many ids is not, and closes the connection.
took-or-closed : (g : Setting) (s t : State) (number : ℕ) (calls : List owner.Call) (b : Bool) → t.owner.entries ≡ calls
    → (if b then t else Rattle.sp_rules.specs.Endings.close g g.classes.unmarshal number s).owner.entries ≡ (if b then calls else s.owner.entries)
took-or-closed g s t number calls true e = e
took-or-closed g s t number calls false e = closed g s _ number

dirty-tells : (g : Setting) (s : State) (number version last : ℕ) (dialled peer : Option Uuid) (sent : List Message) (sequence period : ℕ) (ids : List ObjId)
    → (Frames.receive g (row number dialled peer version last sent) (message.Dirty sequence period ids) s).owner.entries
    ≡ told_on s (Some (row number dialled peer version last sent)) (message.Dirty sequence period ids) s.owner.entries
unfolding Frames.receive Frames.first_frame Frames.got Frames.got_dirty row
dirty-tells g s number version last dialled None sent sequence period ids = closed g s _ number ∙ sym (told-either (nat_le (length ids) (most_ids version)) refl)
dirty-tells g s number version last (Some to) (Some client) sent sequence period ids = closed g s _ number ∙ sym (told-either (nat_le (length ids) (most_ids version)) refl)
dirty-tells g s number version last None (Some client) sent sequence period ids = took-or-closed g s _ number _ (nat_le (length ids) (most_ids version)) (send_keeps (entries-framed _) _ number _ refl)

clean-tells : (g : Setting) (s : State) (number version last : ℕ) (dialled peer : Option Uuid) (sent : List Message) (sequence : ℕ) (strong : Bool) (ids : List ObjId)
    → (Frames.receive g (row number dialled peer version last sent) (message.Clean sequence strong ids) s).owner.entries
    ≡ told_on s (Some (row number dialled peer version last sent)) (message.Clean sequence strong ids) s.owner.entries
unfolding Frames.receive Frames.first_frame Frames.got Frames.got_clean row
clean-tells g s number version last dialled None sent sequence strong ids = closed g s _ number ∙ sym (told-either (nat_le (length ids) (most_ids version)) refl)
clean-tells g s number version last (Some to) (Some client) sent sequence strong ids = closed g s _ number ∙ sym (told-either (nat_le (length ids) (most_ids version)) refl)
clean-tells g s number version last None (Some client) sent sequence strong ids = took-or-closed g s _ number _ (nat_le (length ids) (most_ids version)) (send_keeps (entries-framed _) _ number _ refl)

quiet : (g : Setting) (s : State) (c : Connection) (m : Message) → tells_owner m ≡ false → (Frames.receive g c m s).owner.entries ≡ told_on s (Some c) m s.owner.entries
quiet g s c m no-tell =
    receive_keeps (entries-stable g s.owner.entries) {s = s} c m (λ t. absurd (true≢false (sym t ∙ no-tell))) refl
    ∙ sym (told-either (is_short c m) (silent c.peer c.dialled s m s.owner.entries no-tell))

receive-tells : (g : Setting) (s : State) (c : Connection) (m : Message) → (Frames.receive g c m s).owner.entries ≡ told_on s (Some c) m s.owner.entries
unfolding row
receive-tells g s c (message.Dirty sequence period ids) = dirty-tells g s c.number c.version c.last c.dialled c.peer c.sent sequence period ids
receive-tells g s c (message.Clean sequence strong ids) = clean-tells g s c.number c.version c.last c.dialled c.peer c.sent sequence strong ids
receive-tells g s c (message.Hello version space digest) = quiet g s c (message.Hello version space digest) refl
receive-tells g s c (message.Call number object method fuel arguments) = quiet g s c (message.Call number object method fuel arguments) refl
receive-tells g s c (message.Returned number fuel value) = quiet g s c (message.Returned number fuel value) refl
receive-tells g s c (message.Threw number class) = quiet g s c (message.Threw number class) refl
receive-tells g s c (message.Spent number) = quiet g s c (message.Spent number) refl
receive-tells g s c (message.Ack number) = quiet g s c (message.Ack number) refl
receive-tells g s c (message.Lease sequence period) = quiet g s c (message.Lease sequence period) refl
receive-tells g s c (message.Cleaned sequence) = quiet g s c (message.Cleaned sequence) refl
receive-tells g s c (message.Lookup number name) = quiet g s c (message.Lookup number name) refl

received-tells : (g : Setting) (s : State) (c : Option Connection) (m : Message) → (OwnEvents.received_on g c m s).owner.entries ≡ told_on s c m s.owner.entries
received-tells g s None m = refl
received-tells g s (Some c) m = receive-tells g s c m

pub tells : (g : Setting) (e : Event) (s : State) → (Space.on g e s).0.owner.entries ≡ told_by g s e s.owner.entries
unfolding Space.on Space.happen
tells g (Moment moment) s = finished _ (OwnEvents.on_moment g moment s) (moment-tells g moment s)
tells g Sweep s = finished _ (OwnEvents.on_sweep g s) (sweep-tells g s)
tells g (Received conn m) s = finished _ (OwnEvents.received_on g (connection_at s conn) m s) (received-tells g s (connection_at s conn) m)
tells g (Bind name value) s = finished _ (OwnEvents.set_names (registry.bind s.owner.names name (Holders.own_object g s value)) s) (set-entries _ s)
tells g (Rebind name value) s = finished _ (OwnEvents.set_names (registry.rebind s.owner.names name (Holders.own_object g s value)) s) (set-entries _ s)
tells g (Unbind name) s = finished _ (OwnEvents.set_names (registry.unbind s.owner.names name) s) (set-entries _ s)
tells g (Root method arguments fuel) s = kept g (Root method arguments fuel) s refl
tells g (RootAck task) s = kept g (RootAck task) s refl
tells g (Lookup peer name) s = kept g (Lookup peer name) s refl
tells g (Opened conn dialled) s = kept g (Opened conn dialled) s refl
tells g (Refused peer) s = kept g (Refused peer) s refl
tells g (Closed conn) s = kept g (Closed conn) s refl
tells g (ReadFailed conn) s = kept g (ReadFailed conn) s refl
tells g (Bad conn) s = kept g (Bad conn) s refl
tells g (WriteFailed conn unsent) s = kept g (WriteFailed conn unsent) s refl
tells g (Committed task k op) s = kept g (Committed task k op) s refl
tells g (Parked task k) s = kept g (Parked task k) s refl
tells g (GivenBack task k) s = kept g (GivenBack task k) s refl
tells g (Finished task k) s = kept g (Finished task k) s refl

told-all : (g : Setting) (h : List Event) → (Space.state_of g h).owner.entries ≡ told_after g h
unfolding Space.state_of opening
told-all g [] = refl
told-all g (e ∷ h) = tells g e (Space.state_of g h) ∙ ap (told_by g (Space.state_of g h) e) (told-all g h)

pub entries_are_told : EntriesAreTold
entries_are_told g h client o = ap (λ calls. owner.remembered_of calls client o) (told-all g h) ∙ own-remembered (told_after g h) client o
