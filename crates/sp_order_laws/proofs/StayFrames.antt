-- Requests that stay, through the frames that come and all events; and which frames close a connection.
use mathlib.Core.Path.{sym, subst, ◌∙◌}
use Rattle.std.proofs.Common.{inl, inr}
use Rattle.std.proofs.lemmas.Bool.{eqb-true, eq-eqb}
use Rattle.std.specs.List.{list_any}
use Rattle.std.specs.Str.{bytes_eq}
use Rattle.std.specs.Prelude.{◌≡◌, ◌⊎◌, refl, ℕ, ◌==◌, ◌&&◌, ◌||◌, not, nat_le, is_some, is_none, Bool, true, false, List, Option, None, Some, find, if◌then◌else◌}
use Rattle.space_ids.specs.declared.ids.ClassId.{ClassId}
use Rattle.space_ids.specs.declared.ids.ObjId.{ObjId}
use Rattle.space_ids.specs.declared.value.Value.TheVariants as values
use Rattle.space_ids.specs.declared.value.Value.{Value}
use Rattle.uuid.specs.declared.Uuid.{Uuid}
use Rattle.dgc_client.specs.History as lease_events
use Rattle.net_message.specs.declared.message.Message.TheVariants as message
use Rattle.net_message.specs.declared.message.Message.{Message}
use Rattle.sp_registry.specs.Bindings as registry
use Rattle.sp_rules.specs.Behaviours.{Reply, Throws}
use Rattle.sp_rules.specs.Classes.{Setting, fit_kinds}
use Rattle.sp_rules.specs.Endings
use Rattle.sp_rules.specs.Events.{Replies, Event, Moment, Sweep, Root, RootAck, Bind, Rebind, Unbind, Lookup, Opened, Refused, Received, Closed, ReadFailed, Bad, WriteFailed, Committed, Parked, GivenBack, Finished, Close}
use Rattle.sp_rules.specs.Frames
use Rattle.sp_rules.specs.Holders
use Rattle.sp_rules.specs.Lists.{with_some}
use Rattle.sp_rules.specs.OwnEvents
use Rattle.sp_rules.specs.ParkedFrames
use Rattle.sp_rules.specs.References.{references_of, references_in}
use Rattle.sp_rules.specs.Requests
use Rattle.sp_rules.specs.Space
use Rattle.sp_rules.specs.State as state
use Rattle.sp_rules.specs.State.{State, Object, OfRoot, Request, Asked, Calls, LooksUp, Tells, Connection, CallFrame, ReturnedFrame, connection_at, is_open, send}
use Rattle.sp_rules.proofs.AllLemmas.{all-weaken, found-is}
use Rattle.sp_laws.proofs.ShutLemmas.{connection-ends, redial-shuts}
use Rattle.sp_order_laws.proofs.RisingMoves.{IsSaid}
use Rattle.sp_order_laws.specs.Asked.{AnswersNone}
use Rattle.sp_order_laws.specs.Welcome.{is_welcome_first, is_welcome_later, is_welcome}
use Rattle.sp_order_laws.proofs.StayMoves.{Aim, P, Spares, SparesTold, fewer_s, told-none, first_s, answered_s}
use Rattle.sp_order_laws.proofs.StayRules.{if_s, some_s, send_s, send_may, add_task_s, keep_s, reply_to_s, commit_s, give_back_s, park_s, finish_s, calls_go_s, go_all_s, park_frame_s, end_connection_s, flush_s, release_s, moment_s, sweep_s, names_s, lookup_s, redial_s, say_hello_s, opened_s, refused_s}

-- ---- closing

-- What is kept stays, or the frame was not welcome and its connection, which is this one, is not open.
abbrev pub Ends : Aim → ℕ → Bool → State → Type 0
Ends A n welcome t = P A t ⊎ ((welcome ≡ false) × ((n ≡ A.conn) × (is_open t A.conn ≡ false)))

pub ended_s : {A : Aim} {s : State} (g : Setting) (why : Asked → ClassId) (n : ℕ) → P A s → P A (Endings.end_connection g why n s) ⊎ ((n ≡ A.conn) × (is_open (Endings.end_connection g why n s) A.conn ≡ false))
ended_s {A} {s} g why n h = by (n == A.conn) refl
  where
    by : (b : Bool) → (n == A.conn) ≡ b → P A (Endings.end_connection g why n s) ⊎ ((n ≡ A.conn) × (is_open (Endings.end_connection g why n s) A.conn ≡ false))
    by true e = let same : n ≡ A.conn = eqb-true n A.conn e in inr (same, subst (λ x. is_open (Endings.end_connection g why n s) x ≡ false) same (connection-ends g why n s))
    by false e = inl (end_connection_s g why n e h)

close_s : {A : Aim} {s : State} (g : Setting) (class : ClassId) (n : ℕ) (welcome : Bool) → welcome ≡ false → P A s → Ends A n welcome (Endings.close g class n s)
unfolding Endings.close
close_s {A} {s} g class n welcome not-so h = by (ended_s g (λ asked. class) n h)
  where
    by : P A (Endings.end_connection g (λ asked. class) n s) ⊎ ((n ≡ A.conn) × (is_open (Endings.end_connection g (λ asked. class) n s) A.conn ≡ false)) → Ends A n welcome (state.say (Close n) (Endings.end_connection g (λ asked. class) n s))
    by (inl k) = inl (Rattle.sp_order_laws.proofs.StayRules.says_s (Close n) refl k)
    by (inr k) = inr (not-so, k)

-- ---- frames that come

first_frame_s : {A : Aim} {s : State} (g : Setting) (c : Connection) (m : Message) → P A s → Ends A c.number (is_welcome_first g c m) (Frames.first_frame g c m s)
unfolding Frames.first_frame
first_frame_s {A} {s} g c (message.Hello version space digest) h = by c.dialled
  where
    greeted : P A (Frames.greeted space c.number s)
    greeted = record { stays = first_s c.number (λ (d : Connection). record d { peer = Some space }) (λ d. refl) h.stays }

    redialled : (peer : Uuid) → Ends A c.number false (Endings.redial peer c.number s)
    redialled peer = by (c.number == A.conn) refl
      where
        by : (b : Bool) → (c.number == A.conn) ≡ b → Ends A c.number false (Endings.redial peer c.number s)
        by true e = let same : c.number ≡ A.conn = eqb-true c.number A.conn e in inr (refl, (same, subst (λ x. is_open (Endings.redial peer c.number s) x ≡ false) same (redial-shuts g peer c.number s)))
        by false e = inl (redial_s peer c.number e h)

    by : (o : Option Uuid) → Ends A c.number (with_some o (bytes_eq digest g.digest && nat_le version g.version) (λ peer. bytes_eq digest g.digest && bytes_eq space peer && version == c.version))
        (with_some o (if bytes_eq digest g.digest && nat_le version g.version then Frames.answer_hello g version c.number (Frames.greeted space c.number s) else Endings.close g g.classes.unmarshal c.number s)
        (λ peer. if bytes_eq digest g.digest && bytes_eq space peer then Frames.answered_hello g c peer version space s else Endings.close g g.classes.connect c.number s))
    by None = pick (bytes_eq digest g.digest && nat_le version g.version)
      where
        pick : (b : Bool) → Ends A c.number b (if b then Frames.answer_hello g version c.number (Frames.greeted space c.number s) else Endings.close g g.classes.unmarshal c.number s)
        pick true = inl (if_s (nat_le 2 g.version) (say_hello_s g _ c.number greeted) greeted)
        pick false = close_s g g.classes.unmarshal c.number false refl h
    by (Some peer) = pick (bytes_eq digest g.digest) (bytes_eq space peer) (version == c.version) (nat_le 2 c.version && version == 1)
      where
        -- of the digest, of the peer, of the version, of a peer of version 1 alone
        pick : (a b v r : Bool) → Ends A c.number (a && b && v) (if a && b then (if v then Requests.flush_waiting peer c.number (Frames.greeted space c.number s) else (if r then Endings.redial peer c.number s else Endings.close g g.classes.unmarshal c.number s)) else Endings.close g g.classes.connect c.number s)
        pick true true true r = inl (flush_s peer c.number greeted)
        pick true true false true = redialled peer
        pick true true false false = close_s g g.classes.unmarshal c.number false refl h
        pick true false v r = close_s g g.classes.connect c.number false refl h
        pick false b v r = close_s g g.classes.connect c.number false refl h
first_frame_s g c (message.Call number object method fuel arguments) h = close_s g _ c.number false refl h
first_frame_s g c (message.Returned number fuel value) h = close_s g _ c.number false refl h
first_frame_s g c (message.Threw number class) h = close_s g _ c.number false refl h
first_frame_s g c (message.Spent number) h = close_s g _ c.number false refl h
first_frame_s g c (message.Ack number) h = close_s g _ c.number false refl h
first_frame_s g c (message.Dirty sequence period objects) h = close_s g _ c.number false refl h
first_frame_s g c (message.Lease sequence period) h = close_s g _ c.number false refl h
first_frame_s g c (message.Clean sequence strong objects) h = close_s g _ c.number false refl h
first_frame_s g c (message.Cleaned sequence) h = close_s g _ c.number false refl h
first_frame_s g c (message.Lookup number name) h = close_s g _ c.number false refl h

counted_s : {A : Aim} {s : State} (n number : ℕ) → P A s → P A (Frames.counted n number s)
counted_s n number h = record { stays = first_s n (λ (c : Connection). record c { last = number }) (λ c. refl) h.stays }

-- what is known of the answer to a dirty or clean call, and of a frame as it is parked
abbrev pub MayTell : Aim → ℕ → Message → Type 0
MayTell A n (message.Dirty sequence period objects) = A.May n (message.Lease sequence (Rattle.std.specs.Prelude.min period 600000))
MayTell A n (message.Clean sequence strong objects) = A.May n (message.Cleaned sequence)
MayTell A n (message.Call number target method fuel arguments) = (id : ObjId) (references : List Rattle.space_ids.specs.declared.ids.ForeignId.ForeignId) → Rattle.sp_rules.specs.References.is_id id target ≡ true → A.Frame (record { conn = n; number = number; frame = CallFrame id method fuel arguments; references = references })
MayTell A n (message.Returned number fuel value) = (references : List Rattle.space_ids.specs.declared.ids.ForeignId.ForeignId) → A.Frame (record { conn = n; number = number; frame = ReturnedFrame value fuel; references = references })
MayTell A n _ = Unit {0}

call_on_s : {A : Aim} {s : State} (g : Setting) (conn number : ℕ) (o : Option Object) (method fuel : ℕ) (arguments : List Value) → ((x : Object) → o ≡ Some x → (references : List Rattle.space_ids.specs.declared.ids.ForeignId.ForeignId) → A.Frame (record { conn = conn; number = number; frame = CallFrame x.id method fuel arguments; references = references })) → P A s
    → P A (Frames.call_on g conn number o method fuel arguments s)
call_on_s g conn number None method fuel arguments comes h = send_s _ conn _ refl refl h
call_on_s {A} {s} g conn number (Some o) method fuel arguments comes h = if_s (not (g.classes.may_call o.class method) || (not (fit_kinds (g.classes.parameters method) arguments) || list_any (Holders.is_refused g s) (references_of arguments))) (send_s _ conn _ refl refl h)
    (if_s (Frames.is_busy s) (send_s _ conn _ refl refl h) (park_frame_s g conn number (CallFrame o.id method fuel arguments) _ tt (comes o refl _) h))

got_call_s : {A : Aim} {s : State} (g : Setting) (c : Connection) (number : ℕ) (target : ObjId) (method fuel : ℕ) (arguments : List Value) → MayTell A c.number (message.Call number target method fuel arguments) → P A s → Ends A c.number (not (nat_le number c.last)) (Frames.got_call g c number target method fuel arguments s)
unfolding Frames.got_call
got_call_s {A} {s} g c number target method fuel arguments comes h = pick (nat_le number c.last)
  where
    pick : (b : Bool) → Ends A c.number (not b) (if b then Endings.close g g.classes.unmarshal c.number s else Frames.call_on g c.number number (state.object_at s target) method fuel arguments (Frames.counted c.number number s))
    pick true = close_s g g.classes.unmarshal c.number false refl h
    pick false = inl (call_on_s g c.number number (state.object_at s target) method fuel arguments (λ x is references. comes x.id references (found-is (λ (o : Object). Rattle.sp_rules.specs.References.is_id o.id target) (state.standing s.store) x is)) (counted_s c.number number h))

found_s : {A : Aim} {s : State} (g : Setting) (conn number : ℕ) (o : Option Object) → P A s → P A (Frames.found g conn number o s)
found_s g conn number None h = send_s _ conn _ refl refl h
found_s g conn number (Some o) h = send_s _ conn _ refl refl (keep_s g (state.Acked conn number) (Some (values.Ref (record { space = g.id; id = o.id; class = o.class }))) h)

got_lookup_s : {A : Aim} {s : State} (g : Setting) (c : Connection) (number : ℕ) (name : List ℕ) → P A s → Ends A c.number (not (nat_le number c.last)) (Frames.got_lookup g c number name s)
unfolding Frames.got_lookup
got_lookup_s {A} {s} g c number name h = pick (nat_le number c.last)
  where
    pick : (b : Bool) → Ends A c.number (not b) (if b then Endings.close g g.classes.unmarshal c.number s else Frames.found g c.number number (Frames.object_of s (registry.lookup s.owner.names name)) (Frames.counted c.number number s))
    pick true = close_s g g.classes.unmarshal c.number false refl h
    pick false = inl (found_s g c.number number (Frames.object_of s (registry.lookup s.owner.names name)) (counted_s c.number number h))

got_ack_s : {A : Aim} {s : State} (g : Setting) (c : Connection) (number : ℕ) → P A s → Ends A c.number (list_any (Frames.is_acked_by c.number number) s.results) (Frames.got_ack g c number s)
unfolding Frames.got_ack
got_ack_s {A} {s} g c number h = pick (list_any (Frames.is_acked_by c.number number) s.results)
  where
    pick : (b : Bool) → Ends A c.number b (if b then Frames.release g (Frames.is_acked_by c.number number) s else Endings.close g g.classes.unmarshal c.number s)
    pick true = inl (release_s g _ h)
    pick false = close_s g g.classes.unmarshal c.number false refl h

returned_for_s : {A : Aim} {s : State} (g : Setting) (c : Connection) (number fuel : ℕ) (value : Option Value) (asked : Asked) → Spares A c.number number → MayTell A c.number (message.Returned number fuel value) → P A s → P A (Frames.returned_for g c number fuel value asked s)
returned_for_s {A} {s} g c number fuel value asked spares comes h = if_s (not (Frames.fits_asked asked value fuel) || list_any (Holders.is_refused g s) (references_in value))
    (reply_to_s g asked (Throws g.classes.unmarshal) (send_s _ c.number (message.Ack number) refl refl (calls_go_s c.number number spares h)))
    (park_frame_s g c.number number (ReturnedFrame value fuel) _ spares (comes _) (record { stays = answered_s c.number number h.stays }))

ends_as_s : {A : Aim} {s : State} (g : Setting) (c : Connection) (number : ℕ) (reply : Asked → Reply) (asked : Asked) → Spares A c.number number → P A s → P A (Frames.ends_as g c number reply asked s)
ends_as_s g c number reply asked spares h = reply_to_s g asked (reply asked) (calls_go_s c.number number spares h)

answered_by_s : {A : Aim} {s : State} (g : Setting) (c : Connection) (number : ℕ) (next : Asked → State → State) → ((asked : Asked) → P A (next asked s)) → P A s → Ends A c.number (is_some (find (ParkedFrames.is_asked_on c.number number) s.requests)) (Frames.answered_by g c number next s)
unfolding Frames.answered_by
answered_by_s {A} {s} g c number next k h = by (find (ParkedFrames.is_asked_on c.number number) s.requests)
  where
    by : (o : Option Request) → Ends A c.number (is_some o) (with_some o (Endings.close g g.classes.unmarshal c.number s) (λ r. next r.asked s))
    by None = close_s g g.classes.unmarshal c.number false refl h
    by (Some r) = inl (k r.asked)

told_by_s : {A : Aim} {s : State} (g : Setting) (c : Connection) (dirty : Bool) (sequence : ℕ) (event : ℕ → lease_events.Event) → SparesTold A c.number sequence → P A s → Ends A c.number (is_some (find (Frames.tells_on dirty c.number sequence) s.requests)) (Frames.told_by g c dirty sequence event s)
unfolding Frames.told_by
told_by_s {A} {s} g c dirty sequence event spares h = by (find (Frames.tells_on dirty c.number sequence) s.requests)
  where
    gone : P A (ParkedFrames.remove_requests (Frames.tells_on dirty c.number sequence) s)
    gone = record { stays = fewer_s (Frames.tells_on dirty c.number sequence) (all-weaken (λ (q : Request). IsSaid q.asked) _ s.requests (λ q said e. told-none A dirty c.number sequence spares q e) h.stays.said) h.stays }

    tells : (asked : Asked) → P A (Frames.group_told event asked (ParkedFrames.remove_requests (Frames.tells_on dirty c.number sequence) s))
    tells (Calls number task lent kind m) = gone
    tells (LooksUp number task name) = gone
    tells (Tells call group) = record { stays = gone.stays }

    by : (o : Option Request) → Ends A c.number (is_some o) (with_some o (Endings.close g g.classes.unmarshal c.number s) (λ r. ParkedFrames.go_all g (Frames.group_told event r.asked (ParkedFrames.remove_requests (Frames.tells_on dirty c.number sequence) s))))
    by None = close_s g g.classes.unmarshal c.number false refl h
    by (Some r) = inl (go_all_s g (tells r.asked))

-- the frame that comes is no answer to what is looked for, if it comes on this connection
abbrev pub ComesBeside : Aim → ℕ → Message → Type 0
ComesBeside A n m = (n == A.conn) ≡ true → AnswersNone A.is m

-- a dirty or clean call is answered if it fits, else the connection ends
fit_s : {A : Aim} {s t : State} (g : Setting) (c : Connection) (fits : Bool) → P A t → P A s → Ends A c.number fits (if fits then t else Endings.close g g.classes.unmarshal c.number s)
fit_s g c true told h = inl told
fit_s g c false told h = close_s g g.classes.unmarshal c.number false refl h

got_s : {A : Aim} {s : State} (g : Setting) (c : Connection) (m : Message) → ComesBeside A c.number m → MayTell A c.number m → P A s → Ends A c.number (is_welcome_later s c m) (Frames.got g c m s)
unfolding Frames.got Frames.got_dirty Frames.got_clean
got_s g c (message.Hello version space digest) beside tells h = close_s g _ c.number false refl h
got_s g c (message.Call number object method fuel arguments) beside tells h = got_call_s g c number object method fuel arguments tells h
got_s g c (message.Returned number fuel value) beside tells h = answered_by_s g c number _ (λ asked. returned_for_s g c number fuel value asked beside tells h) h
got_s g c (message.Threw number class) beside tells h = answered_by_s g c number _ (λ asked. ends_as_s g c number (λ a. Frames.thrown_reply g class) asked beside h) h
got_s g c (message.Spent number) beside tells h = answered_by_s g c number _ (λ asked. ends_as_s g c number (Frames.spent_reply g) asked beside h) h
got_s g c (message.Ack number) beside tells h = got_ack_s g c number h
got_s g c (message.Dirty sequence period objects) beside tells h = fit_s g c (Frames.fit_frame c objects) (send_may Replies c.number _ refl tells (record { stays = h.stays })) h
got_s g c (message.Lease sequence period) beside tells h = told_by_s g c true sequence (λ call. lease_events.DirtyAnswered call period) beside h
got_s g c (message.Clean sequence strong objects) beside tells h = fit_s g c (Frames.fit_frame c objects) (send_may Replies c.number _ refl tells (record { stays = h.stays })) h
got_s g c (message.Cleaned sequence) beside tells h = told_by_s g c false sequence lease_events.CleanAnswered beside h
got_s g c (message.Lookup number name) beside tells h = got_lookup_s g c number name h

pub receive_s : {A : Aim} {s : State} (g : Setting) (c : Connection) (m : Message) → ComesBeside A c.number m → MayTell A c.number m → P A s → Ends A c.number (is_welcome g s c m) (Frames.receive g c m s)
unfolding Frames.receive
receive_s {A} {s} g c m beside tells h = by (is_none c.peer)
  where
    way : (b : Bool) → Ends A c.number (not b && is_welcome_later s c m) (if b then Endings.close g g.classes.unmarshal c.number s else Frames.got g c m s)
    way true = close_s g g.classes.unmarshal c.number false refl h
    way false = got_s g c m beside tells h

    by : (b : Bool) → Ends A c.number (if b then is_welcome_first g c m else not (Frames.is_wrong_way (Frames.is_asking m) (is_some c.dialled)) && is_welcome_later s c m)
        (if b then Frames.first_frame g c m s else (if Frames.is_wrong_way (Frames.is_asking m) (is_some c.dialled) then Endings.close g g.classes.unmarshal c.number s else Frames.got g c m s))
    by true = first_frame_s g c m h
    by false = way (Frames.is_wrong_way (Frames.is_asking m) (is_some c.dialled))

-- ---- events

-- whether a frame comes with an event on a connection, or the event ends it
abbrev pub is_on : ℕ → Event → Bool
is_on conn (Received n m) = n == conn
is_on conn (Closed n) = n == conn
is_on conn (ReadFailed n) = n == conn
is_on conn (Bad n) = n == conn
is_on conn (WriteFailed n unsent) = n == conn
is_on conn _ = false

-- what an event may leave: what is kept, or the connection not open
abbrev pub Leaves : Aim → Event → State → Type 0
Leaves A e t = P A t ⊎ ((is_on A.conn e ≡ true) × (is_open t A.conn ≡ false))

abbrev pub is_opening : Event → Bool
is_opening (Opened conn dialled) = true
is_opening _ = false

-- the frame of an event is no answer to what is looked for
abbrev pub Beside : Aim → Event → Type 0
Beside A (Received n m) = ComesBeside A n m × MayTell A n m
Beside A _ = Unit {0}

ended : {A : Aim} {t : State} (e : Event) (n : ℕ) → (n ≡ A.conn → is_on A.conn e ≡ true) → P A t ⊎ ((n ≡ A.conn) × (is_open t A.conn ≡ false)) → Leaves A e t
ended e n on (inl k) = inl k
ended e n on (inr k) = inr (on k.0, k.1)

pub happen_s : {A : Aim} (g : Setting) (s : State) (e : Event) → Beside A e → ((conn : ℕ) (dialled : Option Uuid) → e ≡ Opened conn dialled → P A (OwnEvents.add_connection conn dialled s)) → (is_opening e ≡ false → P A s) → Leaves A e (Space.happen g e s)
unfolding Space.happen Endings.fail_write
happen_s {A} g s (Moment moment) beside opens h = inl (moment_s g moment (h refl))
happen_s {A} g s Sweep beside opens h = inl (sweep_s g (h refl))
happen_s {A} g s (Root method arguments fuel) beside opens h = inl (add_task_s g OfRoot method arguments fuel (h refl))
happen_s {A} g s (RootAck task) beside opens h = inl (release_s g _ (h refl))
happen_s {A} g s (Bind name value) beside opens h = inl (names_s _ (h refl))
happen_s {A} g s (Rebind name value) beside opens h = inl (names_s _ (h refl))
happen_s {A} g s (Unbind name) beside opens h = inl (names_s _ (h refl))
happen_s {A} g s (Lookup peer name) beside opens h = inl (lookup_s g peer name (h refl))
happen_s {A} g s (Opened conn dialled) beside opens h = inl (opened_s s g conn dialled (opens conn dialled refl))
happen_s {A} g s (Refused peer) beside opens h = inl (refused_s g peer (h refl))
happen_s {A} g s (Received n m) beside opens h = by (connection_at s n) refl
  where
    same : (c : Connection) → connection_at s n ≡ Some c → c.number ≡ n
    same c e = eqb-true c.number n (found-is (λ (d : Connection). d.number == n) s.connections c e)

    by : (o : Option Connection) → connection_at s n ≡ o → Leaves A (Received n m) (OwnEvents.received_on g o m s)
    by None e = inl (h refl)
    by (Some c) e = either (receive_s g c m (λ at. beside.0 (subst (λ x. (x == A.conn) ≡ true) (same c e) at)) (subst (λ x. MayTell A x m) (sym (same c e)) beside.1) (h refl))
      where
        either : Ends A c.number (is_welcome g s c m) (Frames.receive g c m s) → Leaves A (Received n m) (Frames.receive g c m s)
        either (inl k) = inl k
        either (inr k) = inr (eq-eqb n A.conn (sym (same c e) ∙ k.1.0), k.1.1)
happen_s {A} g s (Closed n) beside opens h = ended (Closed n) n (eq-eqb n A.conn) (ended_s g _ n (h refl))
happen_s {A} g s (ReadFailed n) beside opens h = ended (ReadFailed n) n (eq-eqb n A.conn) (ended_s g _ n (h refl))
happen_s {A} g s (Bad n) beside opens h = ended (Bad n) n (eq-eqb n A.conn) (ended_s g _ n (h refl))
happen_s {A} g s (WriteFailed n unsent) beside opens h = ended (WriteFailed n unsent) n (eq-eqb n A.conn) (ended_s g _ n (h refl))
happen_s {A} g s (Committed task k op) beside opens h = inl (commit_s g task k op (h refl))
happen_s {A} g s (Parked task k) beside opens h = inl (park_s g task k (h refl))
happen_s {A} g s (GivenBack task k) beside opens h = inl (give_back_s task k (h refl))
happen_s {A} g s (Finished task k) beside opens h = inl (finish_s g task k (h refl))
