-- Frames that come, and all events: what the moves keep, an event keeps.
use mathlib.Core.Path.{sym, ap, subst, ◌∙◌}
use Rattle.std.proofs.Common.{inl, inr}
use Rattle.std.proofs.lemmas.Bool.{true≢false, eqb-true}
use Rattle.std.specs.List.{list_any}
use Rattle.std.specs.Str.{bytes_eq}
use Rattle.std.specs.Prelude.{◌≡◌, ◌⊎◌, refl, ℕ, ◌==◌, ◌&&◌, ◌||◌, not, min, nat_le, nat_lt, is_some, is_none, Bool, true, false, List, [], ◌∷◌, Option, None, Some, Result, Ok, Err, find, fold, map, if◌then◌else◌}
use Rattle.dgc_client.specs.History as lease_events
use Rattle.dgc_client.specs.Table as client
use Rattle.space_ids.specs.declared.ids.ForeignId.{ForeignId}
use Rattle.net_message.specs.declared.message.Message.TheVariants as message
use Rattle.net_message.specs.declared.message.Message.{Message}
use Rattle.sp_registry.specs.Bindings as registry
use Rattle.sp_registry.specs.Names.{is_name}
use Rattle.sp_registry.specs.declared.fault.RegistryFault.{RegistryFault}
use Rattle.sp_registry.specs.declared.registry.Binding.{Binding}
use Rattle.uuid.specs.declared.Uuid.{Uuid}
use Rattle.space_ids.specs.declared.ids.ObjId.{ObjId}
use Rattle.space_ids.specs.declared.value.Value.TheVariants as values
use Rattle.space_ids.specs.declared.value.Value.{Value}
use Rattle.sp_rules.specs.Behaviours.{Reply, Throws}
use Rattle.sp_rules.specs.Classes.{fit_kinds}
use Rattle.sp_rules.specs.Endings
use Rattle.sp_rules.specs.Events.{Started, Ended, Hellos, Replies, Acks, Event, Moment, Sweep, Root, RootAck, Bind, Rebind, Unbind, Lookup, Opened, Refused, Received, Closed, ReadFailed, Bad, WriteFailed, Committed, Parked, GivenBack, Finished, Output, Withdrawn, Denied, Send, Dial, Close, Ready}
use Rattle.sp_rules.specs.Frames
use Rattle.sp_rules.specs.Holders
use Rattle.sp_rules.specs.Holders.{hold_ids, drop_ids}
use Rattle.sp_rules.specs.Lists.{with_some}
use Rattle.sp_rules.specs.LivingTasks.{reply_to}
use Rattle.sp_rules.specs.OwnEvents
use Rattle.sp_rules.specs.ParkedFrames
use Rattle.sp_rules.specs.References.{references_of, references_in, foreign_ids}
use Rattle.sp_rules.specs.Requests
use Rattle.sp_rules.specs.Space
use Rattle.sp_rules.specs.State as state
use Rattle.sp_rules.specs.State.{State, Object, Living, Origin, OfRoot, OfCall, Until, Request, Asked, Calls, LooksUp, Tells, Connection, KeptResult, Frame, CallFrame, ReturnedFrame, ParkedFrame, task_at, ready_at, object_at, connection_at, connection_to, is_open, set_task, say, send}
use Rattle.sp_rules.proofs.AllLemmas.{found-is, all-found}
use Rattle.sp_rules.proofs.OwnLemmas.{some-same, and-left}
use Rattle.sp_laws.proofs.FlowRules.{Owed, Removed, Inbound}
use Rattle.sp_laws.proofs.FrameFlows.{HasComeOn, IsVersionOf, AnswersHello, View, IsReleased, is_finish, is_ending, is_storing, is_unreached, is_unwritten, ending-apart, Flows, IsWhoWasDialled, Begins, if_flow, some_flow, each_flow, send_flow, drop_flow}
use Rattle.sp_laws.proofs.FrameSteps.{flush_flow, settle_flow, add_task_flow, keep_flow, keep-held, reply_to_flow, commit_flow, give_back_flow, park_flow, finish_flow, both-right, go_all_flow, park_call_flow, park_result_flow, end_requests_flow, end_connection_flow, close_flow, redial_flow, refused}

-- ---- frames that come

-- the space says Hello, if it may
pub say_hello_flow : {V : View} (F : Flows V) {l : List Owed} {s : State} (version conn : ℕ) → IsVersionOf V s conn version → ((dialled : Option Uuid) × (V.event ≡ Opened conn dialled)) ⊎ AnswersHello V.setting V.event V.Dialled conn → V.Keeps l s → V.Keeps l (Frames.say_hello V.setting version conn s)
say_hello_flow {V} F {l} {s} version conn is may h =
    let speaks : V.Speaks conn version = F.speaks l s conn version is h in
    F.versions l (send Hellos conn (message.Hello version V.setting.id V.setting.digest) s) conn version speaks (send_flow F Hellos conn (message.Hello version V.setting.id V.setting.digest) (speaks, may) tt h)

-- what is known as a first frame comes: it is the event's, and the connection's row has no peer yet
pub first_flow : {V : View} (F : Flows V) {s : State} (c : Connection) (m : Message) → V.event ≡ Received c.number m → Begins V s → connection_at s c.number ≡ Some c → is_none c.peer ≡ true → V.Keeps [] s → V.Keeps [] (Frames.first_frame V.setting c m s)
unfolding Frames.first_frame
first_flow {V} F {s} c (message.Hello version space digest) same B row none h = by c.dialled refl
  where
    may : V.Fails V.setting.classes.unmarshal
    may = B.unmarshal (ap is_ending same)

    welcome : (o : Option Uuid) → c.dialled ≡ o → bytes_eq digest V.setting.digest ≡ true → IsWhoWasDialled o space → V.Keeps [] (Frames.greeted space c.number s) × V.Dialled c.number (is_some c.dialled)
    welcome o e d who = B.greets c version space digest same row none d (subst (λ x. IsWhoWasDialled x space) (sym e) who) h

    by : (o : Option Uuid) → c.dialled ≡ o
        → V.Keeps [] (with_some o (if bytes_eq digest V.setting.digest && nat_le version V.setting.version then Frames.answer_hello V.setting version c.number (Frames.greeted space c.number s) else Endings.close V.setting V.setting.classes.unmarshal c.number s)
        (λ peer. if bytes_eq digest V.setting.digest && bytes_eq space peer then Frames.answered_hello V.setting c peer version space s else Endings.close V.setting V.setting.classes.connect c.number s))
    by None e = pick (bytes_eq digest V.setting.digest && nat_le version V.setting.version) refl
      where
        answer : V.Keeps [] (Frames.greeted space c.number s) × V.Dialled c.number (is_some c.dialled) → V.Keeps [] (Frames.answer_hello V.setting version c.number (Frames.greeted space c.number s))
        answer x = either (nat_le 2 V.setting.version) refl
          where
            either : (b : Bool) → nat_le 2 V.setting.version ≡ b
                → V.Keeps [] (if b then Frames.say_hello V.setting (min version V.setting.version) c.number (Frames.greeted space c.number s) else Frames.greeted space c.number s)
            either true late =
                let a : AnswersHello V.setting V.event V.Dialled c.number = record { version = version; space = space; digest = digest; came = same; way = subst (V.Dialled c.number) (ap is_some e) x.1; late = late } in
                say_hello_flow F (min version V.setting.version) c.number (inr (inr (a, refl))) (inr a) x.0
            either false late = x.0

        pick : (b : Bool) → bytes_eq digest V.setting.digest && nat_le version V.setting.version ≡ b
            → V.Keeps [] (if b then Frames.answer_hello V.setting version c.number (Frames.greeted space c.number s) else Endings.close V.setting V.setting.classes.unmarshal c.number s)
        pick true d = answer (welcome None e (and-left (bytes_eq digest V.setting.digest) (nat_le version V.setting.version) d) tt)
        pick false d = close_flow F _ c.number (message.Hello version space digest, same) may may h
    by (Some peer) e = pick (bytes_eq digest V.setting.digest && bytes_eq space peer) refl
      where
        lower : (b : Bool) → nat_le 2 c.version && version == 1 ≡ b → V.Keeps [] (if b then Endings.redial peer c.number s else Endings.close V.setting V.setting.classes.unmarshal c.number s)
        lower true d = redial_flow F peer c.number c space digest
            (subst (λ n. V.event ≡ Received c.number (message.Hello n space digest)) (eqb-true version 1 (both-right (nat_le 2 c.version) (version == 1) d)) same) (and-left (nat_le 2 c.version) (version == 1) d) may row h
        lower false d = close_flow F _ c.number (message.Hello version space digest, same) may may h

        answered : bytes_eq digest V.setting.digest && bytes_eq space peer ≡ true → V.Keeps [] (Frames.answered_hello V.setting c peer version space s)
        answered d =
            let x = welcome (Some peer) e (and-left (bytes_eq digest V.setting.digest) (bytes_eq space peer) d) (both-right (bytes_eq digest V.setting.digest) (bytes_eq space peer) d) in
            if_flow F (version == c.version) (flush_flow F peer c.number (subst (V.Dialled c.number) (ap is_some e) x.1) x.0)
            (lower (nat_le 2 c.version && version == 1) refl)

        pick : (b : Bool) → bytes_eq digest V.setting.digest && bytes_eq space peer ≡ b → V.Keeps [] (if b then Frames.answered_hello V.setting c peer version space s else Endings.close V.setting V.setting.classes.connect c.number s)
        pick true d = answered d
        pick false d = close_flow F _ c.number (message.Hello version space digest, same) may (B.connect (ap is_unreached same)) h
first_flow F c m same B row none h = close_flow F _ c.number (m, same) (B.unmarshal (ap is_ending same)) (B.unmarshal (ap is_ending same)) h

-- what is known of a call that passes the tests of its method, its arguments and the references among them
abbrev pub CallComes : View → State → ObjId → Type 0
CallComes V s target = (p : ParkedFrame) (o : Object) (method fuel : ℕ) (arguments : List Value) → p.frame ≡ CallFrame o.id method fuel arguments → V.Dialled p.conn false → object_at s target ≡ Some o → V.setting.classes.may_call o.class method ≡ true → fit_kinds (V.setting.classes.parameters method) arguments ≡ true
    → list_any (Holders.is_refused V.setting s) (references_of arguments) ≡ false → V.Known p

pub call_of_flow : {V : View} (F : Flows V) {l : List Owed} {s : State} (conn number : ℕ) (target : ObjId) (o : Object) (method fuel : ℕ) (arguments : List Value) → is_ending V.event ≡ true → CallComes V s target → V.Dialled conn false → object_at s target ≡ Some o → V.Keeps (Inbound conn number ∷ l) s → V.Keeps l (Frames.call_of V.setting conn number o method fuel arguments s)
call_of_flow {V} F {l} {s} conn number target o method fuel arguments going comes there is h =
    by (V.setting.classes.may_call o.class method) refl (fit_kinds (V.setting.classes.parameters method) arguments) refl (list_any (Holders.is_refused V.setting s) (references_of arguments)) refl
  where
    threw : V.Keeps l (ParkedFrames.answer_threw conn number V.setting.classes.unmarshal s)
    threw = send_flow F _ conn _ (there, refused F going conn number _ (inr (inl refl))) tt (F.falls l s conn number h)

    by : (a : Bool) → V.setting.classes.may_call o.class method ≡ a → (b : Bool) → fit_kinds (V.setting.classes.parameters method) arguments ≡ b → (c : Bool) → list_any (Holders.is_refused V.setting s) (references_of arguments) ≡ c
        → V.Keeps l (if not a || (not b || c) then ParkedFrames.answer_threw conn number V.setting.classes.unmarshal s
        else (if Frames.is_busy s then ParkedFrames.answer_threw conn number V.setting.classes.server_error s
        else ParkedFrames.park_frame V.setting conn number (CallFrame o.id method fuel arguments) (fold client.with_reference [] (foreign_ids V.setting.id (references_of arguments))) s))
    by true a true b false c = if_flow F (Frames.is_busy s) (send_flow F _ conn _ (there, refused F going conn number _ (inr (inr refl))) tt (F.falls l s conn number h))
        (park_call_flow F conn number o.id method fuel arguments _ going (comes _ o method fuel arguments refl there is a b c) h)
    by true a true b true c = threw
    by true a false b c d = threw
    by false a b c d e = threw

pub found_flow : {V : View} (F : Flows V) {l : List Owed} {s : State} (conn number : ℕ) (name : List ℕ) (o : Option Object) → V.event ≡ Received conn (message.Lookup number name) → V.Dialled conn false → V.Keeps (Inbound conn number ∷ l) s → V.Keeps l (Frames.found V.setting conn number o s)
found_flow {V} F {l} {s} conn number name None same there h = send_flow F _ conn _ (there, F.refuses conn number _ (record { apart = ending-apart V.event (ap is_ending same); why = inr (record { name = name; came = same; class_is = refl }) })) tt (F.falls l s conn number h)
found_flow {V} F {l} {s} conn number name (Some o) same there h = send_flow F _ conn _ (there, F.finds conn number name (record { space = V.setting.id; id = o.id; class = o.class }) same refl)
    (keep-held V.setting conn number (Some (values.Ref (record { space = V.setting.id; id = o.id; class = o.class }))) s) (keep_flow F (state.Acked conn number) (Some (values.Ref (record { space = V.setting.id; id = o.id; class = o.class }))) h)

pub got_call_flow : {V : View} (F : Flows V) {l : List Owed} {s : State} (c : Connection) (number : ℕ) (target : ObjId) (method fuel : ℕ) (arguments : List Value) → HasComeOn V c.number → is_ending V.event ≡ true → CallComes V s target → V.Fails V.setting.classes.unmarshal → V.Dialled c.number false → connection_at s c.number ≡ Some c → V.Keeps l s → V.Keeps l (Frames.got_call V.setting c number target method fuel arguments s)
unfolding Frames.got_call
got_call_flow {V} F {l} {s} c number target method fuel arguments came going comes may there is h = pick (nat_le number c.last) refl
  where
    on : nat_le number c.last ≡ false → (o : Option Object) → object_at s target ≡ o → V.Keeps l (Frames.call_on V.setting c.number number o method fuel arguments (Frames.counted c.number number s))
    on e None stands = send_flow F Replies c.number (message.Threw number V.setting.classes.no_such_object) (there, refused F going c.number number _ (inl refl)) tt (F.falls l _ c.number number (F.counts l s c.number number c there is e h))
    on e (Some o) stands = call_of_flow F c.number number target o method fuel arguments going comes there stands (F.counts l s c.number number c there is e h)

    pick : (b : Bool) → nat_le number c.last ≡ b → V.Keeps l (if b then Endings.close V.setting V.setting.classes.unmarshal c.number s else Frames.call_on V.setting c.number number (object_at s target) method fuel arguments (Frames.counted c.number number s))
    pick true e = close_flow F _ c.number came may may h
    pick false e = on e (object_at s target) refl

pub got_lookup_flow : {V : View} (F : Flows V) {l : List Owed} {s : State} (c : Connection) (number : ℕ) (name : List ℕ) → V.event ≡ Received c.number (message.Lookup number name) → V.Fails V.setting.classes.unmarshal → V.Dialled c.number false → connection_at s c.number ≡ Some c → V.Keeps l s → V.Keeps l (Frames.got_lookup V.setting c number name s)
unfolding Frames.got_lookup
got_lookup_flow {V} F {l} {s} c number name same may there is h = pick (nat_le number c.last) refl
  where
    pick : (b : Bool) → nat_le number c.last ≡ b → V.Keeps l (if b then Endings.close V.setting V.setting.classes.unmarshal c.number s else Frames.found V.setting c.number number (Frames.object_of s (registry.lookup s.owner.names name)) (Frames.counted c.number number s))
    pick true e = close_flow F _ c.number (message.Lookup number name, same) may may h
    pick false e = found_flow F c.number number name (Frames.object_of s (registry.lookup s.owner.names name)) same there (F.counts l s c.number number c there is e h)

pub release_flow : {V : View} (F : Flows V) {l : List Owed} {s : State} (is : KeptResult → Bool) → ((k : KeptResult) → is k ≡ true → IsReleased V.event k.until) → V.Keeps l s → V.Keeps l (Frames.release V.setting is s)
unfolding Frames.release
release_flow {V} F {l} {s} is goes h = each_flow F _ _ (λ t q k. drop_flow F _ k) (F.results_go l s (λ q. not (is q)) (λ k e. goes k (not-not (is k) e)) h)
  where
    not-not : (b : Bool) → not b ≡ false → b ≡ true
    not-not true e = refl
    not-not false e = absurd (true≢false e)

pub acked-goes : (e : Event) (conn number : ℕ) → e ≡ Received conn (message.Ack number) → (until : Until) (value : Option Value) → Frames.is_acked_by conn number (record { until = until; value = value }) ≡ true → IsReleased e until
acked-goes e conn number same (state.RootAcked task) value f = absurd (true≢false (sym f))
acked-goes e conn number same (state.Acked c n) value f = subst (λ k. e ≡ Received k (message.Ack n)) (sym (eqb-true c conn (Rattle.sp_rules.proofs.OwnLemmas.and-left (c == conn) (n == number) f)))
    (subst (λ k. e ≡ Received conn (message.Ack k)) (sym (eqb-true n number (both-right (c == conn) (n == number) f))) same)
acked-goes e conn number same (state.Passed moment) value f = absurd (true≢false (sym f))

pub root-goes : (e : Event) (task : ℕ) → e ≡ RootAck task → (until : Until) (value : Option Value) → OwnEvents.is_of_root task (record { until = until; value = value }) ≡ true → IsReleased e until
root-goes e task same (state.RootAcked t) value f = subst (λ k. e ≡ RootAck k) (sym (eqb-true t task f)) same
root-goes e task same (state.Acked c n) value f = absurd (true≢false (sym f))
root-goes e task same (state.Passed moment) value f = absurd (true≢false (sym f))

pub moment-goes : (e : Event) (moment : ℕ) → e ≡ Moment moment → (until : Until) (value : Option Value) → OwnEvents.is_over_at moment (record { until = until; value = value }) ≡ true → IsReleased e until
moment-goes e moment same (state.RootAcked t) value f = absurd (true≢false (sym f))
moment-goes e moment same (state.Acked c n) value f = absurd (true≢false (sym f))
moment-goes e moment same (state.Passed until) value f = (moment, (same, f))

pub got_ack_flow : {V : View} (F : Flows V) {l : List Owed} {s : State} (c : Connection) (number : ℕ) → V.event ≡ Received c.number (message.Ack number) → V.Fails V.setting.classes.unmarshal → V.Keeps l s → V.Keeps l (Frames.got_ack V.setting c number s)
unfolding Frames.got_ack
got_ack_flow {V} F {s = s} c number same may h = if_flow F (list_any (Frames.is_acked_by c.number number) s.results) (release_flow F _ (λ k f. acked-goes V.event c.number number same k.until k.value f) h) (close_flow F _ c.number (message.Ack number, same) may may h)

-- a call that has no answer is out
pub asked-out : (conn number : ℕ) (q : Request) → ParkedFrames.is_asked_on conn number q ≡ true → ParkedFrames.is_call_on conn number q ≡ true
asked-out conn number q e = pick q.stage e
  where
    pick : (stage : state.Stage) → ParkedFrames.is_unanswered_on conn stage && ParkedFrames.has_number number q.asked ≡ true → ParkedFrames.is_out_on conn stage && ParkedFrames.has_number number q.asked ≡ true
    pick state.Waits f = f
    pick (state.Out c sequence) f = f
    pick (state.Answered c) f = absurd (true≢false (sym f))

-- the request that an answer is for, with all under its number on the connection
pub answered_flow : {V : View} (F : Flows V) {l : List Owed} {s : State} (conn number : ℕ) (q : Request) → find (ParkedFrames.is_asked_on conn number) s.requests ≡ Some q → V.Keeps l s
    → V.Keeps (Removed q.peer q.asked ∷ l) (ParkedFrames.remove_requests (ParkedFrames.is_call_on conn number) s)
answered_flow F {l} {s} conn number q is h = F.removes_one l s (ParkedFrames.is_asked_on conn number) (ParkedFrames.is_call_on conn number) number q is (asked-out conn number) (λ x e. both-right (ParkedFrames.is_out_on conn x.stage) _ e) h

pub returned_flow : {V : View} (F : Flows V) {l : List Owed} {s : State} (c : Connection) (number fuel : ℕ) (value : Option Value) (q : Request) → is_ending V.event ≡ true → V.Fails V.setting.classes.unmarshal → V.Dialled c.number true
    → ((references : List ForeignId) → Frames.fits_asked q.asked value fuel ≡ true → list_any (Holders.is_refused V.setting s) (references_in value) ≡ false → V.Known (record { conn = c.number; number = number; frame = ReturnedFrame value fuel; references = references }))
    → find (ParkedFrames.is_asked_on c.number number) s.requests ≡ Some q → V.Keeps l s → V.Keeps l (Frames.returned_for V.setting c number fuel value q.asked s)
returned_flow {V} F {l} {s} c number fuel value q going may there known is h = by (Frames.fits_asked q.asked value fuel) refl (list_any (Holders.is_refused V.setting s) (references_in value)) refl
  where
    threw : V.Keeps l (reply_to V.setting q.asked (Throws V.setting.classes.unmarshal) (send Acks c.number (message.Ack number) (ParkedFrames.remove_requests (ParkedFrames.is_call_on c.number number) s)))
    threw = reply_to_flow F q.asked (Throws V.setting.classes.unmarshal) (F.fails q.asked V.setting.classes.unmarshal may) (send_flow F Acks c.number (message.Ack number) there tt (answered_flow F c.number number q is h))

    by : (a : Bool) → Frames.fits_asked q.asked value fuel ≡ a → (b : Bool) → list_any (Holders.is_refused V.setting s) (references_in value) ≡ b
        → V.Keeps l (if not a || b then reply_to V.setting q.asked (Throws V.setting.classes.unmarshal) (send Acks c.number (message.Ack number) (ParkedFrames.remove_requests (ParkedFrames.is_call_on c.number number) s))
        else ParkedFrames.park_frame V.setting c.number number (ReturnedFrame value fuel) (foreign_ids V.setting.id (references_in value)) (record s {
          requests = map (Frames.answered_on c.number number) s.requests;
        }))
    by true a false b = park_result_flow F c.number number value fuel (foreign_ids V.setting.id (references_in value)) going (known (foreign_ids V.setting.id (references_in value)) a b) (F.answers l s c.number number h)
    by true a true b = threw
    by false a b c = threw

pub answered_by_flow : {V : View} (F : Flows V) {l : List Owed} {s : State} (c : Connection) (number : ℕ) (next : Asked → State → State) → HasComeOn V c.number → ((q : Request) → find (ParkedFrames.is_asked_on c.number number) s.requests ≡ Some q → V.Keeps l (next q.asked s)) → V.Fails V.setting.classes.unmarshal → V.Keeps l s → V.Keeps l (Frames.answered_by V.setting c number next s)
unfolding Frames.answered_by
answered_by_flow {V} F {s = s} c number next came k may h = some_flow F (find (ParkedFrames.is_asked_on c.number number) s.requests) _ (close_flow F _ c.number came may may h) (λ q is. k q is)

pub ends_as_flow : {V : View} (F : Flows V) {l : List Owed} {s : State} (c : Connection) (number : ℕ) (reply : Asked → Reply) (q : Request) → (ParkedFrames.has_number number q.asked ≡ true → V.Ends q.asked (reply q.asked)) → find (ParkedFrames.is_asked_on c.number number) s.requests ≡ Some q → V.Keeps l s → V.Keeps l (Frames.ends_as V.setting c number reply q.asked s)
ends_as_flow F {s = s} c number reply q may is h = reply_to_flow F q.asked (reply q.asked) (may (both-right (ParkedFrames.is_unanswered_on c.number q.stage) _ (found-is (ParkedFrames.is_asked_on c.number number) s.requests q is))) (answered_flow F c.number number q is h)

pub told_by_flow : {V : View} (F : Flows V) {l : List Owed} {s : State} (c : Connection) (dirty : Bool) (sequence : ℕ) (event : ℕ → lease_events.Event) → HasComeOn V c.number → is_ending V.event ≡ true → V.Fails V.setting.classes.unmarshal → V.Keeps l s → V.Keeps l (Frames.told_by V.setting c dirty sequence event s)
unfolding Frames.told_by
told_by_flow {V} F {l} {s} c dirty sequence event came going may h = some_flow F (find (Frames.tells_on dirty c.number sequence) s.requests) _ (close_flow F _ c.number came may may h) (λ q is. go_all_flow F going (tells q.asked (F.removes_told l s dirty c.number sequence h)))
  where
    tells : (asked : Asked) {t : State} → V.Keeps l t → V.Keeps l (Frames.group_told event asked t)
    tells (Calls number task lent kind m) k = k
    tells (LooksUp number task name) k = k
    tells (Tells call group) {t = t} k = F.quiet l t _ refl k

pub got_flow : {V : View} (F : Flows V) {s : State} (c : Connection) (m : Message) → V.event ≡ Received c.number m → Begins V s → connection_at s c.number ≡ Some c → is_some c.peer ≡ true → Frames.is_wrong_way (Frames.is_asking m) (is_some c.dialled) ≡ false → V.Keeps [] s → V.Keeps [] (Frames.got V.setting c m s)
unfolding Frames.got Frames.got_dirty Frames.got_clean
got_flow {V} F {s} c m same B is hello way h = by m same way
  where
    going : is_ending V.event ≡ true
    going = ap is_ending same

    may : V.Fails V.setting.classes.unmarshal
    may = B.unmarshal (ap is_ending same)

    row : V.Dialled c.number (is_some c.dialled)
    row = all-found (λ (d : Connection). is_some d.peer ≡ true → V.Dialled d.number (is_some d.dialled)) (λ (d : Connection). d.number == c.number) s.connections c is (F.dialled [] s h) hello

    asks : is_some c.dialled ≡ false → V.Dialled c.number false
    asks e = subst (V.Dialled c.number) e row

    is-true : (b : Bool) → not b ≡ false → b ≡ true
    is-true true e = refl
    is-true false e = absurd (true≢false e)

    answers : not (is_some c.dialled) ≡ false → V.Dialled c.number true
    answers e = subst (V.Dialled c.number) (is-true (is_some c.dialled) e) row

    by : (m : Message) → V.event ≡ Received c.number m → Frames.is_wrong_way (Frames.is_asking m) (is_some c.dialled) ≡ false → V.Keeps [] (Frames.got V.setting c m s)
    by (message.Hello version space digest) e w = close_flow F _ c.number (message.Hello version space digest, e) may may h
    by (message.Call number object method fuel arguments) e w = got_call_flow F c number object method fuel arguments (message.Call number object method fuel arguments, e) going (λ p. B.call_came p object) may (asks w) is h
    by (message.Returned number fuel value) e w = answered_by_flow F c number _ (message.Returned number fuel value, e) (λ q asked. returned_flow F c number fuel value q going may (answers w) (λ references. B.result_came (record { conn = c.number; number = number; frame = ReturnedFrame value fuel; references = references }) value fuel e refl (answers w) q asked) asked h) may h
    by (message.Threw number class) e w = answered_by_flow F c number _ (message.Threw number class, e) (λ q asked. ends_as_flow F c number (λ a. Frames.thrown_reply V.setting class) q (B.threw c.number number class e q asked) asked h) may h
    by (message.Spent number) e w = answered_by_flow F c number _ (message.Spent number, e) (λ q asked. ends_as_flow F c number (Frames.spent_reply V.setting) q (B.spent c.number number e q asked) asked h) may h
    by (message.Ack number) e w = got_ack_flow F c number e may h
    by (message.Dirty sequence period objects) e w = if_flow F (Frames.fit_frame c objects) (send_flow F _ c.number _ (asks w) tt (F.quiet [] s _ refl h)) (close_flow F _ c.number (message.Dirty sequence period objects, e) may may h)
    by (message.Lease sequence period) e w = told_by_flow F c true sequence (λ call. lease_events.DirtyAnswered call period) (message.Lease sequence period, e) going may h
    by (message.Clean sequence strong objects) e w = if_flow F (Frames.fit_frame c objects) (send_flow F _ c.number _ (asks w) tt (F.quiet [] s _ refl h)) (close_flow F _ c.number (message.Clean sequence strong objects, e) may may h)
    by (message.Cleaned sequence) e w = told_by_flow F c false sequence lease_events.CleanAnswered (message.Cleaned sequence, e) going may h
    by (message.Lookup number name) e w = got_lookup_flow F c number name e may (asks w) is h

pub has-peer : (o : Option Uuid) → is_none o ≡ false → is_some o ≡ true
has-peer None e = absurd (true≢false e)
has-peer (Some peer) e = refl

pub received_flow : {V : View} (F : Flows V) {s : State} (conn : ℕ) (c : Option Connection) (m : Message) → V.event ≡ Received conn m → Begins V s → connection_at s conn ≡ c → V.Keeps [] s → V.Keeps [] (OwnEvents.received_on V.setting c m s)
unfolding Frames.receive
received_flow F conn None m same B e h = h
received_flow {V} F {s = s} conn (Some c) m same B e h = by (is_none c.peer) refl
  where
    number : c.number ≡ conn
    number = eqb-true c.number conn (found-is (λ (d : Connection). d.number == conn) s.connections c e)

    row : connection_at s c.number ≡ Some c
    row = subst (λ n. connection_at s n ≡ Some c) (sym number) e

    came : V.event ≡ Received c.number m
    came = subst (λ n. V.event ≡ Received n m) (sym number) same

    way : is_some c.peer ≡ true → (b : Bool) → Frames.is_wrong_way (Frames.is_asking m) (is_some c.dialled) ≡ b → V.Keeps [] (if b then Endings.close V.setting V.setting.classes.unmarshal c.number s else Frames.got V.setting c m s)
    way hello true w = close_flow F _ c.number (m, came) (B.unmarshal (ap is_ending same)) (B.unmarshal (ap is_ending same)) h
    way hello false w = got_flow F c m came B row hello w h

    by : (b : Bool) → is_none c.peer ≡ b → V.Keeps [] (if b then Frames.first_frame V.setting c m s else (if Frames.is_wrong_way (Frames.is_asking m) (is_some c.dialled) then Endings.close V.setting V.setting.classes.unmarshal c.number s else Frames.got V.setting c m s))
    by true n = first_flow F c m came B row n h
    by false n = way (has-peer c.peer n) (Frames.is_wrong_way (Frames.is_asking m) (is_some c.dialled)) refl

-- ---- own events

pub moment_flow : {V : View} (F : Flows V) {l : List Owed} {s : State} (moment : ℕ) → V.event ≡ Moment moment → V.Keeps l s → V.Keeps l (OwnEvents.on_moment V.setting moment s)
unfolding OwnEvents.on_moment
moment_flow {V} F {l} {s} moment same h = if_flow F (nat_lt moment s.moment) h (release_flow F _ (λ k f. moment-goes V.event moment same k.until k.value f) (F.quiet l s _ refl h))

pub sweep_flow : {V : View} (F : Flows V) {l : List Owed} {s : State} → V.event ≡ Sweep → V.Keeps l s → V.Keeps l (OwnEvents.on_sweep V.setting s)
unfolding OwnEvents.on_sweep
sweep_flow {V} F {l} {s} same h = sweeps (OwnEvents.without_reason V.setting s)
  where
    sweeps : (gone : List Object) → V.Keeps l (OwnEvents.sweep_of V.setting s gone)
    sweeps [] = h
    sweeps (o ∷ os) = F.says l _ _ refl tt (each_flow F _ (o ∷ os) (λ t p k. drop_flow F _ k) (each_flow F _ _ (λ t id k. F.quiet l t _ refl k) (F.stores l s _ (ap is_storing same) h)))

pub names_flow : {V : View} (F : Flows V) {l : List Owed} {s : State} (x : Result (List Binding) RegistryFault) → V.Keeps l s → V.Keeps l (OwnEvents.set_names x s)
unfolding OwnEvents.set_names
names_flow F {l} {s} (Ok names) h = F.quiet l s _ refl h
names_flow F {l} {s} (Err why) h = F.says l s _ refl tt h

pub lookup_flow : {V : View} (F : Flows V) {s : State} (peer : Uuid) (name : List ℕ) → V.event ≡ Lookup peer name → Begins V s → V.Keeps [] s → V.Keeps [] (OwnEvents.on_lookup V.setting peer name s)
unfolding OwnEvents.on_lookup
lookup_flow {V} F {s} peer name same B h = if_flow F (is_name name) (F.says [] _ _ refl tt (B.looks peer name same h)) (F.says [] s _ refl tt h)

pub opened_flow : {V : View} (F : Flows V) {s : State} (conn : ℕ) (dialled : Option Uuid) → V.event ≡ Opened conn dialled → Begins V s → V.Keeps [] s → V.Keeps [] (OwnEvents.on_opened V.setting conn dialled s)
unfolding OwnEvents.on_opened
opened_flow {V} F {s} conn None same B h = by (nat_le 2 V.setting.version) refl
  where
    by : (b : Bool) → nat_le 2 V.setting.version ≡ b → V.Keeps [] (if b then OwnEvents.add_connection conn None s else Frames.say_hello V.setting 1 conn (OwnEvents.add_connection conn None s))
    by true e = B.opens conn None same h
    by false e = say_hello_flow F {l = []} {s = OwnEvents.add_connection conn None s} 1 conn (inl (same, (e, refl))) (inl (None, same)) (B.opens conn None same h)
opened_flow {V} F {s} conn (Some peer) same B h =
    say_hello_flow F {l = []} {s = OwnEvents.dialled_no_more (Some peer) (OwnEvents.add_connection conn (Some peer) s)} _ conn (inr (inl (peer, (same, refl)))) (inl (Some peer, same)) (F.quiet [] _ _ refl (B.opens conn (Some peer) same h))

pub refused_flow : {V : View} (F : Flows V) {l : List Owed} {s : State} (peer : Uuid) → is_ending V.event ≡ true → V.Fails V.setting.classes.unmarshal → V.Fails V.setting.classes.connect → V.Keeps l s → V.Keeps l (OwnEvents.on_refused V.setting peer s)
unfolding OwnEvents.on_refused
refused_flow F {l} {s} peer going may why h = end_requests_flow F (Requests.waits_for peer) _ going may (λ asked. why) (F.quiet l s _ refl h)

-- ---- events

pub happen_flow : {V : View} (F : Flows V) {s : State} → Begins V s → V.Keeps [] s → V.Keeps [] (Space.happen V.setting V.event s)
unfolding Space.happen Endings.fail_write
happen_flow {V} F {s} B h = by V.event refl
  where
    ends : (e : Event) → V.event ≡ e → is_ending e ≡ true → V.Fails V.setting.classes.unmarshal
    ends e same is = B.unmarshal (ap is_ending same ∙ is)

    unsent : V.Fails V.setting.classes.unmarshal → V.Fails V.setting.classes.marshal → (numbers : List ℕ) (asked : Asked) → V.Fails (Endings.why_unsent V.setting numbers asked)
    unsent may why numbers (Calls number task lent kind m) = either (list_any (◌==◌ number) numbers)
      where
        either : (b : Bool) → V.Fails (if b then V.setting.classes.marshal else V.setting.classes.unmarshal)
        either true = why
        either false = may
    unsent may why numbers (LooksUp number task name) = either (list_any (◌==◌ number) numbers)
      where
        either : (b : Bool) → V.Fails (if b then V.setting.classes.marshal else V.setting.classes.unmarshal)
        either true = why
        either false = may
    unsent may why numbers (Tells call group) = may

    by : (e : Event) → V.event ≡ e → V.Keeps [] (Space.happen V.setting e s)
    by (Moment moment) same = moment_flow F moment same h
    by Sweep same = sweep_flow F same h
    by (Root method arguments fuel) same = add_task_flow F OfRoot method arguments fuel (ap is_finish same) (B.roots method arguments fuel same) h
    by (RootAck task) same = release_flow F _ (λ k f. root-goes V.event task same k.until k.value f) h
    by (Bind name value) same = names_flow F _ h
    by (Rebind name value) same = names_flow F _ h
    by (Unbind name) same = names_flow F _ h
    by (Lookup peer name) same = lookup_flow F peer name same B h
    by (Opened conn dialled) same = opened_flow F conn dialled same B h
    by (Refused peer) same = refused_flow F peer (ap is_ending same) (ends (Refused peer) same refl) (B.connect (ap is_unreached same)) h
    by (Received conn m) same = received_flow F conn (connection_at s conn) m same B refl h
    by (Closed conn) same = end_connection_flow F _ conn (ap is_ending same) (ends (Closed conn) same refl) (λ asked. ends (Closed conn) same refl) h
    by (ReadFailed conn) same = end_connection_flow F _ conn (ap is_ending same) (ends (ReadFailed conn) same refl) (λ asked. ends (ReadFailed conn) same refl) h
    by (Bad conn) same = end_connection_flow F _ conn (ap is_ending same) (ends (Bad conn) same refl) (λ asked. ends (Bad conn) same refl) h
    by (WriteFailed conn lost) same = end_connection_flow F _ conn (ap is_ending same) (ends (WriteFailed conn lost) same refl) (unsent (ends (WriteFailed conn lost) same refl) (B.marshal (ap is_unwritten same)) (Endings.unsent_calls s conn lost)) h
    by (Committed task k op) same = commit_flow F task k op (ap Space.answers_outputs same) (ap is_storing same) h
    by (Parked task k) same = park_flow F task k same B h
    by (GivenBack task k) same = give_back_flow F task k (ap Space.answers_outputs same) h
    by (Finished task k) same = finish_flow F task k same B h

pub sent_flow : {V : View} (F : Flows V) {l : List Owed} {s : State} (o : Output) → V.Keeps l s → V.Keeps l (Space.record_sent s o)
sent_flow F (Started task) h = h
sent_flow F (Ended task outcome) h = h
sent_flow F (Withdrawn ids) h = h
sent_flow F (Denied why) h = h
sent_flow F {l} {s} (Send conn m) h = F.sent l s conn m h
sent_flow F (Dial peer) h = h
sent_flow F (Close conn) h = h
sent_flow F (Ready task) h = h

-- before frames are answered, what the event did
pub happen_settles : {V : View} (F : Flows V) (s : State) → Begins V s → V.Keeps [] s → V.Keeps [] (Requests.settle (Space.happen V.setting V.event s))
happen_settles F s B h = settle_flow F (happen_flow F B h)

pub finish_event_flow : {V : View} (F : Flows V) {s : State} (answers : Bool) → V.Keeps [] s → V.Keeps [] (Space.finish_event answers s).0
finish_event_flow {V} F {s} true h = each_flow F _ _ (λ u o j. sent_flow F o j) (F.clears (Requests.settle s) (settle_flow F h))
finish_event_flow F false h = h

-- what the moves keep, an event keeps
pub on_flow : {V : View} (F : Flows V) (s : State) → Begins V s → V.Keeps [] s → V.Keeps [] (Space.on V.setting V.event s).0
unfolding Space.on
on_flow {V} F s B h = finish_event_flow F (Space.answers_outputs V.event) (happen_flow F B h)
