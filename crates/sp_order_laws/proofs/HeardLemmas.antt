-- What an owner is told of its objects came, in every run of every world.
use mathlib.Core.Path.{sym, subst}
use Rattle.std.proofs.Common.{inl, inr}
use Rattle.std.proofs.lemmas.Bool.{true≢false, eq-eqb}
use Rattle.std.specs.Prelude.{◌≡◌, refl, ℕ, ◌==◌, nat_lt, Bool, true, false, List, [], ◌∷◌, ◌++◌, Option, None, Some, fold, if◌then◌else◌}
use Rattle.std.specs.List.{flat_map}
use Rattle.uuid.specs.declared.Uuid.{Uuid}
use Rattle.dgc_list.specs.History as owner
use Rattle.net_message.specs.declared.message.Message.{Message}
use Rattle.net_message.specs.declared.message.Message.TheVariants as message
use Rattle.sp_rules.specs.Classes.{Setting}
use Rattle.sp_rules.specs.Events.{Event, Moment, Sweep, Root, RootAck, Bind, Rebind, Unbind, Lookup, Opened, Refused, Received, Closed, ReadFailed, Bad, WriteFailed, Committed, Parked, GivenBack, Finished}
use Rattle.sp_rules.specs.Laws.{AllOf, is_short, told_in, told_from, told_on, told_by}
use Rattle.sp_rules.specs.OwnEvents.{without_reason}
use Rattle.sp_rules.specs.Refusals.{refusal}
use Rattle.sp_rules.specs.State.{State, Object, Connection, connection_at, opening}
use Rattle.sp_rules.specs.Worlds.{Space, grown, new_space, run, new_world}
use Rattle.sp_rules.proofs.AllLemmas.{all-weaken, all-with}
use Rattle.sp_rules.proofs.HistoryLemmas.{tells}
use Rattle.sp_rules.proofs.WorldLemmas.{all_hold}
use Rattle.sp_laws.specs.Inbound.{OpensOnce}
use Rattle.sp_laws.specs.Others.{IsOpenedOnce}
use Rattle.sp_laws.proofs.OnceRules.{connections_are_opened_once}
use Rattle.sp_order_laws.specs.Hellos.{BeginsWelcome, BeginsInOrder}
use Rattle.sp_order_laws.proofs.TableLemmas.{Begun, grows, new}
use Rattle.sp_order_laws.specs.Delivered.{came_on, frame_of}
use Rattle.sp_order_laws.specs.Ends.{IsOneOf}
use Rattle.sp_order_laws.specs.Rising.{sequence_in, sequence_numbers}
use Rattle.sp_order_laws.proofs.NoteLemmas.{flat-append}
use Rattle.sp_order_laws.specs.Heard.{IsHeard, OwnersHearWhatCame}

one-first : {A : Type 0} (x : A) (xs ys : List A) → IsOneOf x xs → IsOneOf x (xs ++ ys)
one-first x [] ys a = absurd a
one-first x (y ∷ xs) ys (inl e) = inl e
one-first x (y ∷ xs) ys (inr a) = inr (one-first x xs ys a)

one-last : {A : Type 0} (x : A) (xs ys : List A) → IsOneOf x ys → IsOneOf x (xs ++ ys)
one-last x [] ys a = a
one-last x (y ∷ xs) ys a = inr (one-last x xs ys a)

number-wider : (e : Event) (h : List Event) (conn number : ℕ) → IsOneOf number (sequence_numbers (came_on conn h)) → IsOneOf number (sequence_numbers (came_on conn (e ∷ h)))
number-wider e h conn number a = subst (IsOneOf number) (sym (flat-append sequence_in (came_on conn h) (frame_of conn e))) (one-first number (sequence_numbers (came_on conn h)) (sequence_numbers (frame_of conn e)) a)

wider : (e : Event) (h : List Event) (call : owner.Call) → IsHeard h call → IsHeard (e ∷ h) call
wider e h (owner.Dirty client objects number period) k = record { conn = k.conn; frame = number-wider e h k.conn number k.frame; version = k.version; digest = k.digest; hello = one-first _ (came_on k.conn h) (frame_of k.conn e) k.hello }
wider e h (owner.Clean client objects number strong) k = record { conn = k.conn; frame = number-wider e h k.conn number k.frame; version = k.version; digest = k.digest; hello = one-first _ (came_on k.conn h) (frame_of k.conn e) k.hello }
wider e h (owner.Moment moment) k = tt
wider e h (owner.Forget object) k = tt

-- the frame of an event came
now-came : (h : List Event) (conn number : ℕ) (m : Message) → sequence_in m ≡ number ∷ [] → IsOneOf number (sequence_numbers (came_on conn (Received conn m ∷ h)))
now-came h conn number m e = subst (IsOneOf number) (sym (flat-append sequence_in (came_on conn h) (frame_of conn (Received conn m)))) (one-last number (sequence_numbers (came_on conn h)) (sequence_numbers (frame_of conn (Received conn m))) (here (conn == conn) (eq-eqb conn conn refl)))
  where
    here : (b : Bool) → b ≡ true → IsOneOf number (flat_map sequence_in (if b then m ∷ [] else []))
    here true f = subst (λ (l : List ℕ). IsOneOf number (l ++ [])) (sym e) (inl refl)
    here false f = absurd (true≢false (sym f))

-- a Hello of this client came
record SaidHello (client : Uuid) (ms : List Message) : Type 0 where
  version : ℕ
  digest : List ℕ
  hello : IsOneOf (message.Hello version client digest) ms

said-hello : (g : Setting) (dialled : Option Uuid) (client : Uuid) (ms : List Message) → BeginsWelcome g dialled client ms → SaidHello client ms
said-hello g dialled client [] a = absurd a
said-hello g dialled client (m ∷ ms) a = record { version = a.0.version; digest = a.0.digest; hello = inl (sym a.0.says) }

hears : (h : List Event) (conn : ℕ) (client : Uuid) (s : State) (m : Message) (calls : List owner.Call) → SaidHello client (came_on conn h) → AllOf (IsHeard (Received conn m ∷ h)) calls → AllOf (IsHeard (Received conn m ∷ h)) (told_in client s m calls)
hears h conn client s (message.Dirty sequence period ids) calls said a = (record { conn = conn; frame = now-came h conn sequence (message.Dirty sequence period ids) refl; version = said.version; digest = said.digest; hello = one-first _ (came_on conn h) (frame_of conn (Received conn (message.Dirty sequence period ids))) said.hello }, a)
hears h conn client s (message.Clean sequence strong ids) calls said a = (record { conn = conn; frame = now-came h conn sequence (message.Clean sequence strong ids) refl; version = said.version; digest = said.digest; hello = one-first _ (came_on conn h) (frame_of conn (Received conn (message.Clean sequence strong ids))) said.hello }, a)
hears h conn client s (message.Hello version space digest) calls said a = a
hears h conn client s (message.Call number object method fuel arguments) calls said a = a
hears h conn client s (message.Returned number fuel value) calls said a = a
hears h conn client s (message.Threw number class) calls said a = a
hears h conn client s (message.Spent number) calls said a = a
hears h conn client s (message.Ack number) calls said a = a
hears h conn client s (message.Lease sequence period) calls said a = a
hears h conn client s (message.Cleaned sequence) calls said a = a
hears h conn client s (message.Lookup number name) calls said a = a

received-heard : (s : Space) (conn : ℕ) (m : Message) (calls : List owner.Call) (row : Option Connection) → connection_at s.state conn ≡ row → BeginsInOrder s conn → AllOf (IsHeard (Received conn m ∷ s.history)) calls → AllOf (IsHeard (Received conn m ∷ s.history)) (told_on s.state row m calls)
received-heard s conn m calls None there k a = a
received-heard s conn m calls (Some c) there k a = short (is_short c m) (by c.peer refl c.dialled)
  where
    short : (b : Bool) → AllOf (IsHeard (Received conn m ∷ s.history)) (told_from c.peer c.dialled s.state m calls) → AllOf (IsHeard (Received conn m ∷ s.history)) (if b then told_from c.peer c.dialled s.state m calls else calls)
    short true told = told
    short false told = a

    by : (peer : Option Uuid) → c.peer ≡ peer → (dialled : Option Uuid) → AllOf (IsHeard (Received conn m ∷ s.history)) (told_from peer dialled s.state m calls)
    by None e dialled = a
    by (Some client) e None = hears s.history conn client s.state m calls (said-hello s.setting c.dialled client (came_on conn s.history) (k.greeted c client there e)) a
    by (Some client) e (Some peer) = a

forgets : (h : List Event) (gone : List Object) (calls : List owner.Call) → AllOf (IsHeard h) calls → AllOf (IsHeard h) (fold (λ told (o : Object). owner.Forget o.id ∷ told) calls gone)
forgets h [] calls a = a
forgets h (o ∷ gone) calls a = forgets h gone (owner.Forget o.id ∷ calls) (tt, a)

event-heard : (s : Space) (e : Event) (calls : List owner.Call) → ((conn : ℕ) → BeginsInOrder s conn) → AllOf (IsHeard (e ∷ s.history)) calls → AllOf (IsHeard (e ∷ s.history)) (told_by s.setting s.state e calls)
event-heard s (Moment moment) calls k a = pick (nat_lt moment s.state.moment)
  where
    pick : (b : Bool) → AllOf (IsHeard (Moment moment ∷ s.history)) (if b then calls else owner.Moment moment ∷ calls)
    pick true = a
    pick false = (tt, a)
event-heard s Sweep calls k a = forgets (Sweep ∷ s.history) (without_reason s.setting s.state) calls a
event-heard s (Received conn m) calls k a = received-heard s conn m calls (connection_at s.state conn) refl (k conn) a
event-heard s (Root method arguments fuel) calls k a = a
event-heard s (RootAck task) calls k a = a
event-heard s (Bind name value) calls k a = a
event-heard s (Rebind name value) calls k a = a
event-heard s (Unbind name) calls k a = a
event-heard s (Lookup peer name) calls k a = a
event-heard s (Opened conn dialled) calls k a = a
event-heard s (Refused peer) calls k a = a
event-heard s (Closed conn) calls k a = a
event-heard s (ReadFailed conn) calls k a = a
event-heard s (Bad conn) calls k a = a
event-heard s (WriteFailed conn unsent) calls k a = a
event-heard s (Committed task j op) calls k a = a
event-heard s (Parked task j) calls k a = a
event-heard s (GivenBack task j) calls k a = a
event-heard s (Finished task j) calls k a = a

-- What the owner was told came.
record Hears (s : Space) : Type 0 where
  begun : Begun s
  heard : OpensOnce s.history → AllOf (IsHeard s.history) s.state.owner.entries

grows-heard : (e : Event) (s : Space) (lent : List ℕ) → refusal s.setting lent s.state e ≡ None → Hears s → Hears (grown e s)
grows-heard e s lent taken k = record {
  begun = grows e s lent taken k.begun;
  heard = λ once. subst (AllOf (IsHeard (e ∷ s.history))) (sym (tells s.setting e s.state)) (event-heard s e s.state.owner.entries (λ conn. k.begun.order once.1 conn) (all-weaken (IsHeard s.history) (IsHeard (e ∷ s.history)) s.state.owner.entries (λ call j. wider e s.history call j) (k.heard once.1)));
}

new-heard : (g : Setting) → Hears (new_space g)
unfolding opening
new-heard g = record { begun = new g; heard = λ once. tt }

pub owners_hear_what_came : OwnersHearWhatCame
owners_hear_what_came settings events = all-with Hears IsOpenedOnce (λ (s : Space). AllOf (IsHeard s.history) s.state.owner.entries) (run (new_world settings) events).spaces (λ s k o. k.heard o.0) (all_hold {P = Hears} (record { grows = grows-heard }) new-heard settings events) (connections_are_opened_once settings events).spaces
