-- Connections begin with Hellos, in every space of every world.
use mathlib.Core.Path.{sym, ap, subst, ◌∙◌}
use Rattle.std.proofs.Common.{arith, inl, inr}
use Rattle.std.proofs.lemmas.Bool.{true≢false, eqb-true, eq-eqb, leb-true, leb-false}
use Rattle.std.specs.Prelude.{◌≡◌, ◌≤◌, ◌<◌, ◌⊎◌, refl, ℕ, ◌==◌, ◌&&◌, ◌||◌, not, nat_le, min, is_some, is_none, Bool, true, false, List, [], ◌∷◌, ◌++◌, Option, None, Some, if◌then◌else◌}
use Rattle.net_message.specs.declared.message.Message.{Message}
use Rattle.net_message.specs.declared.message.Message.TheVariants as message
use Rattle.uuid.specs.declared.Uuid.{Uuid}
use Rattle.sp_rules.specs.Classes.{Setting}
use Rattle.sp_rules.specs.Events.{Event, Opened, Received, Output, Started, Ended, Withdrawn, Denied, Send, Dial, Close, Ready}
use Rattle.sp_rules.specs.Laws.{AllOf, HasHistory}
use Rattle.sp_rules.specs.Refusals
use Rattle.sp_rules.specs.Refusals.{refusal}
use Rattle.sp_rules.specs.OwnEvents
use Rattle.sp_rules.specs.Requests.{most_ids}
use Rattle.sp_rules.specs.Space
use Rattle.sp_rules.specs.State.{State, Connection, connection_at, is_open, opening}
use Rattle.sp_rules.specs.Worlds.{Space, grown, new_space, run, new_world}
use Rattle.sp_rules.proofs.AllLemmas.{some-none, or-left, or-right, all-weaken, all-append, all-found, found-is, all-with}
use Rattle.sp_rules.proofs.OwnLemmas.{some-same, unrefused, first-of, and-left}
use Rattle.sp_rules.proofs.WorldLemmas.{all_hold}
use Rattle.sp_laws.specs.Directions.{HasOpened, opens_end, was_opened}
use Rattle.sp_laws.specs.Inbound.{opens, opened, OpensOnce}
use Rattle.sp_laws.specs.Open.{IsSilent}
use Rattle.sp_laws.specs.Others.{IsOpenedOnce}
use Rattle.sp_laws.proofs.OnceRules.{connections_are_opened_once}
use Rattle.sp_laws.specs.Sent.{is_hello}
use Rattle.sp_laws.proofs.FrameFlows.{IsWhoWasDialled}
use Rattle.sp_laws.proofs.OpenLemmas.{nothing-noted}
use Rattle.sp_laws.proofs.DirectionLemmas.{directed-of, one-end}
use Rattle.sp_laws.proofs.ShutLemmas.{connections_end}
use Rattle.sp_laws.proofs.SilentLemmas.{ended_connections_are_silent}
use Rattle.sp_order_laws.specs.Delivered.{frame_of, came_on, frame_in, sent_on}
use Rattle.sp_order_laws.specs.Ends.{IsOneOf}
use Rattle.sp_order_laws.proofs.DeliveryLemmas.{sent-append}
use Rattle.sp_order_laws.proofs.ListLemmas.{one-left, one-right, one-either, one-output}
use Rattle.sp_order_laws.specs.Hellos.{brings_on, has_come, HasCome, BringsHello, SaysEarly, SaysInTurn, AnswersInTurn, NoHellos, BeginsWithHello, says_late, IsHelloAlone, SaysFirst, IsWho, IsHelloFrom, BeginsWelcome, IsOfVersion, IsSpokenIn, IsHeardIn, KeepsItsVersion, HasMet, BeginsInOrder, ConnectionsBeginInOrder}
use Rattle.sp_order_laws.proofs.FirstLemmas.{Apart, AnswersSo, heard, opening_hello, unsaid, opens-with, opens-so, late-answers}
use Rattle.sp_order_laws.proofs.RowLemmas.{IsRowOf, IsWelcomed, row-stays, row-opens, first-comes, hello-again, again-silent}
use Rattle.sp_order_laws.proofs.TurnLemmas.{Between, turns-of, hellos_are_said_first}
use Rattle.sp_order_laws.proofs.VersionLemmas.{At, IsOf, FitsOn, AnswersNone, FitsFirst, HeardFirst, least-ids, low-ids, row-keeps, row-dials, row-answers, first-so}
use Rattle.sp_order_laws.proofs.HelloLemmas.{none-left, more-none, none-more, begins-more, alone-some, alone-begins, first-begins, welcome-more, none-comes, never-came, first-hello, none-of-version, none-heard, spoken-so}

-- ---- what is sent

opens-not : (e : Event) (conn c : ℕ) (dialled : Option Uuid) → opens conn e ≡ false → e ≡ Opened c dialled → c ≡ conn → ⊥
opens-not e conn c dialled apart is same = true≢false (sym (eq-eqb c conn same) ∙ subst (λ d. opens conn d ≡ false) is apart)

-- an event that does not open a connection, and with which no Hello comes that is answered, says no Hello there
says-no-hello : (g : Setting) (conn : ℕ) (e : Event) (h : List Event) → opens conn e ≡ false → (BringsHello g e h conn → ⊥) → (os : List Output) → AllOf (AnswersInTurn g e h) os → NoHellos (sent_on conn os)
says-no-hello g conn e h apart never [] a = tt
says-no-hello g conn e h apart never (o ∷ os) a = none-more (frame_in conn o) (sent_on conn os) (one o a.0) (says-no-hello g conn e h apart never os a.1)
  where
    frame : (c : ℕ) → c ≡ conn → (m : Message) → SaysInTurn g e h c m → is_hello m ≡ false
    frame c same (message.Hello version space digest) (inl x) = absurd (opens-not e conn c x.0 apart x.1.0 same)
    frame c same (message.Hello version space digest) (inr x) = absurd (never (subst (λ n. BringsHello g e h n) same x.0))
    frame c same _ x = refl

    one : (o : Output) → AnswersInTurn g e h o → NoHellos (frame_in conn o)
    one (Send c m) x = by (c == conn) refl
      where
        by : (b : Bool) → (c == conn) ≡ b → NoHellos (if b then m ∷ [] else [])
        by true same = (frame c (eqb-true c conn same) m x, tt)
        by false same = tt
    one (Started task) x = tt
    one (Ended task outcome) x = tt
    one (Withdrawn ids) x = tt
    one (Denied why) x = tt
    one (Dial peer) x = tt
    one (Close c) x = tt
    one (Ready task) x = tt

-- where no frame came it says nothing
says-nothing : (g : Setting) (conn : ℕ) (e : Event) (h : List Event) → opens conn e ≡ false → has_come conn (e ∷ h) ≡ false → (os : List Output) → AllOf (AnswersInTurn g e h) os → sent_on conn os ≡ []
says-nothing g conn e h apart none [] a = refl
says-nothing g conn e h apart none (o ∷ os) a = ap (λ (l : List Message). l ++ sent_on conn os) (one o a.0) ∙ says-nothing g conn e h apart none os a.1
  where
    never : (c : ℕ) → c ≡ conn → HasCome (e ∷ h) c → ⊥
    never c same x = true≢false (sym (subst (λ n. has_come n (e ∷ h) ≡ true) same x) ∙ none)

    frame : (c : ℕ) → c ≡ conn → (m : Message) → SaysInTurn g e h c m → ⊥
    frame c same (message.Hello version space digest) (inl x) = opens-not e conn c x.0 apart x.1.0 same
    frame c same (message.Hello version space digest) (inr x) = never c same (subst (λ d. HasCome (d ∷ h) c) (sym x.0.came) (or-left (c == c) (has_come c h) (eq-eqb c c refl)))
    frame c same (message.Call number object method fuel arguments) x = never c same x
    frame c same (message.Returned number fuel value) x = never c same x
    frame c same (message.Threw number class) x = never c same x
    frame c same (message.Spent number) x = never c same x
    frame c same (message.Ack number) x = never c same x
    frame c same (message.Dirty sequence period objects) x = never c same x
    frame c same (message.Lease sequence period) x = never c same x
    frame c same (message.Clean sequence strong objects) x = never c same x
    frame c same (message.Cleaned sequence) x = never c same x
    frame c same (message.Lookup number name) x = never c same x

    one : (o : Output) → AnswersInTurn g e h o → frame_in conn o ≡ []
    one (Send c m) x = by (c == conn) refl
      where
        by : (b : Bool) → (c == conn) ≡ b → (if b then m ∷ [] else []) ≡ []
        by true same = absurd (frame c (eqb-true c conn same) m x)
        by false same = refl
    one (Started task) x = refl
    one (Ended task outcome) x = refl
    one (Withdrawn ids) x = refl
    one (Denied why) x = refl
    one (Dial peer) x = refl
    one (Close c) x = refl
    one (Ready task) x = refl

-- ---- an event

-- a frame comes where the connection is open
comes-open : (conn : ℕ) (e : Event) (g : Setting) (lent : List ℕ) (s : State) → refusal g lent s e ≡ None → brings_on conn e ≡ true → (m : Message) × ((e ≡ Received conn m) × (is_open s conn ≡ true))
comes-open conn (Received c m) g lent s taken is = (m, (ap (λ n. Received n m) (eqb-true c conn is), subst (λ n. is_open s n ≡ true) (eqb-true c conn is) (not-not (is_open s c) (first-of (not (is_open s c)) Refusals.Strange [] (unrefused g lent s (Received c m) taken)).0)))
  where
    not-not : (b : Bool) → not b ≡ false → b ≡ true
    not-not true e = refl
    not-not false e = absurd (true≢false e)
comes-open conn _ g lent s taken is = absurd (true≢false (sym is))

opens-is : (conn : ℕ) (e : Event) → opens conn e ≡ true → (dialled : Option Uuid) × (e ≡ Opened conn dialled)
opens-is conn (Opened c dialled) is = (dialled, ap (λ n. Opened n dialled) (eqb-true c conn is))
opens-is conn _ is = absurd (true≢false (sym is))

opens-brings : (conn : ℕ) (e : Event) → opens conn e ≡ true → frame_of conn e ≡ []
opens-brings conn (Opened c dialled) is = refl
opens-brings conn _ is = absurd (true≢false (sym is))

not-shut : (conn : ℕ) (s : State) (c : Connection) → connection_at s conn ≡ Some c → is_open s conn ≡ false → ⊥
not-shut conn s c is shut = true≢false (sym (ap (λ (o : Option Connection). is_some o) is) ∙ shut)

none-some : (peer : Uuid) (o : Option Uuid) → o ≡ None → o ≡ Some peer → ⊥
none-some peer o e f = some-none peer (sym f ∙ e)

who-is : (dialled : Option Uuid) (peer : Uuid) → IsWhoWasDialled dialled peer → IsWho dialled peer
who-is None peer a = tt
who-is (Some d) peer a = a

turns : (s : Space) (e : Event) → HasHistory s → AllOf (AnswersInTurn s.setting e s.history) (Space.on s.setting e s.state).1
unfolding Space.outputs_of
turns s e eq = subst (λ t. AllOf (AnswersInTurn s.setting e s.history) (Space.on s.setting e t).1) (sym eq) (hellos_are_said_first s.setting s.history e)

noted : (s : Space) → HasHistory s → s.state.notes ≡ []
noted s eq = ap (λ (t : State). t.notes) eq ∙ nothing-noted s.setting s.history

-- where the connection is not open nothing is sent
quiet-shut : (s : Space) (e : Event) (conn : ℕ) → HasHistory s → is_open s.state conn ≡ false → opens conn e ≡ false → sent_on conn (Space.on s.setting e s.state).1 ≡ []
unfolding Space.outputs_of
quiet-shut s e conn eq shut apart = unsaid conn _ (subst (λ t. IsSilent conn (Space.on s.setting e t).1) (sym eq) ((ended_connections_are_silent s.setting s.history e conn).shut (subst (λ t. is_open t conn ≡ false) eq shut) apart))

-- what is there was opened at this end
rows-opened : (s : Space) → HasHistory s → AllOf (λ (c : Connection). HasOpened s.history c.number (is_some c.dialled)) s.state.connections
rows-opened s eq = subst (λ (t : State). AllOf (λ (c : Connection). HasOpened s.history c.number (is_some c.dialled)) t.connections) (sym eq) (directed-of s.setting s.history).rows

-- what was in turn before an event
between : (s : Space) → HasHistory s → Between s.setting s.history s.state
between s eq = subst (Between s.setting s.history) (sym eq) (turns-of s.setting s.history)

-- a row that stays as it is keeps its version
keeps-so : {g : Setting} (d c : Connection) (came sent newcame newsent : List Message) → KeepsItsVersion g d came sent → c.peer ≡ d.peer → c.dialled ≡ d.dialled → c.version ≡ d.version → AllOf (IsSpokenIn d.version) newsent → NoHellos newcame
    → KeepsItsVersion g c (came ++ newcame) (sent ++ newsent)
keeps-so {g} d c came sent newcame newsent k peer dialled version says none = record {
  says = λ there. subst (λ v. AllOf (IsSpokenIn v) (sent ++ newsent)) (sym version) (all-append (IsSpokenIn d.version) sent newsent (k.says (sym (ap is_some dialled) ∙ there)) says);
  answered = λ there some. subst (λ v. AllOf (IsOfVersion v) (came ++ newcame)) (sym version) (all-append (IsOfVersion d.version) came newcame (k.answered (sym (ap is_some dialled) ∙ there) (sym (ap is_some peer) ∙ some)) (none-of-version d.version newcame none));
  heard = λ there some. subst (λ v. AllOf (IsHeardIn g v) (came ++ newcame)) (sym version) (all-append (IsHeardIn g d.version) came newcame (k.heard (sym (ap is_some dialled) ∙ there) (sym (ap is_some peer) ∙ some)) (none-heard g d.version newcame none));
}

-- any frame but a Hello is said where a frame came
plain-has : (g : Setting) (e : Event) (h : List Event) (conn : ℕ) (m : Message) → is_hello m ≡ false → SaysInTurn g e h conn m → HasCome (e ∷ h) conn
plain-has g e h conn (message.Hello version space digest) plain a = absurd (true≢false plain)
plain-has g e h conn (message.Call number object method fuel arguments) plain a = a
plain-has g e h conn (message.Returned number fuel value) plain a = a
plain-has g e h conn (message.Threw number class) plain a = a
plain-has g e h conn (message.Spent number) plain a = a
plain-has g e h conn (message.Ack number) plain a = a
plain-has g e h conn (message.Dirty sequence period objects) plain a = a
plain-has g e h conn (message.Lease sequence period) plain a = a
plain-has g e h conn (message.Clean sequence strong objects) plain a = a
plain-has g e h conn (message.Cleaned sequence) plain a = a
plain-has g e h conn (message.Lookup number name) plain a = a

-- the Hello with which frames begin
pub first-came : (g : Setting) (dialled : Option Uuid) (peer : Uuid) (ms : List Message) → BeginsWelcome g dialled peer ms → (version : ℕ) × ((digest : List ℕ) × IsOneOf (message.Hello version peer digest) ms)
first-came g dialled peer [] a = absurd a
first-came g dialled peer (m ∷ ms) a = (a.0.version, (a.0.digest, inl (sym a.0.says)))

first-said : (g : Setting) (ms : List Message) → BeginsWithHello g ms → (ms ≡ [] → ⊥) → (version : ℕ) × IsOneOf (message.Hello version g.id g.digest) ms
first-said g [] a some = absurd (some refl)
first-said g (m ∷ ms) a some = (a.0.version, inl (sym a.0.says))

-- what is so of each of these
pub of-one : {A : Type 0} (Is : A → Type 0) (x : A) (xs : List A) → AllOf Is xs → IsOneOf x xs → Is x
of-one Is x [] a o = absurd o
of-one Is x (y ∷ ys) a (inl e) = subst Is (sym e) a.0
of-one Is x (y ∷ ys) a (inr o) = of-one Is x ys a.1 o

-- both ends met, and history and outputs grow
met-later : (e : Event) (s : Space) (conn : ℕ) → HasMet s conn → HasMet (grown e s) conn
met-later e s conn k = record {
  version = k.version;
  peer = k.peer;
  digest = k.digest;
  came = one-left (message.Hello k.version k.peer k.digest) (came_on conn s.history) (frame_of conn e) k.came;
  speaks = by k.speaks;
}
  where
    later : (end : Bool) → HasOpened s.history conn end → HasOpened (e ∷ s.history) conn end
    later end o = or-right (opens_end conn end e) (was_opened s.history conn end) o

    by : (HasOpened s.history conn true × IsOneOf (message.Hello k.version s.setting.id s.setting.digest) (sent_on conn s.outputs)) ⊎ (HasOpened s.history conn false × (nat_le k.version s.setting.version ≡ true))
        → (HasOpened (e ∷ s.history) conn true × IsOneOf (message.Hello k.version s.setting.id s.setting.digest) (sent_on conn (s.outputs ++ (Space.on s.setting e s.state).1))) ⊎ (HasOpened (e ∷ s.history) conn false × (nat_le k.version s.setting.version ≡ true))
    by (inl x) = inl (later true x.0, subst (IsOneOf (message.Hello k.version s.setting.id s.setting.digest)) (sym (sent-append conn s.outputs (Space.on s.setting e s.state).1)) (one-left _ (sent_on conn s.outputs) (sent_on conn (Space.on s.setting e s.state).1) x.1))
    by (inr x) = inr (later false x.0, x.1)

-- an end that opens is open
end-opens : (conn : ℕ) (end : Bool) (e : Event) → opens_end conn end e ≡ true → opens conn e ≡ true
end-opens conn true (Opened c dialled) is = and-left (c == conn) (is_some dialled) is
end-opens conn false (Opened c dialled) is = and-left (c == conn) (is_none dialled) is
end-opens conn true _ is = absurd (true≢false (sym is))
end-opens conn false _ is = absurd (true≢false (sym is))

end-opened : (h : List Event) (conn : ℕ) (end : Bool) → HasOpened h conn end → opened conn h ≡ true
end-opened [] conn end o = absurd (true≢false (sym o))
end-opened (e ∷ h) conn end o = by (opens_end conn end e) refl o (λ x. end-opened h conn end x)
  where
    by : (b : Bool) → opens_end conn end e ≡ b → b || was_opened h conn end ≡ true → (HasOpened h conn end → opened conn h ≡ true) → opens conn e || opened conn h ≡ true
    by true is o rest = or-left (opens conn e) (opened conn h) (end-opens conn end e is)
    by false is o rest = or-right (opens conn e) (opened conn h) (rest o)

-- an end that was not opened now was opened before
end-before : (e : Event) (h : List Event) (conn : ℕ) (end : Bool) → opens_end conn end e ≡ false → HasOpened (e ∷ h) conn end → HasOpened h conn end
end-before e h conn end not-now o = subst (λ (b : Bool). b || was_opened h conn end ≡ true) not-now o

-- a connection opens
opens-order : (s : Space) (e : Event) (conn : ℕ) → HasHistory s → opens conn e ≡ true → opened conn s.history ≡ false → BeginsInOrder s conn → BeginsInOrder (grown e s) conn
opens-order s e conn eq is new k = record {
  shut = λ o. absurd (true≢false (sym now ∙ o));
  silent = λ o. absurd (true≢false (sym now ∙ o));
  first = λ o. first-begins s.setting (says_late s.setting (opens-is conn e is).0) _ sent;
  early = λ a none. early (opens-is conn e is).0 refl a none;
  waits = λ c there none. (came, subst (λ (d : Option Uuid). SaysFirst s.setting (says_late s.setting d) (sent_on conn (s.outputs ++ (Space.on s.setting e s.state).1))) (sym (row c there).1) sent);
  said = λ c there some. absurd (true≢false (sym some ∙ ap (λ (o : Option Uuid). is_some o) (row c there).0));
  greeted = λ c peer there some. absurd (none-some peer c.peer (row c there).0 some);
  keeps = λ c there. record {
    says = λ dialled. says c there (opens-is conn e is).0 refl dialled;
    answered = λ dialled some. absurd (true≢false (sym some ∙ ap (λ (o : Option Uuid). is_some o) (row c there).0));
    heard = λ accepted some. absurd (true≢false (sym some ∙ ap (λ (o : Option Uuid). is_some o) (row c there).0));
  };
  met = λ m o plain. absurd (true≢false (sym (first-hello s.setting (says_late s.setting (opens-is conn e is).0) _ sent m o) ∙ plain));
}
  where
    now : opens conn e || opened conn s.history ≡ true
    now = Rattle.sp_rules.proofs.AllLemmas.or-left (opens conn e) (opened conn s.history) is

    came : came_on conn s.history ++ frame_of conn e ≡ []
    came = more-none (came_on conn s.history) (frame_of conn e) (opens-brings conn e is) ∙ (k.silent new).0

    sent : SaysFirst s.setting (says_late s.setting (opens-is conn e is).0) (sent_on conn (s.outputs ++ (Space.on s.setting e s.state).1))
    sent = let x = opens-is conn e is in
        subst (λ (l : List Message). SaysFirst s.setting (says_late s.setting x.0) l)
        (sym (sent-append conn s.outputs (Space.on s.setting e s.state).1 ∙ ap (λ (l : List Message). l ++ sent_on conn (Space.on s.setting e s.state).1) (k.silent new).1))
        (subst (λ d. SaysFirst s.setting (says_late s.setting x.0) (sent_on conn (Space.on s.setting d s.state).1)) (sym x.1) (opens-so s.setting conn x.0 s.state (noted s eq) (k.shut new)))

    row : (c : Connection) → connection_at (Space.on s.setting e s.state).0 conn ≡ Some c → (c.peer ≡ None) × (c.dialled ≡ (opens-is conn e is).0)
    row = let x = opens-is conn e is in subst (λ d. IsRowOf conn x.0 None (Space.on s.setting d s.state).0.connections) (sym x.1) (row-opens s.setting conn x.0 s.state (k.shut new))

    early : (d : Option Uuid) → (opens-is conn e is).0 ≡ d → SaysEarly (grown e s) conn → sent_on conn (s.outputs ++ (Space.on s.setting e s.state).1) ≡ [] → ⊥
    early (Some peer) at a none = alone-some s.setting _ (subst (λ (d : Option Uuid). SaysFirst s.setting (says_late s.setting d) (sent_on conn (s.outputs ++ (Space.on s.setting e s.state).1))) at sent) none
    early None at (inr x) none = alone-some s.setting _ (subst (λ (b : Bool). SaysFirst s.setting b (sent_on conn (s.outputs ++ (Space.on s.setting e s.state).1))) (ap (says_late s.setting) at ∙ x.1) sent) none
    early None at (inl o) none = true≢false (sym (end-opened s.history conn true (end-before e s.history conn true (not-dialled (conn == conn)) o)) ∙ new)
      where
        opening : e ≡ Opened conn None
        opening = (opens-is conn e is).1 ∙ ap (λ (d : Option Uuid). Opened conn d) at

        and-none : (b : Bool) → b && false ≡ false
        and-none true = refl
        and-none false = refl

        not-dialled : (b : Bool) → opens_end conn true e ≡ false
        not-dialled b = subst (λ x. opens_end conn true x ≡ false) (sym opening) (and-none (conn == conn))

    -- the Hello that is said has the version of the row
    said-so : (d : Option Uuid) → e ≡ Opened conn d → sent_on conn (s.outputs ++ (Space.on s.setting e s.state).1) ≡ heard (opening_hello s.setting s.state d)
    said-so d at = sent-append conn s.outputs (Space.on s.setting e s.state).1 ∙ (ap (λ (l : List Message). l ++ sent_on conn (Space.on s.setting e s.state).1) (k.silent new).1
        ∙ subst (λ x. sent_on conn (Space.on s.setting x s.state).1 ≡ heard (opening_hello s.setting s.state d)) (sym at) (opens-with s.setting conn d s.state (noted s eq) (k.shut new)))

    says : (c : Connection) → connection_at (Space.on s.setting e s.state).0 conn ≡ Some c → (d : Option Uuid) → (opens-is conn e is).0 ≡ d → is_some c.dialled ≡ true → AllOf (IsSpokenIn c.version) (sent_on conn (s.outputs ++ (Space.on s.setting e s.state).1))
    says c there None at dialled = absurd (true≢false (sym dialled ∙ ap (λ (o : Option Uuid). is_some o) ((row c there).1 ∙ at)))
    says c there (Some peer) at dialled =
        let opened : e ≡ Opened conn (Some peer) = (opens-is conn e is).1 ∙ ap (λ (d : Option Uuid). Opened conn d) at in
        let version : c.version ≡ OwnEvents.version_to s.setting s.state peer = row-dials s.setting s.history conn peer s.state (noted s eq) (between s eq) c (subst (λ x. connection_at (Space.on s.setting x s.state).0 conn ≡ Some c) opened there) in
        subst (λ (l : List Message). AllOf (IsSpokenIn c.version) l) (sym (said-so (Some peer) opened)) (sym version, tt)

-- any other event
goes-on : (s : Space) (e : Event) (lent : List ℕ) (conn : ℕ) → HasHistory s → OpensOnce s.history → refusal s.setting lent s.state e ≡ None → opens conn e ≡ false → BeginsInOrder s conn → BeginsInOrder (grown e s) conn
goes-on s e lent conn eq once taken apart k = record {
  shut = λ o. (connections_end s.setting s.state e conn).stays (k.shut (before false o)) apart;
  silent = λ o. quiet (before false o);
  first = λ o. begins (k.first (before true o)) (connection_at s.state conn) refl;
  early = λ a none. k.early (early-before a) (none-left (sent_on conn s.outputs) (sent_on conn os) (sym more ∙ none)).0;
  waits = λ c there none. waits c there none (connection_at s.state conn) refl;
  said = λ c there some. said c there some (connection_at s.state conn) refl;
  greeted = λ c peer there some. greeted c peer there some (connection_at s.state conn) refl;
  keeps = λ c there. keeps c there (connection_at s.state conn) refl;
  met = λ m o plain. met m plain (connection_at s.state conn) refl (one-either m (sent_on conn s.outputs) (sent_on conn os) (subst (IsOneOf m) more o));
}
  where
    os : List Output
    os = (Space.on s.setting e s.state).1

    after : State
    after = (Space.on s.setting e s.state).0

    before : (b : Bool) → opens conn e || opened conn s.history ≡ b → opened conn s.history ≡ b
    before b o = subst (λ (x : Bool). x || opened conn s.history ≡ b) apart o

    more : sent_on conn (s.outputs ++ os) ≡ sent_on conn s.outputs ++ sent_on conn os
    more = sent-append conn s.outputs os

    early-before : SaysEarly (grown e s) conn → SaysEarly s conn
    early-before (inr x) = inr (before true x.0, x.1)
    early-before (inl o) = inl (end-before e s.history conn true (not-now (opens_end conn true e) refl) o)
      where
        not-now : (b : Bool) → opens_end conn true e ≡ b → opens_end conn true e ≡ false
        not-now true opened-now = absurd (true≢false (sym (end-opens conn true e opened-now) ∙ apart))
        not-now false opened-now = opened-now

    nothing : came_on conn (e ∷ s.history) ≡ [] → sent_on conn os ≡ []
    nothing none = says-nothing s.setting conn e s.history apart (never-came conn (e ∷ s.history) none) os (turns s e eq)

    -- what was said before is all that was said
    no-more-said : sent_on conn os ≡ [] → sent_on conn (s.outputs ++ os) ≡ sent_on conn s.outputs
    no-more-said none = more ∙ more-none (sent_on conn s.outputs) (sent_on conn os) none

    -- or all that was said was said now
    said-now : sent_on conn s.outputs ≡ [] → sent_on conn (s.outputs ++ os) ≡ sent_on conn os
    said-now none = more ∙ ap (λ (l : List Message). l ++ sent_on conn os) none

    -- this end of the connection
    way : (d : Connection) → connection_at s.state conn ≡ Some d → HasOpened s.history conn (is_some d.dialled)
    way d was = subst (λ n. HasOpened s.history n (is_some d.dialled)) (eqb-true d.number conn (found-is (λ (c : Connection). c.number == conn) s.state.connections d was))
        (all-found (λ (c : Connection). HasOpened s.history c.number (is_some c.dialled)) (λ (c : Connection). c.number == conn) s.state.connections d was (rows-opened s eq))

    -- a Hello is answered at an end that says it late
    answers-late : (o : Option Uuid) → HasOpened s.history conn (is_some o) → BringsHello s.setting e s.history conn → says_late s.setting o ≡ true
    answers-late None a b = b.late
    answers-late (Some peer) a b = absurd (one-end conn s.history once a (subst (λ x. HasOpened (x ∷ s.history) conn false) b.came b.way))

    -- which is the end that was dialled
    late-way : (o : Option Uuid) → says_late s.setting o ≡ true → HasOpened s.history conn (is_some o) → HasOpened s.history conn false
    late-way None late a = a
    late-way (Some peer) late a = absurd (true≢false (sym late))

    no-others : HasOpened s.history conn false → AllOf (Apart conn) s.state.connections
    no-others a = all-weaken (λ (c : Connection). HasOpened s.history c.number (is_some c.dialled)) (Apart conn) s.state.connections (λ c b dialled p. one c b dialled (c.number == conn) refl) (rows-opened s eq)
      where
        one : (c : Connection) → HasOpened s.history c.number (is_some c.dialled) → is_some c.dialled ≡ true → (b : Bool) → (c.number == conn) ≡ b → b ≡ false
        one c b dialled true same = absurd (one-end conn s.history once (subst (λ x. HasOpened s.history conn x) dialled (subst (λ n. HasOpened s.history n (is_some c.dialled)) (eqb-true c.number conn same) b)) a)
        one c b dialled false same = refl

    -- a first frame at an end that says Hello late
    answers : (d : Connection) → connection_at s.state conn ≡ Some d → d.peer ≡ None → says_late s.setting d.dialled ≡ true → brings_on conn e ≡ true → AnswersSo s.setting conn after os
    answers d was none late is =
        let x = comes-open conn e s.setting lent s.state taken is in
        subst (λ y. AnswersSo s.setting conn (Space.on s.setting y s.state).0 (Space.on s.setting y s.state).1) (sym x.1.0)
        (late-answers s.setting conn x.0 s.state d (noted s eq) was none late (no-others (late-way d.dialled late (way d was))))

    -- no Hello at one that says it early
    no-second : (d : Connection) → connection_at s.state conn ≡ Some d → says_late s.setting d.dialled ≡ false → NoHellos (sent_on conn os)
    no-second d was early = says-no-hello s.setting conn e s.history apart (λ b. true≢false (sym (answers-late d.dialled (way d was) b) ∙ early)) os (turns s e eq)

    hello-in : Event → Bool
    hello-in (Received c m) = is_hello m
    hello-in _ = false

    -- nor at one to which a Hello came
    no-more-hellos : (d : Connection) → connection_at s.state conn ≡ Some d → is_some d.peer ≡ true → NoHellos (sent_on conn os)
    no-more-hellos d was some = by (brings_on conn e) refl
      where
        again : (m : Message) → e ≡ Received conn m → NoHellos (sent_on conn os)
        again (message.Hello version space digest) is = subst NoHellos (sym (subst (λ x. sent_on conn (Space.on s.setting x s.state).1 ≡ []) (sym is) (unsaid conn _ (again-silent s.setting conn version space digest s.state d (noted s eq) was some)))) tt
        again _ is = says-no-hello s.setting conn e s.history apart (λ b. true≢false (sym (ap hello-in b.came) ∙ ap hello-in is)) os (turns s e eq)

        by : (b : Bool) → brings_on conn e ≡ b → NoHellos (sent_on conn os)
        by true is = let x = comes-open conn e s.setting lent s.state taken is in again x.0 x.1.0
        by false is = says-no-hello s.setting conn e s.history apart (λ b. true≢false (sym (subst (λ x. brings_on conn x ≡ true) (sym b.came) (eq-eqb conn conn refl)) ∙ is)) os (turns s e eq)

    came-none : came_on conn s.history ≡ [] → brings_on conn e ≡ false → came_on conn (e ∷ s.history) ≡ []
    came-none none is = more-none (came_on conn s.history) (frame_of conn e) (none-comes conn e is) ∙ none

    -- where the connection is not open no frame comes
    no-frame : is_open s.state conn ≡ false → (b : Bool) → brings_on conn e ≡ b → brings_on conn e ≡ false
    no-frame shut true is = absurd (true≢false (sym (comes-open conn e s.setting lent s.state taken is).1.1 ∙ shut))
    no-frame shut false is = is

    quiet : opened conn s.history ≡ false → (came_on conn (e ∷ s.history) ≡ []) × (sent_on conn (s.outputs ++ os) ≡ [])
    quiet o =
        let none : came_on conn (e ∷ s.history) ≡ [] = came-none (k.silent o).0 (no-frame (k.shut o) (brings_on conn e) refl) in
        (none, more ∙ (more-none (sent_on conn s.outputs) (sent_on conn os) (nothing none) ∙ (k.silent o).1))

    -- a row that was not there does not come
    gone : (c : Connection) → connection_at s.state conn ≡ None → connection_at after conn ≡ Some c → ⊥
    gone c none there = not-shut conn after c there ((connections_end s.setting s.state e conn).stays (ap (λ (o : Option Connection). is_some o) none) apart)

    -- a row stays
    same : (d c : Connection) → connection_at s.state conn ≡ Some d → (brings_on conn e ≡ true → is_some d.peer ≡ true) → connection_at after conn ≡ Some c → (c.peer ≡ d.peer) × (c.dialled ≡ d.dialled)
    same d c was finds there = row-stays s.setting e conn d.dialled d.peer s.state apart finds (λ x found. subst (λ (y : Connection). (y.peer ≡ d.peer) × (y.dialled ≡ d.dialled)) (some-same (sym was ∙ found)) (refl, refl)) c there

    -- a first frame that comes, if the connection is open afterwards
    welcome : (d c : Connection) → connection_at s.state conn ≡ Some d → d.peer ≡ None → brings_on conn e ≡ true → connection_at after conn ≡ Some c
        → (m : Message) × ((e ≡ Received conn m) × IsWelcomed s.setting conn d.dialled m after)
    welcome d c was none is there = let x = comes-open conn e s.setting lent s.state taken is in (x.0, (x.1.0, pick x.0 x.1.0 (first-comes s.setting conn x.0 s.state d was none)))
      where
        pick : (m : Message) → e ≡ Received conn m → (is_open (Space.on s.setting (Received conn m) s.state).0 conn ≡ false) ⊎ IsWelcomed s.setting conn d.dialled m (Space.on s.setting (Received conn m) s.state).0 → IsWelcomed s.setting conn d.dialled m after
        pick m same (inl shut) = absurd (not-shut conn after c there (subst (λ x. is_open (Space.on s.setting x s.state).0 conn ≡ false) (sym same) shut))
        pick m same (inr w) = subst (λ x. IsWelcomed s.setting conn d.dialled m (Space.on s.setting x s.state).0) (sym same) w

    -- what the row keeps, and what goes out there, where no Hello is answered
    kept : (d : Connection) → connection_at s.state conn ≡ Some d → AnswersNone e s.history conn → At (IsOf d.version) conn after.connections × AllOf (FitsOn conn d.version) os
    kept d was never = row-keeps s.setting e s.history conn d.version s.state (noted s eq) (between s eq) apart never (λ x found. ap (λ (y : Connection). y.version) (some-same (sym found ∙ was)))

    -- none comes
    none-brought : brings_on conn e ≡ false → AnswersNone e s.history conn
    none-brought is version space digest same way = true≢false (sym (subst (λ x. brings_on conn x ≡ true) (sym same) (eq-eqb conn conn refl)) ∙ is)

    hello-with : Event → Bool
    hello-with (Received c m) = is_hello m
    hello-with _ = false

    none-plain : (m : Message) → e ≡ Received conn m → is_hello m ≡ false → AnswersNone e s.history conn
    none-plain m is plain version space digest same way = true≢false (sym (ap hello-with same) ∙ (ap hello-with is ∙ plain))

    -- nor one at the end that dialled
    none-there : (d : Connection) → connection_at s.state conn ≡ Some d → is_some d.dialled ≡ true → AnswersNone e s.history conn
    none-there d was dialled version space digest same opened = one-end conn s.history once (subst (λ x. HasOpened s.history conn x) dialled (way d was)) (subst (λ x. HasOpened (x ∷ s.history) conn false) same opened)

    -- a frame that comes after a Hello is none
    plain-frame : (d c : Connection) → connection_at s.state conn ≡ Some d → is_some d.peer ≡ true → connection_at after conn ≡ Some c → (m : Message) → e ≡ Received conn m → is_hello m ≡ false
    plain-frame d c was some there (message.Hello version space digest) is = absurd (not-shut conn after c there (subst (λ x. is_open (Space.on s.setting x s.state).0 conn ≡ false) (sym is) (hello-again s.setting conn version space digest s.state d was some)))
    plain-frame d c was some there (message.Call number object method fuel arguments) is = refl
    plain-frame d c was some there (message.Returned number fuel value) is = refl
    plain-frame d c was some there (message.Threw number class) is = refl
    plain-frame d c was some there (message.Spent number) is = refl
    plain-frame d c was some there (message.Ack number) is = refl
    plain-frame d c was some there (message.Dirty sequence period objects) is = refl
    plain-frame d c was some there (message.Lease sequence period) is = refl
    plain-frame d c was some there (message.Clean sequence strong objects) is = refl
    plain-frame d c was some there (message.Cleaned sequence) is = refl
    plain-frame d c was some there (message.Lookup number name) is = refl

    came-as : (m : Message) → e ≡ Received conn m → frame_of conn e ≡ m ∷ []
    came-as m is = subst (λ x. frame_of conn x ≡ m ∷ []) (sym is) (ap (λ (b : Bool). if b then m ∷ [] else []) (eq-eqb conn conn refl))

    keeps : (c : Connection) → connection_at after conn ≡ Some c → (o : Option Connection) → connection_at s.state conn ≡ o → KeepsItsVersion s.setting c (came_on conn (e ∷ s.history)) (sent_on conn (s.outputs ++ os))
    keeps c there None was = absurd (gone c was there)
    keeps c there (Some d) was = by d.peer refl (brings_on conn e) refl
      where
        as-it-was : AnswersNone e s.history conn → (brings_on conn e ≡ true → is_some d.peer ≡ true) → NoHellos (frame_of conn e) → NoHellos (sent_on conn os) → KeepsItsVersion s.setting c (came_on conn (e ∷ s.history)) (sent_on conn (s.outputs ++ os))
        as-it-was never finds came sent =
            let K = kept d was never in
            let r = same d c was finds there in
            subst (λ (l : List Message). KeepsItsVersion s.setting c (came_on conn s.history ++ frame_of conn e) l) (sym more)
            (keeps-so d c (came_on conn s.history) (sent_on conn s.outputs) (frame_of conn e) (sent_on conn os) (k.keeps d was) r.0 r.1 (K.0 c there) (spoken-so conn d.version os K.1 sent) came)

        -- the first Hello came
        first : (m : Message) → e ≡ Received conn m → d.peer ≡ None → HeardFirst s.setting d m → c.dialled ≡ d.dialled → (o : Option Uuid) → d.dialled ≡ o → KeepsItsVersion s.setting c (came_on conn (e ∷ s.history)) (sent_on conn (s.outputs ++ os))
        first m is none w dialled (Some peer) f = record {
          says = λ there. subst (λ (l : List Message). AllOf (IsSpokenIn c.version) l) (sym more) (subst (λ v. AllOf (IsSpokenIn v) (sent_on conn s.outputs ++ sent_on conn os)) (sym version)
              (all-append (IsSpokenIn d.version) (sent_on conn s.outputs) (sent_on conn os) ((k.keeps d was).says at) (spoken-so conn d.version os K.1 (no-second d was (ap (says_late s.setting) f)))));
          answered = λ there some. subst (λ (l : List Message). AllOf (IsOfVersion c.version) l) (sym came) (subst (λ x. AllOf (IsOfVersion c.version) (x ∷ [])) (sym w.says) (fits ∙ sym version, tt));
          heard = λ there some. absurd (true≢false (sym (ap is_some dialled ∙ at) ∙ there));
        }
          where
            at : is_some d.dialled ≡ true
            at = ap (λ (o : Option Uuid). is_some o) f

            K : At (IsOf d.version) conn after.connections × AllOf (FitsOn conn d.version) os
            K = kept d was (none-there d was at)

            version : c.version ≡ d.version
            version = K.0 c there

            came : came_on conn (e ∷ s.history) ≡ m ∷ []
            came = ap (λ (l : List Message). l ++ frame_of conn e) (k.waits d was none).0 ∙ came-as m is

            fits : w.version ≡ d.version
            fits = subst (λ o. FitsFirst s.setting d.version o w.version) f w.fits
        first m is none w dialled None f = record {
          says = λ there. absurd (true≢false (sym there ∙ ap is_some (dialled ∙ f)));
          answered = λ there some. absurd (true≢false (sym there ∙ ap is_some (dialled ∙ f)));
          heard = λ there some. subst (λ (l : List Message). AllOf (IsHeardIn s.setting c.version) l) (sym came) (subst (λ x. AllOf (IsHeardIn s.setting c.version) (x ∷ [])) (sym w.says) ((fits, most (nat_le 2 s.setting.version) refl), tt));
        }
          where
            came : came_on conn (e ∷ s.history) ≡ m ∷ []
            came = ap (λ (l : List Message). l ++ frame_of conn e) (k.waits d was none).0 ∙ came-as m is

            fits : nat_le w.version s.setting.version ≡ true
            fits = subst (λ o. FitsFirst s.setting d.version o w.version) f w.fits

            hello : e ≡ Received conn (message.Hello w.version w.space w.digest)
            hello = is ∙ ap (λ x. Received conn x) w.says

            most : (b : Bool) → nat_le 2 s.setting.version ≡ b → most_ids w.version ≤ most_ids c.version
            most true late =
                let version : c.version ≡ min w.version s.setting.version = row-answers s.setting s.history conn w.version w.space w.digest s.state d (noted s eq) (between s eq) was none f late c (subst (λ x. connection_at (Space.on s.setting x s.state).0 conn ≡ Some c) hello there) in
                let le : w.version ≤ s.setting.version = leb-true w.version s.setting.version fits in
                let equal : c.version ≡ w.version = omega arith in
                subst (λ n. most_ids w.version ≤ most_ids n) (sym equal) (omega arith)
            most false early =
                let le : w.version ≤ s.setting.version = leb-true w.version s.setting.version fits in
                let low : s.setting.version < 2 = leb-false 2 s.setting.version early in
                let below : nat_le 2 w.version ≡ false = lt-leb w.version (omega arith) in
                let least : most_ids w.version ≡ 1024 = low-ids w.version below in
                let most : 1024 ≤ most_ids c.version = least-ids c.version in omega arith
              where
                lt-leb : (n : ℕ) → n < 2 → nat_le 2 n ≡ false
                lt-leb n lt = pick (nat_le 2 n) refl
                  where
                    pick : (b : Bool) → nat_le 2 n ≡ b → b ≡ false
                    pick true e = let x : 2 ≤ n = leb-true 2 n e in absurd (omega (arith, lt))
                    pick false e = refl

        by : (p : Option Uuid) → d.peer ≡ p → (b : Bool) → brings_on conn e ≡ b → KeepsItsVersion s.setting c (came_on conn (e ∷ s.history)) (sent_on conn (s.outputs ++ os))
        by (Some p) q true is =
            let some : is_some d.peer ≡ true = ap (λ (o : Option Uuid). is_some o) q in
            let m = comes-open conn e s.setting lent s.state taken is in
            let plain : is_hello m.0 ≡ false = plain-frame d c was some there m.0 m.1.0 in
            as-it-was (none-plain m.0 m.1.0 plain) (λ i. some) (subst NoHellos (sym (came-as m.0 m.1.0)) (plain, tt)) (no-more-hellos d was some)
        by (Some p) q false is = as-it-was (none-brought is) (λ i. absurd (true≢false (sym i ∙ is))) (subst NoHellos (sym (none-comes conn e is)) tt) (no-more-hellos d was (ap (λ (o : Option Uuid). is_some o) q))
        by None q false is = as-it-was (none-brought is) (λ i. absurd (true≢false (sym i ∙ is))) (subst NoHellos (sym (none-comes conn e is)) tt) (subst NoHellos (sym (nothing (came-none (k.waits d was q).0 is))) tt)
        by None q true is = let m = comes-open conn e s.setting lent s.state taken is in
            pick m.0 m.1.0 (first-so s.setting conn m.0 s.state d (noted s eq) was q) (welcome d c was q is there)
          where
            pick : (m : Message) → e ≡ Received conn m → ((is_open (Space.on s.setting (Received conn m) s.state).0 conn ≡ false) × (sent_on conn (Space.on s.setting (Received conn m) s.state).1 ≡ [])) ⊎ HeardFirst s.setting d m
                → (x : Message) × ((e ≡ Received conn x) × IsWelcomed s.setting conn d.dialled x after) → KeepsItsVersion s.setting c (came_on conn (e ∷ s.history)) (sent_on conn (s.outputs ++ os))
            pick m at (inl x) w = absurd (not-shut conn after c there (subst (λ y. is_open (Space.on s.setting y s.state).0 conn ≡ false) (sym at) x.0))
            pick m at (inr x) w = first m at q x (w.1.1.row c there).1 d.dialled refl

    -- both ends met, where a Hello came
    met-before : (d : Connection) → connection_at s.state conn ≡ Some d → (p : Uuid) → d.peer ≡ Some p → HasMet s conn
    met-before d was p q = by d.dialled refl
      where
        some : is_some d.peer ≡ true
        some = ap (λ (o : Option Uuid). is_some o) q

        x : (version : ℕ) × ((digest : List ℕ) × IsOneOf (message.Hello version p digest) (came_on conn s.history))
        x = first-came s.setting d.dialled p (came_on conn s.history) (k.greeted d p was q)

        opened-now : (b : Bool) → opened conn s.history ≡ b → opened conn s.history ≡ true
        opened-now true o = o
        opened-now false o = absurd (not-shut conn s.state d was (k.shut o))

        by : (o : Option Uuid) → d.dialled ≡ o → HasMet s conn
        by (Some peer) f =
            let dialled : is_some d.dialled ≡ true = ap (λ (o : Option Uuid). is_some o) f in
            let y = first-said s.setting (sent_on conn s.outputs) (k.first (opened-now (opened conn s.history) refl)) (k.said d was some) in
            let heard : x.0 ≡ d.version = of-one (IsOfVersion d.version) (message.Hello x.0 p x.1.0) (came_on conn s.history) ((k.keeps d was).answered dialled some) x.1.1 in
            let said : y.0 ≡ d.version = of-one (IsSpokenIn d.version) (message.Hello y.0 s.setting.id s.setting.digest) (sent_on conn s.outputs) ((k.keeps d was).says dialled) y.1 in
            record { version = x.0; peer = p; digest = x.1.0; came = x.1.1; speaks = inl (subst (λ b. HasOpened s.history conn b) dialled (way d was), subst (λ v. IsOneOf (message.Hello v s.setting.id s.setting.digest) (sent_on conn s.outputs)) (said ∙ sym heard) y.1) }
        by None f =
            let accepted : is_some d.dialled ≡ false = ap (λ (o : Option Uuid). is_some o) f in
            record {
              version = x.0;
              peer = p;
              digest = x.1.0;
              came = x.1.1;
              speaks = inr (
                subst (λ b. HasOpened s.history conn b) accepted (way d was),
                (of-one (IsHeardIn s.setting d.version) (message.Hello x.0 p x.1.0) (came_on conn s.history) ((k.keeps d was).heard accepted some) x.1.1).0,
              );
            }

    -- or comes
    met-first : (d : Connection) → connection_at s.state conn ≡ Some d → d.peer ≡ None → (m : Message) → e ≡ Received conn m → HeardFirst s.setting d m → HasMet (grown e s) conn
    met-first d was none m is w = record {
      version = w.version;
      peer = w.space;
      digest = w.digest;
      came = one-right (message.Hello w.version w.space w.digest) (came_on conn s.history) (frame_of conn e) (subst (IsOneOf (message.Hello w.version w.space w.digest)) (sym (came-as m is)) (inl (sym w.says)));
      speaks = by d.dialled refl;
    }
      where
        later : (end : Bool) → HasOpened s.history conn end → HasOpened (e ∷ s.history) conn end
        later end o = or-right (opens_end conn end e) (was_opened s.history conn end) o

        opened-now : (b : Bool) → opened conn s.history ≡ b → opened conn s.history ≡ true
        opened-now true o = o
        opened-now false o = absurd (not-shut conn s.state d was (k.shut o))

        by : (o : Option Uuid) → d.dialled ≡ o → (HasOpened (e ∷ s.history) conn true × IsOneOf (message.Hello w.version s.setting.id s.setting.digest) (sent_on conn (s.outputs ++ os))) ⊎ (HasOpened (e ∷ s.history) conn false × (nat_le w.version s.setting.version ≡ true))
        by (Some peer) f =
            let dialled : is_some d.dialled ≡ true = ap (λ (o : Option Uuid). is_some o) f in
            let first = (k.waits d was none).1 in
            let y = first-said s.setting (sent_on conn s.outputs) (k.first (opened-now (opened conn s.history) refl)) (alone-some s.setting _ (subst (λ (x : Bool). SaysFirst s.setting x (sent_on conn s.outputs)) (ap (says_late s.setting) f) first)) in
            let said : y.0 ≡ d.version = of-one (IsSpokenIn d.version) (message.Hello y.0 s.setting.id s.setting.digest) (sent_on conn s.outputs) ((k.keeps d was).says dialled) y.1 in
            let fits : w.version ≡ d.version = subst (λ o. FitsFirst s.setting d.version o w.version) f w.fits in
            inl (
              later true (subst (λ b. HasOpened s.history conn b) dialled (way d was)),
              subst (IsOneOf (message.Hello w.version s.setting.id s.setting.digest)) (sym more)
                  (one-left _ (sent_on conn s.outputs) (sent_on conn os) (subst (λ v. IsOneOf (message.Hello v s.setting.id s.setting.digest) (sent_on conn s.outputs)) (said ∙ sym fits) y.1)),
            )
        by None f = inr (later false (subst (λ b. HasOpened s.history conn b) (ap (λ (o : Option Uuid). is_some o) f) (way d was)), subst (λ o. FitsFirst s.setting d.version o w.version) f w.fits)

    met : (m : Message) → is_hello m ≡ false → (o : Option Connection) → connection_at s.state conn ≡ o → (IsOneOf m (sent_on conn s.outputs)) ⊎ (IsOneOf m (sent_on conn os)) → HasMet (grown e s) conn
    met m plain row was (inl i) = met-later e s conn (k.met m i plain)
    met m plain None was (inr i) = absurd (subst (IsOneOf m) (quiet-shut s e conn eq (ap (λ (o : Option Connection). is_some o) was) apart) i)
    met m plain (Some d) was (inr i) = by d.peer refl (brings_on conn e) refl
      where
        has : HasCome (e ∷ s.history) conn
        has = plain-has s.setting e s.history conn m plain (one-output (AnswersInTurn s.setting e s.history) conn m os (turns s e eq) i)

        by : (p : Option Uuid) → d.peer ≡ p → (b : Bool) → brings_on conn e ≡ b → HasMet (grown e s) conn
        by (Some p) q b is = met-later e s conn (met-before d was p q)
        by None q false is = absurd (true≢false (sym has ∙ never-came conn (e ∷ s.history) (came-none (k.waits d was q).0 is)))
        by None q true is = let x = comes-open conn e s.setting lent s.state taken is in pick x.0 x.1.0 (first-so s.setting conn x.0 s.state d (noted s eq) was q)
          where
            pick : (n : Message) → e ≡ Received conn n → ((is_open (Space.on s.setting (Received conn n) s.state).0 conn ≡ false) × (sent_on conn (Space.on s.setting (Received conn n) s.state).1 ≡ [])) ⊎ HeardFirst s.setting d n → HasMet (grown e s) conn
            pick n at (inl x) = absurd (subst (IsOneOf m) (subst (λ y. sent_on conn (Space.on s.setting y s.state).1 ≡ []) (sym at) x.1) i)
            pick n at (inr x) = met-first d was q n at x

    begins : BeginsWithHello s.setting (sent_on conn s.outputs) → (o : Option Connection) → connection_at s.state conn ≡ o → BeginsWithHello s.setting (sent_on conn (s.outputs ++ os))
    begins was-so None was = subst (BeginsWithHello s.setting) (sym (no-more-said (quiet-shut s e conn eq (ap (λ (o : Option Connection). is_some o) was) apart))) was-so
    begins was-so (Some d) was = by d.peer refl (brings_on conn e) refl (says_late s.setting d.dialled) refl
      where
        now : AnswersSo s.setting conn after os → BeginsWithHello s.setting (sent_on conn os)
        now a = either a.does
          where
            either : ((is_open after conn ≡ false) × (sent_on conn os ≡ [])) ⊎ IsHelloAlone s.setting (sent_on conn os) → BeginsWithHello s.setting (sent_on conn os)
            either (inl x) = subst (BeginsWithHello s.setting) (sym x.1) tt
            either (inr x) = alone-begins s.setting _ x

        by : (p : Option Uuid) → d.peer ≡ p → (b : Bool) → brings_on conn e ≡ b → (late : Bool) → says_late s.setting d.dialled ≡ late → BeginsWithHello s.setting (sent_on conn (s.outputs ++ os))
        by (Some x) p b is late f = let some : is_some d.peer ≡ true = ap (λ (o : Option Uuid). is_some o) p in subst (BeginsWithHello s.setting) (sym more) (begins-more s.setting _ _ was-so (k.said d was some) (no-more-hellos d was some))
        by None p false is late f = subst (BeginsWithHello s.setting) (sym (no-more-said (nothing (came-none (k.waits d was p).0 is)))) was-so
        by None p true is true f = subst (BeginsWithHello s.setting) (sym (said-now (subst (λ (x : Bool). SaysFirst s.setting x (sent_on conn s.outputs)) f (k.waits d was p).1))) (now (answers d was p f is))
        by None p true is false f = subst (BeginsWithHello s.setting) (sym more) (begins-more s.setting _ _ was-so (alone-some s.setting _ (subst (λ (x : Bool). SaysFirst s.setting x (sent_on conn s.outputs)) f (k.waits d was p).1)) (no-second d was f))

    waits : (c : Connection) → connection_at after conn ≡ Some c → c.peer ≡ None → (o : Option Connection) → connection_at s.state conn ≡ o → (came_on conn (e ∷ s.history) ≡ []) × SaysFirst s.setting (says_late s.setting c.dialled) (sent_on conn (s.outputs ++ os))
    waits c there none None was = absurd (gone c was there)
    waits c there none (Some d) was = by (brings_on conn e) refl d.peer refl
      where
        by : (b : Bool) → brings_on conn e ≡ b → (p : Option Uuid) → d.peer ≡ p → (came_on conn (e ∷ s.history) ≡ []) × SaysFirst s.setting (says_late s.setting c.dialled) (sent_on conn (s.outputs ++ os))
        by true is None p = let w = welcome d c was p is there in absurd (none-some w.1.1.space c.peer none (w.1.1.row c there).0)
        by true is (Some x) p = absurd (none-some x c.peer none ((same d c was (λ i. ap (λ (o : Option Uuid). is_some o) p) there).0 ∙ p))
        by false is p q =
            let r = same d c was (λ i. absurd (true≢false (sym i ∙ is))) there in
            let x = k.waits d was (sym r.0 ∙ none) in
            let nothing-came : came_on conn (e ∷ s.history) ≡ [] = came-none x.0 is in
            (nothing-came, subst (λ (o : Option Uuid). SaysFirst s.setting (says_late s.setting o) (sent_on conn (s.outputs ++ os))) (sym r.1) (subst (λ (l : List Message). SaysFirst s.setting (says_late s.setting d.dialled) l) (sym (no-more-said (nothing nothing-came))) x.1))

    said : (c : Connection) → connection_at after conn ≡ Some c → is_some c.peer ≡ true → (o : Option Connection) → connection_at s.state conn ≡ o → sent_on conn (s.outputs ++ os) ≡ [] → ⊥
    said c there some None was none = gone c was there
    said c there some (Some d) was none = by d.peer refl (brings_on conn e) refl (says_late s.setting d.dialled) refl
      where
        parts : (sent_on conn s.outputs ≡ []) × (sent_on conn os ≡ [])
        parts = none-left (sent_on conn s.outputs) (sent_on conn os) (sym more ∙ none)

        by : (p : Option Uuid) → d.peer ≡ p → (b : Bool) → brings_on conn e ≡ b → (late : Bool) → says_late s.setting d.dialled ≡ late → ⊥
        by (Some x) p b is late f = k.said d was (ap (λ (o : Option Uuid). is_some o) p) parts.0
        by None p false is late f = true≢false (sym some ∙ ap (λ (o : Option Uuid). is_some o) ((same d c was (λ i. absurd (true≢false (sym i ∙ is))) there).0 ∙ p))
        by None p true is true f = either (answers d was p f is).does
          where
            either : ((is_open after conn ≡ false) × (sent_on conn os ≡ [])) ⊎ IsHelloAlone s.setting (sent_on conn os) → ⊥
            either (inl x) = not-shut conn after c there x.0
            either (inr x) = alone-some s.setting _ x parts.1
        by None p true is false f = alone-some s.setting _ (subst (λ (x : Bool). SaysFirst s.setting x (sent_on conn s.outputs)) f (k.waits d was p).1) parts.0

    greeted : (c : Connection) (peer : Uuid) → connection_at after conn ≡ Some c → c.peer ≡ Some peer → (o : Option Connection) → connection_at s.state conn ≡ o → BeginsWelcome s.setting c.dialled peer (came_on conn (e ∷ s.history))
    greeted c peer there some None was = absurd (gone c was there)
    greeted c peer there some (Some d) was = by (brings_on conn e) refl d.peer refl
      where
        -- the frames that came before, and those that come
        longer : d.peer ≡ Some peer → c.dialled ≡ d.dialled → NoHellos (frame_of conn e) → BeginsWelcome s.setting c.dialled peer (came_on conn (e ∷ s.history))
        longer p eq none = welcome-more s.setting c.dialled peer (came_on conn s.history) (frame_of conn e) (subst (λ x. BeginsWelcome s.setting x peer (came_on conn s.history)) (sym eq) (k.greeted d peer was p)) none

        -- a Hello does not come again
        no-more : (m : Message) → e ≡ Received conn m → is_some d.peer ≡ true → is_hello m ≡ false
        no-more (message.Hello version space digest) is p = absurd (not-shut conn after c there (subst (λ x. is_open (Space.on s.setting x s.state).0 conn ≡ false) (sym is) (hello-again s.setting conn version space digest s.state d was p)))
        no-more _ is p = refl

        brought : (m : Message) → e ≡ Received conn m → is_hello m ≡ false → NoHellos (frame_of conn e)
        brought m is not-hello = subst (λ x. NoHellos (frame_of conn x)) (sym is) (one (conn == conn))
          where
            one : (b : Bool) → NoHellos (if b then m ∷ [] else [])
            one true = (not-hello, tt)
            one false = tt

        -- the first one comes
        comes : (m : Message) (w : IsWelcomed s.setting conn d.dialled m after) → e ≡ Received conn m → came_on conn s.history ≡ [] → BeginsWelcome s.setting c.dialled peer (came_on conn (e ∷ s.history))
        comes m w is none = subst (λ (l : List Message). BeginsWelcome s.setting c.dialled peer (l ++ frame_of conn e)) (sym none) (subst (λ x. BeginsWelcome s.setting c.dialled peer (frame_of conn x)) (sym is)
            (subst (λ (b : Bool). BeginsWelcome s.setting c.dialled peer (if b then m ∷ [] else [])) (sym (eq-eqb conn conn refl)) (from, tt)))
          where
            row : (c.peer ≡ Some w.space) × (c.dialled ≡ d.dialled)
            row = w.row c there

            space : w.space ≡ peer
            space = some-same (sym row.0 ∙ some)

            from : IsHelloFrom s.setting c.dialled peer m
            from = record {
              version = w.version;
              digest = w.digest;
              says = w.says ∙ ap (λ x. message.Hello w.version x w.digest) space;
              same = w.same;
              who = subst (λ x. IsWho x peer) (sym row.1) (subst (λ x. IsWho d.dialled x) space (who-is d.dialled w.space w.who));
            }

        by : (b : Bool) → brings_on conn e ≡ b → (p : Option Uuid) → d.peer ≡ p → BeginsWelcome s.setting c.dialled peer (came_on conn (e ∷ s.history))
        by true is None p = let w = welcome d c was p is there in comes w.0 w.1.1 w.1.0 (k.waits d was p).0
        by true is (Some x) p =
            let r = same d c was (λ i. ap (λ (o : Option Uuid). is_some o) p) there in
            let m = comes-open conn e s.setting lent s.state taken is in
            longer (sym r.0 ∙ some) r.1 (brought m.0 m.1.0 (no-more m.0 m.1.0 (ap (λ (o : Option Uuid). is_some o) p)))
        by false is p q =
            let r = same d c was (λ i. absurd (true≢false (sym i ∙ is))) there in
            longer (sym r.0 ∙ some) r.1 (subst NoHellos (sym (none-comes conn e is)) tt)

-- ---- worlds

pub record Begun (s : Space) : Type 0 where
  pub history : HasHistory s
  pub order : OpensOnce s.history → (conn : ℕ) → BeginsInOrder s conn

pub grows : (e : Event) (s : Space) (lent : List ℕ) → refusal s.setting lent s.state e ≡ None → Begun s → Begun (grown e s)
unfolding Space.state_of
grows e s lent taken k = record { history = ap (λ t. (Space.on s.setting e t).0) k.history; order = λ once conn. by conn once (opens conn e) refl }
  where
    by : (conn : ℕ) → OpensOnce (e ∷ s.history) → (b : Bool) → opens conn e ≡ b → BeginsInOrder (grown e s) conn
    by conn once true is = opens-order s e conn k.history is (once.0 conn is) (k.order once.1 conn)
    by conn once false is = goes-on s e lent conn k.history once.1 taken is (k.order once.1 conn)

pub new : (g : Setting) → Begun (new_space g)
unfolding Space.state_of opening
new g = record {
  history = refl;
  order = λ once conn. record {
    shut = λ o. refl;
    silent = λ o. (refl, refl);
    first = λ o. absurd (true≢false (sym o));
    early = λ a none. never conn a;
    waits = λ c there none. absurd (some-none c (sym there));
    said = λ c there some. absurd (some-none c (sym there));
    greeted = λ c peer there some. absurd (some-none c (sym there));
    keeps = λ c there. absurd (some-none c (sym there));
    met = λ m o plain. absurd o;
  };
}
  where
    never : (conn : ℕ) → SaysEarly (new_space g) conn → ⊥
    never conn (inl o) = true≢false (sym o)
    never conn (inr x) = true≢false (sym x.0)

pub connections_begin_in_order : ConnectionsBeginInOrder
connections_begin_in_order settings events = all-with Begun IsOpenedOnce (λ (s : Space). (conn : ℕ) → BeginsInOrder s conn) (run (new_world settings) events).spaces (λ s k o. k.order o.0) (all_hold {P = Begun} (record { grows = grows }) new settings events) (connections_are_opened_once settings events).spaces
