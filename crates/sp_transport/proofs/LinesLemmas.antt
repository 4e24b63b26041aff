-- The lines of what is asked, as an event goes on: frames go out, requests wait, end and are made.
use Rattle.std.proofs.Common.{◌≡◌, ℕ, ◌+◌, ◌≤◌, Bool, true, false, cond, List, [], ◌∷◌, ◌++◌, None, Some, is_some, filter, ◌⊎◌, inl, inr, refl, sym, ap, subst, ◌∙◌, true≢false, arith}
use Rattle.std.specs.Prelude.{◌||◌}
use Rattle.std.specs.List.{flat_map, list_any}
use Rattle.std.specs.Str.{bytes_eq}
use Rattle.net_message.specs.declared.message.Message.{Message}
use Rattle.uuid.specs.declared.Uuid.{Uuid}
use Rattle.sp_rules.proofs.AllLemmas.{all-filter, all-more, all-weaken}
use Rattle.sp_rules.proofs.LineLemmas.{one-peer}
use Rattle.sp_rules.specs.Endings.{call_number_in}
use Rattle.sp_rules.specs.Events.{Output, Turn, Note, Says, Sends}
use Rattle.sp_rules.specs.Laws.{AllOf, RisesWithin}
use Rattle.sp_rules.specs.Lines.{WaitsForHello, dialled_to}
use Rattle.sp_rules.specs.Requests.{hello_came, is_waiting}
use Rattle.sp_rules.specs.State.{Connection, Request}
use Rattle.sp_requests.specs.Tables.{AreNumbered}
use Rattle.sp_requests.specs.Asking.{IsNamed, last_call, last_sequence, newest, sequence_in}
use Rattle.sp_requests.proofs.LineLemmas.{line-apart}
use Rattle.sp_transport.specs.Said.{AreLinesAlike, IsNoted, IsOfTurn, is_said, recorded, recorded_in_order}
use Rattle.sp_transport.specs.Transports.{AreLines, IsFresh, IsLine, LineParts, WentAfterHello, asked_up_to, call_number, waiting_number, waiting_numbers}
use Rattle.sp_transport.proofs.SaidLemmas.{Accepts, IsSentOn, accepted-lines, accepted-notes, sent-found, with_frame}
use Rattle.sp_transport.proofs.OrderLemmas.{alike-answer, alike-said, append-none, recorded-said, recorded-sent}

-- ---- lists

append-after : {A : Type 0} (xs ys zs : List A) → (xs ++ ys) ++ zs ≡ xs ++ (ys ++ zs)
append-after [] ys zs = refl
append-after {A} (x ∷ xs) ys zs = ap (λ (l : List A). x ∷ l) (append-after xs ys zs)

pub waiting-append : (xs ys : List Request) → waiting_numbers (xs ++ ys) ≡ waiting_numbers xs ++ waiting_numbers ys
waiting-append [] ys = refl
waiting-append (x ∷ xs) ys = ap (λ (l : List ℕ). waiting_number x ++ l) (waiting-append xs ys) ∙ sym (append-after (waiting_number x) (waiting_numbers xs) (waiting_numbers ys))

pub waiting-more : (rs : List Request) (r : Request) (w : Bool) → is_waiting r.stage ≡ w → waiting_numbers (rs ++ r ∷ []) ≡ waiting_numbers rs ++ cond w (call_number r.asked) []
waiting-more rs r w e =
    waiting-append rs (r ∷ []) ∙ ap (λ (l : List ℕ). waiting_numbers rs ++ l) (append-none (waiting_number r) ∙ ap (λ b. cond b (call_number r.asked) []) e)

-- ---- numbers that rise

pub rises-top : (n last top : ℕ) (xs : List ℕ) → last ≤ top → RisesWithin n last xs → RisesWithin n top xs
rises-top n last top [] le r = let a : n ≤ last = r in omega arith
rises-top n last top (x ∷ xs) le r = (r.0, rises-top x last top xs le r.1)

pub rises-from : (n m top : ℕ) (xs : List ℕ) → n ≤ m → RisesWithin m top xs → RisesWithin n top xs
rises-from n m top [] le r = let a : m ≤ top = r in omega arith
rises-from n m top (x ∷ xs) le r = let a : m + 1 ≤ x = r.0 in (omega arith, r.1)

pub rises-last : (n last top x : ℕ) (xs : List ℕ) → last + 1 ≤ x → x ≤ top → RisesWithin n last xs → RisesWithin n top (xs ++ x ∷ [])
rises-last n last top x [] above below r = let a : n ≤ last = r in (omega arith, below)
rises-last n last top x (y ∷ xs) above below r = (r.0, rises-last y last top x xs above below r.1)

rises-rest : (n top : ℕ) (xs ys : List ℕ) → RisesWithin n top (xs ++ ys) → RisesWithin n top ys
rises-rest n top [] ys r = r
rises-rest n top (x ∷ xs) ys r = let a : n + 1 ≤ x = r.0 in rises-from n x top ys (omega arith) (rises-rest x top xs ys r.1)

rises-after : (n top : ℕ) (xs ys zs : List ℕ) → ((m : ℕ) → RisesWithin m top ys → RisesWithin m top zs) → RisesWithin n top (xs ++ ys) → RisesWithin n top (xs ++ zs)
rises-after n top [] ys zs k r = k n r
rises-after n top (x ∷ xs) ys zs k r = (r.0, rises-after x top xs ys zs k r.1)

-- those of some of a list rise
pub rises-some : {A : Type 0} (f : A → List ℕ) (is : A → Bool) (n top : ℕ) (xs : List A) → RisesWithin n top (flat_map f xs) → RisesWithin n top (flat_map f (filter is xs))
rises-some f is n top [] r = r
rises-some f is n top (x ∷ xs) r = pick (is x) (λ m k. rises-some f is m top xs k)
  where
    pick : (b : Bool) → ((m : ℕ) → RisesWithin m top (flat_map f xs) → RisesWithin m top (flat_map f (filter is xs))) → RisesWithin n top (flat_map f (cond b (x ∷ filter is xs) (filter is xs)))
    pick true rest = rises-after n top (f x) (flat_map f xs) (flat_map f (filter is xs)) rest r
    pick false rest = rest n (rises-rest n top (f x) (flat_map f xs) r)

-- ---- one line

pub line-wider : {asked told more later : ℕ} {c : Connection} → asked ≤ more → told ≤ later → IsLine asked told c → IsLine more later c
line-wider {asked} {told} {more} {later} {c} le lt a = record { called = let x : last_call c.sent ≤ asked = a.called in omega arith; told_of = let x : last_sequence c.sent ≤ told = a.told_of in omega arith; quiet = a.quiet }

-- a call or lookup goes out, after the peer's Hello
pub line-call : {asked told : ℕ} {c : Connection} (m : Message) (n : ℕ) → call_number_in m ≡ n ∷ [] → sequence_in m ≡ [] → n ≤ asked → is_some c.peer ≡ true → IsLine asked told c → IsLine asked told (with_frame m c)
line-call {asked = asked} {told = told} {c = c} m n number nil le some a = record {
  called = subst (λ (l : List ℕ). newest (l ++ flat_map call_number_in c.sent) ≤ asked) (sym number) le;
  told_of = subst (λ (l : List ℕ). newest (l ++ flat_map sequence_in c.sent) ≤ told) (sym nil) a.told_of;
  quiet = λ none. absurd (true≢false (sym some ∙ ap is_some none));
}

-- dirty or clean calls go out, after it
pub line-group : {asked told : ℕ} {c : Connection} (m : Message) (n : ℕ) → call_number_in m ≡ [] → sequence_in m ≡ n ∷ [] → n ≤ told → is_some c.peer ≡ true → IsLine asked told c → IsLine asked told (with_frame m c)
line-group {asked = asked} {told = told} {c = c} m n nil number le some a = record {
  called = subst (λ (l : List ℕ). newest (l ++ flat_map call_number_in c.sent) ≤ asked) (sym nil) a.called;
  told_of = subst (λ (l : List ℕ). newest (l ++ flat_map sequence_in c.sent) ≤ told) (sym number) le;
  quiet = λ none. absurd (true≢false (sym some ∙ ap is_some none));
}

-- another frame goes out
pub line-plain : {asked told : ℕ} {c : Connection} (m : Message) → call_number_in m ≡ [] → sequence_in m ≡ [] → IsLine asked told c → IsLine asked told (with_frame m c)
line-plain {asked = asked} {told = told} {c = c} m nil none a = record {
  called = subst (λ (l : List ℕ). newest (l ++ flat_map call_number_in c.sent) ≤ asked) (sym nil) a.called;
  told_of = subst (λ (l : List ℕ). newest (l ++ flat_map sequence_in c.sent) ≤ told) (sym none) a.told_of;
  quiet = λ isnt. ap (λ (l : List ℕ). l ++ flat_map call_number_in c.sent) nil ∙ a.quiet isnt;
}

-- the connections of two peers that have one number are one
one-line : (cs : List Connection) (p q : Uuid) (c d : Connection) → AreNumbered cs → dialled_to cs p ≡ Some c → dialled_to cs q ≡ Some d → d.number ≡ c.number → c ≡ d
one-line cs p q c d numbered e f same = pick (bytes_eq p q) refl
  where
    only : (x y : Connection) → Some x ≡ Some y → x ≡ y
    only x y h = cc

    pick : (b : Bool) → bytes_eq p q ≡ b → c ≡ d
    pick true is = only c d (sym e ∙ (ap (dialled_to cs) (one-peer p q is) ∙ f))
    pick false is = absurd (line-apart cs p q c d numbered e f is (sym same))

-- ---- a frame goes out on a connection that was dialled

-- What is sent on all of them, if this is said of the one on which the frame goes out.
pub sent-lines : (asked told more : ℕ) (turn : Turn) (n : ℕ) (m : Message) (notes : List Note) (cs : List Connection) (peer : Uuid) (g : Connection) → AreNumbered (recorded cs notes) → dialled_to (recorded cs notes) peer ≡ Some g → g.number ≡ n → told ≤ more
    → IsLine asked more (with_frame m g) → ((q : Uuid) (c : Connection) → dialled_to (recorded cs notes) q ≡ Some c → IsLine asked told c) → (q : Uuid) (c : Connection) → dialled_to (recorded cs (notes ++ Sends turn n m ∷ [])) q ≡ Some c → IsLine asked more c
sent-lines asked told more turn n m notes cs peer g numbered there number le grows lines q c e =
    pick (sent-found n m (recorded cs notes) q c (sym (ap (λ (l : List Connection). dialled_to l q) (recorded-sent turn n m notes cs)) ∙ e))
  where
    pick : (dialled_to (recorded cs notes) q ≡ Some c) ⊎ IsSentOn n m (dialled_to (recorded cs notes) q) c → IsLine asked more c
    pick (inl f) = line-wider {asked = asked} {told = told} {more = asked} {later = more} {c = c} (omega arith) le (lines q c f)
    pick (inr s) =
        let one : g ≡ s.before = one-line (recorded cs notes) peer q g s.before numbered there s.there (s.number ∙ sym number) in
        subst (IsLine asked more) (ap (with_frame m) one ∙ sym s.is) grows

-- a request goes out with a frame
pub lines-out : (p : LineParts) (told : ℕ) (r : Request) (turn : Turn) (n : ℕ) (m : Message) (g : Connection) → AreLines p → AreNumbered (recorded p.connections p.notes) → is_waiting r.stage ≡ false → is_some (hello_came (dialled_to p.connections r.peer)) ≡ true
    → dialled_to (recorded p.connections p.notes) r.peer ≡ Some g → g.number ≡ n → p.told ≤ told → IsLine (asked_up_to p.made p.fresh) told (with_frame m g) → IsOfTurn turn m
    → AreLinesAlike (recorded p.connections (p.notes ++ Sends turn n m ∷ [])) (recorded_in_order p.connections (p.notes ++ Sends turn n m ∷ []))
    → AreLines (record p { requests = p.requests ++ r ∷ []; notes = p.notes ++ Sends turn n m ∷ []; told = told })
lines-out p told r turn n m g a numbered still hello there number le grows fits alike = record {
  sent = sent-lines (asked_up_to p.made p.fresh) p.told told turn n m p.notes p.connections r.peer g numbered there number le grows a.sent;
  waiting = all-more (WaitsForHello p.connections p.dialling) p.requests r a.waiting (λ w. absurd (true≢false (sym w ∙ still)));
  out = all-more (WentAfterHello p.connections) p.requests r a.out (λ w. hello);
  rising = subst (RisesWithin 0 (asked_up_to p.made p.fresh)) (sym (waiting-more p.requests r false still ∙ append-none (waiting_numbers p.requests))) a.rising;
  fresh_is = a.fresh_is;
  noted = all-more IsNoted p.notes (Sends turn n m) a.noted fits;
  alike = alike;
}

-- ---- a request waits

pub lines-wait : (p : LineParts) (r : Request) (dialling : List Uuid) → AreLines p → is_waiting r.stage ≡ true → ((q : Uuid) → list_any (bytes_eq q) p.dialling ≡ true → list_any (bytes_eq q) dialling ≡ true)
    → (is_some (dialled_to p.connections r.peer) || list_any (bytes_eq r.peer) dialling) ≡ true → hello_came (dialled_to p.connections r.peer) ≡ None → RisesWithin 0 (asked_up_to p.made p.fresh) (waiting_numbers p.requests ++ call_number r.asked)
    → AreLines (record p { dialling = dialling; requests = p.requests ++ r ∷ [] })
lines-wait p r dialling a still wider known none rises = record {
  sent = a.sent;
  waiting = all-more (WaitsForHello p.connections dialling) p.requests r
      (all-weaken (WaitsForHello p.connections p.dialling) (WaitsForHello p.connections dialling) p.requests (λ x w is. let y = w is in (more (is_some (dialled_to p.connections x.peer)) x.peer y.0, y.1)) a.waiting) (λ w. (known, none));
  out = all-more (WentAfterHello p.connections) p.requests r a.out (λ w. absurd (true≢false (sym still ∙ w)));
  rising = subst (RisesWithin 0 (asked_up_to p.made p.fresh)) (sym (waiting-more p.requests r true still)) rises;
  fresh_is = a.fresh_is;
  noted = a.noted;
  alike = a.alike;
}
  where
    more : (b : Bool) (q : Uuid) → (b || list_any (bytes_eq q) p.dialling) ≡ true → (b || list_any (bytes_eq q) dialling) ≡ true
    more true q e = refl
    more false q e = wider q e

-- ---- outputs

pub lines-said : (p : LineParts) (o : Output) → AreLines p → is_said o ≡ true → AreLines (record p { notes = p.notes ++ Says o ∷ [] })
lines-said p o a is = record {
  sent = λ q c e. a.sent q c (sym (ap (λ (l : List Connection). dialled_to l q) (recorded-said o p.notes p.connections)) ∙ e);
  waiting = a.waiting;
  out = a.out;
  rising = a.rising;
  fresh_is = a.fresh_is;
  noted = all-more IsNoted p.notes (Says o) a.noted is;
  alike = alike-said o p.notes p.connections is a.alike;
}

pub answer-lines : (turn : Turn) (n : ℕ) (m : Message) (notes : List Note) (cs : List Connection) (q : Uuid) → AllOf (Accepts n) cs → dialled_to (recorded cs (notes ++ Sends turn n m ∷ [])) q ≡ dialled_to (recorded cs notes) q
answer-lines turn n m notes cs q accepts =
    ap (λ (l : List Connection). dialled_to l q) (recorded-sent turn n m notes cs) ∙ accepted-lines n m (recorded cs notes) q (accepted-notes n notes cs accepts)

pub lines-answer : (p : LineParts) (turn : Turn) (n : ℕ) (m : Message) → AreLines p → AllOf (Accepts n) p.connections → IsOfTurn turn m → AreLines (record p { notes = p.notes ++ Sends turn n m ∷ [] })
lines-answer p turn n m a accepts fits = record {
  sent = λ q c e. a.sent q c (sym (answer-lines turn n m p.notes p.connections q accepts) ∙ e);
  waiting = a.waiting;
  out = a.out;
  rising = a.rising;
  fresh_is = a.fresh_is;
  noted = all-more IsNoted p.notes (Sends turn n m) a.noted fits;
  alike = alike-answer turn n m p.notes p.connections accepts a.alike;
}

-- ---- calls that are made

up-to-made : (made : ℕ) (fresh : List Request) → asked_up_to made fresh ≤ made
up-to-made made [] = omega arith
up-to-made made (r ∷ rs) = omega arith

-- no fewer calls were asked
pub lines-asked : (p : LineParts) (made : ℕ) (fresh : List Request) → AreLines p → asked_up_to p.made p.fresh ≤ asked_up_to made fresh → AllOf (IsFresh made) fresh → AreLines (record p { made = made; fresh = fresh })
lines-asked p made fresh a le is = record {
  sent = λ q c e. line-wider {asked = asked_up_to p.made p.fresh} {told = p.told} {more = asked_up_to made fresh} {later = p.told} {c = c} le (omega arith) (a.sent q c e);
  waiting = a.waiting;
  out = a.out;
  rising = rises-top 0 (asked_up_to p.made p.fresh) (asked_up_to made fresh) (waiting_numbers p.requests) le a.rising;
  fresh_is = is;
  noted = a.noted;
  alike = a.alike;
}

pub lines-make : (p : LineParts) (r : Request) → AreLines p → call_number r.asked ≡ (p.made + 1) ∷ [] → IsNamed r.asked → AreLines (record p { made = p.made + 1; fresh = r ∷ [] })
lines-make p r a number named = lines-asked p (p.made + 1) (r ∷ []) a (let x = up-to-made p.made p.fresh in omega arith) ((number, named, omega arith), tt)

pub lines-taken : (p : LineParts) → AreLines p → AreLines (record p { fresh = [] })
lines-taken p a = lines-asked p p.made [] a (up-to-made p.made p.fresh) tt

-- ---- requests that go

pub lines-fewer : (p : LineParts) (is : Request → Bool) → AreLines p → AreLines (record p { requests = filter is p.requests })
lines-fewer p is a = record {
  sent = a.sent;
  waiting = all-filter (WaitsForHello p.connections p.dialling) is p.requests a.waiting;
  out = all-filter (WentAfterHello p.connections) is p.requests a.out;
  rising = rises-some waiting_number is 0 (asked_up_to p.made p.fresh) p.requests a.rising;
  fresh_is = a.fresh_is;
  noted = a.noted;
  alike = a.alike;
}
