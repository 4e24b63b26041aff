-- The requests that wait for a Hello, as they go out, and the parts of a group.
use Rattle.std.proofs.Common.{◌≡◌, ℕ, ◌+◌, ◌≤◌, Bool, true, false, cond, List, [], ◌∷◌, ◌++◌, Some, inl, refl, sym, ap, subst, ◌∙◌, arith, append-nil, append_assoc}
use Rattle.std.specs.Prelude.{◌&&◌, filter, find, map, not}
use Rattle.std.specs.List.{flat_map}
use Rattle.std.specs.Str.{bytes_eq}
use Rattle.std.proofs.lemmas.Bool.{false≢true}
use Rattle.uuid.specs.declared.Uuid.{Uuid}
use Rattle.space_ids.specs.declared.ids.ObjId.{ObjId}
use Rattle.dgc_client.specs.declared.groups.Group.{Group}
use Rattle.dgc_client.specs.Groups as groups
use Rattle.sp_rules.proofs.AllLemmas.{all-weaken}
use Rattle.sp_rules.proofs.LineLemmas.{one-peer}
use Rattle.sp_rules.specs.Events as event
use Rattle.sp_rules.specs.Events.{Note, Says, Sends, Turn}
use Rattle.sp_rules.specs.Frames.{greeted}
use Rattle.sp_rules.specs.Laws.{AllOf, RisesWithin}
use Rattle.sp_rules.specs.Lists.{each}
use Rattle.sp_rules.specs.Requests as requests
use Rattle.sp_rules.specs.Requests.{hello_came, is_waiting, waits_for}
use Rattle.sp_rules.specs.State.{State, Connection, Request, Asked, Calls, LooksUp, Tells, Waits, connection_to, is_to}
use Rattle.sp_requests.specs.Asking.{IsNamed, asked_of, last_call}
use Rattle.sp_requests.specs.declared.asked.Asked as kept
use Rattle.sp_transport.specs.Asking.{AreNextOut, welcome}
use Rattle.sp_transport.specs.Said.{CallsMayGo, GroupsMayGo, IsNotAfter, IsNotAfterButAcks, MayGo}
use Rattle.sp_transport.specs.Transports.{IsTransport, asked_up_to, call_number}
use Rattle.sp_transport.specs.declared.transport.Transport.{Transport}
use Rattle.sp_transport.proofs.GoesLemmas.{IsStep, each-cons, each-more, each-none, go-step, next-out, parts-step}

hello-of : (s t : State) (peer : Uuid) → t.connections ≡ s.connections → hello_came (connection_to t peer) ≡ hello_came (connection_to s peer)
hello-of s t peer same = ap (λ (cs : List Connection). hello_came (find (λ (c : Connection). is_to peer c.dialled) cs)) same

-- two peers that are not told apart are one
pub not-apart : (p q : Uuid) (apart : Bool) → apart ≡ not (bytes_eq p q) → apart ≡ false → p ≡ q
not-apart p q apart is isnt = pick (bytes_eq p q) refl (sym is ∙ isnt)
  where
    pick : (b : Bool) → bytes_eq p q ≡ b → not b ≡ false → p ≡ q
    pick true e h = one-peer p q e
    pick false e h = absurd (false≢true (sym h))

-- ---- parts of a group

-- The first parts of a group went out.
pub record IsTelling (turn : Turn) (conn call : ℕ) (group : Group) (s : State) (out left : List Group) (t : Transport) : Type 0 where
  pub stands : IsTransport (each (requests.part_goes_out turn conn call) out s) t
  pub whole : out ++ left ≡ groups.parts_of (requests.most_on s conn) group

pub telling-start : (turn : Turn) (conn call : ℕ) (group : Group) (s : State) (left : List Group) (t : Transport) → left ≡ groups.parts_of (requests.most_on s conn) group → IsTransport s t → IsTelling turn conn call group s [] left t
telling-start turn conn call group s left t whole a = record { stands = subst (λ (u : State). IsTransport u t) (sym (each-none (requests.part_goes_out turn conn call) s)) a; whole = whole }

of-peer : (group : Group) (pieces : List (List ObjId)) → AllOf (λ (part : Group). part.peer ≡ group.peer) (map (groups.part_of group) pieces)
of-peer group [] = tt
of-peer group (piece ∷ pieces) = (refl, of-peer group pieces)

all-here : {A : Type 0} (P : A → Type 0) (xs : List A) (x : A) (ys : List A) → AllOf P (xs ++ x ∷ ys) → P x
all-here P [] x ys a = a.0
all-here P (y ∷ xs) x ys a = all-here P xs x ys a.1

pub telling-step : (turn : Turn) (conn call : ℕ) (group : Group) (s : State) (out : List Group) (part : Group) (left rest : List Group) (t u : Transport) → left ≡ part ∷ rest → hello_came (connection_to s group.peer) ≡ Some conn → GroupsMayGo turn s → IsTelling turn conn call group s out left t
    → ((v : State) → IsTransport v t → hello_came (connection_to v part.peer) ≡ Some conn → GroupsMayGo turn v → IsTransport (requests.part_goes_out turn conn call v part) u) → IsTelling turn conn call group s (out ++ part ∷ []) rest u
telling-step turn conn call group s out part left rest t u next hello may telling tells =
    let whole : out ++ part ∷ rest ≡ groups.parts_of (requests.most_on s conn) group = ap (λ (l : List Group). out ++ l) (sym next) ∙ telling.whole in
    let its : part.peer ≡ group.peer = all-here (λ (p : Group). p.peer ≡ group.peer) out part rest (subst (AllOf (λ (p : Group). p.peer ≡ group.peer)) (sym whole) (of-peer group (groups.pieces (requests.most_on s conn) group.ids))) in
    let v : State = each (requests.part_goes_out turn conn call) out s in
    let step : IsStep turn s v = parts-step turn conn call out s in
    record {
      stands = subst (λ (w : State). IsTransport w u) (sym (each-more (requests.part_goes_out turn conn call) out part s))
          (tells v telling.stands (ap (λ (p : Uuid). hello_came (connection_to v p)) its ∙ hello-of s v group.peer step.connections ∙ hello) (step.notes (IsNotAfterButAcks turn) (λ c m. inl (omega arith)) (λ peer. tt) may));
      whole = append_assoc out (part ∷ []) rest ∙ whole;
    }

pub telling-all : (turn : Turn) (conn call : ℕ) (group : Group) (s : State) (out left : List Group) (t : Transport) → left ≡ [] → IsTelling turn conn call group s out left t → IsTransport (each (requests.part_goes_out turn conn call) (groups.parts_of (requests.most_on s conn) group) s) t
telling-all turn conn call group s out left t none telling =
    let all : out ≡ groups.parts_of (requests.most_on s conn) group = sym (append-nil out) ∙ ap (λ (l : List Group). out ++ l) (sym none) ∙ telling.whole in
    subst (λ (l : List Group). IsTransport (each (requests.part_goes_out turn conn call) l s) t) all telling.stands

-- ---- requests that waited

-- the next request of a peer goes out
abbrev pub goes_after : ℕ → Uuid → State → Asked → State
goes_after conn peer s asked = requests.go_out event.Waited conn (record { peer = peer; asked = asked; stage = Waits }) s

-- what waits for a peer
abbrev pub waiting_of : Uuid → State → List Asked
waiting_of peer s = map (λ (r : Request). r.asked) (filter (waits_for peer) s.requests)

go-of : (conn : ℕ) (peer : Uuid) (s : State) (r : Request) → r.peer ≡ peer → requests.go_out event.Waited conn r s ≡ goes_after conn peer s r.asked
unfolding requests.go_out
go-of conn peer s r is = ap (λ (p : Uuid). requests.goes_out event.Waited conn p r.asked s) is

each-of : (conn : ℕ) (peer : Uuid) (rs : List Request) (s : State) → AllOf (λ (r : Request). r.peer ≡ peer) rs → each (λ t r. requests.go_out event.Waited conn r t) rs s ≡ each (goes_after conn peer) (map (λ (r : Request). r.asked) rs) s
each-of conn peer [] s a = each-none (λ t r. requests.go_out event.Waited conn r t) s ∙ sym (each-none (goes_after conn peer) s)
each-of conn peer (r ∷ rs) s a =
    each-cons (λ t q. requests.go_out event.Waited conn q t) r rs s ∙ ap (λ (t : State). each (λ u q. requests.go_out event.Waited conn q u) rs t) (go-of conn peer s r a.0)
    ∙ each-of conn peer rs (goes_after conn peer s r.asked) a.1 ∙ sym (each-cons (goes_after conn peer) r.asked (map (λ (q : Request). q.asked) rs) s)

waits-peer : (peer : Uuid) (rs : List Request) → AllOf (λ (r : Request). r.peer ≡ peer) (filter (waits_for peer) rs)
waits-peer peer [] = tt
waits-peer peer (r ∷ rs) = pick (bytes_eq r.peer peer) (is_waiting r.stage) refl (waits-peer peer rs)
  where
    pick : (b w : Bool) → bytes_eq r.peer peer ≡ b → AllOf (λ (q : Request). q.peer ≡ peer) (filter (waits_for peer) rs) → AllOf (λ (q : Request). q.peer ≡ peer) (cond (b && w) (r ∷ filter (waits_for peer) rs) (filter (waits_for peer) rs))
    pick true true e rest = (one-peer r.peer peer e, rest)
    pick true false e rest = rest
    pick false w e rest = rest

flush-is : (conn : ℕ) (peer : Uuid) (s : State) → requests.flush_waiting peer conn (greeted peer conn s) ≡ each (goes_after conn peer) (waiting_of peer s) (welcome peer conn s)
unfolding requests.flush_waiting
flush-is conn peer s = each-of conn peer (filter (waits_for peer) s.requests) (welcome peer conn s) (waits-peer peer s.requests)

-- The first of the requests that waited went out, and the others may.
pub record IsFlushing (conn : ℕ) (peer : Uuid) (s : State) (out left : List kept.Asked) (t : Transport) : Type 0 where
  pub now : State
  pub now_is : now ≡ each (goes_after conn peer) (map asked_of out) (welcome peer conn s)
  pub stands : IsTransport now t
  pub hello : hello_came (connection_to now peer) ≡ Some conn
  pub notes : CallsMayGo event.Waited now
  pub next : AreNextOut now peer (flat_map call_number (map asked_of left))
  pub named : AllOf IsNamed (map asked_of left)
  pub whole : map asked_of out ++ map asked_of left ≡ waiting_of peer s

pub flushing-start : (conn : ℕ) (peer : Uuid) (s : State) (left : List kept.Asked) (t : Transport) → s.notes ≡ [] → IsTransport (welcome peer conn s) t → hello_came (connection_to (welcome peer conn s) peer) ≡ Some conn → AreNextOut (welcome peer conn s) peer (flat_map call_number (map asked_of left))
    → AllOf IsNamed (map asked_of left) → map asked_of left ≡ waiting_of peer s → IsFlushing conn peer s [] left t
flushing-start conn peer s left t none stands hello next named whole = record {
  now = welcome peer conn s;
  now_is = sym (each-none (goes_after conn peer) (welcome peer conn s));
  stands = stands;
  hello = hello;
  notes = subst (AllOf (IsNotAfter event.Waited)) (sym none) tt;
  next = next;
  named = named;
  whole = whole;
}

before-acks : (note : Note) → IsNotAfter event.Waited note → IsNotAfterButAcks event.Waited note
before-acks (Says output) is = tt
before-acks (Sends turn conn m) is = inl is

may-go : (asked : Asked) (s : State) → CallsMayGo event.Waited s → MayGo event.Waited asked s
may-go (Calls number task lent kind m) s notes = notes
may-go (LooksUp number task name) s notes = notes
may-go (Tells call group) s notes = all-weaken (IsNotAfter event.Waited) (IsNotAfterButAcks event.Waited) s.notes before-acks notes

-- numbers that rise are not above the last
rises-within : (n top : ℕ) (xs : List ℕ) → RisesWithin n top xs → n ≤ top
rises-within n top [] r = r
rises-within n top (x ∷ xs) r = let a : n + 1 ≤ x = r.0 in let b : x ≤ top = rises-within x top xs r.1 in omega arith

rises-first : (n top : ℕ) (xs ys : List ℕ) → RisesWithin n top (xs ++ ys) → RisesWithin n top xs
rises-first n top [] ys r = rises-within n top ys r
rises-first n top (x ∷ xs) ys r = (r.0, rises-first x top xs ys r.1)

first-out : (s : State) (peer : Uuid) (ns ms : List ℕ) → AreNextOut s peer (ns ++ ms) → AreNextOut s peer ns
first-out s peer ns ms next = λ c there. rises-first (last_call c.sent) (asked_up_to s.calls_made s.fresh) ns ms (next c there)

one-more : (out : List kept.Asked) (a : kept.Asked) → map asked_of (out ++ a ∷ []) ≡ map asked_of out ++ asked_of a ∷ []
one-more [] a = refl
one-more (b ∷ out) a = ap (λ (l : List Asked). asked_of b ∷ l) (one-more out a)

pub flushing-step : (conn : ℕ) (peer : Uuid) (s : State) (out : List kept.Asked) (a : kept.Asked) (left rest : List kept.Asked) (t u : Transport) → left ≡ a ∷ rest → IsFlushing conn peer s out left t
    → ((v : State) → IsTransport v t → hello_came (connection_to v peer) ≡ Some conn → IsNamed (asked_of a) → AreNextOut v peer (call_number (asked_of a)) → MayGo event.Waited (asked_of a) v → IsTransport (goes_after conn peer v (asked_of a)) u)
    → IsFlushing conn peer s (out ++ a ∷ []) rest u
flushing-step conn peer s out a left rest t u next flushing goes =
    let r : Request = record { peer = peer; asked = asked_of a; stage = Waits } in
    let step : IsStep event.Waited flushing.now (goes_after conn peer flushing.now (asked_of a)) = go-step event.Waited conn flushing.now r in
    let named : AllOf IsNamed (map asked_of (a ∷ rest)) = subst (λ (l : List kept.Asked). AllOf IsNamed (map asked_of l)) next flushing.named in
    let all : AreNextOut flushing.now peer (call_number (asked_of a) ++ flat_map call_number (map asked_of rest)) = subst (λ (l : List kept.Asked). AreNextOut flushing.now peer (flat_map call_number (map asked_of l))) next flushing.next in
    record {
      now = goes_after conn peer flushing.now (asked_of a);
      now_is = ap (λ (v : State). goes_after conn peer v (asked_of a)) flushing.now_is ∙ sym (each-more (goes_after conn peer) (map asked_of out) (asked_of a) (welcome peer conn s))
          ∙ ap (λ (l : List Asked). each (goes_after conn peer) l (welcome peer conn s)) (sym (one-more out a));
      stands = goes flushing.now flushing.stands flushing.hello named.0 (first-out flushing.now peer (call_number (asked_of a)) (flat_map call_number (map asked_of rest)) all) (may-go (asked_of a) flushing.now flushing.notes);
      hello = hello-of flushing.now (goes_after conn peer flushing.now (asked_of a)) peer step.connections ∙ flushing.hello;
      notes = step.notes (IsNotAfter event.Waited) (λ c m. omega arith) (λ p. tt) flushing.notes;
      next = next-out event.Waited conn r peer flushing.now (flat_map call_number (map asked_of rest)) named.0 all;
      named = named.1;
      whole = ap (λ (l : List Asked). l ++ map asked_of rest) (one-more out a) ∙ append_assoc (map asked_of out) (asked_of a ∷ []) (map asked_of rest) ∙ ap (λ (l : List kept.Asked). map asked_of out ++ map asked_of l) (sym next) ∙ flushing.whole;
    }

pub flushing-all : (conn : ℕ) (peer : Uuid) (s : State) (out left : List kept.Asked) (t : Transport) → left ≡ [] → IsFlushing conn peer s out left t → IsTransport (requests.flush_waiting peer conn (greeted peer conn s)) t
flushing-all conn peer s out left t none flushing =
    let all : map asked_of out ≡ waiting_of peer s = sym (append-nil (map asked_of out)) ∙ ap (λ (l : List kept.Asked). map asked_of out ++ map asked_of l) (sym none) ∙ flushing.whole in
    subst (λ (v : State). IsTransport v t) (flushing.now_is ∙ ap (λ (l : List Asked). each (goes_after conn peer) l (welcome peer conn s)) all ∙ sym (flush-is conn peer s)) flushing.stands
