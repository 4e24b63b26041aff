-- What waited goes out in its order, and the end of an event keeps the order; so it is kept over histories.
use mathlib.Core.Path.{sym, ap, subst, ◌∙◌}
use Rattle.std.proofs.Common.{arith, inr}
use Rattle.std.proofs.lemmas.Bool.{true≢false}
use Rattle.std.specs.Str.{bytes_eq}
use Rattle.std.specs.Prelude.{◌≡◌, ◌≤◌, refl, cond, ℕ, ◌+◌, ◌==◌, ◌&&◌, ◌||◌, not, is_some, Bool, true, false, List, [], ◌∷◌, ◌++◌, Option, None, Some, filter}
use Rattle.uuid.specs.declared.Uuid.{Uuid}
use Rattle.dgc_client.specs.Groups as groups
use Rattle.dgc_client.specs.Table as client
use Rattle.dgc_client.specs.Table.{numbers_of}
use Rattle.dgc_client.specs.declared.groups.Group.{Group}
use Rattle.net_message.specs.declared.message.Message.{Message}
use Rattle.net_message.specs.declared.message.Message.TheVariants as message
use Rattle.sp_rules.specs.Classes.{Setting}
use Rattle.sp_rules.specs.Events.{Event, Output, Started, Ended, Withdrawn, Denied, Send, Dial, Close, Ready, Turn, in_order}
use Rattle.sp_rules.specs.Endings.{is_group}
use Rattle.sp_rules.specs.Frames
use Rattle.sp_rules.specs.Laws.{AllOf}
use Rattle.sp_rules.specs.Lists.{each, with_some}
use Rattle.sp_rules.specs.Lines.{dialled_to, HasLines, WaitsForHello}
use Rattle.sp_rules.specs.Origins.{IsTaken}
use Rattle.sp_rules.specs.Requests
use Rattle.sp_rules.specs.Requests.{is_waiting, waits_for, hello_came}
use Rattle.sp_rules.specs.Space
use Rattle.sp_rules.specs.State as state
use Rattle.sp_rules.specs.State.{State, Request, Asked, Calls, LooksUp, Tells, Stage, Waits, Out, Answered, Connection, connection_to, is_open, send, opening, is_to}
use Rattle.sp_rules.proofs.AllLemmas.{some-none, all-weaken, all-filter, all-more, all-with}
use Rattle.sp_rules.proofs.LineLemmas.{one-peer, same-peer, row-hello}
use Rattle.sp_rules.proofs.LinesOfRules.{lines_wait_for_hellos}
use Rattle.sp_laws.specs.Inbound.{OpensOnce}
use Rattle.sp_laws.specs.Directions.{FramesGoTheirWay}
use Rattle.sp_order_laws.proofs.RisingHistories.{keep_each}
use Rattle.sp_order_laws.proofs.RisingLaws.{Risen, risen-of, rising_begins, never-opened, group_fresh}
use Rattle.sp_order_laws.proofs.RisingMoves.{IsFresh, number_of, rising_walks}
use Rattle.sp_order_laws.proofs.WalkRules.{Begins, happen_walk, numbers-told}
use Rattle.sp_order_laws.proofs.OrderRules.{Below, AskedBelow, Ord, Orders, Ordered, order_walks, pairs-filter, pairs-more, no-order, CanFollow, Goes, IsOfParts, tells-goes, either-state}
use Rattle.sp_order_laws.specs.RequestOrder.{StagesRise, AskedRise, StandInOrder, AllPairs, CallsKeepTheirOrder}

-- ---- what waited goes out

is-tells : (asked : Asked) (c : ℕ) (group : Group) → asked ≡ Tells c group → is_group asked ≡ true
is-tells asked c group e = ap is_group e

abbrev call-of : Asked → ℕ
call-of (Tells c group) = c
call-of _ = 0

rise-calls : (a b : Asked) (s t : Stage) → AskedRise a b s t → (c d : ℕ) (group other : Group) → a ≡ Tells c group → b ≡ Tells d other → c ≤ d
rise-calls (Tells x p) (Tells y q) s t k c d group other e f = let a : x ≤ y = k.0 in let b : x ≡ c = ap call-of e in let z : y ≡ d = ap call-of f in omega arith
rise-calls (Tells x p) (Calls number task lent kind m) s t k c d group other e f = absurd (true≢false (sym (ap is_group f)))
rise-calls (Tells x p) (LooksUp number task name) s t k c d group other e f = absurd (true≢false (sym (ap is_group f)))
rise-calls (Calls number task lent kind m) b s t k c d group other e f = absurd (true≢false (sym (ap is_group e)))
rise-calls (LooksUp number task name) b s t k c d group other e f = absurd (true≢false (sym (ap is_group e)))

-- both are dirty or clean calls: their stages rise
rise-stages : (a b : Asked) (s t : Stage) → AskedRise a b s t → (c d : ℕ) (group other : Group) → a ≡ Tells c group → b ≡ Tells d other → StagesRise s t
rise-stages (Tells x p) (Tells y q) s t k c d group other e f = k.1
rise-stages (Tells x p) (Calls number task lent kind m) s t k c d group other e f = absurd (true≢false (sym (ap is_group f)))
rise-stages (Tells x p) (LooksUp number task name) s t k c d group other e f = absurd (true≢false (sym (ap is_group f)))
rise-stages (Calls number task lent kind m) b s t k c d group other e f = absurd (true≢false (sym (ap is_group e)))
rise-stages (LooksUp number task name) b s t k c d group other e f = absurd (true≢false (sym (ap is_group e)))

none-after : (s t : Stage) → is_waiting s ≡ true → is_waiting t ≡ false → StagesRise s t → ⊥
none-after Waits Waits e f k = true≢false f
none-after Waits (Out c n) e f k = k
none-after Waits (Answered c) e f k = k
none-after (Out c n) t e f k = true≢false (sym e)
none-after (Answered c) t e f k = true≢false (sym e)

-- a request stands before a call that waits
abbrev Follows : Request → Request → Type 0
Follows q x = (c : ℕ) (group : Group) → q.asked ≡ Tells c group → CanFollow c q.peer x

waits-of : (a b : Bool) → a && b ≡ true → (a ≡ true) × (b ≡ true)
waits-of true true e = (refl, refl)
waits-of true false e = absurd (true≢false (sym e))
waits-of false b e = absurd (true≢false (sym e))

waits-not : (a b : Bool) → a && b ≡ false → a ≡ true → b ≡ false
waits-not true b e f = e
waits-not false b e f = absurd (true≢false (sym f))

-- what does not wait for this peer, and is of the peer of one that does, does not wait
stays-out : (p : Uuid) (q x : Request) → waits_for p q ≡ true → waits_for p x ≡ false → bytes_eq x.peer q.peer ≡ true → is_waiting x.stage ≡ false
stays-out p q x e f same = waits-not (bytes_eq x.peer p) (is_waiting x.stage) f (subst (λ u. bytes_eq x.peer u ≡ true) (one-peer q.peer p (waits-of (bytes_eq q.peer p) (is_waiting q.stage) e).0) same)

turned : (p q : Uuid) → bytes_eq p q ≡ true → bytes_eq q p ≡ true
turned p q e = subst (λ u. bytes_eq u p ≡ true) (one-peer p q e) (same-peer p)

-- the one that waits stands before the other
waiting-first : (p : Uuid) (q x : Request) → waits_for p q ≡ true → waits_for p x ≡ false → StandInOrder q x → Follows q x
waiting-first p q x e f k c group is = record {
  calls = λ same d other it. absurd (none-after q.stage x.stage (waits-of (bytes_eq q.peer p) (is_waiting q.stage) e).1 (stays-out p q x e f same) (rise-stages q.asked x.asked q.stage x.stage (k (turned x.peer q.peer same)) c d group other is it));
  waits = λ same. stays-out p q x e f same;
}

waiting-last : (p : Uuid) (q x : Request) → waits_for p q ≡ true → waits_for p x ≡ false → StandInOrder x q → Follows q x
waiting-last p q x e f k c group is = record {
  calls = λ same d other it. rise-calls x.asked q.asked x.stage q.stage (k same) d c other group it is;
  waits = λ same. stays-out p q x e f same;
}

abbrev waiting : Uuid → List Request → List Request
waiting p rs = filter (waits_for p) rs

abbrev others : Uuid → List Request → List Request
others p rs = filter (λ q. not (waits_for p q)) rs

firsts : (p : Uuid) (q : Request) (rs : List Request) → waits_for p q ≡ true → AllOf (StandInOrder q) rs → AllOf (λ x. Follows q x) (others p rs)
firsts p q [] e a = tt
firsts p q (x ∷ rs) e a = pick (waits_for p x) refl (firsts p q rs e a.1)
  where
    pick : (b : Bool) → waits_for p x ≡ b → AllOf (λ y. Follows q y) (others p rs) → AllOf (λ y. Follows q y) (cond (not b) (x ∷ others p rs) (others p rs))
    pick true f rest = rest
    pick false f rest = (waiting-first p q x e f a.0, rest)

lasts : (p : Uuid) (x : Request) (rs : List Request) → waits_for p x ≡ false → AllOf (StandInOrder x) rs → AllOf (λ q. Follows q x) (waiting p rs)
lasts p x [] f a = tt
lasts p x (q ∷ rs) f a = pick (waits_for p q) refl (lasts p x rs f a.1)
  where
    pick : (b : Bool) → waits_for p q ≡ b → AllOf (λ r. Follows r x) (waiting p rs) → AllOf (λ r. Follows r x) (cond b (q ∷ waiting p rs) (waiting p rs))
    pick true e rest = (waiting-last p q x e f a.0, rest)
    pick false e rest = rest

abbrev FollowsEach : List Request → Request → Type 0
FollowsEach rest x = AllOf (λ q. Follows q x) rest

crossed : (p : Uuid) (rs : List Request) → AllPairs rs → AllOf (FollowsEach (waiting p rs)) (others p rs)
crossed p [] a = tt
crossed p (q ∷ rs) a = pick (waits_for p q) refl (crossed p rs a.1)
  where
    pick : (b : Bool) → waits_for p q ≡ b → AllOf (FollowsEach (waiting p rs)) (others p rs)
        → AllOf (FollowsEach (cond b (q ∷ waiting p rs) (waiting p rs))) (cond (not b) (q ∷ others p rs) (others p rs))
    pick true e rest = all-with (λ x. Follows q x) (FollowsEach (waiting p rs)) (FollowsEach (q ∷ waiting p rs)) (others p rs) (λ x k j. (k, j)) (firsts p q rs e a.0) rest
    pick false e rest = (lasts p q rs e a.0, rest)

-- a call was made by now and goes to the owner of its objects
abbrev AskedTold : ℕ → Uuid → Asked → Type 0
AskedTold top peer (Calls number task lent kind m) = Unit {0}
AskedTold top peer (LooksUp number task name) = Unit {0}
AskedTold top peer (Tells call group) = (call ≤ top) × (group.peer ≡ peer)

told-below : (top n : ℕ) (q : Request) → Below top n q → AskedTold top q.peer q.asked
told-below top n q k = by q.asked k
  where
    by : (asked : Asked) → AskedBelow top n q.peer asked q.stage → AskedTold top q.peer asked
    by (Calls number task lent kind m) a = tt
    by (LooksUp number task name) a = tt
    by (Tells call group) a = (a.0, a.1.1)

-- What waited goes out, these yet.
record Flushes (top : ℕ) (rest : List Request) (s : State) : Type 0 where
  orders : Ordered top [] s
  follows : AllOf (FollowsEach rest) s.requests
  pairs : AllPairs rest
  told : AllOf (λ (q : Request). AskedTold top q.peer q.asked) rest

-- all of a call, or of a lookup, may stand anywhere
anywhere : (rs : List Request) (z : Request) → is_group z.asked ≡ false → AllOf (λ (x : Request). StandInOrder x z) rs
anywhere [] z e = tt
anywhere (x ∷ rs) z e = ((λ same. no-order x.stage x.asked z.stage z.asked e), anywhere rs z e)

free-follows : (rest : List Request) (z : Request) → is_group z.asked ≡ false → is_waiting z.stage ≡ false → FollowsEach rest z
free-follows [] z e f = tt
free-follows (q ∷ rest) z e f = ((λ c group is. record { calls = λ same d other it. absurd (true≢false (sym (ap is_group it) ∙ e)); waits = λ same. f }), free-follows rest z e f)

below-free : (top n : ℕ) (z : Request) → is_group z.asked ≡ false → Below top n z
below-free top n z e = by z.asked e
  where
    by : (asked : Asked) → is_group asked ≡ false → AskedBelow top n z.peer asked z.stage
    by (Calls number task lent kind m) e = tt
    by (LooksUp number task name) e = tt
    by (Tells call group) e = absurd (true≢false e)

free-orders : (top made n : ℕ) (rs : List Request) (z : Request) → is_group z.asked ≡ false → Orders top made n rs → Orders top made n (rs ++ z ∷ [])
free-orders top made n rs z e h = record {
  ord = record { pairs = pairs-more rs z h.ord.pairs (anywhere rs z e); bounds = all-more (Below top n) rs z h.ord.bounds (below-free top n z e) };
  calls = h.calls;
}

heads : (rs rest : List Request) (q : Request) → AllOf (FollowsEach (q ∷ rest)) rs → AllOf (λ x. Follows q x) rs × AllOf (FollowsEach rest) rs
heads rs rest q a = (all-weaken (FollowsEach (q ∷ rest)) (λ x. Follows q x) rs (λ x k. k.0) a, all-weaken (FollowsEach (q ∷ rest)) (FollowsEach rest) rs (λ x k. k.1) a)

free-out : (top : ℕ) (rest : List Request) (turn : Turn) (conn : ℕ) (m : Message) (q z : Request) (s : State) → is_group z.asked ≡ false → is_waiting z.stage ≡ false
    → Flushes top (q ∷ rest) s → Flushes top rest (send turn conn m (Requests.add_request z s))
unfolding send
free-out top rest turn conn m q z s e f h = either-state (Flushes top rest) _ _ (is_open s conn)
    (record { orders = orders; follows = follows; pairs = h.pairs.1; told = h.told.1 })
    (record { orders = orders; follows = follows; pairs = h.pairs.1; told = h.told.1 })
  where
    orders : Orders top s.groups_made (numbers_of s.leases) (s.requests ++ z ∷ [])
    orders = free-orders top s.groups_made (numbers_of s.leases) s.requests z e h.orders

    follows : AllOf (FollowsEach rest) (s.requests ++ z ∷ [])
    follows = all-more (FollowsEach rest) s.requests z (heads s.requests rest q h.follows).1 (free-follows rest z e f)

flush-one : (top : ℕ) (rest : List Request) (turn : Turn) (conn : ℕ) (q : Request) (s : State) → Flushes top (q ∷ rest) s → Flushes top rest (Requests.go_out turn conn q s)
unfolding Requests.go_out
flush-one top rest turn conn q s h = by q.asked refl h.told.0
  where
    by : (asked : Asked) → q.asked ≡ asked → AskedTold top q.peer asked → Flushes top rest (Requests.goes_out turn conn q.peer asked s)
    by (Calls number task lent kind m) e t = free-out top rest turn conn m q _ s refl refl h
    by (LooksUp number task name) e t = free-out top rest turn conn (message.Lookup number name) q _ s refl refl h
    by (Tells call group) e t = done (tells-goes top call s.groups_made conn (FollowsEach rest) s.connections turn s group known (record {
      ord = h.orders.ord;
      follows = all-weaken (λ x. Follows q x) (CanFollow call group.peer) s.requests (λ x k. subst (λ u. CanFollow call u x) (sym t.1) (k call group e)) (heads s.requests rest q h.follows).0;
      low = t.0;
      kept = (heads s.requests rest q h.follows).1;
      told = refl;
      lines = refl;
    }))
      where
        known : IsOfParts (FollowsEach rest) call group.peer
        known c n part is = each-one rest h.pairs.0
          where
            each-one : (rs : List Request) → AllOf (StandInOrder q) rs → FollowsEach rs (record { peer = part.peer; asked = Tells call part; stage = Out c n })
            each-one [] a = tt
            each-one (r ∷ rs) a = (
              (λ d other it. record {
                calls = λ same x y z. let low : call ≤ d = rise-calls q.asked r.asked q.stage r.stage (a.0 (subst (λ u. bytes_eq u r.peer ≡ true) (is ∙ t.1) same)) call d group other e it in let same-call : call ≡ x = ap call-of z in omega arith;
                waits = λ same. refl;
              }),
              each-one rs a.1,
            )

        done : {u : State} → Goes top call s.groups_made group.peer (FollowsEach rest) s.connections u → Flushes top rest u
        done g = record { orders = record { ord = g.ord; calls = g.told ∙ h.orders.calls }; follows = g.kept; pairs = h.pairs.1; told = h.told.1 }

flush-each : (top conn : ℕ) (rest : List Request) (s : State) → Flushes top rest s → Ordered top [] (each (λ t r. Requests.go_out Rattle.sp_rules.specs.Events.Waited conn r t) rest s)
unfolding each
flush-each top conn [] s h = h.orders
flush-each top conn (q ∷ rest) s h = flush-each top conn rest _ (flush-one top rest Rattle.sp_rules.specs.Events.Waited conn q s h)

flush-ordered : (top conn : ℕ) (peer : Uuid) (s : State) → Ordered top [] s → Ordered top [] (Requests.flush_waiting peer conn s)
unfolding Requests.flush_waiting
flush-ordered top conn peer s h = flush-each top conn (waiting peer s.requests) (Requests.without_waiting peer s) (record {
  orders = record { ord = record { pairs = pairs-filter (λ q. not (waits_for peer q)) s.requests h.ord.pairs; bounds = all-filter (Below top (numbers_of s.leases)) (λ q. not (waits_for peer q)) s.requests h.ord.bounds }; calls = h.calls };
  follows = crossed peer s.requests h.ord.pairs;
  pairs = pairs-filter (waits_for peer) s.requests h.ord.pairs;
  told = all-weaken (Below top (numbers_of s.leases)) (λ (q : Request). AskedTold top q.peer q.asked) (waiting peer s.requests) (λ q k. told-below top (numbers_of s.leases) q k) (all-filter (Below top (numbers_of s.leases)) (waits_for peer) s.requests h.ord.bounds);
})

order_begins : (g : Setting) (top : ℕ) (s : State) (e : Event) → Begins g (Ordered top) s e
order_begins g top s e = record {
  opens = λ conn dialled is h. h;
  greets = λ c space is h. h;
  flushes = λ c space peer is shut h. flush-ordered top c.number peer (Frames.greeted space c.number s) h;
  asks = λ id k t target method arguments is h. h;
  looks = λ peer name is h. h;
}

-- ---- the end of an event

-- the Hello of its peer did not come, if it waits
abbrev NotCome : List Connection → Request → Type 0
NotCome cs q = is_waiting q.stage ≡ true → hello_came (dialled_to cs q.peer) ≡ None

-- At the end of an event the calls are in order, and what waits, waits for a Hello.
record Settles (cs : List Connection) (s : State) : Type 0 where
  orders : Ord s.groups_made (numbers_of s.leases) s.requests
  waits : AllOf (NotCome cs) s.requests
  lines : s.connections ≡ cs

stage-any : (s t : Stage) → is_waiting t ≡ true → StagesRise s t
stage-any Waits Waits e = tt
stage-any (Out c n) Waits e = tt
stage-any (Answered c) t e = tt
stage-any s (Out c n) e = absurd (true≢false (sym e))
stage-any s (Answered c) e = absurd (true≢false (sym e))

below-made : (top n : ℕ) (q : Request) → Below top n q → Below (top + 1) n q
below-made top n q k = by q.asked k
  where
    by : (asked : Asked) → AskedBelow top n q.peer asked q.stage → AskedBelow (top + 1) n q.peer asked q.stage
    by (Calls number task lent kind m) a = tt
    by (LooksUp number task name) a = tt
    by (Tells call group) a = let b : call ≤ top = a.0 in (omega arith, a.1)

-- a call that is made now stands after all others
made-last : (top n : ℕ) (x : Request) (peer : Uuid) (group : Group) → Below top n x → StandInOrder x (record { peer = peer; asked = Tells (top + 1) group; stage = Waits })
made-last top n x peer group k same = by x.asked x.stage k
  where
    by : (asked : Asked) (s : Stage) → AskedBelow top n x.peer asked s → AskedRise asked (Tells (top + 1) group) s Waits
    by (Calls number task lent kind m) s a = tt
    by (LooksUp number task name) s a = tt
    by (Tells call b) s a = let c : call ≤ top = a.0 in (omega arith, stage-any s Waits refl)

each-last : (top n : ℕ) (rs : List Request) (peer : Uuid) (group : Group) → AllOf (Below top n) rs → AllOf (λ (x : Request). StandInOrder x (record { peer = peer; asked = Tells (top + 1) group; stage = Waits })) rs
each-last top n rs peer group a = all-weaken (Below top n) (λ (x : Request). StandInOrder x (record { peer = peer; asked = Tells (top + 1) group; stage = Waits })) rs (λ x k. made-last top n x peer group k) a

-- nothing of a peer whose Hello came waits
can-follow : (cs : List Connection) (top n conn : ℕ) (peer : Uuid) (x : Request) → hello_came (dialled_to cs peer) ≡ Some conn → Below top n x → NotCome cs x → CanFollow (top + 1) peer x
can-follow cs top n conn peer x came k w = record {
  calls = λ same c group is. by x.asked k c group is;
  waits = λ same. not-waiting (is_waiting x.stage) refl (one-peer x.peer peer same);
}
  where
    by : (asked : Asked) → AskedBelow top n x.peer asked x.stage → (c : ℕ) (group : Group) → asked ≡ Tells c group → c ≤ top + 1
    by (Tells call b) a c group is = let d : call ≤ top = a.0 in let e : call ≡ c = ap call-of is in omega arith
    by (Calls number task lent kind m) a c group is = absurd (true≢false (sym (ap is_group is)))
    by (LooksUp number task name) a c group is = absurd (true≢false (sym (ap is_group is)))

    not-waiting : (b : Bool) → is_waiting x.stage ≡ b → x.peer ≡ peer → b ≡ false
    not-waiting false e same = refl
    not-waiting true e same = absurd (some-none conn (sym came ∙ (ap (λ p. hello_came (dialled_to cs p)) (sym same) ∙ w e)))

numbers-made : (b : Group) (call : ℕ) (h : List client.Told) → numbers_of (client.made b call h) ≡ numbers_of h
numbers-made b call h = numbers-told (client.references_at b.peer b.ids) (client.making b.kind call) h

make_settles : (cs : List Connection) (s : State) (b : Group) → Settles cs s → Settles cs (Requests.make_group s b)
unfolding Requests.make_group Requests.ask Requests.dial Requests.go_out
make_settles cs s b h = by (hello_came (connection_to s b.peer)) refl
  where
    call : ℕ
    call = s.groups_made + 1

    made : State
    made = record s { groups_made = s.groups_made + 1; leases = client.made b (s.groups_made + 1) s.leases }

    q : Request
    q = record { peer = b.peer; asked = Tells (s.groups_made + 1) b; stage = Waits }

    kept : Ord (s.groups_made + 1) (numbers_of (client.made b (s.groups_made + 1) s.leases)) s.requests
    kept = subst (λ n. Ord (s.groups_made + 1) n s.requests) (sym (numbers-made b (s.groups_made + 1) s.leases)) (record {
      pairs = h.orders.pairs;
      bounds = all-weaken (Below s.groups_made (numbers_of s.leases)) (Below (s.groups_made + 1) (numbers_of s.leases)) s.requests (λ x k. below-made s.groups_made (numbers_of s.leases) x k) h.orders.bounds;
    })

    waits : hello_came (connection_to s b.peer) ≡ None → Settles cs (Requests.add_request q made)
    waits e = record {
      orders = record {
        pairs = pairs-more s.requests q kept.pairs (each-last s.groups_made (numbers_of s.leases) s.requests b.peer b h.orders.bounds);
        bounds = all-more (Below (s.groups_made + 1) (numbers_of (client.made b (s.groups_made + 1) s.leases))) s.requests q kept.bounds (omega arith, (tt, refl));
      };
      waits = all-more (NotCome cs) s.requests q h.waits (λ w. subst (λ ds. hello_came (dialled_to ds b.peer) ≡ None) h.lines e);
      lines = h.lines;
    }

    dials : Settles cs (Requests.add_request q made) → Settles cs (Requests.dial b.peer (Requests.add_request q made))
    dials k = either-state (Settles cs) _ _ (is_some (connection_to made b.peer) || state.is_dialling made b.peer) k (record { orders = k.orders; waits = k.waits; lines = k.lines })

    out : {t : State} → Goes (s.groups_made + 1) (s.groups_made + 1) (s.groups_made + 1) b.peer (NotCome cs) cs t → Settles cs t
    out {t} k = record { orders = subst (λ n. Ord n (numbers_of t.leases) t.requests) (sym k.told) k.ord; waits = k.kept; lines = k.lines }

    goes : (conn : ℕ) → hello_came (connection_to s b.peer) ≡ Some conn → Settles cs (each (Requests.part_goes_out (Requests.turn_of b.kind) conn (s.groups_made + 1)) (groups.parts_of (Requests.most_on made conn) b) made)
    goes conn e = out (tells-goes (s.groups_made + 1) (s.groups_made + 1) (s.groups_made + 1) conn (NotCome cs) cs (Requests.turn_of b.kind) made b (λ c n part is w. absurd (true≢false (sym w))) (record {
      ord = kept;
      follows = all-with (Below s.groups_made (numbers_of s.leases)) (NotCome cs) (CanFollow (s.groups_made + 1) b.peer) s.requests (λ x k w. can-follow cs s.groups_made (numbers_of s.leases) conn b.peer x (subst (λ ds. hello_came (dialled_to ds b.peer) ≡ Some conn) h.lines e) k w) h.orders.bounds h.waits;
      low = omega arith;
      kept = h.waits;
      told = refl;
      lines = h.lines;
    }))

    by : (o : Option ℕ) → hello_came (connection_to s b.peer) ≡ o → Settles cs (with_some o (Requests.dial b.peer (Requests.add_request q made)) (λ conn. each (Requests.part_goes_out (Requests.turn_of b.kind) conn (s.groups_made + 1)) (groups.parts_of (Requests.most_on made conn) b) made))
    by None e = dials (waits e)
    by (Some conn) e = goes conn e

free-ord : (top n : ℕ) (rs : List Request) (z : Request) → is_group z.asked ≡ false → Ord top n rs → Ord top n (rs ++ z ∷ [])
free-ord top n rs z e h = record { pairs = pairs-more rs z h.pairs (anywhere rs z e); bounds = all-more (Below top n) rs z h.bounds (below-free top n z e) }

free_settles : (cs : List Connection) (turn : Turn) (conn : ℕ) (m : Message) (s : State) (z : Request) → is_group z.asked ≡ false → is_waiting z.stage ≡ false → Settles cs s → Settles cs (send turn conn m (Requests.add_request z s))
unfolding send
free_settles cs turn conn m s z e f h = either-state (Settles cs) _ _ (is_open s conn)
    (record { orders = ord; waits = waits; lines = h.lines }) (record { orders = ord; waits = waits; lines = h.lines })
  where
    ord : Ord s.groups_made (numbers_of s.leases) (s.requests ++ z ∷ [])
    ord = free-ord s.groups_made (numbers_of s.leases) s.requests z e h.orders

    waits : AllOf (NotCome cs) (s.requests ++ z ∷ [])
    waits = all-more (NotCome cs) s.requests z h.waits (λ w. absurd (true≢false (sym w ∙ f)))

ask_settles : (cs : List Connection) (s : State) (q : Request) → is_group q.asked ≡ false → Settles cs s → Settles cs (Requests.ask s q)
unfolding Requests.ask Requests.dial Requests.go_out
ask_settles cs s q e h = by (hello_came (connection_to s q.peer)) refl
  where
    goes : (conn : ℕ) (turn : Turn) (asked : Asked) → is_group asked ≡ false → Settles cs (Requests.goes_out turn conn q.peer asked s)
    goes conn turn (Calls number task lent kind m) f = free_settles cs turn conn m s _ refl refl h
    goes conn turn (LooksUp number task name) f = free_settles cs turn conn (message.Lookup number name) s _ refl refl h
    goes conn turn (Tells call group) f = absurd (true≢false f)

    stays : hello_came (connection_to s q.peer) ≡ None → Settles cs (Requests.add_request q s)
    stays none = record {
      orders = free-ord s.groups_made (numbers_of s.leases) s.requests q e h.orders;
      waits = all-more (NotCome cs) s.requests q h.waits (λ w. subst (λ ds. hello_came (dialled_to ds q.peer) ≡ None) h.lines none);
      lines = h.lines;
    }

    dials : Settles cs (Requests.add_request q s) → Settles cs (Requests.dial q.peer (Requests.add_request q s))
    dials k = either-state (Settles cs) _ _ (is_some (connection_to s q.peer) || state.is_dialling s q.peer) k (record { orders = k.orders; waits = k.waits; lines = k.lines })

    by : (o : Option ℕ) → hello_came (connection_to s q.peer) ≡ o → Settles cs (with_some o (Requests.dial q.peer (Requests.add_request q s)) (λ conn. Requests.go_out (Requests.turn_asked q.asked) conn q s))
    by None f = dials (stays f)
    by (Some conn) f = goes conn (Requests.turn_asked q.asked) q.asked e

-- what an event asks is a call or a lookup
fresh-free : (top made : ℕ) (fresh : List Request) → IsFresh top made fresh → AllOf (λ (q : Request). is_group q.asked ≡ false) fresh
fresh-free top made [] f = tt
fresh-free top made (q ∷ rest) f = (one q.asked f.1.1.1, subst (λ (l : List Request). AllOf (λ (x : Request). is_group x.asked ≡ false) l) (sym f.1.0) tt)
  where
    first : List ℕ → Bool
    first [] = false
    first (n ∷ ns) = true

    one : (asked : Asked) → number_of (record { peer = q.peer; asked = asked; stage = q.stage }) ≡ (top + 1) ∷ [] → is_group asked ≡ false
    one (Calls number task lent kind m) e = refl
    one (LooksUp number task name) e = refl
    one (Tells call group) e = absurd (true≢false (sym (ap first e)))

fresh_settles : (cs : List Connection) (fresh : List Request) (s : State) → AllOf (λ (q : Request). is_group q.asked ≡ false) fresh → Settles cs s → Settles cs (each Requests.ask fresh s)
unfolding each
fresh_settles cs [] s a h = h
fresh_settles cs (q ∷ rest) s a h = fresh_settles cs rest (Requests.ask s q) a.1 (ask_settles cs s q a.0 h)

settle_settles : (cs : List Connection) (top : ℕ) (s : State) → IsFresh top s.calls_made s.fresh → Settles cs s → Settles cs (Requests.settle s)
unfolding Requests.settle Requests.make_due Requests.ask_fresh
settle_settles cs top s f h = by (keep_each (λ t. t.fresh ≡ s.fresh) Requests.make_group (Requests.due_groups s.leases) (λ t b e. group_fresh t b ∙ e) refl) (keep_each (Settles cs) Requests.make_group (Requests.due_groups s.leases) (λ t b k. make_settles cs t b k) h)
  where
    by : {t : State} → t.fresh ≡ s.fresh → Settles cs t → Settles cs (each Requests.ask t.fresh (record t { fresh = [] }))
    by {t} e k = fresh_settles cs t.fresh (record t { fresh = [] }) (subst (λ (l : List Request). AllOf (λ (q : Request). is_group q.asked ≡ false) l) (sym e) (fresh-free top s.calls_made s.fresh f)) (record { orders = k.orders; waits = k.waits; lines = k.lines })

-- ---- what stands before the end of an event stands after it

-- What is known of each request afterwards is known before, and the connections stand.
record Back (F : Request → Type 0) (s t : State) : Type 0 where
  back : AllOf F t.requests → AllOf F s.requests
  lines : t.connections ≡ s.connections

all-less : (F : Request → Type 0) (xs : List Request) (y : Request) → AllOf F (xs ++ y ∷ []) → AllOf F xs
all-less F [] y a = tt
all-less F (x ∷ xs) y a = (a.0, all-less F xs y a.1)

more_back : {F : Request → Type 0} {s t : State} (z : Request) → Back F s t → Back F s (Requests.add_request z t)
more_back {F} {s} {t} z h = record { back = λ a. h.back (all-less F t.requests z a); lines = h.lines }

send_back : {F : Request → Type 0} {s t : State} (turn : Turn) (conn : ℕ) (m : Message) → Back F s t → Back F s (send turn conn m t)
unfolding send
send_back {F} {s} {t} turn conn m h = either-state (Back F s) _ _ (is_open t conn) (record { back = h.back; lines = h.lines }) h

part_back : {F : Request → Type 0} {s t : State} (turn : Turn) (conn call : ℕ) (part : Group) → Back F s t → Back F s (Requests.part_goes_out turn conn call t part)
unfolding Requests.part_goes_out
part_back {F} {s} {t} turn conn call part h = send_back turn conn _ (more_back {t = record t { leases = client.sent part call t.leases }} _ (record { back = h.back; lines = h.lines }))

ask_back : {F : Request → Type 0} {s t : State} (q : Request) → Back F s t → Back F s (Requests.ask t q)
unfolding Requests.ask Requests.dial Requests.go_out
ask_back {F} {s} {t} q h = by (hello_came (connection_to t q.peer))
  where
    goes : (conn : ℕ) (turn : Turn) (asked : Asked) → Back F s (Requests.goes_out turn conn q.peer asked t)
    goes conn turn (Calls number task lent kind m) = send_back turn conn m (more_back _ h)
    goes conn turn (LooksUp number task name) = send_back turn conn (message.Lookup number name) (more_back _ h)
    goes conn turn (Tells call group) = keep_each (Back F s) (Requests.part_goes_out turn conn call) (groups.parts_of (Requests.most_on t conn) group) (λ u part k. part_back turn conn call part k) h

    dials : Back F s (Requests.add_request q t) → Back F s (Requests.dial q.peer (Requests.add_request q t))
    dials k = either-state (Back F s) _ _ (is_some (connection_to t q.peer) || state.is_dialling t q.peer) k (record { back = k.back; lines = k.lines })

    by : (o : Option ℕ) → Back F s (with_some o (Requests.dial q.peer (Requests.add_request q t)) (λ conn. Requests.go_out (Requests.turn_asked q.asked) conn q t))
    by None = dials (more_back q h)
    by (Some conn) = goes conn (Requests.turn_asked q.asked) q.asked

group_back : {F : Request → Type 0} {s t : State} (b : Group) → Back F s t → Back F s (Requests.make_group t b)
unfolding Requests.make_group
group_back {F} {s} {t} b h = ask_back (record { peer = b.peer; asked = Tells (t.groups_made + 1) b; stage = Waits }) (record { back = h.back; lines = h.lines })

settle_back : (F : Request → Type 0) (s : State) → Back F s (Requests.settle s)
unfolding Requests.settle Requests.make_due Requests.ask_fresh
settle_back F s = by (keep_each (Back F s) Requests.make_group (Requests.due_groups s.leases) (λ t b k. group_back b k) (record { back = λ a. a; lines = refl }))
  where
    by : {t : State} → Back F s t → Back F s (each Requests.ask t.fresh (record t { fresh = [] }))
    by {t} k = keep_each (Back F s) Requests.ask t.fresh (λ u q j. ask_back q j) (record { back = k.back; lines = k.lines })

-- ---- what was sent is noted

record Notes (s t : State) : Type 0 where
  requests : t.requests ≡ s.requests
  made : t.groups_made ≡ s.groups_made
  leases : t.leases ≡ s.leases
  hellos : (p : Uuid) → hello_came (dialled_to t.connections p) ≡ hello_came (dialled_to s.connections p)

sent_notes : {s : State} (t : State) (o : Output) → Notes s t → Notes s (Space.record_sent t o)
sent_notes t (Started task) h = h
sent_notes t (Ended task outcome) h = h
sent_notes t (Withdrawn ids) h = h
sent_notes t (Denied why) h = h
sent_notes t (Send conn m) h = record {
  requests = h.requests;
  made = h.made;
  leases = h.leases;
  hellos = λ p. row-hello (λ (c : Connection). c.number == conn) (λ (c : Connection). record c { sent = m ∷ c.sent }) (record { number = λ c. refl; dialled = λ c. refl }) t.connections p (λ c e. inr refl) ∙ h.hellos p;
}
sent_notes t (Dial peer) h = h
sent_notes t (Close conn) h = h
sent_notes t (Ready task) h = h

-- ---- an event, and histories

abbrev IsOrdered : State → Type 0
IsOrdered s = Ord s.groups_made (numbers_of s.leases) s.requests

of-noted : (s t : State) → Notes s t → IsOrdered s → IsOrdered t
of-noted s t n h = subst (λ k. Ord k (numbers_of t.leases) t.requests) (sym n.made) (subst (λ l. Ord s.groups_made (numbers_of l) t.requests) (sym n.leases) (subst (λ rs. Ord s.groups_made (numbers_of s.leases) rs) (sym n.requests) h))

finish_ordered : (answers : Bool) (top : ℕ) (s : State) → IsFresh top s.calls_made s.fresh → HasLines (Space.finish_event answers s).0 → IsOrdered s → IsOrdered (Space.finish_event answers s).0
finish_ordered false top s f l h = h
finish_ordered true top s f l h = of-noted (Requests.settle s) done noted (settle_settles s.connections top s f (record { orders = h; waits = waits; lines = refl })).orders
  where
    done : State
    done = (Space.finish_event true s).0

    noted : Notes (Requests.settle s) done
    noted = keep_each (Notes (Requests.settle s)) Space.record_sent (in_order (Requests.settle s).notes) (λ t o k. sent_notes t o k) (record { requests = refl; made = refl; leases = refl; hellos = λ p. refl })

    stands : Back (NotCome s.connections) s (Requests.settle s)
    stands = settle_back (NotCome s.connections) s

    waits : AllOf (NotCome s.connections) s.requests
    waits = stands.back (subst (λ rs. AllOf (NotCome s.connections) rs) noted.requests
        (all-weaken (WaitsForHello done.connections done.dialling) (NotCome s.connections) done.requests (λ q k w. ap (λ cs. hello_came (dialled_to cs q.peer)) (sym stands.lines) ∙ (sym (noted.hellos q.peer) ∙ (k w).1)) l.waiting))

on_ordered : (g : Setting) (lent : List ℕ) (outs : List Output) (s : State) (e : Event) → Rattle.sp_rules.specs.Refusals.refusal g lent s e ≡ None → ((conn : ℕ) → Rattle.sp_laws.specs.Inbound.opens conn e ≡ true → Rattle.std.specs.List.flat_map (Rattle.sp_order_laws.proofs.RisingMoves.calls_at conn) outs ≡ [])
    → Risen outs s → HasLines (Space.on g e s).0 → IsOrdered s → IsOrdered (Space.on g e s).0
unfolding Space.on
on_ordered g lent outs s e taken none r l h = finish_ordered (Space.answers_outputs e) s.calls_made (Space.happen g e s)
    (happen_walk (rising_walks g outs s.calls_made) e (rising_begins g lent outs s e taken r.rested none) r.rising).fresh l
    (by (Space.happen g e s) (happen_walk (order_walks g s.groups_made) e (order_begins g s.groups_made s e) (record { ord = h; calls = refl })))
  where
    by : (t : State) → Ordered s.groups_made [] t → IsOrdered t
    by t k = subst (λ n. Ord n (numbers_of t.leases) t.requests) (sym k.calls) k.ord

ordered-of : FramesGoTheirWay → (g : Setting) (h : List Event) → IsTaken g h → OpensOnce h → IsOrdered (Space.state_of g h)
unfolding Space.state_of opening
ordered-of ways g [] taken once = record { pairs = tt; bounds = tt }
ordered-of ways g (e ∷ h) taken once = on_ordered g taken.0.0 (Space.all_outputs g h) (Space.state_of g h) e taken.0.1 (λ conn is. never-opened ways g h conn (once.0 conn is))
    (risen-of ways g h taken.1 once.1) (lines_wait_for_hellos g (e ∷ h) taken) (ordered-of ways g h taken.1 once.1)

pub calls_keep_their_order : FramesGoTheirWay → CallsKeepTheirOrder
calls_keep_their_order ways g h taken once = by (Space.state_of g h) (ordered-of ways g h taken once)
  where
    by : (s : State) → IsOrdered s → AllPairs s.requests
    by s k = k.pairs
