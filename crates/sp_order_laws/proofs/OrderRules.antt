-- Dirty and clean calls keep their order among the requests of a space, through every event.
use mathlib.Core.Path.{sym, ap, subst, ◌∙◌}
use Rattle.std.proofs.Common.{arith}
use Rattle.std.proofs.lemmas.Bool.{true≢false}
use Rattle.std.specs.Str.{bytes_eq}
use Rattle.std.specs.Prelude.{◌≡◌, ◌≤◌, refl, cond, ℕ, ◌+◌, ◌&&◌, not, Bool, true, false, List, [], ◌∷◌, ◌++◌, filter, map, if◌then◌else◌}
use Rattle.uuid.specs.declared.Uuid.{Uuid}
use Rattle.dgc_client.specs.Groups as groups
use Rattle.dgc_client.specs.Table as client
use Rattle.dgc_client.specs.Table.{numbers_of}
use Rattle.dgc_client.specs.declared.groups.Group.{Group}
use Rattle.dgc_client.specs.declared.lease.Due.TheVariants as due
use Rattle.dgc_client.specs.declared.lease.Due.{Due}
use Rattle.sp_rules.specs.Classes.{Setting}
use Rattle.sp_rules.specs.Events.{Turn}
use Rattle.sp_rules.specs.Frames
use Rattle.sp_rules.specs.Laws.{AllOf}
use Rattle.sp_rules.specs.Lists.{each}
use Rattle.sp_rules.specs.ParkedFrames.{is_call_on, is_out_on, has_number}
use Rattle.sp_rules.specs.Requests
use Rattle.sp_rules.specs.Requests.{is_waiting, waits_for, hello_came}
use Rattle.sp_rules.specs.State.{State, Request, Asked, Calls, LooksUp, Tells, Stage, Waits, Out, Answered, Connection, is_open, send}
use Rattle.sp_rules.proofs.AllLemmas.{all-weaken, all-filter, all-more, all-map}
use Rattle.sp_order_laws.proofs.WalkRules.{Owed, WalkParts, Moves, Walks, each_walk, fail_parked_walk, numbers-told}
use Rattle.sp_order_laws.specs.RequestOrder.{StagesRise, AskedRise, StandInOrder, AllPairs}

-- ---- what is kept

abbrev pub StageBelow : ℕ → Stage → Type 0
StageBelow n Waits = Unit {0}
StageBelow n (Out c s) = s ≤ n
StageBelow n (Answered c) = Unit {0}

-- a call was made by now, under a number that was given, and goes to the owner of its objects
abbrev pub AskedBelow : ℕ → ℕ → Uuid → Asked → Stage → Type 0
AskedBelow top n peer (Calls number task lent kind m) stage = Unit {0}
AskedBelow top n peer (LooksUp number task name) stage = Unit {0}
AskedBelow top n peer (Tells call group) stage = (call ≤ top) × (StageBelow n stage × (group.peer ≡ peer))

abbrev pub Below : ℕ → ℕ → Request → Type 0
Below top n q = AskedBelow top n q.peer q.asked q.stage

pub record Ord (top n : ℕ) (rs : List Request) : Type 0 where
  pub pairs : AllPairs rs
  pub bounds : AllOf (Below top n) rs

-- ---- lists

pub pairs-filter : (is : Request → Bool) (rs : List Request) → AllPairs rs → AllPairs (filter is rs)
pairs-filter is [] a = tt
pairs-filter is (q ∷ rs) a = pick (is q) (pairs-filter is rs a.1)
  where
    pick : (b : Bool) → AllPairs (filter is rs) → AllPairs (cond b (q ∷ filter is rs) (filter is rs))
    pick true rest = (all-filter (StandInOrder q) is rs a.0, rest)
    pick false rest = rest

pub pairs-more : (rs : List Request) (q : Request) → AllPairs rs → AllOf (λ (x : Request). StandInOrder x q) rs → AllPairs (rs ++ q ∷ [])
pairs-more [] q a b = (tt, tt)
pairs-more (x ∷ rs) q a b = (all-more (StandInOrder x) rs q a.0 b.0, pairs-more rs q a.1 b.1)

-- a call of a task, or a lookup, stands anywhere
pub no-order : (s : Stage) (asked : Asked) (t : Stage) (later : Asked) → Rattle.sp_rules.specs.Endings.is_group later ≡ false → AskedRise asked later s t
no-order s (Calls number task lent kind m) t later e = tt
no-order s (LooksUp number task name) t later e = tt
no-order s (Tells call group) t (Calls number task lent kind m) e = tt
no-order s (Tells call group) t (LooksUp number task name) e = tt
no-order s (Tells call group) t (Tells d other) e = absurd (true≢false e)

-- ---- moves

answered-rise : (conn number : ℕ) (q p : Request) → StandInOrder q p → StandInOrder (Frames.answered_on conn number q) (Frames.answered_on conn number p)
answered-rise conn number q p k = by (is_call_on conn number q) refl (is_call_on conn number p) refl
  where
    right : (a b : Bool) → a && b ≡ true → b ≡ true
    right true b e = e
    right false b e = absurd (true≢false (sym e))

    first : (asked later : Asked) (s t u v : Stage) → has_number number asked ≡ true → AskedRise asked later s t → AskedRise asked later u v
    first (Calls n task lent kind m) later s t u v e a = tt
    first (LooksUp n task name) later s t u v e a = tt
    first (Tells call group) later s t u v e a = absurd (true≢false (sym e))

    second : (asked later : Asked) (s t v : Stage) → has_number number later ≡ true → AskedRise asked later s t → AskedRise asked later s v
    second asked (Calls n task lent kind m) s t v e a = no-order s asked v (Calls n task lent kind m) refl
    second asked (LooksUp n task name) s t v e a = no-order s asked v (LooksUp n task name) refl
    second asked (Tells call group) s t v e a = absurd (true≢false (sym e))

    by : (b : Bool) → is_call_on conn number q ≡ b → (c : Bool) → is_call_on conn number p ≡ c → StandInOrder (if b then record q { stage = Answered conn } else q) (if c then record p { stage = Answered conn } else p)
    by true e true f = λ same. first q.asked p.asked q.stage p.stage (Answered conn) (Answered conn) (right (is_out_on conn q.stage) (has_number number q.asked) e) (k same)
    by true e false f = λ same. first q.asked p.asked q.stage p.stage (Answered conn) p.stage (right (is_out_on conn q.stage) (has_number number q.asked) e) (k same)
    by false e true f = λ same. second q.asked p.asked q.stage p.stage (Answered conn) (right (is_out_on conn p.stage) (has_number number p.asked) f) (k same)
    by false e false f = k

pairs-answered : (conn number : ℕ) (rs : List Request) → AllPairs rs → AllPairs (map (Frames.answered_on conn number) rs)
pairs-answered conn number [] a = tt
pairs-answered conn number (q ∷ rs) a = (all-map (StandInOrder q) (StandInOrder (Frames.answered_on conn number q)) (Frames.answered_on conn number) rs (λ p k. answered-rise conn number q p k) a.0, pairs-answered conn number rs a.1)

below-answered : (top n conn number : ℕ) (q : Request) → Below top n q → Below top n (Frames.answered_on conn number q)
below-answered top n conn number q k = by (is_call_on conn number q)
  where
    other : (asked : Asked) (s : Stage) → AskedBelow top n q.peer asked s → AskedBelow top n q.peer asked (Answered conn)
    other (Calls number task lent kind m) s a = tt
    other (LooksUp number task name) s a = tt
    other (Tells call group) s a = (a.0, (tt, a.1.1))

    by : (b : Bool) → Below top n (if b then record q { stage = Answered conn } else q)
    by true = other q.asked q.stage k
    by false = k

-- the calls were made by now, and no other call was made since
pub record Orders (top made n : ℕ) (rs : List Request) : Type 0 where
  pub ord : Ord top n rs
  pub calls : made ≡ top

abbrev pub Ordered : ℕ → List Owed → State → Type 0
Ordered top l s = Orders top s.groups_made (numbers_of s.leases) s.requests

order_moves : (g : Setting) (top : ℕ) → Moves g (Ordered top)
order_moves g top = record {
  quiet = λ l s t e h. subst (λ (w : WalkParts). Orders top w.groups_made w.numbers w.requests) (sym e) h;
  says = λ l s output is h. h;
  pays = λ l s turn conn m is h. h;
  falls = λ l s o h. h;
  fewer = λ l s is h. record { ord = record { pairs = pairs-filter (λ q. not (is q)) s.requests h.ord.pairs; bounds = all-filter (Below top (numbers_of s.leases)) (λ q. not (is q)) s.requests h.ord.bounds }; calls = h.calls };
  answered = λ l s conn number h. record {
    ord = record {
      pairs = pairs-answered conn number s.requests h.ord.pairs;
      bounds = all-map (Below top (numbers_of s.leases)) (Below top (numbers_of s.leases)) (Frames.answered_on conn number) s.requests (λ q k. below-answered top (numbers_of s.leases) conn number q k) h.ord.bounds;
    };
    calls = h.calls;
  };
  begins = λ l s origin method arguments fuel h. h;
  ends = λ l s id t is h. h;
  works = λ l s id f same h. h;
  parks = λ l s p h. h;
  takes = λ l s p h. h;
  counts = λ l s conn number h. h;
  versions = λ l s conn version h. h;
  closes = λ l s conn h. h;
}

pub order_walks : (g : Setting) (top : ℕ) → Walks g (Ordered top)
order_walks g top = record {
  moves = order_moves g top;
  frees = λ l s p q is h. h;
  fails = λ l s id h. each_walk (order_moves g top) {l = l} _ _ (λ t p k. fail_parked_walk (order_moves g top) {l = l} p k) h;
}

-- ---- requests go out

stage-more : (n : ℕ) (s : Stage) → StageBelow n s → StageBelow (n + 1) s
stage-more n Waits k = tt
stage-more n (Out c s) k = let a : s ≤ n = k in omega arith
stage-more n (Answered c) k = tt

below-more : (top n : ℕ) (q : Request) → Below top n q → Below top (n + 1) q
below-more top n q k = by q.asked k
  where
    by : (asked : Asked) → AskedBelow top n q.peer asked q.stage → AskedBelow top (n + 1) q.peer asked q.stage
    by (Calls number task lent kind m) a = tt
    by (LooksUp number task name) a = tt
    by (Tells call group) a = (a.0, (stage-more n q.stage a.1.0, a.1.1))

-- a request stands before what goes out now: it is of no later call of that peer, and waits not
pub record CanFollow (call : ℕ) (peer : Uuid) (x : Request) : Type 0 where
  pub calls : bytes_eq x.peer peer ≡ true → (c : ℕ) (group : Group) → x.asked ≡ Tells c group → c ≤ call
  pub waits : bytes_eq x.peer peer ≡ true → is_waiting x.stage ≡ false

-- a part that goes out stands after it
part-follows : (top call n conn : ℕ) (part : Group) (x : Request) → Below top n x → CanFollow call part.peer x → StandInOrder x (record { peer = part.peer; asked = Tells call part; stage = Out conn (n + 1) })
part-follows top call n conn part x below k same = by x.asked refl x.stage refl below
  where
    stage : (s : Stage) → x.stage ≡ s → StageBelow n s → StagesRise s (Out conn (n + 1))
    stage Waits e b = true≢false (ap is_waiting (sym e) ∙ k.waits same)
    stage (Out c s) e b = let a : s ≤ n = b in omega arith
    stage (Answered c) e b = tt

    by : (asked : Asked) → x.asked ≡ asked → (s : Stage) → x.stage ≡ s → AskedBelow top n x.peer asked s → AskedRise asked (Tells call part) s (Out conn (n + 1))
    by (Calls number task lent kind m) e s f b = tt
    by (LooksUp number task name) e s f b = tt
    by (Tells c group) e s f b = (k.calls same c group e, stage s f b.1.0)

numbers-sent : (part : Group) (call : ℕ) (h : List client.Told) → numbers_of (client.sent part call h) ≡ numbers_of h + 1
numbers-sent part call h = by part.kind
  where
    by : (kind : Due) → numbers_of (client.sent_as kind part call h) + 1 ≡ numbers_of h + 1
    by due.Dirty = ap (λ n. n + 1) (numbers-told (client.references_at part.peer part.ids) (Rattle.dgc_client.specs.History.DirtySent call) h)
    by (due.Clean strong) = refl

-- The state from which parts of a call go out; beside it something is known of each request, and the connections stand.
pub record Goes (top call made : ℕ) (peer : Uuid) (F : Request → Type 0) (cs : List Connection) (s : State) : Type 0 where
  pub ord : Ord top (numbers_of s.leases) s.requests
  pub follows : AllOf (CanFollow call peer) s.requests
  pub low : call ≤ top
  pub kept : AllOf F s.requests
  pub told : s.groups_made ≡ made
  pub lines : s.connections ≡ cs

pub either-state : (P : State → Type 0) (t u : State) (b : Bool) → P t → P u → P (if b then t else u)
either-state P t u true h k = h
either-state P t u false h k = k

-- what is known of a part that is out
abbrev pub IsOfParts : (Request → Type 0) → ℕ → Uuid → Type 0
IsOfParts F call peer = (conn n : ℕ) (part : Group) → part.peer ≡ peer → F (record { peer = part.peer; asked = Tells call part; stage = Out conn n })

part-goes : (top call made conn : ℕ) (peer : Uuid) (F : Request → Type 0) (cs : List Connection) (turn : Turn) (s : State) (part : Group) → IsOfParts F call peer → part.peer ≡ peer
    → Goes top call made peer F cs s → Goes top call made peer F cs (Requests.part_goes_out turn conn call s part)
unfolding Requests.part_goes_out send
part-goes top call made conn peer F cs turn s part known is h = either-state (Goes top call made peer F cs) _ _ (is_open s conn)
    (record { ord = out.ord; follows = out.follows; low = h.low; kept = out.kept; told = h.told; lines = h.lines })
    (record { ord = out.ord; follows = out.follows; low = h.low; kept = out.kept; told = h.told; lines = h.lines })
  where
    z : Request
    z = record { peer = part.peer; asked = Tells call part; stage = Out conn (numbers_of s.leases + 1) }

    told : List client.Told
    told = client.sent part call s.leases

    out : Goes top call made peer F cs (record s { requests = s.requests ++ z ∷ []; leases = told })
    out = record {
      ord = subst (λ n. Ord top n (s.requests ++ z ∷ [])) (sym (numbers-sent part call s.leases)) (record {
        pairs = pairs-more s.requests z h.ord.pairs (follow s.requests h.ord.bounds h.follows);
        bounds = all-more (Below top (numbers_of s.leases + 1)) s.requests z (all-weaken (Below top (numbers_of s.leases)) (Below top (numbers_of s.leases + 1)) s.requests (λ x k. below-more top (numbers_of s.leases) x k) h.ord.bounds) (h.low, (omega arith, refl));
      });
      follows = all-more (CanFollow call peer) s.requests z h.follows (record { calls = λ same c group e. self c (sym (ap call-of e)); waits = λ same. refl });
      low = h.low;
      kept = all-more F s.requests z h.kept (known conn (numbers_of s.leases + 1) part is);
      told = h.told;
      lines = h.lines;
    }
      where
        call-of : Asked → ℕ
        call-of (Tells c group) = c
        call-of _ = 0

        self : (c : ℕ) → c ≡ call → c ≤ call
        self c e = omega (arith, e)

        follow : (rs : List Request) → AllOf (Below top (numbers_of s.leases)) rs → AllOf (CanFollow call peer) rs → AllOf (λ (x : Request). StandInOrder x z) rs
        follow [] a b = tt
        follow (x ∷ rs) a b = (part-follows top call (numbers_of s.leases) conn part x a.0 (record { calls = λ same. b.0.calls (subst (λ u. bytes_eq x.peer u ≡ true) is same); waits = λ same. b.0.waits (subst (λ u. bytes_eq x.peer u ≡ true) is same) }), follow rs a.1 b.1)

-- each of a list of which something is known
each-known : (Q : State → Type 0) {A : Type 0} (Is : A → Type 0) (f : State → A → State) (xs : List A) (s : State) → AllOf Is xs → ((t : State) (x : A) → Is x → Q t → Q (f t x)) → Q s → Q (each f xs s)
unfolding each
each-known Q Is f [] s a k h = h
each-known Q Is f (x ∷ xs) s a k h = each-known Q Is f xs (f s x) a.1 k (k s x a.0 h)

parts-peer : (most : ℕ) (group : Group) → AllOf (λ (part : Group). part.peer ≡ group.peer) (groups.parts_of most group)
parts-peer most group = all (groups.pieces most group.ids)
  where
    all : (xs : List (List Rattle.space_ids.specs.declared.ids.ObjId.ObjId)) → AllOf (λ (part : Group). part.peer ≡ group.peer) (map (groups.part_of group) xs)
    all [] = tt
    all (x ∷ xs) = (refl, all xs)

pub tells-goes : (top call made conn : ℕ) (F : Request → Type 0) (cs : List Connection) (turn : Turn) (s : State) (group : Group) → IsOfParts F call group.peer
    → Goes top call made group.peer F cs s → Goes top call made group.peer F cs (each (Requests.part_goes_out turn conn call) (groups.parts_of (Requests.most_on s conn) group) s)
tells-goes top call made conn F cs turn s group known h = each-known (Goes top call made group.peer F cs) (λ (part : Group). part.peer ≡ group.peer) (Requests.part_goes_out turn conn call) (groups.parts_of (Requests.most_on s conn) group) s (parts-peer (Requests.most_on s conn) group)
    (λ t part is k. part-goes top call made conn group.peer F cs turn t part known is k) h
