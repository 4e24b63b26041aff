-- The clean calls of a reference that is granted are out under numbers below that of its dirty call.
use mathlib.Core.Path.{sym, ap, subst, ◌∙◌}
use Rattle.std.proofs.Common.{arith, inl, inr}
use Rattle.std.proofs.lemmas.Bool.{true≢false, eq-eqb, eqb-true}
use Rattle.std.proofs.lemmas.Slice.Eq.{bytes_eq-Decides}
use Rattle.std.specs.Prelude.{◌≡◌, ◌⊎◌, refl, ℕ, ◌+◌, ◌≤◌, ◌<◌, ◌==◌, ◌&&◌, ◌||◌, not, Bool, true, false, List, [], ◌∷◌, ◌++◌, Option, None, Some, find, map, if◌then◌else◌}
use Rattle.std.specs.Str.{bytes_eq}
use Rattle.dgc_client.specs.Groups as groups
use Rattle.dgc_client.specs.Lease.{is_made}
use Rattle.dgc_client.specs.Table.{own, is_same, is_among, references_at}
use Rattle.dgc_client.specs.declared.groups.Group.{Group}
use Rattle.dgc_client.specs.declared.lease.Due.{Due}
use Rattle.dgc_client.specs.declared.lease.Due.TheVariants as due
use Rattle.dgc_client.proofs.GroupsLemmas.{parts-joined}
use Rattle.space_ids.specs.declared.ids.ForeignId.{ForeignId}
use Rattle.space_ids.specs.declared.ids.ObjId.{ObjId}
use Rattle.uuid.specs.declared.Uuid.{Uuid}
use Rattle.net_message.specs.declared.message.Message.TheVariants as message
use Rattle.sp_rules.specs.Classes.{Setting}
use Rattle.sp_rules.specs.Endings.{is_group}
use Rattle.sp_rules.specs.Events.{Event, Opened}
use Rattle.sp_rules.specs.Frames.{is_dirty_kind, tells_of, tells_on, has_sequence}
use Rattle.sp_rules.specs.Holders.{lease_now, times_in}
use Rattle.sp_rules.specs.Laws.{AllOf}
use Rattle.sp_rules.specs.Origins.{IsTaken}
use Rattle.sp_rules.specs.ParkedFrames.{is_unanswered_on}
use Rattle.sp_rules.specs.Requests
use Rattle.sp_rules.specs.Requests.{is_waiting}
use Rattle.sp_rules.specs.Space
use Rattle.sp_rules.specs.State.{State, Request, Asked, Calls, LooksUp, Tells, Stage, Waits, Out, Answered, Connection, opening, is_to}
use Rattle.sp_rules.proofs.AllLemmas.{all-weaken, found-is}
use Rattle.sp_rules.proofs.OwnLemmas.{and-left, and-right}
use Rattle.sp_laws.specs.Answered.{IsDialledTo, StandsOn, GoesTo}
use Rattle.sp_laws.specs.Inbound.{OpensOnce}
use Rattle.sp_laws.proofs.PlaceEvents.{answers_are_parked}
use Rattle.sp_laws.specs.MadeWhenDue.{CallsAreMadeWhenDue, AreMadeWhenDue, next_of}
use Rattle.sp_laws.specs.OnTheWay.{CallsOnTheirWayAreRequests, IsAmongRequests, names_in, calls_naming, times_named, is_on_its_way, is_overtaken}
use Rattle.sp_order_laws.specs.Delivered.{came_on}
use Rattle.sp_order_laws.specs.Ends.{IsOneOf}
use Rattle.sp_order_laws.specs.RequestOrder.{CallsKeepTheirOrder, AllPairs, StandInOrder, AskedRise, StagesRise}
use Rattle.sp_order_laws.proofs.RowStays.{rows-opened}
use Rattle.sp_order_laws.proofs.TimeLemmas.{found-in}
use Rattle.sp_order_laws.proofs.UnbrokenLaws.{came-now}
use Rattle.sp_order_laws.proofs.WelcomeLemmas.{one-left, one-total}
use Rattle.sp_held_laws.specs.Cleans.{is_clean_of, IsOutBelow, IsUncleaned, GrantedReferencesAreUncleaned}
use Rattle.sp_held_laws.specs.Granted.{was_granted, is_granted}
use Rattle.sp_held_laws.proofs.FreeLemmas.{each-of, one-of, one-foreign, times-cons}
use Rattle.sp_held_laws.proofs.GrantLemmas.{history-sane, none-some}
use Rattle.sp_held_laws.proofs.GrantLaws.{ended, ends-stocks, numbered-of}
use Rattle.sp_held_laws.proofs.GrownRules.{Stocks}
use Rattle.sp_held_laws.proofs.NewGrants.{NewGrant, granted-newly, settle-back, settle-uncleaned, dirty-last, overtaken-next}
use Rattle.sp_held_laws.proofs.RequestRules.{RowKind, WaitsMayGo, MakesWell, on-rows, fresh-of}
use Rattle.sp_held_laws.proofs.SettleLemmas.{names_ref, in-groups, has-group, call_for}

-- ---- parts of groups

part-of-group : (group : Group) (pieces : List (List ObjId)) (part : Group) → IsOneOf part (map (groups.part_of group) pieces) → (part.kind ≡ group.kind) × (part.peer ≡ group.peer)
part-of-group group [] part a = absurd a
part-of-group group (ids ∷ pieces) part (inl e) = (ap (λ (b : Group). b.kind) e, ap (λ (b : Group). b.peer) e)
part-of-group group (ids ∷ pieces) part (inr a) = part-of-group group pieces part a

-- a part names what its group names
pub part-names : (r : ForeignId) (most : ℕ) → 1 ≤ most → (group part : Group) → IsOneOf part (groups.parts_of most group) → names_ref r part ≡ true → names_ref r group ≡ true
part-names r most some group part a e = (has-group r group.peer part.kind group.kind group.ids
    (subst (IsOneOf (call_for r part.kind)) (parts-joined most group (omega (arith, some))) (in-groups r part (groups.parts_of most group) a e))).1

-- ---- which call was made first

among-times : (r : ForeignId) (xs : List ForeignId) → is_among r xs ≡ true → 1 ≤ times_in r xs
among-times r [] e = absurd (true≢false (sym e))
among-times r (x ∷ xs) e = pick (is_same r x) e (times-cons r x xs) (among-times r xs)
  where
    pick : (b : Bool) → b || is_among r xs ≡ true → times_in r (x ∷ xs) ≡ Rattle.sp_held_laws.proofs.FreeLemmas.bit b + times_in r xs → (is_among r xs ≡ true → 1 ≤ times_in r xs) → 1 ≤ times_in r (x ∷ xs)
    pick true e f rest = let a : times_in r (x ∷ xs) ≡ 1 + times_in r xs = f in omega arith
    pick false e f rest = let a : times_in r (x ∷ xs) ≡ 0 + times_in r xs = f in let b : 1 ≤ times_in r xs = rest e in omega arith

-- a request that names the reference in calls of a kind and number counts
pub counts-naming : (dirty : Bool) (r : ForeignId) (call : ℕ) (group : Group) (q : Request) (rs : List Request) → IsOneOf q rs → q.asked ≡ Tells call group → tells_of dirty (Tells call group) ≡ true → names_ref r group ≡ true → 1 ≤ calls_naming dirty call r rs
counts-naming dirty r call group q rs there asked kind names =
    let a : names_in dirty call r q.asked ≤ calls_naming dirty call r rs = one-total (λ (x : Request). names_in dirty call r x.asked) q rs there in
    let b : 1 ≤ names_in dirty call r (Tells call group) = by (call == call) (tells_of dirty (Tells call group)) (eq-eqb call call refl) kind in
    let c : names_in dirty call r q.asked ≡ names_in dirty call r (Tells call group) = ap (names_in dirty call r) asked in omega arith
  where
    by : (x y : Bool) → x ≡ true → y ≡ true → 1 ≤ (if x && y then times_named r group else 0)
    by true true e f = among-times r (references_at group.peer group.ids) names
    by true false e f = absurd (true≢false (sym f))
    by false y e f = absurd (true≢false (sym e))

-- What is known of a space after a history.
pub record Kept (g : Setting) (h : List Event) (r : ForeignId) (s : State) : Type 0 where
  pub among : IsAmongRequests s r
  pub due : AreMadeWhenDue (own r s.leases)
  pub pairs : AllPairs s.requests
  pub places : AllOf (λ (q : Request). StandsOn s.connections q.peer q.stage × GoesTo q.peer q.asked) s.requests
  pub rows : AllOf (λ (c : Connection). IsOneOf (Opened c.number c.dialled) h) s.connections

-- while a dirty call is on its way, each clean call of the reference was made before it
pub clean-first : {g : Setting} {h : List Event} {r : ForeignId} {s : State} → Kept g h r s → (k call : ℕ) (group : Group) (q : Request) → is_made (lease_now s r).dirty k ≡ true → IsOneOf q s.requests → q.asked ≡ Tells call group → is_clean_of r (Tells call group) ≡ true → call + 1 ≤ k
clean-first {r = r} {s = s} K k call group q made there asked clean = by (K.among.others false call (counts-naming false r call group q s.requests there asked (and-left (not (is_dirty_kind group.kind)) _ clean) (and-right (not (is_dirty_kind group.kind)) _ clean)))
  where
    some-made : (o : Option Rattle.dgc_client.specs.declared.lease.Made.Made) → is_made o k ≡ true → Rattle.std.specs.Prelude.is_some o ≡ true
    some-made None e = absurd (true≢false (sym e))
    some-made (Some m) e = refl

    some-clean : (o : Option ℕ) → Rattle.dgc_client.specs.Lease.is_clean o call ≡ true → Rattle.std.specs.Prelude.is_some o ≡ true
    some-clean None e = absurd (true≢false (sym e))
    some-clean (Some c) e = refl

    by : (is_on_its_way false (lease_now s r) call ≡ true) ⊎ (is_overtaken false call (own r s.leases) ≡ true) → call + 1 ≤ k
    by (inl way) = absurd (none-some ((history-sane (own r s.leases)).apart (some-clean (lease_now s r).clean way)) (some-made (lease_now s r).dirty made))
    by (inr over) =
        let a : call + 2 ≤ next_of (own r s.leases) = overtaken-next false call (own r s.leases) K.due over in
        let b : next_of (own r s.leases) ≡ k + 1 = dirty-last k (own r s.leases) made in omega arith

-- ---- which went out first

pub pair-order : (rs : List Request) (x y : Request) → AllPairs rs → IsOneOf x rs → IsOneOf y rs → (x ≡ y) ⊎ (StandInOrder x y ⊎ StandInOrder y x)
pair-order [] x y a i j = absurd i
pair-order (q ∷ rs) x y a (inl e) (inl f) = inl (e ∙ sym f)
pair-order (q ∷ rs) x y a (inl e) (inr j) = inr (inl (subst (λ (z : Request). StandInOrder z y) (sym e) (one-of (StandInOrder q) rs y a.0 j)))
pair-order (q ∷ rs) x y a (inr i) (inl f) = inr (inr (subst (λ (z : Request). StandInOrder z x) (sym f) (one-of (StandInOrder q) rs x a.0 i)))
pair-order (q ∷ rs) x y a (inr i) (inr j) = pair-order rs x y a.1 i j

self-bytes : (u : Uuid) → bytes_eq u u ≡ true
self-bytes u = (bytes_eq-Decides u u).1 refl

-- the peer of a group that names a reference is its space
pub names-space : (r : ForeignId) (peer : Uuid) (ids : List ObjId) → is_among r (references_at peer ids) ≡ true → r.space ≡ peer
names-space r peer [] e = absurd (true≢false (sym e))
names-space r peer (id ∷ ids) e = pick (is_same r (record { space = peer; id = id })) refl e (names-space r peer ids)
  where
    pick : (b : Bool) → is_same r (record { space = peer; id = id }) ≡ b → b || is_among r (references_at peer ids) ≡ true → (is_among r (references_at peer ids) ≡ true → r.space ≡ peer) → r.space ≡ peer
    pick true same f rest = ap {A = ForeignId} {B = Uuid} (λ x. x.space) (one-foreign r (record { space = peer; id = id }) same)
    pick false same f rest = rest f

pub peer-of : {g : Setting} {h : List Event} {r : ForeignId} {s : State} → Kept g h r s → (call : ℕ) (group : Group) (q : Request) → IsOneOf q s.requests → q.asked ≡ Tells call group → names_ref r group ≡ true → q.peer ≡ r.space
peer-of {r = r} {s = s} K call group q there asked names = sym (names-space r group.peer group.ids names ∙ goes)
  where
    goes : group.peer ≡ q.peer
    goes = subst (GoesTo q.peer) asked (one-of (λ (x : Request). StandsOn s.connections x.peer x.stage × GoesTo x.peer x.asked) s.requests q K.places there).1

-- each clean call of the reference is out below a dirty call on its way that is out
pub clean-below : {g : Setting} {h : List Event} {r : ForeignId} {s : State} → Kept g h r s → (k conn sequence : ℕ) (group : Group) (y : Request) → is_made (lease_now s r).dirty k ≡ true → IsOneOf y s.requests → y.asked ≡ Tells k group → y.stage ≡ Out conn sequence → names_ref r group ≡ true
    → (q : Request) → IsOneOf q s.requests → is_clean_of r q.asked ≡ true → IsOutBelow sequence q.stage
clean-below {r = r} {s = s} K k conn sequence group y made y-there y-asked y-stage names q q-there clean = of q.asked refl clean
  where
    call-of : Asked → ℕ
    call-of (Tells c b) = c
    call-of _ = 0

    stages : (x : Stage) → StagesRise x (Out conn sequence) → IsOutBelow sequence x
    stages Waits a = a
    stages (Out c n) a = a
    stages (Answered c) a = tt

    ordered : (call : ℕ) (b : Group) → q.asked ≡ Tells call b → call + 1 ≤ k → q.peer ≡ y.peer → (q ≡ y) ⊎ (StandInOrder q y ⊎ StandInOrder y q) → IsOutBelow sequence q.stage
    ordered call b e le same (inl one) = let c : call ≡ k = ap call-of (sym e ∙ (ap (λ (z : Request). z.asked) one ∙ y-asked)) in absurd (omega arith)
    ordered call b e le same (inr (inl before)) =
        let a : AskedRise q.asked y.asked q.stage y.stage = before (subst (λ u. bytes_eq q.peer u ≡ true) same (self-bytes q.peer)) in
        let c : AskedRise (Tells call b) (Tells k group) q.stage (Out conn sequence) = subst (λ (x : Stage). AskedRise (Tells call b) (Tells k group) q.stage x) y-stage (subst (λ x. AskedRise (Tells call b) x q.stage y.stage) y-asked (subst (λ x. AskedRise x y.asked q.stage y.stage) e a)) in
        stages q.stage c.1
    ordered call b e le same (inr (inr after)) =
        let a : AskedRise y.asked q.asked y.stage q.stage = after (subst (λ u. bytes_eq u q.peer ≡ true) same (self-bytes q.peer)) in
        let c : AskedRise (Tells k group) (Tells call b) y.stage q.stage = subst (λ x. AskedRise (Tells k group) x y.stage q.stage) e (subst (λ x. AskedRise x q.asked y.stage q.stage) y-asked a) in
        let d : k ≤ call = c.0 in absurd (omega arith)

    of : (asked : Asked) → q.asked ≡ asked → is_clean_of r asked ≡ true → IsOutBelow sequence q.stage
    of (Calls number task lent kind m) e c = absurd (true≢false (sym c))
    of (LooksUp number task name) e c = absurd (true≢false (sym c))
    of (Tells call b) e c = ordered call b e (clean-first K k call b q made q-there e c)
        (peer-of K call b q q-there e (and-right (not (is_dirty_kind b.kind)) _ c) ∙ sym (peer-of K k group y y-there y-asked names)) (pair-order s.requests q y K.pairs q-there y-there)

-- ---- a whole event

abbrev Below : ForeignId → ℕ → Request → Type 0
Below r n q = is_clean_of r q.asked ≡ true → IsOutBelow n q.stage

free-below : (r : ForeignId) (n : ℕ) → RowKind (Below r n)
free-below r n = record { free = λ q f c. none q.asked f c }
  where
    none : {A : Type 0} (asked : Asked) → is_group asked ≡ false → is_clean_of r asked ≡ true → A
    none (Calls number task lent kind m) f c = absurd (true≢false (sym c))
    none (LooksUp number task name) f c = absurd (true≢false (sym c))
    none (Tells call group) f c = absurd (true≢false f)

-- a part of a clean call of the reference is of one
part-clean : (r : ForeignId) (most : ℕ) → 1 ≤ most → (group part : Group) (call other : ℕ) → IsOneOf part (groups.parts_of most group) → is_clean_of r (Tells call part) ≡ true → is_clean_of r (Tells other group) ≡ true
part-clean r most some group part call other a c = both (not (is_dirty_kind group.kind)) (names_ref r group) (subst (λ k. not (is_dirty_kind k) ≡ true) (part-of-group group (groups.pieces most group.ids) part a).0 (and-left (not (is_dirty_kind part.kind)) _ c))
    (part-names r most some group part a (and-right (not (is_dirty_kind part.kind)) _ c))
  where
    both : (x y : Bool) → x ≡ true → y ≡ true → x && y ≡ true
    both true y e f = f
    both false y e f = absurd (true≢false (sym e))

waits-below : (r : ForeignId) (m n : ℕ) → WaitsMayGo m (Below r n)
waits-below r m n q k waits call group e most some part a c conn sequence le clean = absurd (not-waiting q.stage waits (k (subst (λ x. is_clean_of r x ≡ true) (sym e) (part-clean r most some group part c call a clean))))
  where
    not-waiting : (s : Stage) → is_waiting s ≡ true → IsOutBelow n s → ⊥
    not-waiting Waits w b = b
    not-waiting (Out conn s) w b = true≢false (sym w)
    not-waiting (Answered conn) w b = true≢false (sym w)

clean-kind : (k : Due) → not (is_dirty_kind k) ≡ true → (strong : Bool) × (k ≡ due.Clean strong)
clean-kind due.Dirty e = absurd (true≢false (sym e))
clean-kind (due.Clean strong) e = (strong, refl)

makes-below : (r : ForeignId) (m n : ℕ) (answers : Bool) (u : State) → is_granted (ended answers u) r ≡ true → MakesWell m (Below r n) answers u
makes-below r m n false u granted = tt
makes-below r m n true u granted = λ b there. record {
  waits = λ call clean. absurd (none b there call clean);
  goes = λ most some part a call conn sequence le clean. absurd (none b there call (part-clean r most some b part call call a clean));
}
  where
    none : (b : Group) → IsOneOf b (Requests.due_groups u.leases) → (call : ℕ) → is_clean_of r (Tells call b) ≡ true → ⊥
    none b there call clean = let k : (strong : Bool) × (b.kind ≡ due.Clean strong) = clean-kind b.kind (and-left (not (is_dirty_kind b.kind)) _ clean) in
        settle-uncleaned u r granted b there (and-right (not (is_dirty_kind b.kind)) _ clean) k.0 k.1

-- while it stays granted, no clean call of it is made or goes out
below-stays : (g : Setting) (h : List Event) (e : Event) (r : ForeignId) (n : ℕ) → is_granted (ended (Space.answers_outputs e) (Space.happen g e (Space.state_of g h))) r ≡ true → AllOf (Below r n) (Space.state_of g h).requests → AllOf (Below r n) (Space.on g e (Space.state_of g h)).0.requests
below-stays g h e r n granted below = (on-rows g 0 (Below r n) (free-below r n) (waits-below r 0 n) (Space.state_of g h) e (makes-below r 0 n (Space.answers_outputs e) (Space.happen g e (Space.state_of g h)) granted)
    (record { low = omega arith; rows = below; fresh = fresh-of g h })).rows

pub ended-back : (answers : Bool) (u : State) (r : ForeignId) → is_granted (ended answers u) r ≡ true → is_granted u r ≡ true
ended-back true u r e = settle-back u r e
ended-back false u r e = e

pub kept-of : CallsOnTheirWayAreRequests → CallsAreMadeWhenDue → CallsKeepTheirOrder → (g : Setting) (h : List Event) (r : ForeignId) → IsTaken g h → OpensOnce h → Kept g h r (Space.state_of g h)
kept-of ways due order g h r t o = record { among = ways g h r; due = due g h r; pairs = order g h t o; places = (answers_are_parked g h t).requests; rows = rows-opened g h }

-- a request that is found under a sequence number is out under it
pub told-out : (dirty : Bool) (conn sequence : ℕ) (q : Request) → tells_on dirty conn sequence q ≡ true → q.stage ≡ Out conn sequence
told-out dirty conn sequence q e = by q.stage (and-left (is_unanswered_on conn q.stage) _ e) (and-left (has_sequence sequence q.stage) _ (and-right (is_unanswered_on conn q.stage) _ e))
  where
    by : (s : Stage) → is_unanswered_on conn s ≡ true → has_sequence sequence s ≡ true → s ≡ Out conn sequence
    by Waits a b = absurd (true≢false (sym a))
    by (Out c n) a b = ap (λ x. Out x n) (eqb-true c conn a) ∙ ap (λ x. Out conn x) (eqb-true n sequence b)
    by (Answered c) a b = absurd (true≢false (sym a))

-- the connection on which a request is out was dialled to its peer
pub dialled-to : {g : Setting} {h : List Event} {r : ForeignId} {s : State} → Kept g h r s → (conn sequence : ℕ) (q : Request) → IsOneOf q s.requests → q.stage ≡ Out conn sequence → q.peer ≡ r.space → IsOneOf (Opened conn (Some r.space)) h
dialled-to {h = h} {r = r} {s = s} K conn sequence q there out peer = opened stands.row (found-in (λ (c : Connection). c.number == conn) s.connections stands.row stands.found) stands.row.dialled refl stands.dialled
  where
    stands : IsDialledTo s.connections conn q.peer
    stands = subst (StandsOn s.connections q.peer) out (one-of (λ (x : Request). StandsOn s.connections x.peer x.stage × GoesTo x.peer x.asked) s.requests q K.places there).0

    opened : (c : Connection) → IsOneOf c s.connections → (d : Option Uuid) → stands.row.dialled ≡ d → is_to q.peer d ≡ true → IsOneOf (Opened conn (Some r.space)) h
    opened c i None e f = absurd (true≢false (sym f))
    opened c i (Some d) e f = subst (λ x. IsOneOf (Opened conn x) h) (ap {A = Uuid} {B = Option Uuid} (λ u. Some u) ((bytes_eq-Decides d q.peer).0 f ∙ peer))
        (subst (λ x. IsOneOf (Opened conn x) h) e (subst (λ n. IsOneOf (Opened n stands.row.dialled) h) (eqb-true stands.row.number conn (found-is (λ (x : Connection). x.number == conn) s.connections stands.row stands.found))
        (one-of (λ (x : Connection). IsOneOf (Opened x.number x.dialled) h) s.connections stands.row K.rows (found-in (λ (x : Connection). x.number == conn) s.connections stands.row stands.found))))

pub granted_references_are_uncleaned : CallsOnTheirWayAreRequests → CallsAreMadeWhenDue → CallsKeepTheirOrder → GrantedReferencesAreUncleaned
unfolding Space.state_of opening
granted_references_are_uncleaned ways due order g [] r t o granted = absurd (true≢false (sym granted))
granted_references_are_uncleaned ways due order g (e ∷ h) r t o granted = by (granted-newly g r t.0.0 s e t.0.1 (numbered-of g h t.1) (ended-back (Space.answers_outputs e) (Space.happen g e s) r at-end)) (granted_references_are_uncleaned ways due order g h r t.1 o.1)
  where
    s : State
    s = Space.state_of g h

    at-end : is_granted (ended (Space.answers_outputs e) (Space.happen g e s)) r ≡ true
    at-end = subst (λ (c : Stocks). was_granted (own r c.leases) ≡ true) (ends-stocks g e s) granted

    by : (is_granted s r ≡ true) ⊎ NewGrant s e r → (is_granted s r ≡ true → IsUncleaned r h s) → IsUncleaned r (e ∷ h) (Space.on g e s).0
    by (inl old) rest = let k : IsUncleaned r h s = rest old in record {
      conn = k.conn;
      number = k.number;
      period = k.period;
      lease = one-left (message.Lease k.number k.period) (came_on k.conn h) (Rattle.sp_order_laws.specs.Delivered.frame_of k.conn e) k.lease;
      opened = inr k.opened;
      below = below-stays g h e r k.number at-end k.below;
    }
    by (inr new) rest = record {
      conn = new.conn;
      number = new.sequence;
      period = new.period;
      lease = came-now new.conn (message.Lease new.sequence new.period) e h new.same;
      opened = inr (dialled-to K new.conn new.sequence new.request there out (peer-of K new.call new.group new.request there new.asked new.names));
      below = below-stays g h e r new.sequence at-end (each-of (Below r new.sequence) s.requests (λ q q-there clean. clean-below K new.call new.conn new.sequence new.group new.request new.made there new.asked out new.names q q-there clean));
    }
      where
        K : Kept g h r s
        K = kept-of ways due order g h r t.1 o.1

        number : new.row.number ≡ new.conn
        number = eqb-true new.row.number new.conn (found-is (λ (c : Connection). c.number == new.conn) s.connections new.row new.there)

        there : IsOneOf new.request s.requests
        there = found-request (tells_on true new.row.number new.sequence) s.requests new.request new.found
          where
            found-request : (is : Request → Bool) (rs : List Request) (q : Request) → find is rs ≡ Some q → IsOneOf q rs
            found-request is [] q f = absurd (Rattle.sp_rules.proofs.AllLemmas.some-none q (sym f))
            found-request is (x ∷ rs) q f = pick (is x) f (found-request is rs q)
              where
                pick : (b : Bool) → Rattle.std.specs.Prelude.cond b (Some x) (find is rs) ≡ Some q → (find is rs ≡ Some q → IsOneOf q rs) → IsOneOf q (x ∷ rs)
                pick true f rest = inl (sym (Rattle.sp_rules.proofs.OwnLemmas.some-same f))
                pick false f rest = inr (rest f)

        out : new.request.stage ≡ Out new.conn new.sequence
        out = told-out true new.row.number new.sequence new.request (found-is (tells_on true new.row.number new.sequence) s.requests new.request new.found) ∙ ap (λ n. Out n new.sequence) number
