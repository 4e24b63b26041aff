-- The end of an event: the dirty and clean calls that are due are made, each of them, and no others.
use mathlib.Core.Path.{sym, ap, subst, ◌∙◌}
use Rattle.std.proofs.Common.{inl, inr}
use Rattle.std.proofs.lemmas.Bool.{true≢false, eq-eqb}
use Rattle.std.proofs.lemmas.Slice.Eq.{bytes_eq-Decides}
use Rattle.std.specs.List.{flat_map, filter_map, cons_option}
use Rattle.std.specs.Prelude.{◌≡◌, ◌⊎◌, refl, ℕ, ◌+◌, ◌&&◌, ◌||◌, is_some, Bool, true, false, cond, List, [], ◌∷◌, ◌++◌, Option, None, Some, filter, map, if◌then◌else◌}
use Rattle.std.specs.Str.{bytes_eq}
use Rattle.dgc_client.specs.Groups as groups
use Rattle.dgc_client.specs.Groups.{calls_of, call_of, is_of, grouped, in_order}
use Rattle.dgc_client.specs.History.{lease_of}
use Rattle.dgc_client.specs.Lease as lease
use Rattle.dgc_client.specs.Table as client
use Rattle.dgc_client.specs.Table.{Told, On, At, Numbered, own, held, is_same, is_hold, is_among, references_at, due_of}
use Rattle.dgc_client.specs.Touched.{due_call}
use Rattle.dgc_client.specs.declared.groups.DueCall.{DueCall}
use Rattle.dgc_client.specs.declared.groups.Group.{Group}
use Rattle.dgc_client.specs.declared.lease.Due.{Due}
use Rattle.dgc_client.proofs.GroupsLemmas.{kind-self}
use Rattle.dgc_client.proofs.OrderLemmas.{groups-keep}
use Rattle.space_ids.specs.declared.ids.ForeignId.{ForeignId}
use Rattle.space_ids.specs.declared.ids.ObjId.{ObjId}
use Rattle.uuid.specs.declared.Uuid.{Uuid}
use Rattle.sp_rules.specs.Events.{Turn}
use Rattle.sp_rules.specs.Lists.{each, with_some}
use Rattle.sp_rules.specs.Requests
use Rattle.sp_rules.specs.State as state
use Rattle.sp_rules.specs.State.{State, Request, Asked, Calls, LooksUp, Tells, connection_to, is_open, send}
use Rattle.sp_rules.proofs.AllLemmas.{or-left, or-right}
use Rattle.sp_rules.proofs.OwnLemmas.{some-same}
use Rattle.sp_order_laws.specs.Ends.{IsOneOf}
use Rattle.sp_held_laws.proofs.FreeLemmas.{one-foreign, filter-one}

-- ---- what is due is in a group, and what is in a group is due

pub one-filter : {A : Type 0} (is : A → Bool) (xs : List A) (x : A) → is x ≡ true → IsOneOf x xs → IsOneOf x (filter is xs)
one-filter is [] x e a = absurd a
one-filter is (y ∷ xs) x e (inl same) = pick (is y) (sym (ap is same) ∙ e)
  where
    pick : (b : Bool) → b ≡ true → IsOneOf x (cond b (y ∷ filter is xs) (filter is xs))
    pick true f = inl same
    pick false f = absurd (true≢false (sym f))
one-filter is (y ∷ xs) x e (inr a) = pick (is y) (one-filter is xs x e a)
  where
    pick : (b : Bool) → IsOneOf x (filter is xs) → IsOneOf x (cond b (y ∷ filter is xs) (filter is xs))
    pick true r = inr r
    pick false r = r

one-front : {A : Type 0} (xs ys : List A) (x : A) → IsOneOf x xs → IsOneOf x (xs ++ ys)
one-front [] ys x a = absurd a
one-front (y ∷ xs) ys x (inl e) = inl e
one-front (y ∷ xs) ys x (inr a) = inr (one-front xs ys x a)

one-back : {A : Type 0} (xs ys : List A) (x : A) → IsOneOf x ys → IsOneOf x (xs ++ ys)
one-back [] ys x a = a
one-back (y ∷ xs) ys x a = inr (one-back xs ys x a)

one-either : {A : Type 0} (xs ys : List A) (x : A) → IsOneOf x (xs ++ ys) → IsOneOf x xs ⊎ IsOneOf x ys
one-either [] ys x a = inr a
one-either (y ∷ xs) ys x (inl e) = inl (inl e)
one-either (y ∷ xs) ys x (inr a) = by (one-either xs ys x a)
  where
    by : IsOneOf x xs ⊎ IsOneOf x ys → IsOneOf x (y ∷ xs) ⊎ IsOneOf x ys
    by (inl b) = inl (inr b)
    by (inr b) = inr b

-- the call of a kind of a reference
abbrev pub call_for : ForeignId → Due → DueCall
call_for r k = record { reference = r; kind = k }

abbrev pub names_ref : ForeignId → Group → Bool
names_ref r b = is_among r (references_at b.peer b.ids)

-- a group that names the reference has its call
pub group-has : (r : ForeignId) (peer : Uuid) (k : Due) (ids : List ObjId) → is_among r (references_at peer ids) ≡ true → IsOneOf (call_for r k) (map (call_of peer k) ids)
group-has r peer k [] e = absurd (true≢false (sym e))
group-has r peer k (id ∷ ids) e = pick (is_same r (record { space = peer; id = id })) refl e (group-has r peer k ids)
  where
    pick : (b : Bool) → is_same r (record { space = peer; id = id }) ≡ b → b || is_among r (references_at peer ids) ≡ true → (is_among r (references_at peer ids) ≡ true → IsOneOf (call_for r k) (map (call_of peer k) ids))
        → IsOneOf (call_for r k) (call_of peer k id ∷ map (call_of peer k) ids)
    pick true same f rest = inl (ap {A = ForeignId} {B = DueCall} (λ x. record { reference = x; kind = k }) (one-foreign r (record { space = peer; id = id }) same))
    pick false same f rest = inr (rest f)

pub same-self : (a : ForeignId) → is_same a a ≡ true
same-self a = pick (bytes_eq a.space a.space) ((bytes_eq-Decides a.space a.space).1 refl) (eq-eqb a.id.0 a.id.0 refl)
  where
    pick : (b : Bool) → b ≡ true → {c : Bool} → c ≡ true → b && c ≡ true
    pick true t f = f
    pick false t f = absurd (true≢false (sym t))

-- and one that has it names the reference
pub has-group : (r : ForeignId) (peer : Uuid) (k kind : Due) (ids : List ObjId) → IsOneOf (call_for r k) (map (call_of peer kind) ids) → (kind ≡ k) × (is_among r (references_at peer ids) ≡ true)
has-group r peer k kind [] a = absurd a
has-group r peer k kind (id ∷ ids) (inl e) =
    (sym (ap {A = DueCall} {B = Due} (λ c. c.kind) e), or-left (is_same r (record { space = peer; id = id })) _ (subst (λ (x : ForeignId). is_same r x ≡ true) (ap {A = DueCall} {B = ForeignId} (λ c. c.reference) e) (same-self r)))
has-group r peer k kind (id ∷ ids) (inr a) =
    let b : (kind ≡ k) × (is_among r (references_at peer ids) ≡ true) = has-group r peer k kind ids a in (b.0, or-right (is_same r (record { space = peer; id = id })) _ b.1)

pub in-groups : (r : ForeignId) (b : Group) (gs : List Group) → IsOneOf b gs → names_ref r b ≡ true → IsOneOf (call_for r b.kind) (flat_map calls_of gs)
in-groups r b [] a e = absurd a
in-groups r b (c ∷ gs) (inl same) e = one-front (calls_of c) (flat_map calls_of gs) (call_for r b.kind) (subst (λ (x : Group). IsOneOf (call_for r b.kind) (calls_of x)) same (group-has r b.peer b.kind b.ids e))
in-groups r b (c ∷ gs) (inr a) e = one-back (calls_of c) (flat_map calls_of gs) (call_for r b.kind) (in-groups r b gs a e)

of-groups : (r : ForeignId) (k : Due) (gs : List Group) → IsOneOf (call_for r k) (flat_map calls_of gs) → (b : Group) × (IsOneOf b gs × ((b.kind ≡ k) × (names_ref r b ≡ true)))
of-groups r k [] a = absurd a
of-groups r k (c ∷ gs) a = by (one-either (calls_of c) (flat_map calls_of gs) (call_for r k) a) (of-groups r k gs)
  where
    by : IsOneOf (call_for r k) (calls_of c) ⊎ IsOneOf (call_for r k) (flat_map calls_of gs) → (IsOneOf (call_for r k) (flat_map calls_of gs) → (b : Group) × (IsOneOf b gs × ((b.kind ≡ k) × (names_ref r b ≡ true))))
        → (b : Group) × (IsOneOf b (c ∷ gs) × ((b.kind ≡ k) × (names_ref r b ≡ true)))
    by (inl x) rest = (c, (inl refl, has-group r c.peer k c.kind c.ids x))
    by (inr x) rest = let y : (b : Group) × (IsOneOf b gs × ((b.kind ≡ k) × (names_ref r b ≡ true))) = rest x in (y.0, (inr y.1.0, y.1.1))

is-of-own : (r : ForeignId) (k : Due) → is_of r.space k (call_for r k) ≡ true
is-of-own r k = pick (bytes_eq r.space r.space) ((bytes_eq-Decides r.space r.space).1 refl) (kind-self k)
  where
    pick : (b : Bool) → b ≡ true → {c : Bool} → c ≡ true → b && c ≡ true
    pick true t f = f
    pick false t f = absurd (true≢false (sym t))

-- the calls of a row are those of its groups
row-groups : (r : ForeignId) (k : Due) (calls : List DueCall) → IsOneOf (call_for r k) calls → IsOneOf (call_for r k) (flat_map calls_of (grouped (in_order calls)))
row-groups r k calls a = (filter-one (is_of r.space k) _ (call_for r k) (subst (IsOneOf (call_for r k)) (sym (groups-keep r.space k calls)) (one-filter (is_of r.space k) calls (call_for r k) (is-of-own r k) a))).0

groups-row : (r : ForeignId) (k : Due) (calls : List DueCall) → IsOneOf (call_for r k) (flat_map calls_of (grouped (in_order calls))) → IsOneOf (call_for r k) calls
groups-row r k calls a = (filter-one (is_of r.space k) calls (call_for r k) (subst (IsOneOf (call_for r k)) (groups-keep r.space k calls) (one-filter (is_of r.space k) _ (call_for r k) (is-of-own r k) a))).0

-- the due calls of the references that were held
abbrev dues : List Told → ForeignId → Option Due
dues h r = lease.due (lease_of (own r h))

due-there : (f : ForeignId → Option Due) (r : ForeignId) (k : Due) (xs : List ForeignId) → is_among r xs ≡ true → f r ≡ Some k → IsOneOf (call_for r k) (filter_map (λ x. due_call x (f x)) xs)
due-there f r k [] e d = absurd (true≢false (sym e))
due-there f r k (x ∷ xs) e d = pick (is_same r x) refl e (due-there f r k xs)
  where
    skip : (o : Option Due) → IsOneOf (call_for r k) (filter_map (λ y. due_call y (f y)) xs) → IsOneOf (call_for r k) (cons_option (due_call x o) (filter_map (λ y. due_call y (f y)) xs))
    skip None a = a
    skip (Some j) a = inr a

    first : r ≡ x → (o : Option Due) → o ≡ Some k → IsOneOf (call_for r k) (cons_option (due_call x o) (filter_map (λ y. due_call y (f y)) xs))
    first same None t = absurd (Rattle.sp_rules.proofs.AllLemmas.some-none k (sym t))
    first same (Some j) t = inl (ap {A = ForeignId} {B = DueCall} (λ y. record { reference = y; kind = k }) same ∙ ap {A = Due} {B = DueCall} (λ y. record { reference = x; kind = y }) (sym (some-same t)))

    pick : (b : Bool) → is_same r x ≡ b → b || is_among r xs ≡ true → (is_among r xs ≡ true → f r ≡ Some k → IsOneOf (call_for r k) (filter_map (λ y. due_call y (f y)) xs))
        → IsOneOf (call_for r k) (cons_option (due_call x (f x)) (filter_map (λ y. due_call y (f y)) xs))
    pick true same t rest = first (one-foreign r x same) (f x) (sym (ap f (one-foreign r x same)) ∙ d)
    pick false same t rest = skip (f x) (rest t d)

there-due : (f : ForeignId → Option Due) (r : ForeignId) (k : Due) (xs : List ForeignId) → IsOneOf (call_for r k) (filter_map (λ x. due_call x (f x)) xs) → f r ≡ Some k
there-due f r k [] a = absurd a
there-due f r k (x ∷ xs) a = pick (f x) refl a (there-due f r k xs)
  where
    pick : (o : Option Due) → f x ≡ o → IsOneOf (call_for r k) (cons_option (due_call x o) (filter_map (λ y. due_call y (f y)) xs)) → (IsOneOf (call_for r k) (filter_map (λ y. due_call y (f y)) xs) → f r ≡ Some k) → f r ≡ Some k
    pick None e b rest = rest b
    pick (Some j) e (inl b) rest = ap f (ap {A = DueCall} {B = ForeignId} (λ c. c.reference) b) ∙ (e ∙ ap {A = Due} {B = Option Due} (λ y. Some y) (sym (ap {A = DueCall} {B = Due} (λ c. c.kind) b)))
    pick (Some j) e (inr b) rest = rest b

-- a group of what is due that names a reference is of the kind that is due
pub group-due : (r : ForeignId) (h : List Told) (b : Group) → IsOneOf b (Requests.due_groups h) → names_ref r b ≡ true → dues h r ≡ Some b.kind
unfolding Requests.due_groups
group-due r h b a e = there-due (dues h) r b.kind (held h) (groups-row r b.kind (due_of h) (in-groups r b (grouped (in_order (due_of h))) a e))

-- and there is one for each call that is due
pub due-group : (r : ForeignId) (h : List Told) (k : Due) → is_among r (held h) ≡ true → dues h r ≡ Some k → (b : Group) × (IsOneOf b (Requests.due_groups h) × ((b.kind ≡ k) × (names_ref r b ≡ true)))
unfolding Requests.due_groups
due-group r h k e d = of-groups r k (grouped (in_order (due_of h))) (row-groups r k (due_of h) (due-there (dues h) r k (held h) e d))

-- ---- what is told at the end of an event

-- what goes out keeps a property of what is told
abbrev pub SendsKeep : (List Told → Type 0) → Type 0
SendsKeep T = (part : Group) (call : ℕ) (h : List Told) → T h → T (client.sent part call h)

told-if : (T : List Told → Type 0) (b : Bool) (t u : State) → T t.leases → T u.leases → T (if b then t else u).leases
told-if T true t u h k = h
told-if T false t u h k = k

part-told : (T : List Told → Type 0) → SendsKeep T → (turn : Turn) (conn call : ℕ) (s : State) (part : Group) → T s.leases → T (Requests.part_goes_out turn conn call s part).leases
unfolding Requests.part_goes_out send
part-told T keeps turn conn call s part h = told-if T (is_open s conn) _ _ (keeps part call s.leases h) (keeps part call s.leases h)

parts-told : (T : List Told → Type 0) → SendsKeep T → (turn : Turn) (conn call : ℕ) (parts : List Group) (s : State) → T s.leases → T (each (Requests.part_goes_out turn conn call) parts s).leases
unfolding each
parts-told T keeps turn conn call [] s h = h
parts-told T keeps turn conn call (part ∷ parts) s h = parts-told T keeps turn conn call parts _ (part-told T keeps turn conn call s part h)

out-told : (T : List Told → Type 0) → SendsKeep T → (turn : Turn) (conn : ℕ) (q : Request) (s : State) → T s.leases → T (Requests.go_out turn conn q s).leases
unfolding Requests.go_out send
out-told T keeps turn conn q s h = goes q.asked
  where
    goes : (asked : Asked) → T (Requests.goes_out turn conn q.peer asked s).leases
    goes (Calls number task lent kind m) = told-if T (is_open s conn) _ _ h h
    goes (LooksUp number task name) = told-if T (is_open s conn) _ _ h h
    goes (Tells call group) = parts-told T keeps turn conn call (groups.parts_of (Requests.most_on s conn) group) s h

ask-told : (T : List Told → Type 0) → SendsKeep T → (s : State) (q : Request) → T s.leases → T (Requests.ask s q).leases
unfolding Requests.ask Requests.dial
ask-told T keeps s q h = by (Requests.hello_came (connection_to s q.peer))
  where
    by : (o : Option ℕ) → T (with_some o (Requests.dial q.peer (Requests.add_request q s)) (λ conn. Requests.go_out (Requests.turn_asked q.asked) conn q s)).leases
    by None = told-if T (is_some (connection_to s q.peer) || state.is_dialling s q.peer) _ _ h h
    by (Some conn) = out-told T keeps (Requests.turn_asked q.asked) conn q s h

asks-told : (T : List Told → Type 0) → SendsKeep T → (qs : List Request) (s : State) → T s.leases → T (each Requests.ask qs s).leases
unfolding each
asks-told T keeps [] s h = h
asks-told T keeps (q ∷ qs) s h = asks-told T keeps qs _ (ask-told T keeps s q h)

-- a group of calls is made: it keeps a property if making it does
pub make-told : (T : List Told → Type 0) → SendsKeep T → (s : State) (b : Group) → ((call : ℕ) → T (client.made b call s.leases)) → T (Requests.make_group s b).leases
unfolding Requests.make_group
make-told T keeps s b made = ask-told T keeps (record s { groups_made = s.groups_made + 1; leases = client.made b (s.groups_made + 1) s.leases }) _ (made (s.groups_made + 1))

makes-told : (T : List Told → Type 0) (P : Group → Type 0) → SendsKeep T → ((b : Group) (call : ℕ) (h : List Told) → P b → T h → T (client.made b call h)) → (gs : List Group) (s : State) → ((b : Group) → IsOneOf b gs → P b) → T s.leases → T (each Requests.make_group gs s).leases
unfolding each
makes-told T P keeps made [] s all h = h
makes-told T P keeps made (b ∷ gs) s all h = makes-told T P keeps made gs _ (λ c a. all c (inr a)) (make-told T keeps s b (λ call. made b call s.leases (all b (inl refl)) h))

-- the end of an event keeps what each group of due calls keeps
pub settle-told : (T : List Told → Type 0) (P : Group → Type 0) → SendsKeep T → ((b : Group) (call : ℕ) (h : List Told) → P b → T h → T (client.made b call h)) → (s : State) → ((b : Group) → IsOneOf b (Requests.due_groups s.leases) → P b) → T s.leases → T (Requests.settle s).leases
unfolding Requests.settle Requests.make_due Requests.ask_fresh
settle-told T P keeps made s all h = asks-told T keeps (each Requests.make_group (Requests.due_groups s.leases) s).fresh (record (each Requests.make_group (Requests.due_groups s.leases) s) { fresh = [] })
    (makes-told T P keeps made (Requests.due_groups s.leases) s all h)

-- if one of the groups gives a property that the others keep, it is there at the end
gives-told : (T : List Told → Type 0) (P : Group → Type 0) (I : List Told → Type 0) → SendsKeep T → SendsKeep I → ((b : Group) (call : ℕ) (h : List Told) → P b → T h → T (client.made b call h)) → ((b : Group) (call : ℕ) (h : List Told) → I h → I (client.made b call h))
    → (c : Group) → ((call : ℕ) (h : List Told) → I h → T (client.made c call h)) → (gs : List Group) (s : State) → ((b : Group) → IsOneOf b gs → P b) → IsOneOf c gs → I s.leases → T (each Requests.make_group gs s).leases
unfolding each
gives-told T P I keeps keepsI made madeI c gives [] s all a i = absurd a
gives-told T P I keeps keepsI made madeI c gives (b ∷ gs) s all (inl e) i = makes-told T P keeps made gs _ (λ x a. all x (inr a)) (make-told T keeps s b (λ call. subst (λ x. T (client.made x call s.leases)) e (gives call s.leases i)))
gives-told T P I keeps keepsI made madeI c gives (b ∷ gs) s all (inr a) i = gives-told T P I keeps keepsI made madeI c gives gs _ (λ x y. all x (inr y)) a (make-told I keepsI s b (λ call. madeI b call s.leases i))

pub settle-gives : (T : List Told → Type 0) (P : Group → Type 0) (I : List Told → Type 0) → SendsKeep T → SendsKeep I → ((b : Group) (call : ℕ) (h : List Told) → P b → T h → T (client.made b call h)) → ((b : Group) (call : ℕ) (h : List Told) → I h → I (client.made b call h))
    → (c : Group) → ((call : ℕ) (h : List Told) → I h → T (client.made c call h)) → (s : State) → ((b : Group) → IsOneOf b (Requests.due_groups s.leases) → P b) → IsOneOf c (Requests.due_groups s.leases) → I s.leases → T (Requests.settle s).leases
unfolding Requests.settle Requests.make_due Requests.ask_fresh
settle-gives T P I keeps keepsI made madeI c gives s all a i = asks-told T keeps (each Requests.make_group (Requests.due_groups s.leases) s).fresh (record (each Requests.make_group (Requests.due_groups s.leases) s) { fresh = [] })
    (gives-told T P I keeps keepsI made madeI c gives (Requests.due_groups s.leases) s all a i)
