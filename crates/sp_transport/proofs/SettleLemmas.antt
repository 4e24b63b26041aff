-- The dirty and clean calls that an event makes: in which order, and what they leave.
use Rattle.std.proofs.Common.{◌≡◌, ℕ, ◌+◌, ◌≤◌, Bool, true, false, cond, ◌&&◌, List, [], ◌∷◌, ◌++◌, Option, None, Some, inl, inr, ⊎_elim, refl, sym, ap, subst, ◌∙◌, arith, append-nil, append_assoc}
use Rattle.std.specs.Prelude.{filter}
use Rattle.std.specs.List.{flat_map}
use Rattle.std.proofs.lemmas.Bool.{false≢true}
use Rattle.uuid.specs.declared.Uuid.{Uuid}
use Rattle.net_message.specs.declared.message.Message.{Message}
use Rattle.dgc_client.specs.declared.groups.DueCall.{DueCall}
use Rattle.dgc_client.specs.declared.groups.Group.{Group}
use Rattle.dgc_client.specs.declared.lease.Due.{Due}
use Rattle.dgc_client.specs.declared.lease.Due.TheVariants as due
use Rattle.dgc_client.specs.Groups as groups
use Rattle.dgc_client.specs.Table as client
use Rattle.sp_rules.proofs.AllLemmas.{all-append, all-weaken}
use Rattle.sp_rules.specs.Events as event
use Rattle.sp_rules.specs.Events.{Note, Says, Sends, Turn, Dial, turn_rank}
use Rattle.sp_rules.specs.Laws.{AllOf}
use Rattle.sp_rules.specs.Lists.{each, with_some}
use Rattle.sp_rules.specs.Requests as requests
use Rattle.sp_rules.specs.Requests.{hello_came, turn_of}
use Rattle.sp_rules.specs.State.{State, Request, Asked, Calls, LooksUp, Tells, Waits, connection_to}
use Rattle.sp_transport.specs.Asking.{make_calls, take_fresh}
use Rattle.sp_transport.specs.Said.{CallsMayGo, GroupsMayGo, IsNotAfter, IsNotAfterButAcks, MayGo}
use Rattle.sp_transport.specs.Settling.{MayMakeDue, MaySettle}
use Rattle.sp_transport.specs.Transports.{IsFresh, IsTransport, call_number}
use Rattle.sp_transport.specs.declared.transport.Transport.{Transport}
use Rattle.sp_transport.proofs.GoesLemmas.{IsStep, each-cons, each-more, each-none, go-step, steps, wait-step}

-- ---- clean calls come first

-- After a dirty call no clean call comes.
abbrev AreCallsFirst : List DueCall → Type 0
AreCallsFirst [] = Unit {0}
AreCallsFirst (call ∷ calls) = (groups.is_clean call ≡ false → AllOf (λ (c : DueCall). groups.is_clean c ≡ false) calls) × AreCallsFirst calls

-- After a group of dirty calls none of clean calls comes.
abbrev AreGroupsFirst : List Group → Type 0
AreGroupsFirst [] = Unit {0}
AreGroupsFirst (group ∷ all) = (groups.is_clean_kind group.kind ≡ false → AllOf (λ (g : Group). groups.is_clean_kind g.kind ≡ false) all) × AreGroupsFirst all

dirty-with : (call : DueCall) (all : List Group) → groups.is_clean call ≡ false → AllOf (λ (g : Group). groups.is_clean_kind g.kind ≡ false) all → AllOf (λ (g : Group). groups.is_clean_kind g.kind ≡ false) (groups.with_call call all)
dirty-with call [] dirty a = (dirty, tt)
dirty-with call (group ∷ all) dirty a = pick (groups.is_of group.peer group.kind call)
  where
    pick : (b : Bool) → AllOf (λ (g : Group). groups.is_clean_kind g.kind ≡ false) (cond b (record group { ids = call.reference.id ∷ group.ids } ∷ all) (groups.group_of call ∷ group ∷ all))
    pick true = (a.0, a.1)
    pick false = (dirty, a)

dirty-groups : (calls : List DueCall) → AllOf (λ (c : DueCall). groups.is_clean c ≡ false) calls → AllOf (λ (g : Group). groups.is_clean_kind g.kind ≡ false) (groups.grouped calls)
dirty-groups [] a = tt
dirty-groups (call ∷ calls) a = dirty-with call (groups.grouped calls) a.0 (dirty-groups calls a.1)

first-with : (call : DueCall) (all : List Group) → (groups.is_clean call ≡ false → AllOf (λ (g : Group). groups.is_clean_kind g.kind ≡ false) all) → AreGroupsFirst all → AreGroupsFirst (groups.with_call call all)
first-with call [] dirty f = (λ _. tt, tt)
first-with call (group ∷ all) dirty f = pick (groups.is_of group.peer group.kind call)
  where
    pick : (b : Bool) → AreGroupsFirst (cond b (record group { ids = call.reference.id ∷ group.ids } ∷ all) (groups.group_of call ∷ group ∷ all))
    pick true = (f.0, f.1)
    pick false = (dirty, f)

first-groups : (calls : List DueCall) → AreCallsFirst calls → AreGroupsFirst (groups.grouped calls)
first-groups [] f = tt
first-groups (call ∷ calls) f = first-with call (groups.grouped calls) (λ dirty. dirty-groups calls (f.0 dirty)) (first-groups calls f.1)

first-append : (xs ys : List DueCall) → AllOf (λ (c : DueCall). groups.is_clean c ≡ true) xs → AreCallsFirst ys → AreCallsFirst (xs ++ ys)
first-append [] ys a f = f
first-append (x ∷ xs) ys a f = (λ dirty. absurd (false≢true (sym dirty ∙ a.0)), first-append xs ys a.1 f)

first-dirty : (ys : List DueCall) → AllOf (λ (c : DueCall). groups.is_clean c ≡ false) ys → AreCallsFirst ys
first-dirty [] a = tt
first-dirty (y ∷ ys) a = (λ dirty. a.1, first-dirty ys a.1)

all-flat : {A B : Type 0} (P : B → Type 0) (f : A → List B) (xs : List A) → ((x : A) → AllOf P (f x)) → AllOf P (flat_map f xs)
all-flat P f [] each = tt
all-flat P f (x ∷ xs) each = all-append P (f x) (flat_map f xs) (each x) (all-flat P f xs each)

all-kept : {A : Type 0} (P : A → Type 0) (is : A → Bool) (xs : List A) → ((x : A) → is x ≡ true → P x) → AllOf P (filter is xs)
all-kept P is [] h = tt
all-kept P is (x ∷ xs) h = pick (is x) refl (all-kept P is xs h)
  where
    pick : (b : Bool) → is x ≡ b → AllOf P (filter is xs) → AllOf P (cond b (x ∷ filter is xs) (filter is xs))
    pick true e rest = (h x e, rest)
    pick false e rest = rest

and-right : (a b : Bool) → (a && b) ≡ true → b ≡ true
and-right true b e = e
and-right false b e = absurd (false≢true e)

clean-as : (kind : Due) (strong : Bool) → groups.is_same_kind kind (due.Clean strong) ≡ true → groups.is_clean_kind kind ≡ true
clean-as due.Dirty strong e = absurd (false≢true e)
clean-as (due.Clean other) strong e = refl

dirty-as : (kind : Due) → groups.is_same_kind kind due.Dirty ≡ true → groups.is_clean_kind kind ≡ false
dirty-as due.Dirty e = refl
dirty-as (due.Clean other) e = absurd (false≢true e)

first-in-order : (calls : List DueCall) → AreCallsFirst (groups.in_order calls)
first-in-order calls =
    first-append (flat_map (groups.cleans_of_peer calls) (groups.peers_of true calls)) (flat_map (λ peer. filter (groups.is_of peer due.Dirty) calls) (groups.peers_of false calls))
    (all-flat IsClean (groups.cleans_of_peer calls) (groups.peers_of true calls) (λ peer. all-append IsClean (filter (groups.is_of peer (due.Clean true)) calls) (filter (groups.is_of peer (due.Clean false)) calls) (kept peer true) (kept peer false)))
    (first-dirty _ (all-flat IsDirty (λ peer. filter (groups.is_of peer due.Dirty) calls) (groups.peers_of false calls)
    (λ peer. all-kept IsDirty (groups.is_of peer due.Dirty) calls (λ c is. dirty-as c.kind (and-right _ (groups.is_same_kind c.kind due.Dirty) is)))))
  where
    IsClean : DueCall → Type 0
    IsClean c = groups.is_clean c ≡ true

    IsDirty : DueCall → Type 0
    IsDirty c = groups.is_clean c ≡ false

    kept : (peer : Uuid) (strong : Bool) → AllOf IsClean (filter (groups.is_of peer (due.Clean strong)) calls)
    kept peer strong = all-kept IsClean (groups.is_of peer (due.Clean strong)) calls (λ c is. clean-as c.kind strong (and-right _ (groups.is_same_kind c.kind (due.Clean strong)) is))

due-first : (h : List client.Told) → AreGroupsFirst (requests.due_groups h)
unfolding requests.due_groups
due-first h = first-groups (groups.in_order (client.due_of h)) (first-in-order (client.due_of h))

-- ---- where a request goes

pub request-goes : (s : State) (r : Request) (conn : ℕ) → hello_came (connection_to s r.peer) ≡ Some conn → requests.ask s r ≡ requests.go_out (requests.turn_asked r.asked) conn r s
unfolding requests.ask
request-goes s r conn came = ap (λ (o : Option ℕ). with_some o (requests.dial r.peer (requests.add_request r s)) (λ c. requests.go_out (requests.turn_asked r.asked) c r s)) came

pub request-waits : (s : State) (r : Request) → hello_came (connection_to s r.peer) ≡ None → requests.ask s r ≡ requests.dial r.peer (requests.add_request r s)
unfolding requests.ask
request-waits s r none = ap (λ (o : Option ℕ). with_some o (requests.dial r.peer (requests.add_request r s)) (λ c. requests.go_out (requests.turn_asked r.asked) c r s)) none

ask-step : (s : State) (r : Request) → IsStep (requests.turn_asked r.asked) s (requests.ask s r)
unfolding requests.ask
ask-step s r = by (hello_came (connection_to s r.peer))
  where
    by : (o : Option ℕ) → IsStep (requests.turn_asked r.asked) s (with_some o (requests.dial r.peer (requests.add_request r s)) (λ conn. requests.go_out (requests.turn_asked r.asked) conn r s))
    by None = wait-step (requests.turn_asked r.asked) r s
    by (Some conn) = go-step (requests.turn_asked r.asked) conn s r

-- ---- groups

-- the request of a group, under the number under which its calls were made
abbrev pub request_of : Group → ℕ → Request
request_of group call = record { peer = group.peer; asked = Tells call group; stage = Waits }

pub group-asked : (s : State) (group : Group) → requests.make_group s group ≡ requests.ask (make_calls group s) (request_of group (s.groups_made + 1))
unfolding requests.make_group
group-asked s group = refl

group-step : (s : State) (group : Group) → IsStep (turn_of group.kind) s (requests.make_group s group)
unfolding requests.make_group
group-step s group =
    let before : IsStep (turn_of group.kind) s (make_calls group s) = record { connections = refl; fresh = refl; calls = refl; notes = λ P sends dials all. all } in
    steps before (ask-step (make_calls group s) (request_of group (s.groups_made + 1)))

-- what is noted, once these groups were made
groups-notes : (P : Note → Type 0) (all : List Group) (s : State) → AllOf (λ (g : Group). (conn : ℕ) (m : Message) → P (Sends (turn_of g.kind) conn m)) all → ((peer : Uuid) → P (Says (Dial peer))) → AllOf P s.notes → AllOf P (each requests.make_group all s).notes
groups-notes P [] s sends dials a = subst (λ (t : State). AllOf P t.notes) (sym (each-none requests.make_group s)) a
groups-notes P (group ∷ all) s sends dials a =
    subst (λ (t : State). AllOf P t.notes) (sym (each-cons requests.make_group group all s))
    (groups-notes P all (requests.make_group s group) sends.1 dials ((group-step s group).notes P sends.0 dials a))

groups-fresh : (all : List Group) (s : State) → (each requests.make_group all s).fresh ≡ s.fresh
groups-fresh [] s = ap (λ (t : State). t.fresh) (each-none requests.make_group s)
groups-fresh (group ∷ all) s = ap (λ (t : State). t.fresh) (each-cons requests.make_group group all s) ∙ groups-fresh all (requests.make_group s group) ∙ (group-step s group).fresh

-- ranks of turns
not-before : (turn later : Turn) → turn_rank turn ≤ turn_rank later → (note : Note) → IsNotAfterButAcks turn note → IsNotAfterButAcks later note
not-before turn later h (Says output) is = tt
not-before turn later h (Sends t conn m) is = ⊎_elim (λ below. inl (omega (arith, below, h))) (λ acks. inr acks) is

cleans-rank : (kind : Due) → turn_rank event.Cleans ≤ turn_rank (turn_of kind)
cleans-rank due.Dirty = omega arith
cleans-rank (due.Clean strong) = omega arith

kinds-rank : (kind later : Due) → (groups.is_clean_kind kind ≡ false → groups.is_clean_kind later ≡ false) → turn_rank (turn_of kind) ≤ turn_rank (turn_of later)
kinds-rank due.Dirty due.Dirty h = omega arith
kinds-rank due.Dirty (due.Clean strong) h = absurd (false≢true (sym (h refl)))
kinds-rank (due.Clean strong) due.Dirty h = omega arith
kinds-rank (due.Clean strong) (due.Clean other) h = omega arith

all-here : {A : Type 0} (P : A → Type 0) (xs : List A) (x : A) (ys : List A) → AllOf P (xs ++ x ∷ ys) → P x
all-here P [] x ys a = a.0
all-here P (y ∷ xs) x ys a = all-here P xs x ys a.1

-- the groups before one stand before it
before-group : (made : List Group) (group : Group) (left : List Group) → AreGroupsFirst (made ++ group ∷ left) → AllOf (λ (g : Group). turn_rank (turn_of g.kind) ≤ turn_rank (turn_of group.kind)) made
before-group [] group left f = tt
before-group (g ∷ made) group left f =
    (kinds-rank g.kind group.kind (λ dirty. all-here (λ (x : Group). groups.is_clean_kind x.kind ≡ false) made group left (f.0 dirty)), before-group made group left f.1)

-- The first groups of those that are due were made.
pub record IsMaking (s : State) (made left : List Group) (t : Transport) : Type 0 where
  pub stands : IsTransport (each requests.make_group made s) t
  pub whole : made ++ left ≡ requests.due_groups s.leases

pub making-start : (s : State) (left : List Group) (t : Transport) → left ≡ requests.due_groups s.leases → IsTransport s t → IsMaking s [] left t
making-start s left t whole a = record { stands = subst (λ (u : State). IsTransport u t) (sym (each-none requests.make_group s)) a; whole = whole }

pub making-may : (s : State) (made : List Group) (group : Group) (left : List Group) → MayMakeDue s → made ++ group ∷ left ≡ requests.due_groups s.leases → GroupsMayGo (turn_of group.kind) (each requests.make_group made s)
making-may s made group left may whole =
    groups-notes (IsNotAfterButAcks (turn_of group.kind)) made s
    (all-weaken (λ (g : Group). turn_rank (turn_of g.kind) ≤ turn_rank (turn_of group.kind)) (λ (g : Group). (conn : ℕ) (m : Message) → IsNotAfterButAcks (turn_of group.kind) (Sends (turn_of g.kind) conn m)) made (λ g below conn m. inl below)
    (before-group made group left (subst AreGroupsFirst (sym whole) (due-first s.leases))))
    (λ peer. tt)
    (all-weaken (IsNotAfterButAcks event.Cleans) (IsNotAfterButAcks (turn_of group.kind)) s.notes (not-before event.Cleans (turn_of group.kind) (cleans-rank group.kind)) may)

pub making-step : (s : State) (made : List Group) (group : Group) (left rest : List Group) (t u : Transport) → left ≡ group ∷ rest → MayMakeDue s → IsMaking s made left t
    → ((v : State) → IsTransport v t → GroupsMayGo (turn_of group.kind) v → IsTransport (requests.make_group v group) u) → IsMaking s (made ++ group ∷ []) rest u
making-step s made group left rest t u next may making makes =
    let whole : made ++ group ∷ rest ≡ requests.due_groups s.leases = ap (λ (l : List Group). made ++ l) (sym next) ∙ making.whole in
    record {
      stands = subst (λ (v : State). IsTransport v u) (sym (each-more requests.make_group made group s)) (makes (each requests.make_group made s) making.stands (making-may s made group rest may whole));
      whole = append_assoc made (group ∷ []) rest ∙ whole;
    }

pub making-all : (s : State) (made left : List Group) (t : Transport) → left ≡ [] → IsMaking s made left t → IsTransport (requests.make_due s) t
unfolding requests.make_due
making-all s made left t none making =
    let all : made ≡ requests.due_groups s.leases = sym (append-nil made) ∙ ap (λ (l : List Group). made ++ l) (sym none) ∙ making.whole in
    subst (λ (l : List Group). IsTransport (each requests.make_group l s) t) all making.stands

-- ---- the call of the event

pub settle-one : (s : State) (r : Request) → (requests.make_due s).fresh ≡ r ∷ [] → requests.settle s ≡ requests.ask (record (requests.make_due s) { fresh = [] }) r
unfolding requests.settle requests.ask_fresh
settle-one s r is = ap (λ (rs : List Request). each requests.ask rs (record (requests.make_due s) { fresh = [] })) is ∙ each-cons requests.ask r [] (record (requests.make_due s) { fresh = [] }) ∙ each-none requests.ask (requests.ask (record (requests.make_due s) { fresh = [] }) r)

pub settle-none : (s : State) → (requests.make_due s).fresh ≡ [] → requests.settle s ≡ record (requests.make_due s) { fresh = [] }
unfolding requests.settle requests.ask_fresh
settle-none s is = ap (λ (rs : List Request). each requests.ask rs (record (requests.make_due s) { fresh = [] })) is ∙ each-none requests.ask (record (requests.make_due s) { fresh = [] })

due-fresh : (s : State) → (requests.make_due s).fresh ≡ s.fresh
unfolding requests.make_due
due-fresh s = groups-fresh (requests.due_groups s.leases) s

due-notes : (s : State) → AllOf (IsNotAfter event.Calls) s.notes → AllOf (IsNotAfter event.Calls) (requests.make_due s).notes
unfolding requests.make_due
due-notes s a = groups-notes (IsNotAfter event.Calls) (requests.due_groups s.leases) s (all-of (λ (g : Group). (conn : ℕ) (m : Message) → turn_rank (turn_of g.kind) ≤ turn_rank event.Calls) (λ g conn m. dues-rank g.kind) (requests.due_groups s.leases)) (λ peer. tt) a
  where
    dues-rank : (kind : Due) → turn_rank (turn_of kind) ≤ turn_rank event.Calls
    dues-rank due.Dirty = omega arith
    dues-rank (due.Clean strong) = omega arith

    all-of : (P : Group → Type 0) → ((g : Group) → P g) → (all : List Group) → AllOf P all
    all-of P h [] = tt
    all-of P h (g ∷ all) = (h g, all-of P h all)

-- what the event asks as its own is a call or lookup, and stands after the calls that are due
pub fresh-may-go : (s : State) (t : Transport) (r : Request) → (requests.make_due s).fresh ≡ r ∷ [] → MaySettle s → IsTransport (requests.make_due s) t → MayGo (requests.turn_asked r.asked) r.asked (take_fresh (requests.make_due s))
fresh-may-go s t r is may a = by r.asked (subst (λ (rs : List Request). AllOf (IsFresh (requests.make_due s).calls_made) rs) is a.lines.fresh_is).0.0
  where
    notes : CallsMayGo event.Calls (requests.make_due s)
    notes = due-notes s (subst (λ (rs : List Request). AllOf (λ (q : Request). CallsMayGo event.Calls s) rs) (sym (due-fresh s) ∙ is) may.fresh).0

    by : (asked : Asked) → call_number asked ≡ (requests.make_due s).calls_made ∷ [] → MayGo (requests.turn_asked asked) asked (take_fresh (requests.make_due s))
    by (Calls number task lent kind m) e = notes
    by (LooksUp number task name) e = notes
    by (Tells call group) e = cc
