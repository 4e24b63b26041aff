-- Which requests an event leaves: those that were there, and those that it makes or that go out with it, under new numbers.
use mathlib.Core.Path.{sym, ap, subst, ◌∙◌}
use Rattle.std.proofs.Common.{arith, inl, inr}
use Rattle.std.proofs.lemmas.Bool.{true≢false}
use Rattle.std.specs.Prelude.{◌≡◌, refl, ℕ, ◌+◌, ◌≤◌, ◌&&◌, ◌||◌, not, is_some, Bool, true, false, List, [], ◌∷◌, ◌++◌, Option, None, Some, filter, if◌then◌else◌}
use Rattle.sp_rules.proofs.LineLemmas.{most-some}
use Rattle.dgc_client.specs.Groups as groups
use Rattle.dgc_client.specs.History as lease_events
use Rattle.dgc_client.specs.Table as client
use Rattle.dgc_client.specs.Table.{numbers_of}
use Rattle.dgc_client.specs.declared.groups.Group.{Group}
use Rattle.dgc_client.specs.declared.lease.Due.{Due}
use Rattle.dgc_client.specs.declared.lease.Due.TheVariants as due
use Rattle.uuid.specs.declared.Uuid.{Uuid}
use Rattle.sp_rules.specs.Classes.{Setting}
use Rattle.sp_rules.specs.Endings.{is_group}
use Rattle.sp_rules.specs.Events.{Event, Output, Turn, Started, Ended, Withdrawn, Denied, Send, Dial, Close, Ready, in_order}
use Rattle.sp_rules.specs.Frames
use Rattle.sp_rules.specs.Laws.{AllOf}
use Rattle.sp_rules.specs.Lists.{each, with_some}
use Rattle.sp_rules.specs.ParkedFrames.{is_call_on, has_number, is_out_on}
use Rattle.sp_rules.specs.Requests
use Rattle.sp_rules.specs.Requests.{waits_for, is_waiting}
use Rattle.sp_rules.specs.Space
use Rattle.sp_rules.specs.State as state
use Rattle.sp_rules.specs.State.{State, Request, Asked, Calls, LooksUp, Tells, Stage, Waits, Out, Answered, connection_to, is_open, opening, send}
use Rattle.sp_rules.proofs.AllLemmas.{all-more, all-filter, all-map}
use Rattle.sp_order_laws.proofs.WalkRules.{WalkParts, Moves, Walks, Begins, each_walk, fail_parked_walk, numbers-told, happen_walk}
use Rattle.sp_order_laws.specs.Ends.{IsOneOf}
use Rattle.sp_held_laws.proofs.FreeLemmas.{each-of, one-of, filter-one}

-- ---- what is kept

-- Numbers do not fall, each request is of a kind, and what an event makes is a call or a lookup.
pub record RowsIn (n : ℕ) (R : Request → Type 0) (numbers : ℕ) (requests made : List Request) : Type 0 where
  pub low : n ≤ numbers
  pub rows : AllOf R requests
  pub fresh : AllOf (λ (q : Request). is_group q.asked ≡ false) made

abbrev pub Rows : ℕ → (Request → Type 0) → State → Type 0
Rows n R s = RowsIn n R (numbers_of s.leases) s.requests s.fresh

-- The kind of a request that no answer, and no call or lookup, leaves.
pub record RowKind (R : Request → Type 0) : Type 0 where
  pub free : (q : Request) → is_group q.asked ≡ false → R q

-- a group may go out: each of its parts, under a new number
abbrev pub MayGoOut : ℕ → (Request → Type 0) → Group → Type 0
MayGoOut n R group = (most : ℕ) → 1 ≤ most → (part : Group) → IsOneOf part (groups.parts_of most group) → (call conn sequence : ℕ) → n + 1 ≤ sequence → R (record { peer = part.peer; asked = Tells call part; stage = Out conn sequence })

-- and it may be made
pub record MayBeMade (n : ℕ) (R : Request → Type 0) (group : Group) : Type 0 where
  pub waits : (call : ℕ) → R (record { peer = group.peer; asked = Tells call group; stage = Waits })
  pub goes : MayGoOut n R group

-- what waits may go out
abbrev pub WaitsMayGo : ℕ → (Request → Type 0) → Type 0
WaitsMayGo n R = (q : Request) → R q → is_waiting q.stage ≡ true → (call : ℕ) (group : Group) → q.asked ≡ Tells call group → MayGoOut n R group

-- ---- moves

answered-row : (R : Request → Type 0) → RowKind R → (conn number : ℕ) (q : Request) → R q → R (Frames.answered_on conn number q)
answered-row R K conn number q k = by (is_call_on conn number q) refl
  where
    no-group : (asked : Asked) → has_number number asked ≡ true → is_group asked ≡ false
    no-group (Calls n task lent kind m) e = refl
    no-group (LooksUp n task name) e = refl
    no-group (Tells call group) e = absurd (true≢false (sym e))

    right : (a b : Bool) → a && b ≡ true → b ≡ true
    right true b e = e
    right false b e = absurd (true≢false (sym e))

    by : (b : Bool) → is_call_on conn number q ≡ b → R (if b then record q { stage = Answered conn } else q)
    by true e = K.free _ (no-group q.asked (right (is_out_on conn q.stage) (has_number number q.asked) e))
    by false e = k

rows_moves : (g : Setting) (n : ℕ) (R : Request → Type 0) → RowKind R → Moves g (λ l s. Rows n R s)
rows_moves g n R K = record {
  quiet = λ l s t e h. subst (λ (w : WalkParts). RowsIn n R w.numbers w.requests w.fresh) (sym e) h;
  says = λ l s output is h. h;
  pays = λ l s turn conn m is h. h;
  falls = λ l s o h. h;
  fewer = λ l s is h. record { low = h.low; rows = all-filter R (λ q. not (is q)) s.requests h.rows; fresh = h.fresh };
  answered = λ l s conn number h. record { low = h.low; rows = all-map R R (Frames.answered_on conn number) s.requests (λ q k. answered-row R K conn number q k) h.rows; fresh = h.fresh };
  begins = λ l s origin method arguments fuel h. h;
  ends = λ l s id t is h. h;
  works = λ l s id f same h. h;
  parks = λ l s p h. h;
  takes = λ l s p h. h;
  counts = λ l s conn number h. h;
  versions = λ l s conn version h. h;
  closes = λ l s conn h. h;
}

rows_walks : (g : Setting) (n : ℕ) (R : Request → Type 0) → RowKind R → Walks g (λ l s. Rows n R s)
rows_walks g n R K = record {
  moves = rows_moves g n R K;
  frees = λ l s p q is h. h;
  fails = λ l s id h. each_walk (rows_moves g n R K) {l = l} _ _ (λ t p k. fail_parked_walk (rows_moves g n R K) {l = l} p k) h;
}

-- ---- requests go out

rows-if : (n : ℕ) (R : Request → Type 0) (b : Bool) (t u : State) → Rows n R t → Rows n R u → Rows n R (if b then t else u)
rows-if n R true t u h k = h
rows-if n R false t u h k = k

numbers-sent : (part : Group) (call : ℕ) (h : List client.Told) → numbers_of (client.sent part call h) ≡ numbers_of h + 1
numbers-sent part call h = by part.kind
  where
    by : (kind : Due) → numbers_of (client.sent_as kind part call h) + 1 ≡ numbers_of h + 1
    by due.Dirty = ap (λ n. n + 1) (numbers-told (client.references_at part.peer part.ids) (lease_events.DirtySent call) h)
    by (due.Clean strong) = refl

part-rows : (n : ℕ) (R : Request → Type 0) (turn : Turn) (conn call : ℕ) (s : State) (part : Group) → ((sequence : ℕ) → n + 1 ≤ sequence → R (record { peer = part.peer; asked = Tells call part; stage = Out conn sequence }))
    → Rows n R s → Rows n R (Requests.part_goes_out turn conn call s part)
unfolding Requests.part_goes_out send
part-rows n R turn conn call s part goes h = rows-if n R (is_open s conn) _ _ out out
  where
    out : RowsIn n R (numbers_of (client.sent part call s.leases)) (s.requests ++ record { peer = part.peer; asked = Tells call part; stage = Out conn (numbers_of s.leases + 1) } ∷ []) s.fresh
    out = record {
      low = let a : numbers_of (client.sent part call s.leases) ≡ numbers_of s.leases + 1 = numbers-sent part call s.leases in let b : n ≤ numbers_of s.leases = h.low in omega arith;
      rows = all-more R s.requests _ h.rows (goes (numbers_of s.leases + 1) (let b : n ≤ numbers_of s.leases = h.low in omega arith));
      fresh = h.fresh;
    }

parts-rows : (n : ℕ) (R : Request → Type 0) (turn : Turn) (conn call : ℕ) (parts : List Group) (s : State) → ((part : Group) → IsOneOf part parts → (sequence : ℕ) → n + 1 ≤ sequence → R (record { peer = part.peer; asked = Tells call part; stage = Out conn sequence }))
    → Rows n R s → Rows n R (each (Requests.part_goes_out turn conn call) parts s)
unfolding each
parts-rows n R turn conn call [] s goes h = h
parts-rows n R turn conn call (part ∷ parts) s goes h = parts-rows n R turn conn call parts _ (λ p a. goes p (inr a)) (part-rows n R turn conn call s part (goes part (inl refl)) h)

out-rows : (n : ℕ) (R : Request → Type 0) → RowKind R → (turn : Turn) (conn : ℕ) (q : Request) (s : State) → ((call : ℕ) (group : Group) → q.asked ≡ Tells call group → MayGoOut n R group) → Rows n R s → Rows n R (Requests.go_out turn conn q s)
unfolding Requests.go_out send
out-rows n R K turn conn q s may h = by q.asked refl
  where
    more : (x : Request) → is_group x.asked ≡ false → RowsIn n R (numbers_of s.leases) (s.requests ++ x ∷ []) s.fresh
    more x e = record { low = h.low; rows = all-more R s.requests x h.rows (K.free x e); fresh = h.fresh }

    by : (asked : Asked) → q.asked ≡ asked → Rows n R (Requests.goes_out turn conn q.peer asked s)
    by (Calls number task lent kind m) e = rows-if n R (is_open s conn) _ _ (more _ refl) (more _ refl)
    by (LooksUp number task name) e = rows-if n R (is_open s conn) _ _ (more _ refl) (more _ refl)
    by (Tells call group) e = parts-rows n R turn conn call (groups.parts_of (Requests.most_on s conn) group) s (λ part a sequence le. may call group e (Requests.most_on s conn) (most-some s conn) part a call conn sequence le) h

outs-rows : (n : ℕ) (R : Request → Type 0) → RowKind R → (turn : Turn) (conn : ℕ) (qs : List Request) (s : State) → AllOf (λ (q : Request). (call : ℕ) (group : Group) → q.asked ≡ Tells call group → MayGoOut n R group) qs → Rows n R s → Rows n R (each (λ t r. Requests.go_out turn conn r t) qs s)
unfolding each
outs-rows n R K turn conn [] s a h = h
outs-rows n R K turn conn (q ∷ qs) s a h = outs-rows n R K turn conn qs _ a.1 (out-rows n R K turn conn q s a.0 h)

flush-rows : (n : ℕ) (R : Request → Type 0) → RowKind R → WaitsMayGo n R → (peer : Uuid) (conn : ℕ) (s : State) → Rows n R s → Rows n R (Requests.flush_waiting peer conn s)
unfolding Requests.flush_waiting
flush-rows n R K may peer conn s h = outs-rows n R K Rattle.sp_rules.specs.Events.Waited conn (filter (waits_for peer) s.requests) (Requests.without_waiting peer s)
    (each-of _ (filter (waits_for peer) s.requests) (λ q a. goes q (filter-one (waits_for peer) s.requests q a)))
    (record { low = h.low; rows = all-filter R (λ q. not (waits_for peer q)) s.requests h.rows; fresh = h.fresh })
  where
    right : (a b : Bool) → a && b ≡ true → b ≡ true
    right true b e = e
    right false b e = absurd (true≢false (sym e))

    goes : (q : Request) → IsOneOf q s.requests × (waits_for peer q ≡ true) → (call : ℕ) (group : Group) → q.asked ≡ Tells call group → MayGoOut n R group
    goes q there call group e = may q (one-of R s.requests q h.rows there.0) (right (Rattle.std.specs.Str.bytes_eq q.peer peer) (is_waiting q.stage) there.1) call group e

rows_begins : (g : Setting) (n : ℕ) (R : Request → Type 0) → RowKind R → WaitsMayGo n R → (s : State) (e : Event) → Begins g (λ l s. Rows n R s) s e
rows_begins g n R K may s e = record {
  opens = λ conn dialled is h. h;
  greets = λ c space is h. h;
  flushes = λ c space peer is shut h. flush-rows n R K may peer c.number (Frames.greeted space c.number s) h;
  asks = λ id k t target method arguments is h. record { low = h.low; rows = h.rows; fresh = (refl, tt) };
  looks = λ peer name is h. record { low = h.low; rows = h.rows; fresh = (refl, tt) };
}

-- before the end of an event
pub happen-rows : (g : Setting) (n : ℕ) (R : Request → Type 0) → RowKind R → WaitsMayGo n R → (s : State) (e : Event) → Rows n R s → Rows n R (Space.happen g e s)
happen-rows g n R K may s e h = happen_walk (rows_walks g n R K) e (rows_begins g n R K may s e) h

-- ---- the end of an event

ask-rows : (n : ℕ) (R : Request → Type 0) → RowKind R → (s : State) (q : Request) → R q → ((call : ℕ) (group : Group) → q.asked ≡ Tells call group → MayGoOut n R group) → Rows n R s → Rows n R (Requests.ask s q)
unfolding Requests.ask Requests.dial
ask-rows n R K s q r may h = by (Requests.hello_came (connection_to s q.peer))
  where
    waits : Rows n R (Requests.add_request q s)
    waits = record { low = h.low; rows = all-more R s.requests q h.rows r; fresh = h.fresh }

    by : (o : Option ℕ) → Rows n R (with_some o (Requests.dial q.peer (Requests.add_request q s)) (λ conn. Requests.go_out (Requests.turn_asked q.asked) conn q s))
    by None = rows-if n R (is_some (connection_to s q.peer) || state.is_dialling s q.peer) _ _ waits (record { low = waits.low; rows = waits.rows; fresh = waits.fresh })
    by (Some conn) = out-rows n R K (Requests.turn_asked q.asked) conn q s may h

numbers-made : (b : Group) (call : ℕ) (h : List client.Told) → numbers_of (client.made b call h) ≡ numbers_of h
numbers-made b call h = numbers-told (client.references_at b.peer b.ids) (client.making b.kind call) h

makes-rows : (n : ℕ) (R : Request → Type 0) → RowKind R → (gs : List Group) (s : State) → ((b : Group) → IsOneOf b gs → MayBeMade n R b) → Rows n R s → Rows n R (each Requests.make_group gs s)
unfolding each Requests.make_group
makes-rows n R K [] s may h = h
makes-rows n R K (b ∷ gs) s may h = makes-rows n R K gs _ (λ c a. may c (inr a)) (ask-rows n R K (record s { groups_made = s.groups_made + 1; leases = client.made b (s.groups_made + 1) s.leases }) (record { peer = b.peer; asked = Tells (s.groups_made + 1) b; stage = Waits })
    ((may b (inl refl)).waits (s.groups_made + 1)) (λ call group e. subst (MayGoOut n R) (ap group-of e) (may b (inl refl)).goes)
    (record { low = let a : numbers_of (client.made b (s.groups_made + 1) s.leases) ≡ numbers_of s.leases = numbers-made b (s.groups_made + 1) s.leases in let c : n ≤ numbers_of s.leases = h.low in omega arith; rows = h.rows; fresh = h.fresh }))
  where
    group-of : Asked → Group
    group-of (Tells call group) = group
    group-of _ = b

asks-rows : (n : ℕ) (R : Request → Type 0) → RowKind R → (qs : List Request) (s : State) → AllOf (λ (q : Request). is_group q.asked ≡ false) qs → Rows n R s → Rows n R (each Requests.ask qs s)
unfolding each
asks-rows n R K [] s a h = h
asks-rows n R K (q ∷ qs) s a h = asks-rows n R K qs _ a.1 (ask-rows n R K s q (K.free q a.0) (λ call group e. absurd (true≢false (sym (ap is_group e) ∙ a.0))) h)

pub settle-rows : (n : ℕ) (R : Request → Type 0) → RowKind R → (s : State) → ((b : Group) → IsOneOf b (Requests.due_groups s.leases) → MayBeMade n R b) → Rows n R s → Rows n R (Requests.settle s)
unfolding Requests.settle Requests.make_due Requests.ask_fresh
settle-rows n R K s may h = done (each Requests.make_group (Requests.due_groups s.leases) s) (makes-rows n R K (Requests.due_groups s.leases) s may h)
  where
    done : (t : State) → Rows n R t → Rows n R (each Requests.ask t.fresh (record t { fresh = [] }))
    done t k = asks-rows n R K t.fresh (record t { fresh = [] }) k.fresh (record { low = k.low; rows = k.rows; fresh = tt })

-- ---- a whole event

rows-sent : (n : ℕ) (R : Request → Type 0) (os : List Output) (s : State) → Rows n R s → Rows n R (each Space.record_sent os s)
unfolding each
rows-sent n R [] s h = h
rows-sent n R (o ∷ os) s h = rows-sent n R os (Space.record_sent s o) (one o)
  where
    one : (o : Output) → Rows n R (Space.record_sent s o)
    one (Started task) = h
    one (Ended task outcome) = h
    one (Withdrawn ids) = h
    one (Denied why) = h
    one (Send conn m) = record { low = h.low; rows = h.rows; fresh = h.fresh }
    one (Dial peer) = h
    one (Close conn) = h
    one (Ready task) = h

-- what an event makes at its end may be made
abbrev pub MakesWell : ℕ → (Request → Type 0) → Bool → State → Type 0
MakesWell n R true u = (b : Group) → IsOneOf b (Requests.due_groups u.leases) → MayBeMade n R b
MakesWell n R false u = Unit {0}

finish-rows : (n : ℕ) (R : Request → Type 0) → RowKind R → (answers : Bool) (u : State) → MakesWell n R answers u → Rows n R u → Rows n R (Space.finish_event answers u).0
finish-rows n R K true u may h = rows-sent n R (in_order (Requests.settle u).notes) (record (Requests.settle u) { notes = [] }) (clear (settle-rows n R K u may h))
  where
    clear : Rows n R (Requests.settle u) → Rows n R (record (Requests.settle u) { notes = [] })
    clear k = record { low = k.low; rows = k.rows; fresh = k.fresh }
finish-rows n R K false u may h = h

pub on-rows : (g : Setting) (n : ℕ) (R : Request → Type 0) → RowKind R → WaitsMayGo n R → (s : State) (e : Event) → MakesWell n R (Space.answers_outputs e) (Space.happen g e s) → Rows n R s → Rows n R (Space.on g e s).0
unfolding Space.on
on-rows g n R K waits s e may h = finish-rows n R K (Space.answers_outputs e) (Space.happen g e s) may (happen-rows g n R K waits s e h)

-- ---- what events make

abbrev AnyRow : Request → Type 0
AnyRow q = Unit {0}

any-made : (n : ℕ) (b : Group) → MayBeMade n AnyRow b
any-made n b = record { waits = λ call. tt; goes = λ most some part a call conn sequence le. tt }

any-well : (n : ℕ) (b : Bool) (u : State) → MakesWell n AnyRow b u
any-well n true u = λ b a. any-made n b
any-well n false u = tt

any-rows : (qs : List Request) → AllOf AnyRow qs
any-rows [] = tt
any-rows (q ∷ qs) = (tt, any-rows qs)

-- what an event has made is a call or a lookup
pub fresh-of : (g : Setting) (h : List Event) → AllOf (λ (q : Request). is_group q.asked ≡ false) (Space.state_of g h).fresh
unfolding Space.state_of opening
fresh-of g [] = tt
fresh-of g (e ∷ h) = (on-rows g 0 AnyRow (record { free = λ q f. tt }) (λ q k w call group f most some part a c conn sequence le. tt) (Space.state_of g h) e (any-well 0 (Space.answers_outputs e) (Space.happen g e (Space.state_of g h)))
    (record { low = omega arith; rows = any-rows (Space.state_of g h).requests; fresh = fresh-of g h })).fresh
