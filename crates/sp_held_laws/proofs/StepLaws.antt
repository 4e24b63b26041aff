-- What one event does to the leases and requests of a client.
use mathlib.Core.Path.{sym, ap, subst, ◌∙◌}
use Rattle.std.proofs.Common.{arith, inl, inr}
use Rattle.std.proofs.lemmas.Bool.{true≢false, eqb-true}
use Rattle.std.specs.Prelude.{◌≡◌, ◌⊎◌, ℕ, ◌+◌, ◌≤◌, ◌==◌, Bool, true, false, List, [], ◌∷◌, None, Some, find, cond}
use Rattle.dgc_client.specs.History as lease_events
use Rattle.dgc_client.specs.History.{Event as Told_event}
use Rattle.dgc_client.specs.Lease.{is_made}
use Rattle.dgc_client.specs.Table as client
use Rattle.dgc_client.specs.Table.{Told, own, numbers_of, references_at}
use Rattle.dgc_client.specs.declared.groups.Group.{Group}
use Rattle.space_ids.specs.declared.ids.ForeignId.{ForeignId}
use Rattle.net_message.specs.declared.message.Message.{Message}
use Rattle.net_message.specs.declared.message.Message.TheVariants as message
use Rattle.sp_rules.specs.Classes.{Setting}
use Rattle.sp_rules.specs.Endings.{is_group}
use Rattle.sp_rules.specs.Events.{Event}
use Rattle.sp_rules.specs.Frames
use Rattle.sp_rules.specs.Frames.{tells_on, tells_of, has_sequence}
use Rattle.sp_rules.specs.Holders.{lease_now}
use Rattle.sp_rules.specs.Laws.{AllOf}
use Rattle.sp_rules.specs.ParkedFrames
use Rattle.sp_rules.specs.ParkedFrames.{is_unanswered_on}
use Rattle.sp_rules.specs.Refusals.{refusal}
use Rattle.sp_rules.specs.Space
use Rattle.sp_rules.specs.State.{State, Request, Asked, Calls, LooksUp, Tells, Stage, Waits, Out, Answered, Connection}
use Rattle.sp_rules.proofs.AllLemmas.{found-is, or-right}
use Rattle.sp_rules.proofs.OwnLemmas.{and-right}
use Rattle.sp_laws.specs.MadeWhenDue.{CallsAreMadeWhenDue, next_of}
use Rattle.sp_laws.specs.OnTheWay.{CallsOnTheirWayAreRequests, overtakes, is_overtaken, is_on_its_way}
use Rattle.sp_order_laws.specs.Ends.{IsOneOf}
use Rattle.sp_held_laws.specs.Granted.{was_granted, is_granted}
use Rattle.sp_held_laws.specs.Steps.{BringsLease, OnlyLeasesGrant, WhatIsOutStaysAsked}
use Rattle.sp_held_laws.proofs.CleanLaws.{ended-back, told-out}
use Rattle.sp_held_laws.proofs.DueLemmas.{row-keeps}
use Rattle.sp_held_laws.proofs.FreeLemmas.{each-of, one-of, Numbered}
use Rattle.sp_held_laws.proofs.GrantLaws.{ends-stocks, numbered-of, ended-grown}
use Rattle.sp_held_laws.proofs.GrantLemmas.{own-or-not}
use Rattle.sp_held_laws.proofs.GrantRules.{AnyRef, any-happens, any-grown, any-may-go}
use Rattle.sp_held_laws.proofs.GrownRules.{Plain, Stocks}
use Rattle.sp_held_laws.proofs.GrownFrames.{ComesWell, parking, call_row, result_row, marking, telling, happen_grown}
use Rattle.sp_held_laws.proofs.NewGrants.{NewGrant, granted-newly, dirty-last, overtaken-next}
use Rattle.sp_held_laws.proofs.RequestRules.{RowKind, MayGoOut, MayBeMade, MakesWell, on-rows, fresh-of}

-- ---- grants

brings-lease : (s : State) (e : Event) (r : ForeignId) → NewGrant s e r → BringsLease s e r
brings-lease s e r n = record {
  conn = n.conn;
  number = n.sequence;
  period = n.period;
  request = n.request;
  call = n.call;
  group = n.group;
  came = n.same;
  there = found-request (tells_on true n.row.number n.sequence) s.requests n.request n.found;
  out = told-out true n.row.number n.sequence n.request is ∙ ap (λ c. Out c n.sequence) (eqb-true n.row.number n.conn (found-is (λ (c : Connection). c.number == n.conn) s.connections n.row n.there));
  asked = n.asked;
  dirty = subst (λ a. tells_of true a ≡ true) n.asked (and-right (has_sequence n.sequence n.request.stage) _ (and-right (is_unanswered_on n.row.number n.request.stage) _ is));
  names = n.names;
  made = n.made;
}
  where
    is : tells_on true n.row.number n.sequence n.request ≡ true
    is = found-is (tells_on true n.row.number n.sequence) s.requests n.request n.found

    found-request : (is : Request → Bool) (rs : List Request) (q : Request) → find is rs ≡ Some q → IsOneOf q rs
    found-request is [] q f = absurd (Rattle.sp_rules.proofs.AllLemmas.some-none q (sym f))
    found-request is (x ∷ rs) q f = pick (is x) f (found-request is rs q)
      where
        pick : (b : Bool) → cond b (Some x) (find is rs) ≡ Some q → (find is rs ≡ Some q → IsOneOf q rs) → IsOneOf q (x ∷ rs)
        pick true f rest = inl (sym (Rattle.sp_rules.proofs.OwnLemmas.some-same f))
        pick false f rest = inr (rest f)

pub only_leases_grant : OnlyLeasesGrant
unfolding Space.state_of
only_leases_grant g h e r t granted = by (granted-newly g r t.0.0 (Space.state_of g h) e t.0.1 (numbered-of g h t.1) (ended-back (Space.answers_outputs e) (Space.happen g e (Space.state_of g h)) r
    (subst (λ (c : Stocks). was_granted (own r c.leases) ≡ true) (ends-stocks g e (Space.state_of g h)) granted)))
  where
    by : (is_granted (Space.state_of g h) r ≡ true) ⊎ NewGrant (Space.state_of g h) e r → (is_granted (Space.state_of g h) r ≡ true) ⊎ BringsLease (Space.state_of g h) e r
    by (inl a) = inl a
    by (inr n) = inr (brings-lease (Space.state_of g h) e r n)

-- ---- requests that are out

-- a dirty or clean call that is out under an old number was out so
abbrev Old : ℕ → State → Request → Type 0
Old n s q = (call conn number : ℕ) (group : Group) → q.asked ≡ Tells call group → q.stage ≡ Out conn number → number ≤ n → IsOneOf q s.requests

old-kind : (n : ℕ) (s : State) → RowKind (Old n s)
old-kind n s = record { free = λ q f call conn number group a o le. absurd (true≢false (sym (ap is_group a) ∙ f)) }

number-of : Stage → ℕ
number-of Waits = 0
number-of (Out conn number) = number
number-of (Answered conn) = 0

is-out : Stage → Bool
is-out Waits = false
is-out (Out conn number) = true
is-out (Answered conn) = false

old-parts : (n : ℕ) (s : State) (group : Group) → MayGoOut n (Old n s) group
unfolding number-of
old-parts n s group most some part a call conn sequence le c d number b asked out low = let e : sequence ≡ number = ap number-of out in absurd (omega arith)

old-made : (n : ℕ) (s : State) (group : Group) → MayBeMade n (Old n s) group
unfolding is-out
old-made n s group = record { waits = λ call c conn number b asked out low. absurd (true≢false (sym (ap is-out out))); goes = old-parts n s group }

old-well : (n : ℕ) (s : State) (answers : Bool) (u : State) → MakesWell n (Old n s) answers u
old-well n s true u = λ b a. old-made n s b
old-well n s false u = tt

old-rows : (g : Setting) (h : List Event) (e : Event) → AllOf (Old (numbers_of (Space.state_of g h).leases) (Space.state_of g h)) (Space.on g e (Space.state_of g h)).0.requests
old-rows g h e = (on-rows g (numbers_of s.leases) (Old (numbers_of s.leases) s) (old-kind (numbers_of s.leases) s) (λ q k w call group a. old-parts (numbers_of s.leases) s group) s e (old-well (numbers_of s.leases) s (Space.answers_outputs e) (Space.happen g e s))
    (record { low = omega arith; rows = each-of (Old (numbers_of s.leases) s) s.requests (λ q there call conn number group a o le. there); fresh = fresh-of g h })).rows
  where
    s : State
    s = Space.state_of g h

-- ---- calls that are overtaken stay so

abbrev Over : ForeignId → ℕ → List Told → Type 0
Over r k h = is_overtaken true k (own r h) ≡ true

over-more : (k : ℕ) (ev : Told_event) (l : List Told_event) → is_overtaken true k l ≡ true → is_overtaken true k (ev ∷ l) ≡ true
over-more k ev l a = or-right (overtakes true k ev) _ a

over-row : (r : ForeignId) (k : ℕ) (ev : Told_event) (xs : List ForeignId) (h : List Told) → Over r k h → Over r k (client.on_each xs ev h)
over-row r k ev xs h a = row-keeps (λ l. is_overtaken true k l ≡ true) r ev (λ l x. over-more k ev l x) xs h a

over-plain : (g : Setting) (r : ForeignId) (k : ℕ) → Plain g AnyRef (Over r k)
over-plain g r k = record {
  own = λ id class. tt;
  on = λ x ev h p a. own-or-not (λ l. is_overtaken true k l ≡ true) r x ev h a (over-more k ev (own r h) a);
  at = λ moment h a. a;
  numbered = λ h a. a;
}

over-comes : (g : Setting) (r : ForeignId) (k : ℕ) (s : State) (c : Connection) (m : Message) → Over r k s.leases → ComesWell g AnyRef (Over r k) s c m
over-comes g r k s c (message.Hello version space digest) a = tt
over-comes g r k s c (message.Call number object method fuel arguments) a = λ above o. any-may-go (parking (call_row g c.number number o method fuel arguments) (Frames.counted c.number number s)) _
over-comes g r k s c (message.Returned number fuel value) a = λ q is. any-may-go (parking (result_row g c.number number value fuel) (marking c.number number s)) _
over-comes g r k s c (message.Threw number class) a = tt
over-comes g r k s c (message.Spent number) a = tt
over-comes g r k s c (message.Ack number) a = tt
over-comes g r k s c (message.Dirty sequence period objects) a = tt
over-comes g r k s c (message.Clean sequence strong objects) a = tt
over-comes g r k s c (message.Lookup number name) a = tt
over-comes g r k s c (message.Lease sequence period) a = λ q is. (told q.asked, any-may-go (telling true c.number sequence (λ call. lease_events.DirtyAnswered call period) q s) _)
  where
    told : (asked : Asked) → Over r k (Frames.group_told (λ call. lease_events.DirtyAnswered call period) asked (ParkedFrames.remove_requests (Frames.tells_on true c.number sequence) s)).leases
    told (Calls n task lent kind x) = a
    told (LooksUp n task name) = a
    told (Tells call group) = over-row r k (lease_events.DirtyAnswered call period) (references_at group.peer group.ids) s.leases a
over-comes g r k s c (message.Cleaned sequence) a = λ q is. (told q.asked, any-may-go (telling false c.number sequence lease_events.CleanAnswered q s) _)
  where
    told : (asked : Asked) → Over r k (Frames.group_told lease_events.CleanAnswered asked (ParkedFrames.remove_requests (Frames.tells_on false c.number sequence) s)).leases
    told (Calls n task lent kind x) = a
    told (LooksUp n task name) = a
    told (Tells call group) = over-row r k (lease_events.CleanAnswered call) (references_at group.peer group.ids) s.leases a

stays-over : (g : Setting) (r : ForeignId) (k : ℕ) (lent : List ℕ) (s : State) (e : Event) → refusal g lent s e ≡ None → Numbered s → Over r k s.leases → Over r k (Space.on g e s).0.leases
stays-over g r k lent s e t n a = subst (λ (c : Stocks). Over r k c.leases) (sym (ends-stocks g e s))
    (ended-grown (over-plain g r k) (λ b call h x. over-row r k (client.making b.kind call) (references_at b.peer b.ids) h x) (Space.answers_outputs e)
    (happen_grown (over-plain g r k) e (any-happens g (Over r k) (over-plain g r k) lent s e t n a (λ conn m same c is. over-comes g r k s c m a)) (any-grown g (Over r k) s n a))).parts.told

pub what_is_out_stays_asked : CallsOnTheirWayAreRequests → CallsAreMadeWhenDue → WhatIsOutStaysAsked
unfolding Space.state_of
what_is_out_stays_asked ways due g h e t = record {
  out = λ call conn number group q there asked out le. one-of (Old (numbers_of s.leases) s) (Space.on g e s).0.requests q (old-rows g h e) there call conn number group asked out le;
  way = λ r call le made. by r call made ((ways g h r).others true call le);
}
  where
    s : State
    s = Space.state_of g h

    by : (r : ForeignId) (call : ℕ) → is_made (lease_now (Space.on g e s).0 r).dirty call ≡ true → (is_on_its_way true (lease_now s r) call ≡ true) ⊎ (is_overtaken true call (own r s.leases) ≡ true) → is_made (lease_now s r).dirty call ≡ true
    by r call made (inl way) = way
    by r call made (inr over) =
        let a : call + 2 ≤ next_of (own r (Space.on g e s).0.leases) = overtaken-next true call (own r (Space.on g e s).0.leases) (due g (e ∷ h) r) (stays-over g r call t.0.0 s e t.0.1 (numbered-of g h t.1) over) in
        let b : next_of (own r (Space.on g e s).0.leases) ≡ call + 1 = dirty-last call (own r (Space.on g e s).0.leases) made in absurd (omega arith)
