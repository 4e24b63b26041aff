-- Calls and leases are of moments that have come, after every event of a reference.
use Rattle.std.proofs.Common.{arith}
use Rattle.std.proofs.lemmas.Bool.{ltb-false}
use Rattle.std.specs.Prelude.{◌≡◌, refl, ℕ, ◌-◌, ◌≤◌, ◌==◌, nat_lt, Bool, true, false, List, [], ◌∷◌, Option, None, Some, if◌then◌else◌}
use Rattle.dgc_client.specs.declared.lease.ClientLease.{ClientLease}
use Rattle.dgc_client.specs.declared.lease.Made.{Made}
use Rattle.dgc_index.specs.declared.plans.Term.{Term}
use Rattle.dgc_client.specs.History.{Event, after, lease_of}
use Rattle.dgc_client.specs.History.Event.{Held, Dropped, Moment, DirtyMade, CleanMade, DirtySent, DirtyAnswered, DirtyFailed, CleanAnswered, CleanFailed}
use Rattle.dgc_client.specs.Lease as lease
use Rattle.dgc_client.specs.Table as client
use Rattle.sp_rules.specs.Space
use Rattle.sp_laws.specs.Moments.{IsMadeBy, CountsFromBy, IsOfThePast, LeasesCountFromThePast}

made-later : (o : Option Made) (m n : ℕ) → m ≤ n → IsMadeBy m o → IsMadeBy n o
made-later None m n le h = tt
made-later (Some made) m n le h = let a : made.at ≤ m = h in omega arith

counts-later : (o : Option Term) (m n : ℕ) → m ≤ n → CountsFromBy m o → CountsFromBy n (lease.standing o n)
counts-later None m n le h = tt
counts-later (Some term) m n le h = pick (nat_lt (n - term.sent) term.period)
  where
    pick : (b : Bool) → CountsFromBy n (if b then Some term else None)
    pick true = let a : term.sent ≤ m = h in omega arith
    pick false = tt

sent-by : (o : Option Made) (call moment : ℕ) → IsMadeBy moment o → IsMadeBy moment (lease.sent_at o call moment)
sent-by None call moment h = tt
sent-by (Some made) call moment h = pick (made.call == call)
  where
    pick : (b : Bool) → IsMadeBy moment (if b then Some (record { call = call; at = moment }) else Some made)
    pick true = omega arith
    pick false = h

answered-past : (o : Option Made) (period : ℕ) (l : ClientLease) → IsMadeBy l.moment o → IsOfThePast l → IsOfThePast (lease.answered o period l)
answered-past None period l m h = h
answered-past (Some made) period l m h = record { dirty = tt; last = h.last; lease = m }

past-if : (b : Bool) (l k : ClientLease) → IsOfThePast l → IsOfThePast k → IsOfThePast (if b then l else k)
past-if true l k h i = h
past-if false l k h i = i

after-past : (e : Event) (l : ClientLease) → IsOfThePast l → IsOfThePast (after e l)
after-past Held l h = record { dirty = h.dirty; last = h.last; lease = h.lease }
after-past Dropped l h = record { dirty = h.dirty; last = h.last; lease = h.lease }
after-past (Moment moment) l h = pick (nat_lt moment l.moment) refl
  where
    pick : (b : Bool) → nat_lt moment l.moment ≡ b → IsOfThePast (if b then l else lease.at_moment moment l)
    pick true e = h
    pick false e = let le : l.moment ≤ moment = ltb-false moment l.moment e in record { dirty = made-later l.dirty l.moment moment le h.dirty; last = made-later l.last l.moment moment le h.last; lease = counts-later l.lease l.moment moment le h.lease }
after-past (DirtyMade call) l h = record { dirty = omega arith; last = omega arith; lease = h.lease }
after-past (CleanMade call) l h = record { dirty = tt; last = h.last; lease = tt }
after-past (DirtySent call) l h = record { dirty = sent-by l.dirty call l.moment h.dirty; last = sent-by l.last call l.moment h.last; lease = h.lease }
after-past (DirtyAnswered call period) l h = past-if (lease.is_made l.dirty call) (lease.answered l.dirty period l) l (answered-past l.dirty period l h.dirty h) h
after-past (DirtyFailed call) l h = past-if (lease.is_made l.dirty call) _ l (record { dirty = tt; last = h.last; lease = h.lease }) h
after-past (CleanAnswered call) l h = past-if (lease.is_clean l.clean call) _ l (record { dirty = h.dirty; last = h.last; lease = h.lease }) h
after-past (CleanFailed call) l h = past-if (lease.is_clean l.clean call) _ l (record { dirty = h.dirty; last = h.last; lease = h.lease }) h

history-past : (h : List Event) → IsOfThePast (lease_of h)
history-past [] = record { dirty = tt; last = tt; lease = tt }
history-past (e ∷ h) = after-past e (lease_of h) (history-past h)

pub leases_count_from_the_past : LeasesCountFromThePast
leases_count_from_the_past g h r = history-past (client.own r (Space.state_of g h).leases)
