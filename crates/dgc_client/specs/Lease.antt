-- A client makes a dirty call for a remote reference that it begins to hold, renews the lease before it ends, and makes a clean call when nothing holds the reference any more: a strong one after a dirty call that failed (Java RMI specification, 9.1).
use Rattle.std.specs.Prelude.{ℕ, ◌+◌, ◌-◌, Bool, true, false, Option, None, Some, is_none, is_some, ◌&&◌, ◌||◌, ◌==◌, nat_lt, not, if◌then◌else◌}
use Rattle.dgc_client.specs.declared.lease.ClientLease.{ClientLease}
use Rattle.dgc_client.specs.declared.lease.Due.{Due}
use Rattle.dgc_client.specs.declared.lease.Due.TheVariants.{Dirty, Clean as Clean_due}
use Rattle.dgc_client.specs.declared.lease.Made.{Made}
use Rattle.dgc_client.specs.declared.lease.Owed.{Owed}
use Rattle.dgc_client.specs.declared.lease.Owed.TheVariants.{Nothing, Clean, Strong, Again}
use Rattle.dgc_index.specs.declared.plans.Term.{Term}
use Rattle.dgc_index.specs.Plans.{is_half_over_at, stands_at}

-- a reference to which nothing happened yet
abbrev pub fresh : ℕ → ClientLease
fresh moment = record { holders = 0; moment = moment; dirty = None; lease = None; renew = false; last = None; clean = None; owed = Nothing; waits = false }

-- whether the call is this one
abbrev pub is_made : Option Made → ℕ → Bool
is_made None call = false
is_made (Some made) call = made.call == call

abbrev pub is_clean : Option ℕ → ℕ → Bool
is_clean None call = false
is_clean (Some clean) call = clean == call

-- One holder more. Above 2^64 - 1 holders are not counted.
abbrev pub one_more : ℕ → ℕ
one_more holders = if nat_lt holders 18446744073709551615 then holders + 1 else holders

-- One holder less. If there were 2^64 - 1 or more, nobody knows how many are left, and the reference keeps them.
abbrev pub one_less : ℕ → ℕ
one_less holders = if nat_lt holders 18446744073709551615 then holders - 1 else holders

abbrev pub after_hold : ClientLease → ClientLease
after_hold l = record l { holders = one_more l.holders }

abbrev pub after_drop : ClientLease → ClientLease
after_drop l = record l { holders = one_less l.holders }

-- the lease, if it stands at the moment
abbrev pub standing : Option Term → ℕ → Option Term
standing None moment = None
standing (Some term) moment = if stands_at term moment then Some term else None

-- whether there is a lease, and not more than half of its period is left
abbrev pub is_half_over : Option Term → ℕ → Bool
is_half_over None moment = false
is_half_over (Some term) moment = is_half_over_at term moment

abbrev pub at_moment : ℕ → ClientLease → ClientLease
at_moment moment l = record l { moment = moment; waits = false; lease = standing l.lease moment; renew = is_half_over (standing l.lease moment) moment }

-- A moment below the last changes nothing.
abbrev pub after_moment : ℕ → ClientLease → ClientLease
after_moment moment l = if nat_lt moment l.moment then l else at_moment moment l

-- whether the lease is due for renewal once the moment has come
abbrev pub is_renewed_at : ℕ → ClientLease → Bool
is_renewed_at moment l = (after_moment moment l).renew

-- whether there is a lease, and the moment ends it
abbrev pub lapses_at : ℕ → ClientLease → Bool
lapses_at moment l = is_some l.lease && is_none (after_moment moment l).lease

abbrev pub after_dirty : ℕ → ClientLease → ClientLease
after_dirty call l =
    record l {
      dirty = Some (record { call = call; at = l.moment });
      last = Some (record { call = call; at = l.moment });
      renew = false;
      clean = None;
      owed = Clean;
      waits = false;
    }

-- A clean call ends the lease as it is made, and overtakes the dirty call that is on its way.
abbrev pub after_clean : ℕ → ClientLease → ClientLease
after_clean call l = record l { dirty = None; lease = None; renew = false; clean = Some call; owed = Nothing; waits = false }

abbrev pub sent_at : Option Made → ℕ → ℕ → Option Made
sent_at made call moment = if is_made made call then Some (record { call = call; at = moment }) else made

abbrev pub after_sent : ℕ → ClientLease → ClientLease
after_sent call l = record l { dirty = sent_at l.dirty call l.moment; last = sent_at l.last call l.moment }

-- The answer gives a lease if the dirty call is still on its way.
abbrev pub answered : Option Made → ℕ → ClientLease → ClientLease
answered None period l = l
answered (Some made) period l = record l { dirty = None; lease = Some (record { sent = made.at; period = period }); renew = false }

abbrev pub after_answer : ℕ → ℕ → ClientLease → ClientLease
after_answer call period l = if is_made l.dirty call then answered l.dirty period l else l

abbrev pub after_failed_dirty : ℕ → ClientLease → ClientLease
after_failed_dirty call l = if is_made l.dirty call then record l { dirty = None; owed = Strong; waits = true } else l

abbrev pub after_answered_clean : ℕ → ClientLease → ClientLease
after_answered_clean call l = if is_clean l.clean call then record l { clean = None } else l

abbrev pub after_failed_clean : ℕ → ClientLease → ClientLease
after_failed_clean call l = if is_clean l.clean call then record l { clean = None; owed = Again; waits = true } else l

-- With holders a dirty call is due if none is on its way, and there is no lease or it is due for renewal.
abbrev pub due_held : ClientLease → Option Due
due_held l = if is_none l.dirty && (is_none l.lease || l.renew) then Some Dirty else None

-- A clean call is repeated as long as the longest lease of the last dirty call is not over.
abbrev pub due_again : Option Made → ℕ → Option Due
due_again None moment = None
due_again (Some last) moment = if nat_lt (moment - last.at) 600000 then Some (Clean_due true) else None

-- Without holders the clean call that is owed is due.
abbrev pub due_owed : Owed → ClientLease → Option Due
due_owed Nothing l = None
due_owed Clean l = Some (Clean_due false)
due_owed Strong l = Some (Clean_due true)
due_owed Again l = due_again l.last l.moment

abbrev pub due_unheld : ClientLease → Option Due
due_unheld l = due_owed l.owed l

abbrev pub is_again : Owed → Bool
is_again Nothing = false
is_again Clean = false
is_again Strong = false
is_again Again = true

-- After a call failed nothing is due before the next moment. The one exception is the dirty call of a new holder after a clean call failed.
abbrev pub is_waiting : ClientLease → Bool
is_waiting l = l.waits && not (nat_lt 0 l.holders && is_again l.owed)

-- the due call
abbrev pub due : ClientLease → Option Due
due l = if is_waiting l then None else (if nat_lt 0 l.holders then due_held l else due_unheld l)
