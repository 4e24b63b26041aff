-- When calls were sent: a lease counts from a moment that has come (Java RMI specification, 9.1: the client renews a lease before it ends, counted from its dirty call).
use Rattle.std.specs.Prelude.{ℕ, ◌≤◌, List, Option, None, Some}
use Rattle.dgc_client.specs.declared.lease.ClientLease.{ClientLease}
use Rattle.dgc_client.specs.declared.lease.Made.{Made}
use Rattle.dgc_index.specs.declared.plans.Term.{Term}
use Rattle.space_ids.specs.declared.ids.ForeignId.{ForeignId}
use Rattle.sp_rules.specs.Classes.{Setting}
use Rattle.sp_rules.specs.Events.{Event}
use Rattle.sp_rules.specs.Holders.{lease_now}
use Rattle.sp_rules.specs.Space.{state_of}

-- a dirty call, if there is one, is of no later moment
abbrev pub IsMadeBy : ℕ → Option Made → Type 0
IsMadeBy moment None = Unit {0}
IsMadeBy moment (Some made) = made.at ≤ moment

-- a lease, if there is one, counts from no later moment
abbrev pub CountsFromBy : ℕ → Option Term → Type 0
CountsFromBy moment None = Unit {0}
CountsFromBy moment (Some term) = term.sent ≤ moment

-- The dirty call on its way and the last one are of past moments, and so is the moment from which the lease counts.
pub record IsOfThePast (l : ClientLease) : Type 0 where
  pub dirty : IsMadeBy l.moment l.dirty
  pub last : IsMadeBy l.moment l.last
  pub lease : CountsFromBy l.moment l.lease

-- This holds of each foreign reference after every history.
abbrev pub LeasesCountFromThePast : Type 0
LeasesCountFromThePast = (g : Setting) (h : List Event) (r : ForeignId) → IsOfThePast (lease_now (state_of g h) r)
