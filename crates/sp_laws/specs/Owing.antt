-- What a client owes of a lease: a dirty call on its way and a lease owe a clean call, and a clean call ends both (Java RMI specification, 9.1: a clean call when the reference is held no more, a strong one after a dirty call that failed).
use Rattle.std.specs.Prelude.{◌≡◌, ◌⊎◌, true, List, None, is_some}
use Rattle.dgc_client.specs.declared.lease.ClientLease.{ClientLease}
use Rattle.dgc_client.specs.declared.lease.Owed.TheVariants as owed
use Rattle.space_ids.specs.declared.ids.ForeignId.{ForeignId}
use Rattle.sp_rules.specs.Classes.{Setting}
use Rattle.sp_rules.specs.Events.{Event}
use Rattle.sp_rules.specs.Holders.{lease_now}
use Rattle.sp_rules.specs.Space.{state_of}

-- If a dirty call is on its way, an ordinary clean call is owed, so no failed one is remembered. If there is a lease, a clean call is owed,
-- ordinary or strong. While a clean call is on its way there is neither, and nothing is owed.
pub record OwesItsEnd (l : ClientLease) : Type 0 where
  pub asked : is_some l.dirty ≡ true → l.owed ≡ owed.Clean
  pub leased : is_some l.lease ≡ true → (l.owed ≡ owed.Clean) ⊎ (l.owed ≡ owed.Strong)
  pub cleaned : is_some l.clean ≡ true → (l.dirty ≡ None) × ((l.lease ≡ None) × (l.owed ≡ owed.Nothing))

-- This holds of each foreign reference after every history.
abbrev pub LeasesOweTheirEnd : Type 0
LeasesOweTheirEnd = (g : Setting) (h : List Event) (r : ForeignId) → OwesItsEnd (lease_now (state_of g h) r)
