-- A lease is kept as it was when something last happened to its reference; the moments since then are counted in when it is looked at.
-- (This project's own; no rule of a standard.)
use Rattle.std.specs.Prelude.{◌≡◌, ℕ, ◌≤◌, Bool, List, [], ◌∷◌, map, ◌==◌, ◌&&◌, nat_lt, if◌then◌else◌}
use Rattle.std.specs.Str.{bytes_eq}
use Rattle.std.proofs.Props.{props}
use mathlib.Core.HLevel.{×_prop, Unit-prop}
use Rattle.space_ids.specs.declared.ids.ForeignId.{ForeignId}
use Rattle.dgc_client.specs.declared.lease.ClientLease.{ClientLease}
use Rattle.dgc_client.specs.declared.leases.Kept.{Kept}
use Rattle.dgc_client.specs.Lease.{after_moment}

-- whether two references name one object
abbrev pub is_same : ForeignId → ForeignId → Bool
is_same a b = bytes_eq a.space b.space && a.id.0 == b.id.0

-- the lease after `moments` moments, the last of which is `moment`
abbrev pub lease_now : (moment moments : ℕ) → Kept → ClientLease
lease_now moment moments kept = if nat_lt kept.moments moments then after_moment moment kept.lease else kept.lease

-- the leases then, in their order
abbrev pub leases_now : (moment moments : ℕ) → List (ForeignId × Kept) → List (ForeignId × ClientLease)
leases_now moment moments entries = map (λ (entry : ForeignId × Kept). (entry.0, lease_now moment moments entry.1)) entries

-- the lease as it is then, kept to count moments from 0
abbrev pub kept_anew : (moment moments : ℕ) → Kept → Kept
kept_anew moment moments kept = record { lease = lease_now moment moments kept; moments = 0 }

-- what is kept was kept at a moment that came
pub record IsTimely (moment moments : ℕ) (kept : Kept) : Type 0 where
  pub came : kept.moments ≤ moments
  pub early : kept.lease.moment ≤ moment
  pub now : kept.moments ≡ moments → kept.lease.moment ≡ moment

abbrev pub AreTimely : (moment moments : ℕ) → List (ForeignId × Kept) → Type 0
AreTimely moment moments [] = Unit {0}
AreTimely moment moments (entry ∷ entries) = IsTimely moment moments entry.1 × AreTimely moment moments entries

-- these are propositions
pub IsTimely-prop : (moment moments : ℕ) (kept : Kept) → IsProp (IsTimely moment moments kept)
IsTimely-prop moment moments kept = hlevel props

pub AreTimely-prop : (moment moments : ℕ) (entries : List (ForeignId × Kept)) → IsProp (AreTimely moment moments entries)
AreTimely-prop moment moments [] = Unit-prop
AreTimely-prop moment moments (entry ∷ entries) = ×_prop (IsTimely-prop moment moments entry.1) (AreTimely-prop moment moments entries)
