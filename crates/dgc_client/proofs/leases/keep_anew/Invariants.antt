use Rattle.std.proofs.Common.{◌≡◌, ◌++◌, take, drop, map}
use Rattle.indexmap.specs.IndexMap.{spare}
use Rattle.space_ids.specs.declared.ids.ForeignId.{ForeignId}
use Rattle.dgc_client.specs.declared.leases.Kept.{Kept}
use Rattle.dgc_client.specs.Kept.{kept_anew}
use Rattle.dgc_client.proofs.leases.keep_anew.Given as goal

-- the leases so far are kept anew
abbrev pub invariant-loop-index : goal.invariant-loop-index
invariant-loop-index l =
    (l.references.entries ≡ map (λ (e : ForeignId × Kept). (e.0, kept_anew l.moment l.moments e.1)) (take l.index l.initial.references.entries) ++ drop l.index l.initial.references.entries)
    × (spare l.references ≡ spare l.initial.references)
