use Rattle.std.proofs.Common.{◌≡◌, drop}
use Rattle.cf_insns.specs.Listing.{first_astray, offsets}
use Rattle.cf_insns.proofs.decoder.first_astray.Given as goal

-- none is astray so far
abbrev pub invariant-loop-offset : goal.invariant-loop-offset
invariant-loop-offset l =
    first_astray (offsets l.listing) (drop l.offset-index l.listing) ≡ first_astray (offsets l.listing) l.listing
