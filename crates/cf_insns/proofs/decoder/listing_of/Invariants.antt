use Rattle.std.proofs.Common.{◌≡◌, ◌≤◌, ◌-◌, length, drop}
use Rattle.cf_insns.specs.ReadListing.{listing_from, with_front}
use Rattle.cf_insns.proofs.decoder.listing_of.Given as goal

-- what is listed so far and the listing of what is left are the listing of all
abbrev pub invariant-loop-at : goal.invariant-loop-at
invariant-loop-at l = record {
  within : l.at ≤ length l.code;
  whole : with_front l.listing.items (listing_from 0 l.at (drop l.at l.code)) ≡ listing_from 0 0 l.code;
}

abbrev pub decreases-loop-at : goal.decreases-loop-at
decreases-loop-at l = length l.code - l.at
