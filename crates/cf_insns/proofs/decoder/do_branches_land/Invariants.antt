use Rattle.std.proofs.Common.{◌≡◌, drop}
use Rattle.cf_insns.specs.Listing.{all_land, offsets}
use Rattle.cf_insns.proofs.decoder.do_branches_land.Given as goal

-- all land so far
abbrev pub invariant-loop-branch : goal.invariant-loop-branch
invariant-loop-branch l =
    all_land (offsets l.listing) l.offset (drop l.branch-index l.branches) ≡ all_land (offsets l.listing) l.offset l.branches
