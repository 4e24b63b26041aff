use Rattle.std.proofs.Common.{◌≡◌, drop, map}
use Rattle.cf_insns.specs.Listing.{all_land, offsets}
use Rattle.cf_insns.specs.declared.insn.SwitchCase.{SwitchCase}
use Rattle.cf_insns.proofs.decoder.do_cases_land.Given as goal

-- all land so far
abbrev pub invariant-loop-case : goal.invariant-loop-case
invariant-loop-case l =
    all_land (offsets l.listing) l.offset (map (λ (c : SwitchCase). c.branch) (drop l.case-index l.cases)) ≡ all_land (offsets l.listing) l.offset (map (λ (c : SwitchCase). c.branch) l.cases)
