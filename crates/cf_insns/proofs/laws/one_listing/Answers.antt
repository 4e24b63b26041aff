use Rattle.cf_insns.proofs.Exact.{one_listing}
use Rattle.cf_insns.proofs.laws.one_listing.Goals as goal

pub returns : goal.returns
returns c = one_listing
