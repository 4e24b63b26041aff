use Rattle.cf_insns.proofs.Exact as exact
use Rattle.cf_insns.proofs.decoder.decode.Goals as goal

pub returns-clause-found : goal.returns-clause-found
returns-clause-found c = exact.found (λ listing. listing.items) c.args.code.now c.listing_with_targets.result c.listing_with_targets.ensures.exact

pub returns-clause-only : goal.returns-clause-only
returns-clause-only c = exact.only (λ listing. listing.items) c.args.code.now c.listing_with_targets.result c.listing_with_targets.ensures.exact

pub returns-clause-fault : goal.returns-clause-fault
returns-clause-fault c = exact.fault (λ listing. listing.items) c.args.code.now c.listing_with_targets.result c.listing_with_targets.ensures.exact

pub returns-clause-begins : goal.returns-clause-begins
returns-clause-begins c = exact.begins (λ listing. listing.items) c.args.code.now c.listing_with_targets.result c.listing_with_targets.ensures.exact
