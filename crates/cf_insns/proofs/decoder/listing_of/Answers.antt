use Rattle.std.proofs.Common.{sym, ◌∙◌, arith}
use Rattle.cf_insns.proofs.Listings.{listing_from-rises, with_front-more, with_front-stop, with_front-end}
use Rattle.cf_insns.specs.ReadListing.{listing_from}
use Rattle.cf_insns.proofs.decoder.listing_of.Goals as goal

pub loop-at-preserved : goal.loop-at-preserved
loop-at-preserved c = record {
  within = omega (arith, c.in-Ok.ensures.within, c.split_at.ensures.back_len);
  whole = rw c.in_ok-push-in-Ok.ensures.items
      (with_front-more c.args.code.now c.loop-at.at c.split_at.result.1.now c.loop-at-test.true c.split_at.ensures.back c.loop-at.listing.items c.in-Ok.spelled (sym c.in-Ok.ensures.exact)
      ∙ c.loop-at.invariant.whole);
}

pub returns-in-Err-clause-exact : goal.returns-in-Err-clause-exact
returns-in-Err-clause-exact c =
    rw c.fault_at.ensures
    (with_front-stop c.args.code.now c.loop-at.at c.split_at.result.1.now c.loop-at-test.true c.split_at.ensures.back c.loop-at.listing.items c.in-Err.stop c.in-Err.ensures.exact
    (listing_from 0 0 c.args.code.now) c.loop-at.invariant.whole)

pub returns-clause-exact : goal.returns-clause-exact
returns-clause-exact c =
    sym c.loop-at.invariant.whole ∙ with_front-end c.args.code.now c.loop-at.at c.loop-at.listing.items c.loop-at-test.false

pub returns-clause-rises : goal.returns-clause-rises
returns-clause-rises c =
    listing_from-rises c.args.code.now c.loop-at.listing.items
    (sym c.loop-at.invariant.whole ∙ with_front-end c.args.code.now c.loop-at.at c.loop-at.listing.items c.loop-at-test.false)
