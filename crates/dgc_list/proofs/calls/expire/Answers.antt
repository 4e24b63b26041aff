use Rattle.std.proofs.Common.{refl, ap, ◌∙◌}
use Rattle.dgc_list.specs.Remembered.{after_moment}
use Rattle.dgc_list.specs.Objects.{clients_at}
use Rattle.dgc_list.proofs.MomentLemmas.{expires-next, covered-next}
use Rattle.dgc_list.proofs.RememberedLemmas.{can-expire}
use Rattle.dgc_list.proofs.calls.expire.Goals as goal

pub loop-gone-preserved : goal.loop-gone-preserved
loop-gone-preserved c =
    let gone = c.in-Some.gone in
    let told = c.after_moment-remembered.ensures ∙ ap (after_moment c.args.moment) c.get.ensures in
    let set = (rw told at c.set.ensures.here) (can-expire (clients_at c.loop-gone.objects gone.object) gone.client c.args.moment) in (
      expires-next c.args.moment gone.object gone.client c.args.objects.now c.loop-gone.objects c.set.new.self c.loop-gone.invariant.0 set c.set.ensures.others,
      λ was_covered. covered-next c.args.moment gone.object gone.client c.args.objects.now c.loop-gone.objects c.set.new.self c.loop-gone.invariant.0 set c.set.ensures.others
          c.loop-gone.expiries c.pop_gone.new.self gone refl refl c.in-Some.ensures.reached c.in-Some.ensures.others (c.loop-gone.invariant.1 was_covered),
    )

pub returns-clause-covered : goal.returns-clause-covered
returns-clause-covered c = rw c.in_default.ensures.unchanged c.loop-gone.invariant.1

pub returns-clause-none : goal.returns-clause-none
returns-clause-none c = rw c.in_default.ensures.unchanged c.in_default.ensures.none
