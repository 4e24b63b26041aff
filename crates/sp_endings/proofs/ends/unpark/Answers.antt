use Rattle.std.proofs.Common.{◌≡◌, Bool, List, map, take, sym, ap, subst, ◌∙◌, arith}
use Rattle.std.specs.Prelude.{filter, not, ◌==◌}
use Rattle.std.proofs.lemmas.List.{take_all}
use Rattle.sp_parked.specs.Parkings.{parked_of}
use Rattle.space_ids.specs.declared.ids.ForeignId.{ForeignId}
use Rattle.sp_rules.specs.Endings.{unpark}
use Rattle.sp_rules.specs.Holders.{drop_ids}
use Rattle.sp_rules.specs.Lists.{each}
use Rattle.sp_rules.specs.State.{State, ParkedFrame}
use Rattle.sp_endings.specs.Passing.{let_references_go}
use Rattle.sp_living.specs.Frames.{with_parked}
use Rattle.sp_living.specs.Livings.{IsLiving}
use Rattle.sp_endings.proofs.EachLemmas.{each-next-of, each-none}
use Rattle.sp_endings.proofs.TakingLemmas.{all-taken, takes-unpark}
use Rattle.sp_tasks.proofs.LentLemmas.{lent-same, lent-still}
use Rattle.sp_endings.proofs.ends.unpark.Goals as goal

pub loop-frame-init : goal.loop-frame-init
loop-frame-init c = record {
  done = λ g s a. subst (λ (u : State). IsLiving g u c.take_frames_on.new.self) (sym (each-none let_references_go s)) a;
  lent = lent-same c.take_frames_on.ensures.tasks;
}

pub loop-frame-preserved : goal.loop-frame-preserved
loop-frame-preserved c = record {
  done = λ g s a.
      let items = c.deref-frame-items.result.now in
      let before = each let_references_go (map parked_of (take c.loop-frame.frame-index items)) s in
      subst (λ (u : State). IsLiving g u c.drop_ids.new.self) (ap (λ (ids : List ForeignId). drop_ids ids before) c.as_slice.ensures ∙ sym (each-next-of let_references_go parked_of items c.loop-frame.frame-index c.frame-item.result s c.loop-frame-test.true c.frame-item.is))
      (c.drop_ids.ensures.dropped g before (c.loop-frame.invariant.done g s a));
  lent = lent-still c.loop-frame.invariant.lent c.drop_ids.ensures.tasks;
}

pub returns-clause-dropped : goal.returns-clause-dropped
returns-clause-dropped c = λ g s a.
    let items = c.deref-frame-items.result.now in
    let conn = c.args.conn in
    let came : ParkedFrame → Bool = λ p. p.conn == conn in
    let left = with_parked (filter (λ p. not (came p)) s.parked) s in
    let all : map parked_of (take c.loop-frame.frame-index items) ≡ filter came s.parked =
    ap (map parked_of) (take_all c.loop-frame.frame-index items (omega arith) ∙ c.deref-frame-items.ensures.value) ∙ c.in_ok-take_frames_on.ensures.frames g s a in
    subst (λ (u : State). IsLiving g u c.loop-frame.living)
    (ap (λ (ps : List ParkedFrame). each let_references_go ps left) all ∙ sym (all-taken unpark let_references_go takes-unpark came s a.parked.once))
    (c.loop-frame.invariant.done g left (c.in_ok-take_frames_on.ensures.left g s a))

pub returns-clause-lent : goal.returns-clause-lent
returns-clause-lent c = c.loop-frame.invariant.lent
