use Rattle.std.proofs.Common.{◌≡◌, Bool, List, map, take, sym, ap, subst, ◌∙◌, arith}
use Rattle.std.specs.Prelude.{filter, not}
use Rattle.std.proofs.lemmas.List.{take_all}
use Rattle.sp_parked.specs.Parkings.{parked_of}
use Rattle.sp_rules.specs.Lists.{each}
use Rattle.sp_rules.specs.ParkedFrames.{fail_parked, names}
use Rattle.sp_rules.specs.State.{State, ParkedFrame}
use Rattle.sp_endings.specs.Passing.{give_up}
use Rattle.sp_living.specs.Frames.{with_parked}
use Rattle.sp_living.specs.Livings.{IsLiving}
use Rattle.sp_endings.proofs.EachLemmas.{each-next-of, each-none}
use Rattle.sp_endings.proofs.TakingLemmas.{all-taken, takes-fail}
use Rattle.sp_tasks.proofs.LentLemmas.{lent-same, lent-then}
use Rattle.sp_endings.proofs.failing.fail_named.Goals as goal

pub loop-frame-init : goal.loop-frame-init
loop-frame-init w c = record {
  done = λ g s a tells. subst (λ (u : State). IsLiving g u c.take_frames_naming.new.self) (sym (each-none (give_up g) s)) a;
  lent = lent-same c.take_frames_naming.ensures.tasks;
}

pub loop-frame-preserved : goal.loop-frame-preserved
loop-frame-preserved w c = record {
  done = λ g s a tells.
      let items = c.deref-frame-items.result.now in
      let before = each (give_up g) (map parked_of (take c.loop-frame.frame-index items)) s in
      subst (λ (u : State). IsLiving g u c.give_up.new.living) (sym (each-next-of (give_up g) parked_of items c.loop-frame.frame-index c.frame-item.result s c.loop-frame-test.true c.frame-item.is))
      (c.in_ok-give_up.ensures.failed g before (c.loop-frame.invariant.done g s a tells) tells);
  lent = lent-then c.loop-frame.invariant.lent c.in_ok-give_up.ensures.lent;
}

pub returns-clause-failed : goal.returns-clause-failed
returns-clause-failed w c = λ g s a tells.
    let items = c.deref-frame-items.result.now in
    let named : ParkedFrame → Bool = names c.args.reference.now in
    let left = with_parked (filter (λ p. not (named p)) s.parked) s in
    let all : map parked_of (take c.loop-frame.frame-index items) ≡ filter named s.parked =
    ap (map parked_of) (take_all c.loop-frame.frame-index items (omega arith) ∙ c.deref-frame-items.ensures.value) ∙ c.in_ok-take_frames_naming.ensures.frames g s a in
    subst (λ (u : State). IsLiving g u c.loop-frame.living)
    (ap (λ (ps : List ParkedFrame). each (give_up g) ps left) all ∙ sym (all-taken (fail_parked g) (give_up g) (takes-fail g) named s a.parked.once))
    (c.loop-frame.invariant.done g left (c.in_ok-take_frames_naming.ensures.left g s a) tells)

pub returns-clause-lent : goal.returns-clause-lent
returns-clause-lent w c = c.loop-frame.invariant.lent
