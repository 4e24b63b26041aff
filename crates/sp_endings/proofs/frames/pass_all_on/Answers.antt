use Rattle.std.proofs.Common.{arith, rules, ◌≡◌, ◌++◌, [], ◌∷◌, List, map, sym, ap, subst, ◌∙◌, append-nil}
use Rattle.std.proofs.lemmas.Grind.{common_steps}
use Rattle.std.proofs.lemmas.List.{map-append, nil_from_length}
use Rattle.sp_parked.specs.Parkings.{parked_of}
use Rattle.sp_parked.specs.declared.frame.ParkedFrame.{ParkedFrame as Taken}
use Rattle.sp_rules.specs.Lists.{each}
use Rattle.sp_rules.specs.State.{State, Stored, ParkedFrame}
use Rattle.sp_store.specs.Stores.{IsAfter}
use Rattle.sp_endings.specs.Passing.{pass_on}
use Rattle.sp_living.specs.Livings.{IsLiving}
use Rattle.sp_endings.proofs.EachLemmas.{each-more, each-none}
use Rattle.sp_endings.proofs.StoreLemmas.{all-pass-store}
use Rattle.sp_tasks.proofs.LentLemmas.{lent-none, lent-then}
use Rattle.sp_endings.proofs.frames.pass_all_on.Goals as goal

pub loop-frame-init : goal.loop-frame-init
loop-frame-init w c = record {
  whole = search rules;
  passed = λ g s a tells after. subst (λ (u : State). IsLiving g u c.args.living.now) (sym (each-none (pass_on g) s)) a;
  lent = lent-none c.args.living.now.tasks;
}

pub loop-frame-preserved : goal.loop-frame-preserved
loop-frame-preserved w c = record {
  whole = grind (arith, common_steps, c.in-Some.ensures.steps);
  passed = λ g s a tells after.
      let ps : List ParkedFrame = map parked_of c.loop-frame.yielded in
      let store = subst (λ (h : List Stored). IsAfter g h c.args.store.now) (sym (all-pass-store g ps s)) after in
      subst (λ (u : State). IsLiving g u c.pass_on.new.living)
      (sym (ap (λ (l : List ParkedFrame). each (pass_on g) l s) (map-append parked_of c.loop-frame.yielded (c.in-Some.frame ∷ [])) ∙ each-more (pass_on g) ps (parked_of c.in-Some.frame) s))
      (c.in_ok-pass_on.ensures.passed g (each (pass_on g) ps s) (c.loop-frame.invariant.passed g s a tells after) tells store);
  lent = lent-then c.loop-frame.invariant.lent c.in_ok-pass_on.ensures.lent;
}

pub returns-clause-passed : goal.returns-clause-passed
returns-clause-passed w c = λ g s a tells after.
    let none : c.loop-frame.frame-iterator.rest.items ≡ [] = nil_from_length _ (sym c.loop-frame.frame-iterator.rest.ok.0 ∙ (c.in-None.ensures).steps.0) in
    let all : c.loop-frame.yielded ≡ c.args.frames.items = sym (append-nil c.loop-frame.yielded) ∙ ap (λ (l : List Taken). c.loop-frame.yielded ++ l) (sym none) ∙ sym c.loop-frame.invariant.whole in
    subst (λ (l : List Taken). IsLiving g (each (pass_on g) (map parked_of l) s) c.loop-frame.living) all (c.loop-frame.invariant.passed g s a tells after)

pub returns-clause-lent : goal.returns-clause-lent
returns-clause-lent w c = c.loop-frame.invariant.lent
