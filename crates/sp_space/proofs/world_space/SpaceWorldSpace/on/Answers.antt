use Rattle.std.proofs.Common.{[], inr, sym, subst}
use Rattle.sp_rules.specs.Classes.{Setting}
use Rattle.sp_rules.specs.Space.{state_of}
use Rattle.sp_rules.specs.State.{State}
use Rattle.sp_space.specs.Spaces.{IsSpace}
use Rattle.sp_space.proofs.EventLemmas.{kept-space, on-space, space-core}
use Rattle.sp_machines.proofs.ResultLemmas.{if-err, if-ok, ok-or-on, on-err, on-ok, on-ok-two}
use Rattle.sp_space.proofs.SpaceStep.{at-rest, resting}
use Rattle.sp_space.proofs.world_space.SpaceWorldSpace.on.Goals as goal

pub invariant_of-self : goal.invariant_of-self
invariant_of-self c =
    let space = c.self.inside.parts in
    let r = c.self.invariant in
    let g = r.known.setting in
    let s = state_of g r.known.history in
    ok-or-on c.on.result _ _ _ (λ kept. kept) (λ kept. kept)
    (on-ok-two c.on.result _ _ _ (λ accepted state. resting _ _ _ (on-space space c.on.new.self c.args.event.now accepted state c.on.ensures.lent g s (at-rest space r))) c.on.ensures.accepted c.on.ensures.state)
    (on-err c.on.result _ _ (λ same. resting _ _ _ (kept-space space c.on.new.self same c.on.ensures.lent g s (at-rest space r))) c.on.ensures.unchanged)

pub returns : goal.returns
returns c =
    let space = c.self.inside.parts in
    let inside : (g : Setting) (s : State) → IsSpace g s c.args.self.now → IsSpace g s space = λ g s is. subst (IsSpace g s) (sym c.self.view_is) is in
    record {
      accepted = on-ok c.on.result _ _ (λ accepted. λ g s is. accepted g s [] (space-core g s space (inside g s is))) c.on.ensures.accepted;
      outputs = if-ok c.on.result _ _ (λ outputs told. λ g s is. told g s (space-core g s space (inside g s is)) (inside g s is).stands.of.classes) c.on.ensures.outputs;
      state = on-ok-two c.on.result _ _ _ (λ accepted state. λ g s is. on-space space c.on.new.self c.args.event.now accepted state c.on.ensures.lent g s (inside g s is)) c.on.ensures.accepted c.on.ensures.state;
      refused = if-err c.on.result _ _ (λ fault refused. λ g s is. inr (refused g s [] (space-core g s space (inside g s is)))) c.on.ensures.refused;
      unchanged = on-err c.on.result _ _ (λ same. λ g s is. kept-space space c.on.new.self same c.on.ensures.lent g s (inside g s is)) c.on.ensures.unchanged;
    }
