use Rattle.std.proofs.Common.{◌≡◌, ℕ, List, [], ap, sym, subst, ◌∙◌}
use Rattle.space_ids.specs.declared.value.Value.{Value}
use Rattle.sp_events.specs.FaultNames.{RefusesOrLacks}
use Rattle.sp_events.specs.declared.event.Root.{Root}
use Rattle.sp_rules.specs.Classes.{Setting}
use Rattle.sp_rules.specs.Events.{Root as Roots}
use Rattle.sp_rules.specs.Refusals.{refusal}
use Rattle.sp_rules.specs.Space.{on, state_of}
use Rattle.sp_rules.specs.State.{State}
use Rattle.std.specs.Prelude.{None, map}
use Rattle.sp_outputs.specs.Notes.{output_of}
use Rattle.sp_space.specs.Spaces.{IsSpace}
use Rattle.sp_space.proofs.BeginLemmas.{Tells, root-space, told-root}
use Rattle.sp_space.proofs.EventLemmas.{kept-space, space-core}
use Rattle.sp_machines.proofs.ResultLemmas.{if-err, if-ok, ok-or-on, on-err, on-ok, on-ok-two}
use Rattle.sp_space.proofs.SpaceStep.{at-rest, resting}
use Rattle.sp_space.proofs.world_space.SpaceWorldSpace.root.Goals as goal

pub invariant_of-self : goal.invariant_of-self
invariant_of-self c =
    let space = c.self.inside.parts in
    let r = c.self.invariant in
    let g = r.known.setting in
    let s = state_of g r.known.history in
    let root : Root = record { method = c.args.method; arguments = c.new-arguments.result; fuel = c.args.fuel; refused = c.in_ok-refused.refused } in
    let tells : Tells space root c.args.arguments.now = record { arguments = c.new-arguments.ensures ∙ c.in_ok-copy_values.ensures; refused = c.in_ok-refused.ensures.told } in
    ok-or-on c.root.result _ _ _ (λ kept. kept) (λ kept. kept)
    (on-ok-two c.root.result _ _ _ (λ accepted state. resting _ _ _ (root-space space c.root.new.self root c.args.arguments.now tells accepted state c.root.ensures.lent g s (at-rest space r)))
    c.root.ensures.accepted c.root.ensures.state)
    (on-err c.root.result _ _ (λ same. resting _ _ _ (kept-space space c.root.new.self same c.root.ensures.lent g s (at-rest space r))) c.root.ensures.unchanged)

pub returns : goal.returns
returns c =
    let space = c.self.inside.parts in
    let inside : (g : Setting) (s : State) → IsSpace g s c.args.self.now → IsSpace g s space = λ g s is. subst (IsSpace g s) (sym c.self.view_is) is in
    let args = c.args.arguments.now in
    let same = c.new-arguments.ensures ∙ c.in_ok-copy_values.ensures in
    let root : Root = record { method = c.args.method; arguments = c.new-arguments.result; fuel = c.args.fuel; refused = c.in_ok-refused.refused } in
    let tells : Tells space root args = record { arguments = same; refused = c.in_ok-refused.ensures.told } in
    record {
      accepted = on-ok c.root.result _ _ (λ accepted. λ g s is.
          subst (λ (given : List Value). refusal g [] s (Roots c.args.method given c.args.fuel) ≡ None) same
          (accepted g s [] (space-core g s space (inside g s is)) (told-root g s space root args (inside g s is) tells))) c.root.ensures.accepted;
      outputs = if-ok c.root.result _ _ (λ outputs told. λ g s is.
          subst (λ (given : List Value). map output_of outputs.items ≡ (on g (Roots c.args.method given c.args.fuel) s).1) same (told g s (space-core g s space (inside g s is)))) c.root.ensures.outputs;
      state = on-ok-two c.root.result _ _ _ (λ accepted state. λ g s is. root-space space c.root.new.self root args tells accepted state c.root.ensures.lent g s (inside g s is))
          c.root.ensures.accepted c.root.ensures.state;
      refused = if-err c.root.result _ _ (λ fault refused. λ g s is.
          subst (λ (given : List Value). RefusesOrLacks (refusal g [] s (Roots c.args.method given c.args.fuel)) fault) same
          (refused g s [] (space-core g s space (inside g s is)) (told-root g s space root args (inside g s is) tells))) c.root.ensures.refused;
      unchanged = on-err c.root.result _ _ (λ same. λ g s is. kept-space space c.root.new.self same c.root.ensures.lent g s (inside g s is)) c.root.ensures.unchanged;
    }
