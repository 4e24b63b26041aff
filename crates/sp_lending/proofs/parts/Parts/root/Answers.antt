use Rattle.std.proofs.Common.{◌≡◌, List, ◌∙◌, subst}
use Rattle.std.specs.Prelude.{map}
use Rattle.space_ids.specs.declared.value.Value.{Value}
use Rattle.sp_events.specs.declared.event.Root.{Root}
use Rattle.sp_outputs.specs.Notes.{output_of}
use Rattle.sp_rules.specs.Events.{Root as Roots}
use Rattle.sp_rules.specs.Space.{on}
use Rattle.sp_machines.proofs.ResultLemmas.{if-ok, on-err, on-ok-two}
use Rattle.sp_lending.proofs.BeginLemmas.{Tells, root-space}
use Rattle.sp_lending.proofs.SpaceLemmas.{kept-space, space-core}
use Rattle.sp_lending.proofs.parts.Parts.root.Goals as goal

pub returns-clause-outputs : goal.returns-clause-outputs
returns-clause-outputs c =
    let same = c.new-arguments.ensures ∙ c.in_ok-copy_values.ensures in
    if-ok c.root.result _ _ (λ outputs told. λ g s is.
    subst (λ (given : List Value). map output_of outputs.items ≡ (on g (Roots c.args.method given c.args.fuel) s).1) same (told g s (space-core g s c.args.self.now is))) c.root.ensures.outputs

pub returns-clause-state : goal.returns-clause-state
returns-clause-state c =
    let root : Root = record { method = c.args.method; arguments = c.new-arguments.result; fuel = c.args.fuel; refused = c.in_ok-refused.refused } in
    let tells : Tells c.args.self.now root c.args.arguments.now = record { arguments = c.new-arguments.ensures ∙ c.in_ok-copy_values.ensures; refused = c.in_ok-refused.ensures.told } in
    on-ok-two c.root.result _ _ _ (λ accepted state. λ g s is. root-space c.args.self.now c.root.new.self root c.args.arguments.now tells accepted state c.root.ensures.lent g s is) c.root.ensures.accepted c.root.ensures.state

pub returns-clause-unchanged : goal.returns-clause-unchanged
returns-clause-unchanged c =
    let space = c.args.self.now in
    on-err c.root.result _ _ (λ same. λ g s is. kept-space g s space c.root.new.self is (same g) (c.root.ensures.lent g s (space-core g s space is))) c.root.ensures.unchanged
