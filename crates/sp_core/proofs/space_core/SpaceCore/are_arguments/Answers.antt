use Rattle.std.proofs.Common.{◌<◌, length, sym, ap, arith, ◌∙◌}
use Rattle.std.specs.List.{list_all}
use Rattle.space_ids.specs.declared.value.Value.{Value}
use Rattle.sp_rules.specs.Refusals.{is_root_argument}
use Rattle.sp_rules.specs.References.{reference_of}
use Rattle.sp_core.proofs.RootLemmas.{all-fails, all-more}
use Rattle.sp_core.proofs.space_core.SpaceCore.are_arguments.Goals as goal

pub returns-then-not-branch : goal.returns-then-not-branch
returns-then-not-branch c = λ g s is.
    let within : c.loop-value.value-index < length c.args.values.now = omega arith in
    sym (all-fails (is_root_argument g s) c.args.values.now c.loop-value.value-index c.value-item.result within
    (sym (ap (λ (v : Value). list_all (is_root_argument g s) (reference_of v)) c.value-item.is) ∙ sym (c.in_ok-is_argument.ensures g s is) ∙ c.if-not-branch.true))

pub loop-value-preserved : goal.loop-value-preserved
loop-value-preserved c = λ g s is.
    let within : c.loop-value.value-index < length c.args.values.now = omega arith in
    all-more (is_root_argument g s) c.args.values.now c.loop-value.value-index c.value-item.result within (c.loop-value.invariant g s is)
    (sym (ap (λ (v : Value). list_all (is_root_argument g s) (reference_of v)) c.value-item.is) ∙ sym (c.in_ok-is_argument.ensures g s is) ∙ c.if-not-branch.false)
