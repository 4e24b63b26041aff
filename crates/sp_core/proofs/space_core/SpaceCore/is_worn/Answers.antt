use Rattle.std.proofs.Common.{ap, ◌∙◌}
use Rattle.std.specs.Prelude.{nat_le, ◌^◌}
use Rattle.sp_core.proofs.CheckLemmas.{worn-is}
use Rattle.sp_core.proofs.space_core.SpaceCore.is_worn.Goals as goal

pub returns : goal.returns
returns c = λ g s is.
    c.is_any.ensures ∙ worn-is s c.is_end-objects.result c.is_end-tasks.result c.is_end-calls.result c.is_end-sequences.result
    (c.is_end-objects.ensures ∙ ap (nat_le (2 ^ 63)) (c.objects_made.ensures g s (c.owner.ensures g s is.state)))
    (c.is_end-tasks.ensures ∙ ap (nat_le (2 ^ 63)) (c.made.ensures ∙ (c.tasks.ensures.are g s (c.living.ensures.stands g s is.state)).last))
    (c.is_end-calls.ensures ∙ ap (nat_le (2 ^ 63)) (c.calls_made.ensures s (c.transport.ensures g s (c.living-2.ensures.stands g s is.state))))
    (c.is_end-sequences.ensures ∙ ap (nat_le (2 ^ 63)) (c.last_sequence.ensures s (c.transport-2.ensures g s (c.living-3.ensures.stands g s is.state))))
