use Rattle.std.proofs.Common.{refl, ◌∙◌}
use Rattle.vm_step.specs.Run.{over}
use Rattle.vm_step.proofs.Replies.{completed_ends}
use Rattle.vm_step.proofs.phase.complete.Goals as goal

pub returns-in-Ends : goal.returns-in-Ends
returns-in-Ends c =
    (λ j. over (c.keep.ensures j) (c.fuel_after-left.ensures j))
    ∙ completed_ends c.args.asked c.args.reply c.args.machine c.answer_with.new.self _ c.in-Ends.ending _ c.in-Ends.ensures.does refl
