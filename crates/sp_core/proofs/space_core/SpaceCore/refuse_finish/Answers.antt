use Rattle.std.proofs.Common.{cond, true, None, Some, sym, ap, refl, ◌∙◌}
use Rattle.std.specs.Prelude.{option_map}
use Rattle.sp_rules.specs.Refusals.{NotHeld, WornOut, check_finished, refusal_number, stand_after}
use Rattle.sp_rules.specs.State.{task_at}
use Rattle.sp_tasks.specs.Behaviours.{outcome_of, stand_of}
use Rattle.sp_core.specs.Hands.{finished}
use Rattle.sp_core.proofs.HandLemmas.{first-other, first-worn, hand-number, hand-refusal, has-ended, in-its-hand, not-ended}
use Rattle.sp_core.proofs.space_core.SpaceCore.refuse_finish.Goals as goal

pub returns-then-is_worn-clause-refused : goal.returns-then-is_worn-clause-refused
returns-then-is_worn-clause-refused c = λ g s lent is lending at.
    let task = c.args.task.now.task in
    hand-number g s c.args.self.now task lent (finished task) (check_finished (task_at s task.id) (stand_after task.made (task_at s task.id))) c.is_worn.result true is lending refl refl (c.is_worn.ensures g s is) (sym c.requires)
    ∙ first-worn c.is_worn.result _ c.if-is_worn.true

pub returns-then-holds_result_of-clause-accepted : goal.returns-then-holds_result_of-clause-accepted
returns-then-holds_result_of-clause-accepted c = λ g s lent is lending at.
    let core = c.args.self.now in
    let task = c.args.task.now.task in
    let h = in-its-hand g s core task is c.requires in
    hand-refusal g s core task lent (finished task) (check_finished (task_at s task.id) (stand_after task.made (task_at s task.id))) c.is_worn.result true is lending refl refl (c.is_worn.ensures g s is) (sym c.requires)
    ∙ (λ j. cond (c.if-is_worn.false j) (Some WornOut) (has-ended g s core task c.args.stand.now (outcome_of c.in-HasEnded.outcome) c.holds_result_of.result is h at (ap stand_of c.in-HasEnded.is)
    (c.holds_result_of.ensures h.row h.row-is) j))
    ∙ ap (λ b. cond b None (Some NotHeld)) c.if-holds_result_of.true

pub returns-else-holds_result_of-clause-refused : goal.returns-else-holds_result_of-clause-refused
returns-else-holds_result_of-clause-refused c = λ g s lent is lending at.
    let core = c.args.self.now in
    let task = c.args.task.now.task in
    let h = in-its-hand g s core task is c.requires in
    hand-number g s core task lent (finished task) (check_finished (task_at s task.id) (stand_after task.made (task_at s task.id))) c.is_worn.result true is lending refl refl (c.is_worn.ensures g s is) (sym c.requires)
    ∙ first-other c.is_worn.result _ c.if-is_worn.false
    ∙ ap (option_map refusal_number) (has-ended g s core task c.args.stand.now (outcome_of c.in-HasEnded.outcome) c.holds_result_of.result is h at (ap stand_of c.in-HasEnded.is)
    (c.holds_result_of.ensures h.row h.row-is) ∙ ap (λ b. cond b None (Some NotHeld)) c.if-holds_result_of.false)

pub returns-in_default-clause-refused : goal.returns-in_default-clause-refused
returns-in_default-clause-refused c = λ g s lent is lending at.
    let core = c.args.self.now in
    let task = c.args.task.now.task in
    let h = in-its-hand g s core task is c.requires in
    hand-number g s core task lent (finished task) (check_finished (task_at s task.id) (stand_after task.made (task_at s task.id))) c.is_worn.result true is lending refl refl (c.is_worn.ensures g s is) (sym c.requires)
    ∙ first-other c.is_worn.result _ c.if-is_worn.false
    ∙ ap (option_map refusal_number) (not-ended g s core task c.args.stand.now is h at c.in_default.not-HasEnded)
