use Rattle.std.proofs.Common.{cond, true, None, Some, sym, ap, refl, ◌∙◌}
use Rattle.std.specs.Prelude.{option_map}
use Rattle.sp_rules.specs.Refusals.{NotHeld, WornOut, WrongKind, check_parked, fits_call, refusal_number, stand_after}
use Rattle.sp_rules.specs.State.{task_at}
use Rattle.sp_tasks.specs.Behaviours.{op_of, stand_of}
use Rattle.sp_core.specs.Hands.{parked}
use Rattle.sp_core.proofs.HandLemmas.{call-refused, first-other, first-worn, hand-number, hand-refusal, in-its-hand, not-called}
use Rattle.sp_core.proofs.space_core.SpaceCore.refuse_park.Goals as goal

pub returns-then-is_worn-clause-refused : goal.returns-then-is_worn-clause-refused
returns-then-is_worn-clause-refused w c = λ g s lent is lending tells at.
    let task = c.args.task.now.task in
    hand-number g s c.args.self.now task lent (parked task) (check_parked g (task_at s task.id) (stand_after task.made (task_at s task.id))) c.is_worn.result true is lending refl refl (c.is_worn.ensures g s is) (sym c.requires)
    ∙ first-worn c.is_worn.result _ c.if-is_worn.true

pub returns-then-not-holds_op-clause-refused : goal.returns-then-not-holds_op-clause-refused
returns-then-not-holds_op-clause-refused w c = λ g s lent is lending tells at.
    let core = c.args.self.now in
    let task = c.args.task.now.task in
    let h = in-its-hand g s core task is c.requires in
    hand-number g s core task lent (parked task) (check_parked g (task_at s task.id) (stand_after task.made (task_at s task.id))) c.is_worn.result true is lending refl refl (c.is_worn.ensures g s is) (sym c.requires)
    ∙ first-other c.is_worn.result _ c.if-is_worn.false
    ∙ ap (option_map refusal_number) (call-refused g s core task c.args.stand.now (op_of c.in-AsksFor.op) c.holds_op.result (fits_call g (op_of c.in-AsksFor.op)) is h at (ap stand_of c.in-AsksFor.is) (c.holds_op.ensures h.row h.row-is) refl
    ∙ ap (λ b. cond b (cond (fits_call g (op_of c.in-AsksFor.op)) None (Some WrongKind)) (Some NotHeld)) c.if-not-holds_op.true)

pub returns-then-not-fits_call-clause-refused : goal.returns-then-not-fits_call-clause-refused
returns-then-not-fits_call-clause-refused w c = λ g s lent is lending tells at.
    let core = c.args.self.now in
    let task = c.args.task.now.task in
    let h = in-its-hand g s core task is c.requires in
    hand-number g s core task lent (parked task) (check_parked g (task_at s task.id) (stand_after task.made (task_at s task.id))) c.is_worn.result true is lending refl refl (c.is_worn.ensures g s is) (sym c.requires)
    ∙ first-other c.is_worn.result _ c.if-is_worn.false
    ∙ ap (option_map refusal_number) (call-refused g s core task c.args.stand.now (op_of c.in-AsksFor.op) c.holds_op.result c.fits_call.result is h at (ap stand_of c.in-AsksFor.is) (c.holds_op.ensures h.row h.row-is) (c.fits_call.ensures.fits g s is tells)
    ∙ (λ j. cond (c.if-not-holds_op.false j) (cond (c.if-not-fits_call.true j) None (Some WrongKind)) (Some NotHeld)))

pub returns-else-not-fits_call-clause-accepted : goal.returns-else-not-fits_call-clause-accepted
returns-else-not-fits_call-clause-accepted w c = λ g s lent is lending tells at.
    let core = c.args.self.now in
    let task = c.args.task.now.task in
    let h = in-its-hand g s core task is c.requires in
    hand-refusal g s core task lent (parked task) (check_parked g (task_at s task.id) (stand_after task.made (task_at s task.id))) c.is_worn.result true is lending refl refl (c.is_worn.ensures g s is) (sym c.requires)
    ∙ (λ j. cond (c.if-is_worn.false j) (Some WornOut) (call-refused g s core task c.args.stand.now (op_of c.in-AsksFor.op) c.holds_op.result c.fits_call.result is h at (ap stand_of c.in-AsksFor.is) (c.holds_op.ensures h.row h.row-is) (c.fits_call.ensures.fits g s is tells) j))
    ∙ (λ j. cond (c.if-not-holds_op.false j) (cond (c.if-not-fits_call.false j) None (Some WrongKind)) (Some NotHeld))

pub returns-in_default-clause-refused : goal.returns-in_default-clause-refused
returns-in_default-clause-refused w c = λ g s lent is lending tells at.
    let core = c.args.self.now in
    let task = c.args.task.now.task in
    let h = in-its-hand g s core task is c.requires in
    hand-number g s core task lent (parked task) (check_parked g (task_at s task.id) (stand_after task.made (task_at s task.id))) c.is_worn.result true is lending refl refl (c.is_worn.ensures g s is) (sym c.requires)
    ∙ first-other c.is_worn.result _ c.if-is_worn.false
    ∙ ap (option_map refusal_number) (not-called g s core task c.args.stand.now is h at c.in_default.not-AsksFor)
