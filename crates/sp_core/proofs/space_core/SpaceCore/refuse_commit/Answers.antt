use Rattle.std.proofs.Common.{cond, None, Some, sym, ap, ◌∙◌}
use Rattle.std.specs.Prelude.{◌&&◌}
use Rattle.sp_rules.specs.Refusals.{fits_store}
use Rattle.sp_tasks.specs.Behaviours.{op_of}
use Rattle.sp_tasks.proofs.SameLemmas.{and-left}
use Rattle.sp_state.proofs.LetInLemmas.{not-worn}
use Rattle.sp_core.proofs.HandLemmas.{first-other, first-worn, in-its-hand, op-holds, op-stands}
use Rattle.sp_core.proofs.OpLemmas.{commit-number, unheld}
use Rattle.sp_core.proofs.space_core.SpaceCore.refuse_commit.Goals as goal

pub returns-then-is_worn-clause-refused : goal.returns-then-is_worn-clause-refused
returns-then-is_worn-clause-refused w c = λ g s lent is lending tells at.
    commit-number g s c.args.self.now c.args.task.now.task lent (op_of c.args.op.now) c.is_worn.result is lending (c.is_worn.ensures g s is) c.requires
    ∙ first-worn c.is_worn.result _ c.if-is_worn.true

pub returns-then-not-holds_op-clause-refused : goal.returns-then-not-holds_op-clause-refused
returns-then-not-holds_op-clause-refused w c = λ g s lent is lending tells at.
    let core = c.args.self.now in
    let task = c.args.task.now.task in
    let op = op_of c.args.op.now in
    let h = in-its-hand g s core task is c.requires in
    let held = op-holds g s core task op c.holds_op.result is h (c.holds_op.ensures h.row h.row-is) ∙ c.if-not-holds_op.true in
    commit-number g s core task lent op c.is_worn.result is lending (c.is_worn.ensures g s is) c.requires
    ∙ first-other c.is_worn.result _ c.if-is_worn.false
    ∙ unheld _ _ held

pub returns-then-not-fits_at-clause-refused : goal.returns-then-not-fits_at-clause-refused
returns-then-not-fits_at-clause-refused w c = λ g s lent is lending tells at.
    let core = c.args.self.now in
    let task = c.args.task.now.task in
    let op = op_of c.args.op.now in
    let h = in-its-hand g s core task is c.requires in
    let held = op-holds g s core task op c.holds_op.result is h (c.holds_op.ensures h.row h.row-is) ∙ c.if-not-holds_op.false in
    let fit = ap (λ b. fits_store g s op && b) (op-stands g s core task c.args.stand.now op is h at) ∙ sym (c.fits_at.ensures g s is tells) ∙ c.if-not-fits_at.true in
    commit-number g s core task lent op c.is_worn.result is lending (c.is_worn.ensures g s is) c.requires
    ∙ first-other c.is_worn.result _ c.if-is_worn.false
    ∙ (λ j. cond (held j) (cond (fit j) None (Some 93)) (Some 92))

pub returns-clause-may : goal.returns-clause-may
returns-clause-may w c = λ none g s is tells. record {
  fits = and-left _ _ (sym (c.fits_at.ensures g s is tells) ∙ c.if-not-fits_at.false);
  numbers = (not-worn s (sym (c.is_worn.ensures g s is) ∙ c.if-is_worn.false)).objects;
}

pub returns-clause-refused : goal.returns-clause-refused
returns-clause-refused w c = λ g s lent is lending tells at.
    let core = c.args.self.now in
    let task = c.args.task.now.task in
    let op = op_of c.args.op.now in
    let h = in-its-hand g s core task is c.requires in
    let held = op-holds g s core task op c.holds_op.result is h (c.holds_op.ensures h.row h.row-is) ∙ c.if-not-holds_op.false in
    let fit = ap (λ b. fits_store g s op && b) (op-stands g s core task c.args.stand.now op is h at) ∙ sym (c.fits_at.ensures g s is tells) ∙ c.if-not-fits_at.false in
    commit-number g s core task lent op c.is_worn.result is lending (c.is_worn.ensures g s is) c.requires
    ∙ first-other c.is_worn.result _ c.if-is_worn.false
    ∙ (λ j. cond (held j) (cond (fit j) None (Some 93)) (Some 92))
