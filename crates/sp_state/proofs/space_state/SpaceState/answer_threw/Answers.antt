use Rattle.std.proofs.Common.{refl, subst}
use Rattle.std.proofs.lemmas.Result.{on_ok_weaker}
use Rattle.space_ids.specs.declared.ids.ClassId.{ClassId}
use Rattle.sp_rules.specs.ParkedFrames.{answer_threw}
use Rattle.sp_owner.specs.Owners.{owner_parts}
use Rattle.sp_state.specs.Spaces.{IsSpace}
use Rattle.sp_state.proofs.QuietLemmas.{answer_threw_keeps, parts-quiet}
use Rattle.sp_state.proofs.SpaceLemmas.{quiet}
use Rattle.sp_tasks.proofs.LentLemmas.{lent-same, on-any}
use Rattle.sp_state.proofs.space_state.SpaceState.answer_threw.Goals as goal

pub returns-clause-answered : goal.returns-clause-answered
returns-clause-answered w c = on_ok_weaker c.reply.result (λ replied. λ g s is tells.
    let conn = c.args.conn in
    let number = c.args.number in
    let now = quiet g s (answer_threw conn number c.thrown-class.result s) c.args.self.now c.reply.new.self
    (answer_threw_keeps (parts-quiet g (owner_parts s)) {s = s} conn number c.thrown-class.result refl) (replied g s is.living) is in
    subst (λ (k : ClassId). IsSpace g (answer_threw conn number k s) (record c.args.self.now { living = c.reply.new.self })) (c.thrown-class.ensures g.classes tells) now) c.reply.ensures.sent

pub returns-clause-lent : goal.returns-clause-lent
returns-clause-lent w c = on-any c.reply.result (lent-same c.reply.ensures.tasks)
