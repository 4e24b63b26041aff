use Rattle.std.proofs.Common.{◌≡◌, ◌∙◌, Some, refl, ap, subst}
use Rattle.std.proofs.lemmas.Result.{on_ok_weaker}
use Rattle.net_message.specs.declared.message.Message.TheVariants as message
use Rattle.uuid.specs.declared.Uuid.{Uuid}
use Rattle.space_ids.specs.declared.value.Value.{Value}
use Rattle.space_ids.specs.declared.value.Value.TheVariants as values
use Rattle.sp_rules.specs.Events.{Replies}
use Rattle.sp_rules.specs.LivingTasks.{keep}
use Rattle.sp_rules.specs.State.{State, Acked, send}
use Rattle.sp_owner.specs.Owners.{owner_parts}
use Rattle.sp_state.specs.Spaces.{IsSpace}
use Rattle.sp_state.proofs.QuietLemmas.{keep_keeps, parts-quiet, replies-early, send_keeps}
use Rattle.sp_state.proofs.SpaceLemmas.{quiet}
use Rattle.sp_tasks.proofs.LentLemmas.{lent-same, on-any}
use Rattle.sp_state.proofs.space_state.SpaceState.give_found.Goals as goal

pub returns-clause-given : goal.returns-clause-given
returns-clause-given c = on_ok_weaker c.reply.result (λ replied. λ g s is.
    let conn = c.args.conn in
    let number = c.args.number in
    let kept : State = keep g (Acked conn number) (Some c.reference-kept.result) s in
    let frame = message.Returned number 0 (Some c.reference-given.result) in
    let same = send_keeps (parts-quiet g (owner_parts s)) {s = kept} Replies conn frame replies-early (keep_keeps (parts-quiet g (owner_parts s)) {s = s} (Acked conn number) (Some c.reference-kept.result) refl) in
    let now = quiet g s (send Replies conn frame kept) c.args.self.now c.reply.new.self same (replied g kept (c.in_ok-keep.ensures.kept g s is.living)) is in
    let own : (v : Value) → v ≡ values.Ref (record { space = c.args.self.now.id; id = c.args.id; class = c.args.class }) → v ≡ values.Ref (record { space = g.id; id = c.args.id; class = c.args.class }) =
    λ v e. e ∙ ap (λ (own : Uuid). values.Ref (record { space = own; id = c.args.id; class = c.args.class })) is.id in
    let k = own c.reference-kept.result c.reference-kept.ensures in
    let r = own c.reference-given.result c.reference-given.ensures in
    subst (λ (t : State). IsSpace g t (record c.args.self.now { living = c.reply.new.self }))
    (λ j. send Replies conn (message.Returned number 0 (Some (r j))) (keep g (Acked conn number) (Some (k j)) s)) now) c.reply.ensures.sent

pub returns-clause-lent : goal.returns-clause-lent
returns-clause-lent c = on-any c.reply.result (lent-same (c.reply.ensures.tasks ∙ c.keep.ensures.tasks))
