use Rattle.std.proofs.Common.{◌≡◌, Option, refl, sym, ap, subst, ◌∙◌, unwrap_or}
use Rattle.std.proofs.lemmas.Result.{on_ok_weaker}
use Rattle.dgc_list.specs.History.Call.{Clean}
use Rattle.net_message.specs.declared.message.Message.{Message}
use Rattle.net_message.specs.declared.message.Message.TheVariants as message
use Rattle.uuid.specs.declared.Uuid.{Uuid}
use Rattle.sp_rules.specs.Events.{Replies}
use Rattle.sp_rules.specs.Frames.{answer_clean, that_stand}
use Rattle.sp_rules.specs.State.{State, send, tell_owner}
use Rattle.sp_owner.specs.Owners.{owner_parts}
use Rattle.sp_state.specs.Spaces.{IsSpace}
use Rattle.sp_state.specs.declared.space_state.SpaceState.{SpaceState}
use Rattle.sp_state.proofs.CallLemmas.{client-so}
use Rattle.sp_state.proofs.QuietLemmas.{parts-quiet, replies-early, send_keeps}
use Rattle.sp_state.proofs.SpaceLemmas.{living-still, quiet}
use Rattle.sp_tasks.proofs.LentLemmas.{lent-same, on-any}
use Rattle.sp_state.proofs.space_state.SpaceState.answer_clean.Goals as goal

pub returns-clause-got : goal.returns-clause-got
returns-clause-got c = on_ok_weaker c.reply.result (λ replied. λ g s row is on same.
    let client = c.unwrap_or-client.result in
    let told : State = tell_owner (Clean client (that_stand s c.args.ids.now) c.args.sequence c.args.strong) s in
    let frame : Message = message.Cleaned c.args.sequence in
    let x : SpaceState = record c.args.self.now { owner = c.clean.new.self } in
    let living = living-still g (owner_parts told) s c.args.self.now.living is.living in
    let now : IsSpace g told x = record { id = is.id; version = is.version; digest = is.digest; numbers = is.numbers; owner = c.in_ok-clean.ensures g s is.owner; living = living } in
    let sent = quiet g told (send Replies c.args.conn frame told) x c.reply.new.self (send_keeps (parts-quiet g (owner_parts told)) {s = told} Replies c.args.conn frame replies-early refl) (replied g told living) now in
    let who : client ≡ _ = c.unwrap_or-client.ensures ∙ ap (λ (o : Option Uuid). unwrap_or o c.args.self.now.id) (sym same) ∙ ap (λ (own : Uuid). unwrap_or row.peer own) is.id ∙ sym (client-so row.peer g.id) in
    subst (λ (t : State). IsSpace g t (record x { living = c.reply.new.self })) (λ j. send Replies (sym on.number j) (message.Cleaned c.args.sequence) (tell_owner (Clean (who j) (that_stand s c.args.ids.now) c.args.sequence c.args.strong) s)) sent) c.reply.ensures.sent

pub returns-clause-lent : goal.returns-clause-lent
returns-clause-lent c = on-any c.reply.result (lent-same c.reply.ensures.tasks)
