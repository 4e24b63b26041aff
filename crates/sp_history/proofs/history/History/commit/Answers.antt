use Rattle.std.specs.Arc.{arc_value}
use Rattle.std.proofs.Common.{rules, refl, ◌≡◌, ◌++◌, [], ◌∷◌, sym, ap, ◌∙◌, subst, vec_len}
use Rattle.sp_rules.specs.Books.{OnCommit}
use Rattle.sp_rules.specs.LivingTasks.{op_reply}
use Rattle.sp_rules.specs.Space.{on}
use Rattle.sp_lender.specs.Hands.{committed}
use Rattle.sp_tasks.specs.Behaviours.{op_of, reply_of}
use Rattle.sp_history.specs.Entries.{outputs_in_all}
use Rattle.sp_history.specs.Logs.{entered, start_of}
use Rattle.sp_history.specs.declared.entry.Call.TheVariants as call
use Rattle.sp_history.specs.declared.entry.Entry.{Entry}
use Rattle.sp_history.proofs.BookLemmas.{commit_quiet}
use Rattle.sp_history.proofs.EntryLemmas.{answers_at, logs_more, replays_more, stands_more, state_at, waits_still}
use Rattle.sp_history.proofs.history.History.commit.Goals as goal

pub invariant_of-self-in-Ok : goal.invariant_of-self-in-Ok
invariant_of-self-in-Ok g c =
    let n = g.N.Setup.setting in
    let cut = c.self.inside.past.value in
    let before = c.self.inside.before.value in
    let start = start_of n cut in
    let h = c.self.inside.entries.items in
    let w = outputs_in_all c.self.inside.waiting.items in
    let s = state_at n start h in
    let hand = g.S.Task.InHand.hand c.args.task.now in
    let arc = c.into_both-op.result.0 in
    let e : Entry = record { by = c.args.by; call = call.Commit hand.id hand.made arc c.in-Ok.copy } in
    let items : c.push_reserved.new.self.items ≡ h ++ e ∷ [] = search rules in
    let quiet = waits_still w (answers_at n start h e) (commit_quiet n s hand.id hand.made (op_of (arc_value arc))) in
    let seen : c.get.result.now ≡ arc_value arc = c.get.ensures ∙ sym c.into_both-op.ensures.first in
    let stands = subst (λ o. g.S.Lender.is_space n (on n (committed hand o) s).0 c.commit.new.self) seen (c.in-Ok.ensures.state n s c.self.invariant.0 c.requires) in
    let reply : reply_of c.in-Ok.copy ≡ op_reply n (op_of (arc_value arc)) s = c.in-Ok.ensures.twice ∙ c.in-Ok.ensures.reply n s c.self.invariant.0 c.requires ∙ ap (λ o. op_reply n (op_of o) s) seen in (
      stands_more (λ t. g.S.Lender.is_space n t c.commit.new.self) n start h c.push_reserved.new.self.items e items stands,
      replays_more n start before h c.push_reserved.new.self.items w w e items c.self.invariant.1 reply quiet,
      search rules,
      search rules,
      search rules,
      c.self.invariant.5,
      c.self.invariant.6,
      c.self.invariant.7,
      c.self.invariant.8,
    )

pub returns-in-Ok-clause-entered : goal.returns-in-Ok-clause-entered
returns-in-Ok-clause-entered g c =
    let n = g.N.Setup.setting in
    let cut = c.self.inside.past.value in
    let before = c.self.inside.before.value in
    let start = start_of n cut in
    let h = c.self.inside.entries.items in
    let w = outputs_in_all c.self.inside.waiting.items in
    let s = state_at n start h in
    let hand = g.S.Task.InHand.hand c.args.task.now in
    let arc = c.into_both-op.result.0 in
    let e : Entry = record { by = c.args.by; call = call.Commit hand.id hand.made arc c.in-Ok.copy } in
    let items : c.push_reserved.new.self.items ≡ h ++ e ∷ [] = search rules in
    let quiet = waits_still w (answers_at n start h e) (commit_quiet n s hand.id hand.made (op_of (arc_value arc))) in
    let op = c.into_both-op.ensures.first ∙ sym c.into_both-op.ensures.second in
    let lent = vec_len c.self.inside.in_hand in
    logs_more n cut before h c.push_reserved.new.self.items w w e lent lent c.self.inside.limit items quiet refl
    ∙ (λ j. entered n c.args.by (OnCommit (sym c.id-id.ensures j) (sym c.made-steps.ensures j) (op_of (op j)) (c.in-Ok.ensures.twice j)) (c.self.view_is j))

pub returns-in-Ok-clause-call : goal.returns-in-Ok-clause-call
returns-in-Ok-clause-call g c =
    let n = g.N.Setup.setting in
    let s = state_at n (start_of n c.self.inside.past.value) c.self.inside.entries.items in (
      reply_of c.in-Ok.reply,
      (λ j. OnCommit (c.id-id.ensures j) (c.made-steps.ensures j) (op_of (c.into_both-op.ensures.second j)) (reply_of c.in-Ok.reply)),
      c.in-Ok.ensures.task n s c.self.invariant.0 c.requires,
    )
