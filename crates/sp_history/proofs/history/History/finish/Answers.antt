use Rattle.std.proofs.Common.{rules, arith, ◌≡◌, ◌-◌, ◌++◌, [], ◌∷◌, ap, ◌∙◌, vec_len}
use Rattle.sp_rules.specs.Books.{OnFinish}
use Rattle.sp_history.specs.Books.{told}
use Rattle.sp_history.specs.Entries.{outputs_in_all}
use Rattle.sp_history.specs.Logs.{back, entered, start_of}
use Rattle.sp_history.specs.declared.entry.Call.TheVariants as call
use Rattle.sp_history.specs.declared.entry.Entry.{Entry}
use Rattle.sp_history.proofs.EntryLemmas.{answers_at, logs_more, replays_more, stands_more, state_at, waits_more}
use Rattle.sp_history.proofs.history.History.finish.Goals as goal

pub invariant_of-self : goal.invariant_of-self
invariant_of-self g c =
    let n = g.N.Setup.setting in
    let cut = c.self.inside.past.value in
    let before = c.self.inside.before.value in
    let start = start_of n cut in
    let h = c.self.inside.entries.items in
    let w = outputs_in_all c.self.inside.waiting.items in
    let s = state_at n start h in
    let hand = g.S.Task.InHand.hand c.args.task in
    let e : Entry = record { by = c.args.by; call = call.Finish hand.id hand.made } in
    let items : c.push_reserved.new.self.items ≡ h ++ e ∷ [] = search rules in
    let pushed : c.push_reserved-in-Ok.new.self.items ≡ c.self.inside.waiting.items ++ c.without_ready-batch.result ∷ [] = search rules in
    let waits = waits_more (answers_at n start h e) c.self.inside.waiting.items c.push_reserved-in-Ok.new.self.items c.without_ready-batch.result pushed (c.without_ready-batch.ensures ∙ ap told (c.in-Ok.ensures.outputs n s c.self.invariant.0 c.requires)) in (
      stands_more (λ t. g.S.Lender.is_space n t c.finish.new.self) n start h c.push_reserved.new.self.items e items (c.in-Ok.ensures.state n s c.self.invariant.0 c.requires),
      replays_more n start before h c.push_reserved.new.self.items w (outputs_in_all c.push_reserved-in-Ok.new.self.items) e items c.self.invariant.1 tt waits,
      search rules,
      search rules,
      search rules,
      c.self.invariant.5,
      c.self.invariant.6,
      c.self.invariant.7,
      c.self.invariant.8,
    )

pub returns-in-Ok-clause-entered : goal.returns-in-Ok-clause-entered
returns-in-Ok-clause-entered g c =
    let n = g.N.Setup.setting in
    let cut = c.self.inside.past.value in
    let before = c.self.inside.before.value in
    let start = start_of n cut in
    let h = c.self.inside.entries.items in
    let w = outputs_in_all c.self.inside.waiting.items in
    let s = state_at n start h in
    let hand = g.S.Task.InHand.hand c.args.task in
    let e : Entry = record { by = c.args.by; call = call.Finish hand.id hand.made } in
    let items : c.push_reserved.new.self.items ≡ h ++ e ∷ [] = search rules in
    let pushed : c.push_reserved-in-Ok.new.self.items ≡ c.self.inside.waiting.items ++ c.without_ready-batch.result ∷ [] = search rules in
    let waits = waits_more (answers_at n start h e) c.self.inside.waiting.items c.push_reserved-in-Ok.new.self.items c.without_ready-batch.result pushed (c.without_ready-batch.ensures ∙ ap told (c.in-Ok.ensures.outputs n s c.self.invariant.0 c.requires)) in
    let fewer : vec_len c.swap_remove.new.self ≡ vec_len c.self.inside.in_hand - 1 = omega (arith, c.swap_remove.ensures.len) in
    logs_more n cut before h c.push_reserved.new.self.items w (outputs_in_all c.push_reserved-in-Ok.new.self.items) e (vec_len c.swap_remove.new.self) (vec_len c.self.inside.in_hand - 1) c.self.inside.limit items waits fewer
    ∙ ap (λ l. back (entered n c.args.by (OnFinish hand.id hand.made) l)) c.self.view_is
