use Rattle.std.proofs.Common.{rules, arith, ◌≡◌, ◌-◌, ◌++◌, [], ◌∷◌, ap, ◌∙◌, vec_len}
use Rattle.sp_rules.specs.Books.{OnGiveBack}
use Rattle.sp_history.specs.Entries.{outputs_in_all}
use Rattle.sp_history.specs.Logs.{back, entered, start_of}
use Rattle.sp_history.specs.declared.entry.Call.TheVariants as call
use Rattle.sp_history.specs.declared.entry.Entry.{Entry}
use Rattle.sp_history.proofs.BookLemmas.{give_back_quiet}
use Rattle.sp_history.proofs.EntryLemmas.{answers_at, logs_more, replays_more, stands_more, state_at, waits_still}
use Rattle.sp_history.proofs.history.History.give_back.Goals as goal

pub invariant_of-self : goal.invariant_of-self
invariant_of-self g c =
    let n = g.N.Setup.setting in
    let cut = c.self.inside.past.value in
    let before = c.self.inside.before.value in
    let start = start_of n cut in
    let h = c.self.inside.entries.items in
    let w = outputs_in_all c.self.inside.waiting.items in
    let hand = g.S.Task.InHand.hand c.args.task in
    let e : Entry = record { by = c.args.by; call = call.GiveBack hand.id hand.made } in
    let items : c.push_reserved.new.self.items ≡ h ++ e ∷ [] = search rules in
    let quiet = waits_still w (answers_at n start h e) (give_back_quiet n (state_at n start h) hand.id hand.made) in (
      stands_more (λ t. g.S.Lender.is_space n t c.give_back.new.self) n start h c.push_reserved.new.self.items e items (c.in-Ok.ensures.state n (state_at n start h) c.self.invariant.0 c.requires),
      replays_more n start before h c.push_reserved.new.self.items w w e items c.self.invariant.1 tt quiet,
      search rules,
      search rules,
      search rules,
      c.self.invariant.5,
      c.self.invariant.6,
      c.self.invariant.7,
      c.self.invariant.8,
    )

pub returns-in-Ok-clause-entered : goal.returns-in-Ok-clause-entered
returns-in-Ok-clause-entered g c =
    let n = g.N.Setup.setting in
    let cut = c.self.inside.past.value in
    let before = c.self.inside.before.value in
    let start = start_of n cut in
    let h = c.self.inside.entries.items in
    let w = outputs_in_all c.self.inside.waiting.items in
    let hand = g.S.Task.InHand.hand c.args.task in
    let e : Entry = record { by = c.args.by; call = call.GiveBack hand.id hand.made } in
    let items : c.push_reserved.new.self.items ≡ h ++ e ∷ [] = search rules in
    let quiet = waits_still w (answers_at n start h e) (give_back_quiet n (state_at n start h) hand.id hand.made) in
    let fewer : vec_len c.swap_remove.new.self ≡ vec_len c.self.inside.in_hand - 1 = omega (arith, c.swap_remove.ensures.len) in
    logs_more n cut before h c.push_reserved.new.self.items w w e (vec_len c.swap_remove.new.self) (vec_len c.self.inside.in_hand - 1) c.self.inside.limit items quiet fewer
    ∙ ap (λ l. back (entered n c.args.by (OnGiveBack hand.id hand.made) l)) c.self.view_is
