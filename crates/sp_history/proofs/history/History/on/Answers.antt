use Rattle.std.specs.Arc.{arc_value}
use Rattle.std.proofs.Common.{rules, refl, ◌≡◌, ◌++◌, [], ◌∷◌, map, sym, ap, ◌∙◌, subst, vec_len}
use Rattle.sp_outputs.specs.Notes.{output_of}
use Rattle.sp_rules.specs.Books.{OnEvent}
use Rattle.sp_rules.specs.Space.{on}
use Rattle.sp_history.specs.Books.{told}
use Rattle.sp_history.specs.Entries.{event_of_input, outputs_in_all}
use Rattle.sp_history.specs.Logs.{entered, start_of}
use Rattle.sp_history.specs.declared.entry.Call.TheVariants as call
use Rattle.sp_history.specs.declared.entry.Entry.{Entry}
use Rattle.sp_history.proofs.EntryLemmas.{answers_at, logs_more, replays_more, stands_more, state_at, waits_more}
use Rattle.sp_history.proofs.history.History.on.Goals as goal

pub invariant_of-self-in-Ok-happen : goal.invariant_of-self-in-Ok-happen
invariant_of-self-in-Ok-happen g c =
    let n = g.N.Setup.setting in
    let cut = c.self.inside.past.value in
    let before = c.self.inside.before.value in
    let start = start_of n cut in
    let h = c.self.inside.entries.items in
    let w = outputs_in_all c.self.inside.waiting.items in
    let s = state_at n start h in
    let arc = c.into_both-input.result.0 in
    let e : Entry = record { by = c.args.by; call = call.On arc } in
    let items : c.push_reserved.new.self.items ≡ h ++ e ∷ [] = search rules in
    let pushed : c.push_reserved-in-Ok-happen.new.self.items ≡ c.self.inside.waiting.items ++ c.without_ready-batch.result ∷ [] = search rules in
    let seen : c.get.result.now ≡ arc_value arc = c.get.ensures ∙ sym c.into_both-input.ensures.first in
    let outs = subst (λ i. map output_of c.in-Ok-happen.outputs.items ≡ (on n (event_of_input i) s).1) seen (c.in-Ok-happen.ensures.outputs n s c.self.invariant.0) in
    let waits = waits_more (answers_at n start h e) c.self.inside.waiting.items c.push_reserved-in-Ok-happen.new.self.items c.without_ready-batch.result pushed (c.without_ready-batch.ensures ∙ ap told outs) in
    let stands = subst (λ i. g.S.Lender.is_space n (on n (event_of_input i) s).0 c.happen.new.space) seen (c.in-Ok-happen.ensures.state n s c.self.invariant.0) in (
      stands_more (λ t. g.S.Lender.is_space n t c.happen.new.space) n start h c.push_reserved.new.self.items e items stands,
      replays_more n start before h c.push_reserved.new.self.items w (outputs_in_all c.push_reserved-in-Ok-happen.new.self.items) e items c.self.invariant.1 tt waits,
      search rules,
      search rules,
      search rules,
      c.self.invariant.5,
      c.self.invariant.6,
      c.self.invariant.7,
      c.self.invariant.8,
    )

pub returns-in-Ok-happen-clause-entered : goal.returns-in-Ok-happen-clause-entered
returns-in-Ok-happen-clause-entered g c =
    let n = g.N.Setup.setting in
    let cut = c.self.inside.past.value in
    let before = c.self.inside.before.value in
    let start = start_of n cut in
    let h = c.self.inside.entries.items in
    let w = outputs_in_all c.self.inside.waiting.items in
    let s = state_at n start h in
    let arc = c.into_both-input.result.0 in
    let e : Entry = record { by = c.args.by; call = call.On arc } in
    let items : c.push_reserved.new.self.items ≡ h ++ e ∷ [] = search rules in
    let pushed : c.push_reserved-in-Ok-happen.new.self.items ≡ c.self.inside.waiting.items ++ c.without_ready-batch.result ∷ [] = search rules in
    let seen : c.get.result.now ≡ arc_value arc = c.get.ensures ∙ sym c.into_both-input.ensures.first in
    let outs = subst (λ i. map output_of c.in-Ok-happen.outputs.items ≡ (on n (event_of_input i) s).1) seen (c.in-Ok-happen.ensures.outputs n s c.self.invariant.0) in
    let waits = waits_more (answers_at n start h e) c.self.inside.waiting.items c.push_reserved-in-Ok-happen.new.self.items c.without_ready-batch.result pushed (c.without_ready-batch.ensures ∙ ap told outs) in
    let lent = vec_len c.self.inside.in_hand in
    let input = c.into_both-input.ensures.first ∙ c.in-Ok.ensures in
    logs_more n cut before h c.push_reserved.new.self.items w (outputs_in_all c.push_reserved-in-Ok-happen.new.self.items) e lent lent c.self.inside.limit items waits refl
    ∙ (λ j. entered n c.args.by (OnEvent (event_of_input (input j))) (c.self.view_is j))
