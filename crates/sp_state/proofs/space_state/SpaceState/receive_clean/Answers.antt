use Rattle.std.proofs.Common.{◌≡◌, true, false, length, sym, ap, ◌∙◌}
use Rattle.std.specs.Prelude.{nat_le}
use Rattle.std.proofs.lemmas.Result.{on_ok_weaker}
use Rattle.sp_requests.specs.declared.connection.Connection.{Connection}
use Rattle.sp_rules.specs.Endings.{close}
use Rattle.sp_rules.specs.Frames.{answer_clean, got_clean}
use Rattle.sp_rules.specs.Requests.{most_ids}
use Rattle.sp_state.proofs.FrameLemmas.{clean-fits, clean-strange, closed-at, space-is}
use Rattle.sp_state.proofs.space_state.SpaceState.receive_clean.Goals as goal

pub returns-then-fits-clause-got : goal.returns-then-fits-clause-got
returns-then-fits-clause-got w c = on_ok_weaker c.answer_clean.result (λ now. λ g s row is silent tells on seen.
    let ids = c.args.ids.now in
    let fit : nat_le (length ids) (most_ids row.version) ≡ true = ap (λ (k : Connection). nat_le (length ids) (most_ids k.version)) (sym seen) ∙ (sym c.fits.ensures ∙ c.if-fits.true) in
    space-is g (answer_clean g row c.args.sequence c.args.strong ids s) (got_clean g row c.args.sequence c.args.strong ids s) c.answer_clean.new.self (clean-fits g row c.args.sequence c.args.strong ids s fit)
    (now g s row is on (sym (ap (λ (k : Connection). k.peer) seen)))) c.answer_clean.ensures.got

pub returns-clause-got : goal.returns-clause-got
returns-clause-got w c = on_ok_weaker c.close.result (λ now. λ g s row is silent tells on seen.
    let ids = c.args.ids.now in
    let fit : nat_le (length ids) (most_ids row.version) ≡ false = ap (λ (k : Connection). nat_le (length ids) (most_ids k.version)) (sym seen) ∙ (sym c.fits.ensures ∙ c.if-fits.false) in
    space-is g (close g g.classes.unmarshal row.number s) (got_clean g row c.args.sequence c.args.strong ids s) c.close.new.self (clean-strange g row c.args.sequence c.args.strong ids s fit)
    (closed-at g g.classes.unmarshal c.args.conn s row c.close.new.self on (now g s is silent tells))) c.close.ensures.closed
