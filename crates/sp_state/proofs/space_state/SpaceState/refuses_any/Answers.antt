use Rattle.std.proofs.Common.{sym, ◌∙◌}
use Rattle.sp_rules.specs.Holders.{is_refused}
use Rattle.sp_state.proofs.LoopLemmas.{any-there}
use Rattle.sp_state.proofs.space_state.SpaceState.refuses_any.Goals as goal

pub returns-then-refuses_value : goal.returns-then-refuses_value
returns-then-refuses_value w c = λ g s is tells.
    sym (any-there (is_refused g s) c.args.values.now c.loop-value.value-index c.value-item.result c.loop-value-test.true c.value-item.is (sym (c.refuses_value.ensures g s is tells) ∙ c.if-refuses_value.true))
