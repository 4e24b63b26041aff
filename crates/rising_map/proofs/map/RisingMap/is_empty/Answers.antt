use Rattle.std.proofs.Common.{◌∙◌}
use Rattle.rising_map.proofs.RowLemmas.{empty-rows, tells}
use Rattle.rising_map.proofs.map.RisingMap.is_empty.Goals as goal

pub returns : goal.returns
returns g c = λ rows a. tells c.is_empty.result _ c.is_empty.ensures ∙ empty-rows rows c.args.self.now.rows.entries a.found
