use Rattle.rising_map.proofs.RowLemmas.{taken}
use Rattle.rising_map.proofs.map.RisingMap.take.Goals as goal

pub returns-clause-taken : goal.returns-clause-taken
returns-clause-taken g c = λ rows a.
    let p = taken rows c.args.self.now.rows.entries _ c.args.number a.rises a.found (λ q. c.swap_remove.ensures.updates.0 q) in record { rises = p.0; found = p.1 }
