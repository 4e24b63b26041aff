use Rattle.rising_map.proofs.RowLemmas.{pushed}
use Rattle.rising_map.proofs.map.RisingMap.push_reserved.Goals as goal

pub returns-clause-pushed : goal.returns-clause-pushed
returns-clause-pushed g c = λ rows a below.
    let p = pushed rows c.args.self.now.rows.entries _ c.args.number c.args.row a.rises a.found below (λ q. c.in-Ok.ensures.updates.0 q) in record { rises = p.0; found = p.1 }
