use Rattle.rising_map.proofs.RowLemmas.{sorted-numbers}
use Rattle.rising_map.proofs.map.RisingMap.numbers.Goals as goal

pub returns : goal.returns
returns g c = λ rows a.
    sorted-numbers c.args.self.now.rows.entries rows c.sort_unstable.new.self.items c.keys.ensures.distinct (rw (← c.in_ok-numbers.ensures.keys) c.sort_unstable.ensures.permutation) c.sort_unstable.ensures.sorted a.rises a.found
