use Rattle.std.proofs.Common.{nat_eq, refl, sym, ◌∙◌}
use Rattle.std.specs.Map.{lookup}
use Rattle.std.specs.Cmp.{nat_eq_equiv}
use Rattle.indexmap.proofs.CallerLemmas.{updates-with_value_at}
use Rattle.rising_map.proofs.RowLemmas.{entry-at, none-from, replaced, unreplaced}
use Rattle.rising_map.proofs.map.RisingMap.replace.Goals as goal

pub returns-in_err-index-clause-replaced : goal.returns-in_err-index-clause-replaced
returns-in_err-index-clause-replaced g c = λ rows a.
    let p = unreplaced rows c.args.self.now.rows.entries c.args.number c.args.row a.rises a.found (none-from (lookup (nat_eq c.args.number) c.args.self.now.rows.entries) c.in_err-index.ensures.found) in record { rises = p.0; found = p.1 }

pub returns-clause-replaced : goal.returns-clause-replaced
returns-clause-replaced g c = λ rows a.
    let m = c.args.self.now.rows in
    let there = sym c.in_ok-index.ensures.value ∙ c.index_mut.ensures.value in
    let entry = entry-at c.args.number m.entries c.in_ok-index.index c.index_mut.result.now (sym c.in_ok-index.ensures.index) c.index_mut.ensures.value in
    let p = replaced rows m.entries _ c.args.number c.replace.new.dest a.rises a.found (rw there refl) (λ q. (updates-with_value_at m c.in_ok-index.index c.replace.new.dest nat_eq_equiv c.in_ok-index.ensures.unique c.args.number c.index_mut.result.now entry).0 q) in
    rw (← c.replace.ensures.after) (record { rises = p.0; found = p.1 })
