use Rattle.std.proofs.Common.{sym, ◌∙◌}
use Rattle.dgc_list.proofs.FewLemmas.{absent-at, found-at, stands-at}
use Rattle.dgc_list.proofs.few.Few.find.Goals as goal

pub returns-in-Some : goal.returns-in-Some
returns-in-Some c =
    let client = c.args.client.now in
    let rows = c.self.inside.rows.items in
    let here = stands-at client rows c.in-Some.index (rw (← c.self.view_is) at (sym c.index_of.ensures ∙ c.in-Some.is)) in
    rw (← c.self.view_is) (sym (found-at client rows c.in-Some.index c.index.result.now here c.index.ensures))

pub returns-in-None : goal.returns-in-None
returns-in-None c = sym (absent-at c.args.client.now c.args.self.now (sym c.index_of.ensures ∙ c.in-None.is)).0
