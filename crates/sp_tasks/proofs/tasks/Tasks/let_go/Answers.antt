use Rattle.std.proofs.Common.{sym, ◌∙◌}
use Rattle.rising_map.proofs.RowLemmas.{none-from}
use Rattle.sp_tasks.proofs.TableLemmas.{if-some, in_tree, removed-table, row-absent, row-removed, there}
use Rattle.sp_tasks.proofs.tasks.Tasks.let_go.Goals as goal

pub swap_remove-requires : goal.swap_remove-requires
swap_remove-requires c = in_tree _ _ _ _ _ c.in_ok-index.index c.self.invariant c.in_ok-index.ensures.within

pub invariant_of-self : goal.invariant_of-self
invariant_of-self c =
    let m = c.self.inside.rows in
    let at = there c.args.id c.in_ok-index.index m.entries (sym c.in_ok-index.ensures.index) c.in_ok-index.ensures.within in
    let gone = c.swap_remove_index.ensures.entry ∙ at.1 in
    removed-table _ _ _ _ m.entries c.swap_remove_index.new.self.entries c.self.inside.ready c.swap_remove.new.self c.in_ok-index.index (c.args.id, at.0) c.self.invariant at.1
    (if-some c.swap_remove_index.result (c.args.id, at.0) _ c.swap_remove_index.ensures.entries gone) c.swap_remove_index.ensures.unique c.swap_remove_index.ensures.room.0 c.swap_remove.ensures.numbers c.swap_remove.ensures.room

pub returns : goal.returns
returns c =
    let m = c.self.inside.rows in
    let at = there c.args.id c.in_ok-index.index m.entries (sym c.in_ok-index.ensures.index) c.in_ok-index.ensures.within in
    let gone = c.swap_remove_index.ensures.entry ∙ at.1 in
    rw (← c.self.view_is)
    (let e = row-removed c.args.id m.entries c.swap_remove_index.new.self.entries c.self.invariant.distinct c.swap_remove_index.ensures.unique
    (λ q. (if-some c.swap_remove_index.result (c.args.id, at.0) _ c.swap_remove_index.ensures.updates gone).0 q) in λ j. record { made = c.self.inside.made; room = c.self.inside.room; rows = e j })

pub returns-in_err-index : goal.returns-in_err-index
returns-in_err-index c =
    rw (← c.self.view_is)
    (let e = row-absent c.args.id c.self.inside.rows.entries c.self.invariant.distinct (none-from _ c.in_err-index.ensures.found) in λ j. record { made = c.self.inside.made; room = c.self.inside.room; rows = sym e j })
