use Rattle.std.proofs.Common.{◌≡◌, ◌+◌, ◌-◌, None, nat_eq, sym, ap, ◌∙◌, arith}
use Rattle.indexmap.specs.IndexMap.{spare}
use Rattle.indexmap.proofs.CallerLemmas.{insert_entry-new}
use Rattle.sp_tasks.specs.Rows.{TaskRow, is_ready, row_of}
use Rattle.sp_tasks.proofs.RowLemmas.{above}
use Rattle.sp_tasks.proofs.TableLemmas.{row-started, started-table}
use Rattle.sp_tasks.proofs.LentLemmas.{lent-started}
use Rattle.sp_tasks.proofs.tasks.Tasks.start_reserved.Goals as goal

pub invariant_of-self : goal.invariant_of-self
invariant_of-self c =
    let m = c.self.inside.rows in
    let is = c.self.invariant in
    let made = c.self.inside.made in
    let none : row_of (made + 1) m.entries ≡ None = above (made + 1) made m.entries (omega arith) is.below in
    started-table made c.self.inside.room (spare m) (spare c.insert.new.self) c.into_row.result m.entries c.insert.new.self.entries c.self.inside.ready c.push_reserved.new.self is
    (rw (← c.self.view_is) at c.requires.last) (rw (← c.self.view_is) at c.requires.room) c.into_row.ensures.ready (c.in-Ok.ensures.entries ∙ insert_entry-new nat_eq m (made + 1) c.into_row.result none)
    c.in-Ok.ensures.spare c.push_reserved.ensures.numbers c.push_reserved.ensures.room

pub returns-clause-started : goal.returns-clause-started
returns-clause-started c =
    let m = c.self.inside.rows in
    let is = c.self.invariant in
    let made = c.self.inside.made in
    let none : row_of (made + 1) m.entries ≡ None = above (made + 1) made m.entries (omega arith) is.below in
    rw (← c.self.view_is, ← c.into_row.ensures.row)
    (let e = row-started made c.into_row.result m.entries c.insert.new.self.entries is.distinct is.below (c.in-Ok.ensures.entries ∙ insert_entry-new nat_eq m (made + 1) c.into_row.result none) (λ q. c.in-Ok.ensures.updates.0 q) in
    λ j. record { made = made + 1; room = c.self.inside.room - 1; rows = e j })

pub returns-clause-lent : goal.returns-clause-lent
returns-clause-lent c =
    lent-started c.args.new c.args.self.now _ (ap (λ (row : TaskRow). is_ready row) (sym c.into_row.ensures.row) ∙ c.into_row.ensures.ready) (returns-clause-started c)
