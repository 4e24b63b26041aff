use Rattle.std.proofs.Common.{◌≡◌, None, Some, set, sym, ap, ◌∙◌}
use Rattle.sp_tasks.specs.Rows.{TaskRow, hand_of, lent_row, row_of}
use Rattle.sp_tasks.specs.Tables.{ready_number}
use Rattle.rising_map.proofs.RowLemmas.{entry-at, none-from}
use Rattle.sp_tasks.proofs.OrderLemmas.{lookup-by}
use Rattle.sp_tasks.proofs.RowLemmas.{unwritten}
use Rattle.sp_tasks.proofs.TableLemmas.{changed, lent-number, in_tree, row-changed}
use Rattle.sp_tasks.proofs.LentLemmas.{lend-none, lend-too}
use Rattle.sp_tasks.proofs.tasks.Tasks.lend.Goals as goal

pub put-requires : goal.put-requires
put-requires c = in_tree _ _ _ _ _ c.in_ok-index.index c.self.invariant c.in_ok-index.ensures.within

pub invariant_of-self : goal.invariant_of-self
invariant_of-self c =
    let m = c.self.inside.rows in
    let id = c.args.id in
    let v = c.index_mut.result.now in
    let entry = entry-at id m.entries c.in_ok-index.index v (sym c.in_ok-index.ensures.index) c.index_mut.ensures.value in
    changed _ _ _ m.entries c.self.inside.ready c.put.new.self id c.in_ok-index.index v c.lend-task.new.self entry
    (c.put.ensures.numbers ∙ ap (λ n. set c.self.inside.ready.numbers c.in_ok-index.index n) (sym (ap (λ (x : TaskRow). ready_number (id, x)) c.lend-task.ensures.row ∙ lent-number id v))) c.put.ensures.room c.self.invariant

pub returns-clause-task : goal.returns-clause-task
returns-clause-task c =
    let m = c.self.inside.rows in
    let id = c.args.id in
    let v = c.index_mut.result.now in
    let found : row_of id m.entries ≡ Some v = sym c.in_ok-index.ensures.value ∙ c.index_mut.ensures.value in
    rw (← c.self.view_is) (c.lend-task.ensures.task ∙ sym (ap (hand_of id) (lookup-by id m.entries c.self.invariant.distinct ∙ found)))

pub returns-clause-rows : goal.returns-clause-rows
returns-clause-rows c =
    let m = c.self.inside.rows in
    let id = c.args.id in
    let v = c.index_mut.result.now in
    let entry = entry-at id m.entries c.in_ok-index.index v (sym c.in_ok-index.ensures.index) c.index_mut.ensures.value in
    let found : row_of id m.entries ≡ Some v = sym c.in_ok-index.ensures.value ∙ c.index_mut.ensures.value in
    rw (← c.self.view_is) (let e = row-changed m id c.in_ok-index.index v c.lend-task.new.self lent_row c.self.invariant.distinct entry found c.lend-task.ensures.row in λ j. record { made = c.self.inside.made; room = c.self.inside.room; rows = e j })

pub returns-in_err-index-clause-task : goal.returns-in_err-index-clause-task
returns-in_err-index-clause-task c =
    let m = c.self.inside.rows in
    let id = c.args.id in
    let none : row_of id m.entries ≡ None = none-from (row_of id m.entries) c.in_err-index.ensures.found in
    rw (c.from_residual.ensures, ← c.self.view_is) (sym (ap (hand_of id) (lookup-by id m.entries c.self.invariant.distinct ∙ none)))

pub returns-in_err-index-clause-rows : goal.returns-in_err-index-clause-rows
returns-in_err-index-clause-rows c =
    let m = c.self.inside.rows in
    let id = c.args.id in
    let none : row_of id m.entries ≡ None = none-from (row_of id m.entries) c.in_err-index.ensures.found in
    rw (← c.self.view_is) (let e = unwritten id lent_row _ (lookup-by id m.entries c.self.invariant.distinct ∙ none) in λ j. record { made = c.self.inside.made; room = c.self.inside.room; rows = sym e j })

pub returns-clause-lent : goal.returns-clause-lent
returns-clause-lent c = lend-too c.args.id c.args.self.now _ c.lend-task.result (returns-clause-task c) (returns-clause-rows c)

pub returns-clause-unlent : goal.returns-clause-unlent
returns-clause-unlent c = lend-none c.args.id c.args.self.now _ c.lend-task.result (returns-clause-task c) (returns-clause-rows c)

pub returns-in_err-index-clause-lent : goal.returns-in_err-index-clause-lent
returns-in_err-index-clause-lent c = lend-too c.args.id c.args.self.now _ c.from_residual.result (returns-in_err-index-clause-task c) (returns-in_err-index-clause-rows c)

pub returns-in_err-index-clause-unlent : goal.returns-in_err-index-clause-unlent
returns-in_err-index-clause-unlent c = lend-none c.args.id c.args.self.now _ c.from_residual.result (returns-in_err-index-clause-task c) (returns-in_err-index-clause-rows c)
