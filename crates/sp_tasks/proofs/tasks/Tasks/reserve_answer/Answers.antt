use Rattle.std.proofs.Common.{◌≡◌, Some, refl, sym, ap, ◌∙◌, Option, None, true≢false}
use Rattle.sp_tasks.specs.Rows.{TaskRow, roomy_row, row_of, is_in_hand}
use Rattle.sp_tasks.specs.Tables.{ready_number}
use Rattle.rising_map.proofs.RowLemmas.{entry-at, none-from}
use Rattle.sp_tasks.proofs.RowLemmas.{on-err, on-ok}
use Rattle.sp_tasks.proofs.TableLemmas.{out-of-view, either-way, kept, row-changed, row-kept}
use Rattle.sp_tasks.proofs.LentLemmas.{lent-at}
use Rattle.sp_tasks.proofs.tasks.Tasks.reserve_answer.Goals as goal

pub invariant_of-self : goal.invariant_of-self
invariant_of-self c =
    let m = c.self.inside.rows in
    let id = c.id.result in
    let v = c.index_mut.result.now in
    let entry = entry-at id m.entries c.in-Some.index v (sym c.in-Some.ensures.index) c.index_mut.ensures.value in
    kept _ _ _ m.entries c.self.inside.ready id c.in-Some.index v c.reserve_answer.new.self entry
    (either-way c.reserve_answer.result _ _ _ c.reserve_answer.ensures.row c.reserve_answer.ensures.err (λ e. ap (λ (x : TaskRow). ready_number (id, x)) e) (λ e. ap (λ (x : TaskRow). ready_number (id, x)) e)) c.self.invariant

pub returns-clause-rows : goal.returns-clause-rows
returns-clause-rows c =
    let m = c.self.inside.rows in
    let id = c.id.result in
    let v = c.index_mut.result.now in
    let entry = entry-at id m.entries c.in-Some.index v (sym c.in-Some.ensures.index) c.index_mut.ensures.value in
    let found : row_of id m.entries ≡ Some v = sym c.in-Some.ensures.value ∙ c.index_mut.ensures.value in
    on-ok c.reserve_answer.result _ _ c.reserve_answer.ensures.row (λ same. rw (← c.self.view_is, ← c.id.ensures)
    (let e = row-changed m id c.in-Some.index v c.reserve_answer.new.self roomy_row c.self.invariant.distinct entry found same in λ j. record { made = c.self.inside.made; room = c.self.inside.room; rows = e j }))

pub returns-clause-err : goal.returns-clause-err
returns-clause-err c =
    let m = c.self.inside.rows in
    let id = c.id.result in
    let v = c.index_mut.result.now in
    let entry = entry-at id m.entries c.in-Some.index v (sym c.in-Some.ensures.index) c.index_mut.ensures.value in
    let found : row_of id m.entries ≡ Some v = sym c.in-Some.ensures.value ∙ c.index_mut.ensures.value in
    on-err c.reserve_answer.result _ _ c.reserve_answer.ensures.err (λ same.
    (let e = row-kept m id c.in-Some.index v c.reserve_answer.new.self c.self.invariant.distinct entry found same in λ j. record { made = c.self.inside.made; room = c.self.inside.room; rows = e j }) ∙ c.self.view_is)

pub unreachable-requires : goal.unreachable-requires
unreachable-requires c =
    let none = out-of-view c.id.result c.self.inside.rows.entries c.self.invariant.distinct (none-from _ c.in-None.ensures.found) in
    let seen : row_of c.args.task.now.id c.args.self.now.rows ≡ None = rw (← c.self.view_is, ← c.id.ensures) none in true≢false (sym c.requires ∙ ap (λ (o : Option TaskRow). is_in_hand o c.args.task.now) seen)

pub returns-clause-lent : goal.returns-clause-lent
returns-clause-lent c = on-ok c.reserve_answer.result _ _ (returns-clause-rows c) (λ is. lent-at c.args.task.now.id roomy_row c.args.self.now _ (λ row. refl) is)
