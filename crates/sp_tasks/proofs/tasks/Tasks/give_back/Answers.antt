use Rattle.std.proofs.Common.{◌≡◌, Some, set, refl, sym, ap, ◌∙◌, Option, None, true≢false}
use Rattle.sp_tasks.specs.Rows.{back_row, row_of, TaskRow, is_in_hand}
use Rattle.rising_map.proofs.RowLemmas.{entry-at, none-from}
use Rattle.sp_tasks.proofs.TableLemmas.{in-view, out-of-view, changed, in_tree, row-changed}
use Rattle.sp_tasks.proofs.LentLemmas.{no-more-at}
use Rattle.sp_tasks.proofs.tasks.Tasks.give_back.Goals as goal

pub put-requires : goal.put-requires
put-requires c = in_tree _ _ _ _ _ c.in-Some.index c.self.invariant c.in-Some.ensures.within

pub invariant_of-self : goal.invariant_of-self
invariant_of-self c =
    let m = c.self.inside.rows in
    let id = c.id-id.result in
    let v = c.index_mut-row.result.now in
    let entry = entry-at id m.entries c.in-Some.index v (sym c.in-Some.ensures.index) c.index_mut-row.ensures.value in
    changed _ _ _ m.entries c.self.inside.ready c.put.new.self id c.in-Some.index v c.give_back.new.self entry
    (c.put.ensures.numbers ∙ ap (λ n. set c.self.inside.ready.numbers c.in-Some.index n) c.ready_id-number.ensures) c.put.ensures.room c.self.invariant

pub returns-clause-back : goal.returns-clause-back
returns-clause-back c =
    let m = c.self.inside.rows in
    let id = c.id-id.result in
    let v = c.index_mut-row.result.now in
    let entry = entry-at id m.entries c.in-Some.index v (sym c.in-Some.ensures.index) c.index_mut-row.ensures.value in
    let found : row_of id m.entries ≡ Some v = sym c.in-Some.ensures.value ∙ c.index_mut-row.ensures.value in
    rw (← c.self.view_is, ← c.id-id.ensures)
    (let e = row-changed m id c.in-Some.index v c.give_back.new.self (back_row c.args.task.made) c.self.invariant.distinct entry found c.give_back.ensures in λ j. record { made = c.self.inside.made; room = c.self.inside.room; rows = e j })

pub unreachable-requires : goal.unreachable-requires
unreachable-requires c =
    let none = out-of-view c.id-id.result c.self.inside.rows.entries c.self.invariant.distinct (none-from _ c.in-None.ensures.found) in
    let seen : row_of c.args.task.id c.args.self.now.rows ≡ None = rw (← c.self.view_is, ← c.id-id.ensures) none in true≢false (sym c.requires ∙ ap (λ (o : Option TaskRow). is_in_hand o c.args.task) seen)

pub give_back-requires : goal.give_back-requires
give_back-requires c =
    let m = c.self.inside.rows in
    let v = c.index_mut-row.result.now in
    let found : row_of c.id-id.result m.entries ≡ Some v = sym c.in-Some.ensures.value ∙ c.index_mut-row.ensures.value in
    let seen : row_of c.args.task.id c.args.self.now.rows ≡ Some v = rw (← c.self.view_is, ← c.id-id.ensures) (in-view c.id-id.result m.entries v c.self.invariant.distinct found) in ap (λ (o : Option TaskRow). is_in_hand o c.args.task) (sym seen) ∙ c.requires

pub returns-clause-lent : goal.returns-clause-lent
returns-clause-lent c = no-more-at c.args.task.id (back_row c.args.task.made) c.args.self.now _ (λ row. refl) (returns-clause-back c)
