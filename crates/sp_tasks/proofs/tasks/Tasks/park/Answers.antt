use Rattle.std.proofs.Common.{◌≡◌, Some, set, refl, sym, ap, ◌∙◌, Option, None, true≢false}
use Rattle.sp_tasks.specs.Rows.{TaskRow, parked_row, row_of, is_in_hand, has_room}
use Rattle.sp_tasks.specs.Tables.{ready_number}
use Rattle.rising_map.proofs.RowLemmas.{entry-at, none-from}
use Rattle.sp_tasks.proofs.TableLemmas.{in-view, out-of-view, changed, in_tree, row-changed}
use Rattle.sp_tasks.proofs.LentLemmas.{no-more-at}
use Rattle.sp_tasks.proofs.tasks.Tasks.park.Goals as goal

pub put-requires : goal.put-requires
put-requires c = in_tree _ _ _ _ _ c.in-Some.index c.self.invariant c.in-Some.ensures.within

pub invariant_of-self : goal.invariant_of-self
invariant_of-self c =
    let m = c.self.inside.rows in
    let id = c.id.result in
    let v = c.index_mut.result.now in
    let entry = entry-at id m.entries c.in-Some.index v (sym c.in-Some.ensures.index) c.index_mut.ensures.value in
    changed _ _ _ m.entries c.self.inside.ready c.put.new.self id c.in-Some.index v c.park.new.self entry
    (c.put.ensures.numbers ∙ ap (λ n. set c.self.inside.ready.numbers c.in-Some.index n) (sym (ap (λ (x : TaskRow). ready_number (id, x)) c.park.ensures))) c.put.ensures.room c.self.invariant

pub returns-clause-parked : goal.returns-clause-parked
returns-clause-parked c =
    let m = c.self.inside.rows in
    let id = c.id.result in
    let v = c.index_mut.result.now in
    let entry = entry-at id m.entries c.in-Some.index v (sym c.in-Some.ensures.index) c.index_mut.ensures.value in
    let found : row_of id m.entries ≡ Some v = sym c.in-Some.ensures.value ∙ c.index_mut.ensures.value in
    rw (← c.self.view_is, ← c.id.ensures)
    (let e = row-changed m id c.in-Some.index v c.park.new.self (parked_row c.args.task.made) c.self.invariant.distinct entry found c.park.ensures in λ j. record { made = c.self.inside.made; room = c.self.inside.room; rows = e j })

pub unreachable-requires : goal.unreachable-requires
unreachable-requires c =
    let none = out-of-view c.id.result c.self.inside.rows.entries c.self.invariant.distinct (none-from _ c.in-None.ensures.found) in
    let seen : row_of c.args.task.id c.args.self.now.rows ≡ None = rw (← c.self.view_is, ← c.id.ensures) none in true≢false (sym c.requires.lent ∙ ap (λ (o : Option TaskRow). is_in_hand o c.args.task) seen)

pub park-requires-clause-lent : goal.park-requires-clause-lent
park-requires-clause-lent c =
    let m = c.self.inside.rows in
    let v = c.index_mut.result.now in
    let found : row_of c.id.result m.entries ≡ Some v = sym c.in-Some.ensures.value ∙ c.index_mut.ensures.value in
    let seen : row_of c.args.task.id c.args.self.now.rows ≡ Some v = rw (← c.self.view_is, ← c.id.ensures) (in-view c.id.result m.entries v c.self.invariant.distinct found) in ap (λ (o : Option TaskRow). is_in_hand o c.args.task) (sym seen) ∙ c.requires.lent

pub park-requires-clause-row : goal.park-requires-clause-row
park-requires-clause-row c =
    let m = c.self.inside.rows in
    let v = c.index_mut.result.now in
    let found : row_of c.id.result m.entries ≡ Some v = sym c.in-Some.ensures.value ∙ c.index_mut.ensures.value in
    let seen : row_of c.args.task.id c.args.self.now.rows ≡ Some v = rw (← c.self.view_is, ← c.id.ensures) (in-view c.id.result m.entries v c.self.invariant.distinct found) in ap (λ (o : Option TaskRow). has_room o) (sym seen) ∙ c.requires.row

pub returns-clause-lent : goal.returns-clause-lent
returns-clause-lent c = no-more-at c.args.task.id (parked_row c.args.task.made) c.args.self.now _ (λ row. refl) (returns-clause-parked c)
