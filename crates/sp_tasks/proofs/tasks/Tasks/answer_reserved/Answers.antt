use Rattle.std.proofs.Common.{◌≡◌, Some, set, refl, sym, ap, ◌∙◌, Option, None, true≢false}
use Rattle.sp_tasks.specs.Behaviours.{reply_of}
use Rattle.sp_tasks.specs.Rows.{answered_row, row_of, TaskRow, is_parked}
use Rattle.rising_map.proofs.RowLemmas.{entry-at, none-from}
use Rattle.sp_tasks.proofs.TableLemmas.{in-view, out-of-view, changed, in_tree, row-changed}
use Rattle.sp_tasks.proofs.LentLemmas.{lent-at}
use Rattle.sp_tasks.proofs.tasks.Tasks.answer_reserved.Goals as goal

pub put-requires : goal.put-requires
put-requires c = in_tree _ _ _ _ _ c.in-Some.index c.self.invariant c.in-Some.ensures.within

pub invariant_of-self : goal.invariant_of-self
invariant_of-self c =
    let m = c.self.inside.rows in
    let id = c.args.id in
    let v = c.index_mut-row.result.now in
    let entry = entry-at id m.entries c.in-Some.index v (sym c.in-Some.ensures.index) c.index_mut-row.ensures.value in
    changed _ _ _ m.entries c.self.inside.ready c.put.new.self id c.in-Some.index v c.answer_reserved.new.self entry
    (c.put.ensures.numbers ∙ ap (λ n. set c.self.inside.ready.numbers c.in-Some.index n) c.ready_id-number.ensures) c.put.ensures.room c.self.invariant

pub returns-clause-answered : goal.returns-clause-answered
returns-clause-answered c =
    let m = c.self.inside.rows in
    let id = c.args.id in
    let v = c.index_mut-row.result.now in
    let entry = entry-at id m.entries c.in-Some.index v (sym c.in-Some.ensures.index) c.index_mut-row.ensures.value in
    let found : row_of id m.entries ≡ Some v = sym c.in-Some.ensures.value ∙ c.index_mut-row.ensures.value in
    rw (← c.self.view_is)
    (let e = row-changed m id c.in-Some.index v c.answer_reserved.new.self (answered_row (reply_of c.args.reply)) c.self.invariant.distinct entry found c.answer_reserved.ensures in λ j. record { made = c.self.inside.made; room = c.self.inside.room; rows = e j })

pub unreachable-requires : goal.unreachable-requires
unreachable-requires c =
    let none = out-of-view c.args.id c.self.inside.rows.entries c.self.invariant.distinct (none-from _ c.in-None.ensures.found) in
    let seen : row_of c.args.id c.args.self.now.rows ≡ None = rw (← c.self.view_is) none in true≢false (sym c.requires.waits ∙ ap (λ (o : Option TaskRow). is_parked o) seen)

pub answer_reserved-requires-clause-waits : goal.answer_reserved-requires-clause-waits
answer_reserved-requires-clause-waits c =
    let m = c.self.inside.rows in
    let v = c.index_mut-row.result.now in
    let found : row_of c.args.id m.entries ≡ Some v = sym c.in-Some.ensures.value ∙ c.index_mut-row.ensures.value in
    let seen : row_of c.args.id c.args.self.now.rows ≡ Some v = rw (← c.self.view_is) (in-view c.args.id m.entries v c.self.invariant.distinct found) in ap (λ (o : Option TaskRow). is_parked o) (sym seen) ∙ c.requires.waits

pub returns-clause-lent : goal.returns-clause-lent
returns-clause-lent c = lent-at c.args.id (answered_row (reply_of c.args.reply)) c.args.self.now _ (λ row. refl) (returns-clause-answered c)
