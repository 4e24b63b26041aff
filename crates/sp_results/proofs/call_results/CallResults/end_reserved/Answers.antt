use Rattle.std.proofs.Common.{◌≡◌, ◌+◌, [], append-nil, refl, sym, ap}
use Rattle.sp_results.specs.Ended.{ended_at}
use Rattle.sp_results.specs.Held.{numbers_on}
use Rattle.sp_results.proofs.EndLemmas.{count, end, ended-same, fitting-same}
use Rattle.sp_results.proofs.NumberLemmas.{Pairs}
use Rattle.sp_results.proofs.call_results.CallResults.end_reserved.Goals as goal

pub returns-in-Some : goal.returns-in-Some
returns-in-Some c = λ results a.
    let own : Pairs = c.in-Some.numbers.tickets.entries in
    end c.args.conn c.args.moment results own c.args.self.now _ refl refl c.push_all_reserved.ensures.pushed (λ rows are. c.take.ensures.taken (numbers_on rows) are) a
    (ended-same (c.args.moment + 600000) own (numbers_on a.rows c.args.conn)
    (fitting-same c.in-Some.numbers (numbers_on a.rows c.args.conn) c.push_all_reserved.ensures.once (a.ticketed.waiting.once c.args.conn) (c.in-Some.ensures.tickets (numbers_on a.rows) a.ticketed.waiting)))

pub returns-in_default : goal.returns-in_default
returns-in_default c = λ results a.
    let none : numbers_on a.rows c.args.conn ≡ [] = c.in_default.ensures.tickets (numbers_on a.rows) a.ticketed.waiting in
    end c.args.conn c.args.moment results [] c.args.self.now _ refl refl (sym (append-nil c.args.self.now.orphans.queue.items)) (λ rows are. c.take.ensures.taken (numbers_on rows) are) a
    (λ is. ap (λ (l : Pairs). count is (ended_at (c.args.moment + 600000) l)) (sym none))
