use Rattle.std.proofs.Common.{rules, ◌∙◌, subst}
use Rattle.std.specs.Prelude.{IfSome}
use Rattle.crossbeam_queue.specs.Passes.{view}
use Rattle.sp_ready.specs.Notices.{Took}
use Rattle.sp_book.specs.Passes.{Seen}
use Rattle.sp_book.proofs.SeatLemmas.{keeps}
use Rattle.sp_book.proofs.book.Book.next.Goals as goal

pub invariant_of-pass : goal.invariant_of-pass
invariant_of-pass g c =
    let held = c.pass.invariant in
    let same = keeps c.take.result (view c.pass.inside.seat) (view c.take.new.seat) c.take.ensures.taken c.take.ensures.none in
    (held.0, held.1, held.2, search rules, search rules, same.0 ∙ held.5, same.1 ∙ held.6, held.7, held.8)

pub returns-clause-taken : goal.returns-clause-taken
returns-clause-taken g c = subst (λ (s : Seen). IfSome c.take.result (λ task. Took s.known task (view c.take.new.seat))) c.pass.view_is c.take.ensures.taken
