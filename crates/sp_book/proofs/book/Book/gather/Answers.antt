use Rattle.std.proofs.Common.{arith, ap}
use Rattle.std.specs.List.{sum_by}
use Rattle.crossbeam_queue.specs.Passes.{view}
use Rattle.sp_book.proofs.book.Book.gather.Goals as goal

pub returns-clause-notices : goal.returns-clause-notices
returns-clause-notices g c =
    let each = c.account.ensures.each in
    let gone = each.1 in (
      (view c.merged-all.result.1).pushed,
      gone.0,
      each.0,
      gone.1,
      λ h.
          let all = c.merged-all.ensures.taken h in
          let first = ap (sum_by h) c.inside.invariant.1.1 in
          let those = gone.2 h in
          omega (arith, all, first, those),
    )
