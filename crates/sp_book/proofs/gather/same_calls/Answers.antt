use Rattle.std.proofs.Common.{rules, map, arith}
use Rattle.std.proofs.lemmas.List.{length-map}
use Rattle.sp_history.specs.Entries.{entry_of, numbered_entry}
use Rattle.sp_book.proofs.StandLemmas.{take_more, same_turn, other_turn}
use Rattle.sp_book.proofs.gather.same_calls.Goals as goal
use Rattle.sp_book.proofs.gather.same_calls.Goals.{then-entry-number+else-at-calls+else-not-same_call, else-entry-number}

pub loop-index-preserved : goal.loop-index-preserved
loop-index-preserved c =
    let entries = c.args.entries.now in
    let entry = c.index-entries-index.result in
    let more = take_more numbered_entry entries c.loop-index.index entry c.loop-index-test.true c.index-entries-index.is in
    elim c.if-entry-number.branch [
      | then-entry-number+else-at-calls+else-not-same_call w ↦
          let calls = c.args.calls.now in
          let more' = take_more entry_of calls c.loop-index.at w.index-calls-at.result w.if-at-calls.false w.index-calls-at.is in
          same_turn c.args.number (map numbered_entry entries) (map entry_of calls) c.loop-index.index c.loop-index.at c.if-entry-number.at (numbered_entry entry) (entry_of w.index-calls-at.result) more more'
          (omega (arith, length-map calls entry_of, w.if-at-calls.false)) (w.same_call.ensures w.if-not-same_call.false) w.if-entry-number.true w.at-is c.loop-index.invariant.0
      | else-entry-number w ↦
          other_turn c.args.number (map numbered_entry entries) (map entry_of c.args.calls.now) c.loop-index.index c.loop-index.at c.if-entry-number.at (numbered_entry entry) more
          (search (rules, w.if-entry-number.false)) w.at-is c.loop-index.invariant.1 c.loop-index.invariant.0
    ]
