use Rattle.std.specs.Prelude.{◌≡◌, ◌≤◌, take, length, map}
use Rattle.sp_book.specs.Passes.{standing}
use Rattle.sp_history.specs.Entries.{entry_of, numbered_entry}
use Rattle.sp_book.proofs.gather.same_calls.Given as goal

-- the entries so far under the number are the calls so far
abbrev pub invariant-loop-index : goal.invariant-loop-index
invariant-loop-index l = (standing l.number (take l.index (map numbered_entry l.entries)) ≡ take l.at (map entry_of l.calls)) × (l.at ≤ length (map entry_of l.calls))
