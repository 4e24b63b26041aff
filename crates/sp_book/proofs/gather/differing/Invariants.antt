use Rattle.std.specs.Prelude.{◌≡◌, take, map, All, IfNone}
use Rattle.sp_book.specs.Passes.{calls_since, standing}
use Rattle.sp_history.specs.Entries.{numbered_entry}
use Rattle.sp_book.proofs.gather.differing.Given as goal

-- if none differs so far, those so far stand
abbrev pub invariant-loop-index : goal.invariant-loop-index
invariant-loop-index g l = IfNone l.lowest (All (λ p. standing p.number (map numbered_entry l.entries) ≡ calls_since l.cut p) (take l.index l.passes.items))
