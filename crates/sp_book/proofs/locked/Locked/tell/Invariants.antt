use Rattle.std.specs.Prelude.{◌≡◌}
use Rattle.sp_book.proofs.locked.Locked.tell.Given as goal

-- telling changes nothing that is seen
abbrev pub invariant-loop-told : goal.invariant-loop-told
invariant-loop-told g l = l.self ≡ l.initial.self
