use Rattle.std.proofs.Common.{List}
use Rattle.cls_set.specs.declared.class.Class.{Class}
use Rattle.cls_resolve.specs.Entries.{AreKnown}
use Rattle.cls_resolve.proofs.known.KnownEntries.make_room.Given as goal

-- what was known still is
abbrev pub invariant-loop : goal.invariant-loop
invariant-loop l = (classes : List Class) → AreKnown classes l.fn.self → AreKnown classes l.self-inside.entries.items
