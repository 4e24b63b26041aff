use Rattle.std.proofs.Common.{◌≡◌, ◌*◌, ◌≤◌, length, take}
use Rattle.std.specs.Prelude.{All}
use Rattle.std.specs.List.{AllZip}
use Rattle.cls_resolve.specs.Entries.{AreKnown}
use Rattle.cls_link.specs.LinkFaults.{IsSoundMethod}
use Rattle.cls_link.specs.Links.{declared_from, IsLinked}
use Rattle.cls_link.specs.Numbers.{starts}
use Rattle.cls_link.proofs.linked.link_classes.Given as goal

-- the methods of the classes so far are linked, 65,535 of a class at most, and the number at which each class's begin is noted; they break
-- no rule
abbrev pub invariant-loop-number : goal.invariant-loop-number
invariant-loop-number l =
    AllZip (IsLinked l.fn.set) (declared_from 0 (take l.number l.fn.set)) l.methods.items × (l.first.items ≡ starts 0 (take l.number l.fn.set))
    × (l.number ≤ length l.fn.set) × (length l.methods.items ≤ 65535 * l.number) × All (IsSoundMethod l.fn.set) (declared_from 0 (take l.number l.fn.set)) × AreKnown l.fn.set l.known
