use Rattle.std.proofs.Common.{◌≡◌, ◌≤◌, length, take}
use Rattle.cls_resolve.specs.Access.{package_name}
use Rattle.cls_resolve.proofs.access.package_length.Given as goal

-- the package in the bytes so far
abbrev pub invariant-loop-index : goal.invariant-loop-index
invariant-loop-index l = record { within : l.end ≤ length l.name; so_far : package_name (take l.index l.name) ≡ take l.end l.name }
