use Rattle.std.proofs.Common.{◌≡◌, ◌≤◌, length, map, reverse, take}
use Rattle.ver_check.specs.Members.{take_arguments}
use Rattle.ver_check.specs.Steps.{take_all}
use Rattle.ver_frames.specs.Types.{field_vtype}
use Rattle.ver_check.proofs.body.BodyView.take_arguments.Given as goal

-- those that are left make what all of them make
abbrev pub invariant-loop-count : goal.invariant-loop-count
invariant-loop-count l = record {
  within : l.count ≤ length l.callee.types.parameters;
  left : take_all l.self (reverse (map (field_vtype l.self.classes) (take l.count l.callee.types.parameters))) l.frame ≡ take_arguments l.self l.callee l.fn.frame;
}

abbrev pub decreases-loop-count : goal.decreases-loop-count
decreases-loop-count l = l.count
