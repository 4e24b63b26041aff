use Rattle.std.proofs.Common.{◌≡◌, ◌-◌}
use Rattle.ver_frames.specs.StackMap.{after_items}
use Rattle.ver_frames.proofs.layout.after_items.Given as goal

abbrev pub invariant-loop : goal.invariant-loop
invariant-loop l = after_items (l.count - l.counter) l.rest ≡ after_items l.count l.bytes
