use Rattle.std.proofs.Common.{◌≡◌, ◌-◌}
use Rattle.cf_text.specs.Reading.{many}
use Rattle.cf_text.proofs.Loops.{with_front}
use Rattle.cf_layout.specs.Layouts.{attribute_at}
use Rattle.cf_layout.proofs.layout.read_many_attributes.Given as goal

-- those so far and those that follow are all of them
abbrev pub invariant-loop : goal.invariant-loop
invariant-loop l =
    with_front l.attributes.items (many (attribute_at l.bytes) (l.count - l.counter) l.position) ≡ many (attribute_at l.bytes) l.count l.at
