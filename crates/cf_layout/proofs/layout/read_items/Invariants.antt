use Rattle.std.proofs.Common.{◌≡◌, ◌-◌}
use Rattle.cf_text.specs.Reading.{many}
use Rattle.cf_text.proofs.Loops.{with_front}
use Rattle.cf_layout.specs.Layouts.{item_at}
use Rattle.cf_layout.proofs.layout.read_items.Given as goal

-- those so far and those that follow are all of them
abbrev pub invariant-loop : goal.invariant-loop
invariant-loop l =
    with_front l.items.items (many (item_at l.bytes) (l.count - l.counter) l.position) ≡ many (item_at l.bytes) l.count l.at
