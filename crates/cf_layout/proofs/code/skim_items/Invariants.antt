use Rattle.std.proofs.Common.{◌≡◌, ◌-◌}
use Rattle.cf_layout.specs.Codes.{skim_item, skim_many}
use Rattle.cf_layout.proofs.code.skim_items.Given as goal

-- those that are left decide
abbrev pub invariant-loop : goal.invariant-loop
invariant-loop l = skim_many (skim_item l.bytes) (l.count - l.counter) l.position ≡ skim_many (skim_item l.bytes) l.count l.at
