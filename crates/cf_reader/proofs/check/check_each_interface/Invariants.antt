use Rattle.std.proofs.Common.{◌≡◌, ℕ, drop}
use Rattle.cf_text.specs.Demands.{of_each, verdict}
use Rattle.cf_layout.specs.declared.items.Item.{Item}
use Rattle.cf_reader.specs.Checks.{class_index_demands}
use Rattle.cf_reader.proofs.check.check_each_interface.Given as goal

-- what is left to judge decides
abbrev pub invariant-loop-interface : goal.invariant-loop-interface
invariant-loop-interface l =
    let demands = λ (index : ℕ) (interface : Item). class_index_demands l.pool interface in
    verdict (of_each demands l.interface-index (drop l.interface-index l.interfaces)) ≡ verdict (of_each demands 0 l.interfaces)
