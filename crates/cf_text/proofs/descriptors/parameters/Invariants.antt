use Rattle.std.proofs.Common.{◌≡◌, ◌-◌}
use Rattle.cf_text.specs.Types.{parameters_of}
use Rattle.cf_text.proofs.Loops.{with_front}
use Rattle.cf_text.proofs.descriptors.parameters.Given as goal

-- the types so far and those that follow are all of them
abbrev pub invariant-loop : goal.invariant-loop
invariant-loop l =
    with_front l.types.items (parameters_of (l.most - l.counter) l.at l.rest) ≡ parameters_of l.most l.at l.initial.rest
