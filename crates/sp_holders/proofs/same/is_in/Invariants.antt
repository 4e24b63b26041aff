use Rattle.std.proofs.Common.{◌≡◌, false, take}
use Rattle.std.specs.List.{list_any}
use Rattle.space_ids.specs.declared.value.Value.{Value}
use Rattle.sp_rules.specs.References.{is_reference_in, reference_of}
use Rattle.sp_holders.proofs.same.is_in.Given as goal

-- none so far is
abbrev pub invariant-loop-value : goal.invariant-loop-value
invariant-loop-value l = list_any (λ (v : Value). is_reference_in (reference_of v) l.reference) (take l.value-index l.values) ≡ false
