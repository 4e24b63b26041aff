-- What is read of an instruction, in the terms of the relations.
use Rattle.std.proofs.Common.{ℕ, ◌≤◌, List, ◌∷◌, length, take, Result, Ok, Err}
use Rattle.cf_insns.specs.declared.fault.CodeRule.{CodeRule}
use Rattle.cf_insns.specs.declared.insn.Insn.{Insn}
use Rattle.cf_insns.specs.declared.reading.Spelled.{Spelled}
use Rattle.cf_insns.specs.Faults.{Breaks}
use Rattle.cf_insns.specs.Spelling.{Spells}

-- what is read is spelled in front, or the rule is broken there
pub data Tells (offset opcode : ℕ) (operands : List ℕ) : Result Spelled CodeRule → Type 0 where
  takes : (insn : Insn) (count : ℕ) → Spells offset (opcode ∷ take count operands) insn → count ≤ length operands → Tells offset opcode operands (Ok (record { insn = insn; operands = count }))
  breaks : (rule : CodeRule) → Breaks offset rule (opcode ∷ operands) → Tells offset opcode operands (Err rule)
