-- 'The code array must contain only instructions that are documented in 6.5' (JVMS 4.9.1): what is wrong with code that has no listing.
use Rattle.std.specs.Prelude.{◌≢◌, ℕ, ◌≤◌, ℤ, pos, negsuc, ◌<ℤ◌, List, [], ◌∷◌, ◌++◌, length}
use Rattle.std.specs.List.{AllByRecursion}
use Rattle.cf_insns.specs.declared.fault.CodeRule.{CodeRule}
use Rattle.cf_insns.specs.declared.fault.CodeRule.TheVariants.{Opcode, Cut, Padding, Keys, Target, OutOfProfile}
use Rattle.cf_insns.specs.declared.fault.CodeFault.{CodeFault}
use Rattle.cf_insns.specs.declared.fault.CodeFault.TheVariants.{Broken, Memory}
use Rattle.cf_insns.specs.declared.insn.Insn.{Insn}
use Rattle.cf_insns.specs.declared.insn.SwitchCase.{SwitchCase}
use Rattle.cf_insns.specs.declared.opcode.TheConstants as op
use Rattle.cf_insns.specs.Layout.{IsLaidOut, IsPadding}
use Rattle.cf_insns.specs.Listing.{Listing, Lists, Lands, offsets}
use Rattle.cf_insns.specs.Operands.{IsInt, AreCases}
use Rattle.cf_insns.specs.Spelling.{NoneBegins, KeysRise}

-- the bytes from an instruction on, which stands at this offset of the code, break the rule
pub data Breaks : ℕ → CodeRule → List ℕ → Type 0 where
  -- the first byte is no opcode (JVMS 6.2, 6.5)
  no_opcode : {offset : ℕ} (byte : ℕ) (bytes : List ℕ) → 202 ≤ byte → Breaks offset Opcode (byte ∷ bytes)
  -- it is one that the profile leaves out
  out_of_profile : {offset : ℕ} (opcode : ℕ) (bytes : List ℕ) → opcode ≤ 201 → NoneBegins (opcode ∷ []) → Breaks offset OutOfProfile (opcode ∷ bytes)
  -- it is wide, before an opcode that it does not widen in the profile
  not_widened : {offset : ℕ} (opcode : ℕ) (bytes : List ℕ) → NoneBegins (op.WIDE ∷ opcode ∷ []) → Breaks offset OutOfProfile (op.WIDE ∷ opcode ∷ bytes)
  -- it is newarray, of a type that the profile leaves out
  other_array : {offset : ℕ} (kind : ℕ) (bytes : List ℕ) → NoneBegins (op.NEWARRAY ∷ kind ∷ []) → Breaks offset OutOfProfile (op.NEWARRAY ∷ kind ∷ bytes)
  -- the bytes end inside an instruction
  cut : {offset : ℕ} (opcode missing : ℕ) (bytes more : List ℕ) → IsLaidOut offset (opcode ∷ bytes ++ missing ∷ more) → Breaks offset Cut (opcode ∷ bytes)
  -- the fourth operand of invokeinterface is not 0
  fourth : {offset : ℕ} (a b count byte : ℕ) (bytes : List ℕ) → byte ≢ 0 → Breaks offset Padding (op.INVOKEINTERFACE ∷ a ∷ b ∷ count ∷ byte ∷ bytes)
  -- tableswitch has its low above its high
  low_above_high : {offset : ℕ} {padding default low high : List ℕ} {d l h : ℤ} (bytes : List ℕ) → IsPadding offset padding → IsInt default d → IsInt low l → IsInt high h
      → h <ℤ l → Breaks offset Keys (op.TABLESWITCH ∷ padding ++ (default ++ (low ++ (high ++ bytes))))
  -- lookupswitch has a negative number of cases
  negative : {offset : ℕ} {padding default npairs : List ℕ} {d : ℤ} (n : ℕ) (bytes : List ℕ) → IsPadding offset padding → IsInt default d → IsInt npairs (negsuc n)
      → Breaks offset Keys (op.LOOKUPSWITCH ∷ padding ++ (default ++ (npairs ++ bytes)))
  -- its keys do not rise
  unsorted : {offset : ℕ} {padding default npairs rows : List ℕ} {d : ℤ} {cases : List SwitchCase} (bytes : List ℕ) → IsPadding offset padding → IsInt default d
      → IsInt npairs (pos (length cases)) → AreCases rows cases → (KeysRise cases → ⊥)
      → Breaks offset Keys (op.LOOKUPSWITCH ∷ padding ++ (default ++ (npairs ++ (rows ++ bytes))))

-- the instruction at an offset of the code breaks the rule
pub data IsBroken : List ℕ → CodeRule → ℕ → Type 0 where
  -- the bytes before it are listed
  unlisted : {before bytes : List ℕ} {listing : Listing} {rule : CodeRule} → Lists 0 before listing → Breaks (length before) rule bytes → IsBroken (before ++ bytes) rule (length before)
  -- all bytes are listed, and it is the first of which a branch goes to no instruction
  astray : {code : List ℕ} (before after : Listing) (offset : ℕ) (insn : Insn) → Lists 0 code (before ++ (offset, insn) ∷ after)
      → AllByRecursion (Lands (offsets (before ++ (offset, insn) ∷ after))) before
      → (Lands (offsets (before ++ (offset, insn) ∷ after)) (offset, insn) → ⊥) → IsBroken code Target offset

-- the fault says what is wrong with the code, unless memory ran out
abbrev pub Explains : List ℕ → CodeFault → Type 0
Explains code Memory = Unit {0}
Explains code (Broken rule offset) = IsBroken code rule offset
