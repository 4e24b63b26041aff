-- 'The first instruction in the code array begins at index 0; the opcode of each further one is at the index after the operands of the one
-- before' (JVMS 4.9.1): the instructions of a method's code with their offsets, and the targets of branches.
use Rattle.std.specs.Prelude.{◌≡◌, ℕ, ◌+◌, ◌<◌, ℤ, pos, negsuc, ◌+ℤ◌, Bool, false, ◌==◌, if◌then◌else◌, List, [], ◌∷◌, ◌++◌, length, map, slice_index, Option, Some, None, Contains}
use Rattle.std.specs.List.{list_any, list_all, AllByRecursion}
use Rattle.cf_insns.specs.declared.insn.Insn.{Insn}
use Rattle.cf_insns.specs.declared.insn.Insn.TheVariants.{If, IfCompare, IfSame, IfNull, Goto, TableSwitch, LookupSwitch}
use Rattle.cf_insns.specs.declared.insn.SwitchCase.{SwitchCase}
use Rattle.cf_insns.specs.Spelling.{Spells}

-- instructions in order, each after its offset
abbrev pub Listing : Type 0
Listing = List (ℕ × Insn)

-- the offsets of a listing
abbrev pub offsets : Listing → List ℕ
offsets listing = map (λ entry. entry.0) listing

-- each number is above all before it: indices of the list and numbers are one to one
abbrev pub Rises : List ℕ → Type 0
Rises numbers = (i j : ℕ) → i < j → j < length numbers → slice_index numbers i < slice_index numbers j

-- the bytes from an offset on are spellings of these instructions, one after the other
pub data Lists : ℕ → List ℕ → Listing → Type 0 where
  nothing : {offset : ℕ} → Lists offset [] []
  instruction : {offset : ℕ} {spelling bytes : List ℕ} {insn : Insn} {listing : Listing} → Spells offset spelling insn → Lists (offset + length spelling) bytes listing
      → Lists offset (spelling ++ bytes) ((offset, insn) ∷ listing)

-- how far each branch of an instruction goes from its own offset: those of a switch are its default and then its cases
abbrev pub branches_of : Insn → List ℤ
branches_of (If condition branch) = branch ∷ []
branches_of (IfCompare condition branch) = branch ∷ []
branches_of (IfSame equality branch) = branch ∷ []
branches_of (IfNull equality branch) = branch ∷ []
branches_of (Goto branch) = branch ∷ []
branches_of (TableSwitch default low branches) = default ∷ branches
branches_of (LookupSwitch default cases) = default ∷ map (λ (c : SwitchCase). c.branch) cases
branches_of _ = []

-- whether an instruction begins at an offset
abbrev pub begins_at : List ℕ → ℤ → Bool
begins_at offsets (pos target) = list_any (λ offset. offset == target) offsets
begins_at offsets (negsuc target) = false

-- whether each branch from an offset goes to the first byte of an instruction
abbrev pub all_land : List ℕ → ℕ → List ℤ → Bool
all_land offsets offset branches = list_all (λ branch. begins_at offsets (pos offset +ℤ branch)) branches

-- the offset of the first instruction of a list of which a branch goes to none of the offsets
abbrev pub first_astray : List ℕ → Listing → Option ℕ
first_astray offsets [] = None
first_astray offsets (entry ∷ listing) =
    if all_land offsets entry.0 (branches_of entry.1) then first_astray offsets listing else Some entry.0

-- an instruction begins at an offset
abbrev pub Begins : List ℕ → ℤ → Type 0
Begins offsets target = (offset : ℕ) × Contains offsets offset × (target ≡ pos offset)

-- each branch of an instruction goes to the first byte of an instruction
abbrev pub Lands : List ℕ → ℕ × Insn → Type 0
Lands offsets entry = AllByRecursion (λ branch. Begins offsets (pos entry.0 +ℤ branch)) (branches_of entry.1)

-- The listing is that of the code, and each branch goes to an instruction of it (JVMS 4.9.1). The instructions are those of the profile,
-- since there are no others.
pub record IsListing (code : List ℕ) (listing : Listing) : Type 0 where
  pub spelled : Lists 0 code listing
  pub targets : AllByRecursion (Lands (offsets listing)) listing
