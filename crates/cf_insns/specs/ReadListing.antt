-- What is read of the bytes of code from the left, as the code of this crate reads them: instructions, or the first broken rule. Laws say
-- that this is the relation `IsListing`, and that a rule is broken at the offset that is named. (This project's own; JVMS 4.9.1: `Listing`.)
use Rattle.std.specs.Prelude.{◌≡◌, ◌++◌, ℕ, zero, suc, ◌+◌, List, [], ◌∷◌, Option, Some, None, Result, Ok, Err}
use Rattle.cf_insns.specs.declared.fault.CodeRule.{CodeRule}
use Rattle.cf_insns.specs.declared.fault.CodeRule.TheVariants.{Target}
use Rattle.cf_insns.specs.declared.fault.CodeFault.{CodeFault}
use Rattle.cf_insns.specs.declared.fault.CodeFault.TheVariants.{Broken, Memory}
use Rattle.cf_insns.specs.declared.reading.Spelled.{Spelled}
use Rattle.cf_insns.specs.Listing.{Listing, offsets, first_astray}
use Rattle.cf_insns.specs.Reading.{instruction, ◌>>=◌}

-- an entry before the listing of what comes after it
abbrev pub with_front : Listing → Result Listing CodeFault → Result Listing CodeFault
with_front front (Ok listing) = Ok (front ++ listing)
with_front front (Err fault) = Err fault

-- the listing of an instruction at an offset and of what comes after its operands
abbrev pub listed : ℕ → Result Spelled CodeRule → (ℕ → Result Listing CodeFault) → Result Listing CodeFault
listed offset (Ok s) following = with_front ((offset, s.insn) ∷ []) (following s.operands)
listed offset (Err rule) following = Err (Broken rule offset)

-- the listing of the bytes from an offset on, of which the first `skipped` are operands of the instruction before
unfoldable pub listing_from : ℕ → ℕ → List ℕ → Result Listing CodeFault
listing_from skipped offset [] = Ok []
listing_from zero offset (opcode ∷ bytes) =
    listed offset (instruction offset opcode bytes) (λ operands. listing_from operands (offset + 1) bytes)
listing_from (suc skipped) offset (operand ∷ bytes) = listing_from skipped (offset + 1) bytes

-- what a listing is read as: itself, or a fault at the first instruction whose branch goes astray
abbrev pub if_none_astray : Listing → Option ℕ → Result Listing CodeFault
if_none_astray listing None = Ok listing
if_none_astray listing (Some offset) = Err (Broken Target offset)

-- all instructions first, and then the targets of branches
unfoldable pub reading : List ℕ → Result Listing CodeFault
reading code = listing_from 0 0 code >>= λ listing. if_none_astray listing (first_astray (offsets listing) listing)

-- a fault is what is read, unless memory ran out
abbrev pub Fails : CodeFault → Result Listing CodeFault → Type 0
Fails Memory read = Unit {0}
Fails (Broken rule offset) read = read ≡ Err (Broken rule offset)
