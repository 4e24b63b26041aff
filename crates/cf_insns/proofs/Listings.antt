-- How the listing of code goes on after an instruction.
use Rattle.std.proofs.Common.{◌≡◌, ℕ, zero, suc, ◌+◌, ◌<◌, ◌≤◌, List, [], ◌∷◌, ◌++◌, length, get_or, drop, Result, Ok, Err, refl, ap, sym, ◌∙◌, arith, add-zero, add-one, drop-cons, append_assoc, append-nil}
use Rattle.std.proofs.lemmas.List.{drop-drop}
use Rattle.std.proofs.Math.ListN.{drop_of_length-le}
use Rattle.cf_insns.specs.declared.fault.CodeRule.{CodeRule}
use Rattle.cf_insns.specs.declared.fault.CodeFault.{CodeFault}
use Rattle.cf_insns.specs.declared.fault.CodeFault.TheVariants.{Broken}
use Rattle.cf_insns.specs.declared.reading.Spelled.{Spelled}
use Rattle.cf_insns.specs.Listing.{Listing, offsets, Rises}
use Rattle.cf_insns.specs.ReadListing.{listed, listing_from, with_front, Fails}
use Rattle.cf_insns.specs.Stops.{Stops, fault_at}
use Rattle.cf_insns.specs.declared.reading.Stop.{Stop}
use Rattle.cf_insns.specs.declared.reading.Stop.TheVariants as stop
use Rattle.cf_insns.specs.Reading.{instruction}

-- operands are passed over
pub listing_from-skipped : (k offset : ℕ) (bytes : List ℕ) → listing_from k offset bytes ≡ listing_from 0 (offset + k) (drop k bytes)
unfolding listing_from
listing_from-skipped zero offset [] = refl
listing_from-skipped (suc k) offset [] = refl
listing_from-skipped zero offset (byte ∷ bytes) = ap (λ at. listing_from 0 at (byte ∷ bytes)) (sym (add-zero offset))
listing_from-skipped (suc k) offset (byte ∷ bytes) =
    let moved : offset + 1 + k ≡ offset + suc k = omega arith in
    listing_from-skipped k (offset + 1) bytes ∙ ap (λ at. listing_from 0 at (drop k bytes)) moved

-- the listing of what stands after an instruction and its operands
abbrev pub following : List ℕ → ℕ → ℕ → Result Listing CodeFault
following code at operands = listing_from 0 (at + (1 + operands)) (drop (at + (1 + operands)) code)

pub listing_from-front : (opcode : ℕ) (bytes : List ℕ) (at : ℕ) → listing_from 0 at (opcode ∷ bytes) ≡ listed at (instruction at opcode bytes) (λ k. listing_from k (at + 1) bytes)
unfolding listing_from
listing_from-front opcode bytes at = refl

listed_same : (offset : ℕ) (read : Result Spelled CodeRule) (f g : ℕ → Result Listing CodeFault) → ((k : ℕ) → f k ≡ g k) → listed offset read f ≡ listed offset read g
listed_same offset (Ok s) f g same = ap (with_front ((offset, s.insn) ∷ [])) (same s.operands)
listed_same offset (Err rule) f g same = refl

-- the listing from an offset on is its instruction, and what is listed after the operands
pub listing_from-at : (code : List ℕ) (at : ℕ) → at < length code
    → listing_from 0 at (drop at code) ≡ listed at (instruction at (get_or code at 0) (drop (at + 1) code)) (following code at)
listing_from-at code at within =
    ap (listing_from 0 at) (drop-cons code at 0 within ∙ ap (λ n. get_or code at 0 ∷ drop n code) (sym (add-one at)))
    ∙ listing_from-front (get_or code at 0) (drop (at + 1) code) at
    ∙ listed_same at _ _ _ (λ k.
    let moved : at + 1 + k ≡ at + (1 + k) = omega arith in
    listing_from-skipped k (at + 1) (drop (at + 1) code)
    ∙ ap (listing_from 0 (at + 1 + k)) (drop-drop k (at + 1) code)
    ∙ ap (λ offset. listing_from 0 offset (drop offset code)) moved)

pub with_front-append : (front back : Listing) (read : Result Listing CodeFault) → with_front (front ++ back) read ≡ with_front front (with_front back read)
with_front-append front back (Ok listing) = ap Ok (append_assoc front back listing)
with_front-append front back (Err fault) = refl

module _ (code : List ℕ) (at : ℕ) (operands : List ℕ) (within : at < length code) (operands_are : operands ≡ drop (at + 1) code) (front : Listing) where
  -- what is read after the front begins with what the opcode and the operands say
  read_here : with_front front (listing_from 0 at (drop at code)) ≡ with_front front (listed at (instruction at (get_or code at 0) operands) (following code at))
  read_here = ap (with_front front) (listing_from-at code at within ∙ ap (λ bytes. listed at (instruction at (get_or code at 0) bytes) (following code at)) (sym operands_are))

  -- an instruction that is read goes to the front
  pub with_front-more : (s : Spelled) → Ok s ≡ instruction at (get_or code at 0) operands
      → with_front (front ++ (at, s.insn) ∷ []) (following code at s.operands) ≡ with_front front (listing_from 0 at (drop at code))
  with_front-more s read =
      with_front-append front ((at, s.insn) ∷ []) (following code at s.operands)
      ∙ sym (read_here ∙ ap (λ found. with_front front (listed at found (following code at))) (sym read))

  -- a rule that it breaks is what is read
  pub with_front-fault : (rule : CodeRule) → Err rule ≡ instruction at (get_or code at 0) operands
      → with_front front (listing_from 0 at (drop at code)) ≡ Err (Broken rule at)
  with_front-fault rule read = read_here ∙ ap (λ found. with_front front (listed at found (following code at))) (sym read)

  -- why reading stops is the fault of all
  pub with_front-stop : (why : Stop) → Stops why (instruction at (get_or code at 0) operands) → (all : Result Listing CodeFault)
      → with_front front (listing_from 0 at (drop at code)) ≡ all → Fails (fault_at at why) all
  with_front-stop stop.Memory stops all is = tt
  with_front-stop (stop.Broken rule) stops all is = sym is ∙ with_front-fault rule (sym stops)

-- at the end nothing more is read
pub with_front-end : (code : List ℕ) (at : ℕ) (front : Listing) → length code ≤ at → with_front front (listing_from 0 at (drop at code)) ≡ Ok front
unfolding listing_from
with_front-end code at front past = rw (drop_of_length-le code past, append-nil) refl

-- the numbers rise from a lowest on
abbrev RisesFrom : ℕ → List ℕ → Type 0
RisesFrom low [] = Unit {0}
RisesFrom low (n ∷ ns) = (low ≤ n) × RisesFrom (n + 1) ns

from_lower : (low lowest : ℕ) (ns : List ℕ) → lowest ≤ low → RisesFrom low ns → RisesFrom lowest ns
from_lower low lowest [] le rises = tt
from_lower low lowest (n ∷ ns) le rises = (omega (arith, rises.0), rises.1)

all_above : (low : ℕ) (ns : List ℕ) → RisesFrom low ns → (j : ℕ) → j < length ns → low ≤ get_or ns j 0
all_above low [] rises j within = absurd (omega arith)
all_above low (n ∷ ns) rises zero within = rises.0
all_above low (n ∷ ns) rises (suc j) within =
    let above = all_above (n + 1) ns rises.1 j (omega arith) in omega (arith, rises.0, above)

Rises-from : (low : ℕ) (ns : List ℕ) → RisesFrom low ns → Rises ns
Rises-from low [] rises i j lt within = absurd (omega arith)
Rises-from low (n ∷ ns) rises i zero lt within = absurd (omega arith)
Rises-from low (n ∷ ns) rises zero (suc j) lt within =
    let above = all_above (n + 1) ns rises.1 j (omega arith) in omega (arith, above)
Rises-from low (n ∷ ns) rises (suc i) (suc j) lt within = Rises-from (n + 1) ns rises.1 i j (omega arith) (omega arith)

-- what is listed begins with an instruction
pub record Begins (offset : ℕ) (read : Result Spelled CodeRule) (rest : ℕ → Result Listing CodeFault) (listing : Listing) : Type 0 where
  pub s : Spelled
  pub tail : Listing
  pub first : read ≡ Ok s
  pub rest_is : rest s.operands ≡ Ok tail
  pub all : listing ≡ (offset, s.insn) ∷ tail

front_ok : (entry : ℕ × _) (read : Result Listing CodeFault) (listing : Listing) → with_front (entry ∷ []) read ≡ Ok listing → (tail : Listing) × (read ≡ Ok tail) × (listing ≡ entry ∷ tail)
front_ok entry (Ok tail) listing is = (tail, refl, cc)
front_ok entry (Err fault) listing is = absurd (cc)

pub listed_ok : (offset : ℕ) (read : Result Spelled CodeRule) (rest : ℕ → Result Listing CodeFault) (listing : Listing) → listed offset read rest ≡ Ok listing → Begins offset read rest listing
listed_ok offset (Ok s) rest listing is =
    let (tail, rest_is, all) = front_ok (offset, s.insn) (rest s.operands) listing is in
    record { s = s; tail = tail; first = refl; rest_is = rest_is; all = all }
listed_ok offset (Err rule) rest listing is = absurd (cc)

rises : (k offset : ℕ) (bytes : List ℕ) (listing : Listing) → listing_from k offset bytes ≡ Ok listing → RisesFrom offset (offsets listing)
unfolding listing_from
rises zero offset [] listing is = let none : listing ≡ [] = cc in rw none tt
rises (suc k) offset [] listing is = let none : listing ≡ [] = cc in rw none tt
rises zero offset (opcode ∷ bytes) listing is =
    let begins = listed_ok offset (instruction offset opcode bytes) (λ operands. listing_from operands (offset + 1) bytes) listing is in
    let above = rises begins.s.operands (offset + 1) bytes begins.tail begins.rest_is in
    rw begins.all (omega arith, above)
rises (suc k) offset (operand ∷ bytes) listing is = from_lower (offset + 1) offset (offsets listing) (omega arith) (rises k (offset + 1) bytes listing is)

-- the offsets of what is listed rise
pub listing_from-rises : (code : List ℕ) (listing : Listing) → listing_from 0 0 code ≡ Ok listing → Rises (offsets listing)
listing_from-rises code listing is = Rises-from 0 (offsets listing) (rises 0 0 code listing is)
