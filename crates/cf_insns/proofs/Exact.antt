-- Reading finds the one listing of code if there is one, and else what is wrong with the code.
use Rattle.std.proofs.Common.{◌≡◌, ℕ, zero, suc, ℤ, pos, negsuc, ◌+◌, ◌+ℤ◌, ◌≤◌, ◌⊎◌, inl, inr, eqb, eq-eqb, Bool, true, false, cond, List, [], ◌∷◌, ◌++◌, length, get_or, take, drop, Option, Some, None, Result, Ok, Err, IfOk, IfErr, MatchResult, refl, ap, sym, subst, ◌∙◌, arith, add-zero, length-take, length-append, append_assoc}
use Rattle.std.specs.List.{AllByRecursion}
use Rattle.std.proofs.Math.Seq.{drop-append_seam, take-append_seam}
use Rattle.std.proofs.lemmas.Bool.{eqb-true, false≢true}
use Rattle.std.proofs.lemmas.List.{take-append-drop}
use Rattle.std.proofs.lemmas.List.Folds.{Any-from_list_any, list_any-from_Any}
use Rattle.cf_insns.specs.declared.fault.CodeRule.{CodeRule}
use Rattle.cf_insns.specs.declared.fault.CodeRule.TheVariants.{Target}
use Rattle.cf_insns.specs.declared.fault.CodeFault.{CodeFault}
use Rattle.cf_insns.specs.declared.fault.CodeFault.TheVariants.{Broken, Memory}
use Rattle.cf_insns.specs.declared.reading.Spelled.{Spelled}
use Rattle.cf_insns.specs.declared.insn.Insn.{Insn}
use Rattle.cf_insns.specs.Faults.{Breaks, IsBroken, Explains, unlisted, astray}
use Rattle.cf_insns.specs.Listing.{Listing, Lists, nothing, instruction, IsListing, Begins, Lands, offsets, branches_of, begins_at, all_land, first_astray}
use Rattle.cf_insns.specs.ReadListing as listings
use Rattle.cf_insns.specs.ReadListing.{listed, listing_from, with_front, if_none_astray, Fails}
use Rattle.cf_insns.specs.Reading as reading
use Rattle.cf_insns.specs.Reading.{◌>>=◌}
use Rattle.cf_insns.specs.Spelling.{Spells}
use Rattle.cf_insns.proofs.Again.{IsRead, again}
use Rattle.cf_insns.proofs.Keys.{both_true}
use Rattle.cf_insns.proofs.Listings.{listed_ok, listing_from-skipped, listing_from-front}
use Rattle.cf_insns.proofs.Tells.{tells}
use Rattle.cf_insns.proofs.Told.{Tells, takes, breaks}

-- What is read is listed.

taken : {offset opcode : ℕ} {operands : List ℕ} {s : Spelled} → Tells offset opcode operands (Ok s) → Spells offset (opcode ∷ take s.operands operands) s.insn × (s.operands ≤ length operands)
taken (takes insn count spells within) = (spells, within)

-- an instruction in front of what is listed
front_listed : (offset opcode k : ℕ) (bytes : List ℕ) (insn : Insn) (tail : Listing) → Spells offset (opcode ∷ take k bytes) insn → k ≤ length bytes
    → Lists (offset + 1 + k) (drop k bytes) tail → Lists offset (opcode ∷ bytes) ((offset, insn) ∷ tail)
front_listed offset opcode k bytes insn tail spells within rest =
    let following : offset + 1 + k ≡ offset + length (opcode ∷ take k bytes) = omega (arith, length-take k bytes) in
    let joined : Lists offset ((opcode ∷ take k bytes) ++ drop k bytes) ((offset, insn) ∷ tail) = instruction spells (subst (λ at. Lists at (drop k bytes) tail) following rest) in
    subst (λ all. Lists offset (opcode ∷ all) ((offset, insn) ∷ tail)) (take-append-drop k bytes) joined

lists : (k offset : ℕ) (bytes : List ℕ) (listing : Listing) → listing_from k offset bytes ≡ Ok listing → k ≤ length bytes → Lists (offset + k) (drop k bytes) listing
unfolding listing_from
lists zero offset [] listing is within = let none : listing ≡ [] = cc in rw none nothing
lists (suc k) offset [] listing is within = absurd (omega arith)
lists zero offset (opcode ∷ bytes) listing is within =
    let begins = listed_ok offset (reading.instruction offset opcode bytes) (λ operands. listing_from operands (offset + 1) bytes) listing is in
    let told = taken (subst (Tells offset opcode bytes) begins.first (tells offset opcode bytes)) in
    let rest = lists begins.s.operands (offset + 1) bytes begins.tail begins.rest_is told.1 in
    rw (add-zero offset, begins.all) (front_listed offset opcode begins.s.operands bytes begins.s.insn begins.tail told.0 told.1 rest)
lists (suc k) offset (operand ∷ bytes) listing is within =
    let moved : offset + 1 + k ≡ offset + suc k = omega arith in
    subst (λ at. Lists at (drop k bytes) listing) moved (lists k (offset + 1) bytes listing is (omega arith))

-- What is listed is read.

front_again : (offset : ℕ) (spelling bytes : List ℕ) (insn : Insn) (listing : Listing) → IsRead offset spelling insn → listing_from 0 (offset + length spelling) bytes ≡ Ok listing
    → listing_from 0 offset (spelling ++ bytes) ≡ Ok ((offset, insn) ∷ listing)
front_again offset spelling bytes insn listing is rest =
    let k = length is.operands in
    let at_rest : offset + 1 + k ≡ offset + length spelling = omega (arith, ap length is.bytes_are) in
    ap (λ bytes'. listing_from 0 offset (bytes' ++ bytes)) is.bytes_are
    ∙ listing_from-front is.opcode (is.operands ++ bytes) offset
    ∙ ap (λ read. listed offset read (λ k. listing_from k (offset + 1) (is.operands ++ bytes))) (is.read bytes)
    ∙ ap (with_front ((offset, insn) ∷ []))
    (listing_from-skipped k (offset + 1) (is.operands ++ bytes)
    ∙ ap (listing_from 0 (offset + 1 + k)) (drop-append_seam is.operands bytes)
    ∙ ap (λ at. listing_from 0 at bytes) at_rest
    ∙ rest)

nothing_again : (offset : ℕ) → listing_from 0 offset [] ≡ Ok []
unfolding listing_from
nothing_again offset = refl

listed_again : {offset : ℕ} {bytes : List ℕ} {listing : Listing} → Lists offset bytes listing → listing_from 0 offset bytes ≡ Ok listing
listed_again nothing = nothing_again _
listed_again (instruction spells rest) = front_again _ _ _ _ _ (again spells) (listed_again rest)

-- What is not read breaks a rule after what is listed.

broken : {offset opcode : ℕ} {operands : List ℕ} {rule : CodeRule} → Tells offset opcode operands (Err rule) → Breaks offset rule (opcode ∷ operands)
broken (breaks rule bad) = bad

record BreaksAfter (offset : ℕ) (bytes : List ℕ) (rule : CodeRule) (at : ℕ) : Type 0 where
  before : List ℕ
  rest : List ℕ
  listing : Listing
  bytes_are : bytes ≡ before ++ rest
  listed : Lists offset before listing
  bad : Breaks at rule rest
  at_is : at ≡ offset + length before

-- either the first instruction breaks the rule, or one after it
data FailsAt (offset : ℕ) (read : Result Spelled CodeRule) (rest : ℕ → Result Listing CodeFault) (rule : CodeRule) (at : ℕ) : Type 0 where
  here : read ≡ Err rule → at ≡ offset → FailsAt offset read rest rule at
  later : (s : Spelled) → read ≡ Ok s → rest s.operands ≡ Err (Broken rule at) → FailsAt offset read rest rule at

front_err : (entry : ℕ × Insn) (read : Result Listing CodeFault) (fault : CodeFault) → with_front (entry ∷ []) read ≡ Err fault → read ≡ Err fault
front_err entry (Ok tail) fault is = absurd (cc)
front_err entry (Err other) fault is = cc

listed_err : (offset : ℕ) (read : Result Spelled CodeRule) (rest : ℕ → Result Listing CodeFault) (rule : CodeRule) (at : ℕ) → listed offset read rest ≡ Err (Broken rule at) → FailsAt offset read rest rule at
listed_err offset (Ok s) rest rule at is = later s refl (front_err (offset, s.insn) (rest s.operands) (Broken rule at) is)
listed_err offset (Err other) rest rule at is = here (cc) (cc)

-- an instruction in front of what is listed before the fault
later_breaks : (offset opcode k : ℕ) (bytes : List ℕ) (insn : Insn) (rule : CodeRule) (at : ℕ) → Spells offset (opcode ∷ take k bytes) insn → k ≤ length bytes
    → BreaksAfter (offset + 1 + k) (drop k bytes) rule at → BreaksAfter offset (opcode ∷ bytes) rule at
later_breaks offset opcode k bytes insn rule at spells within following =
    let front = opcode ∷ take k bytes in
    let moved : offset + 1 + k ≡ offset + length front = omega (arith, length-take k bytes) in
    record {
      before = front ++ following.before;
      rest = following.rest;
      listing = (offset, insn) ∷ following.listing;
      bytes_are = ap (λ all. opcode ∷ all) (sym (take-append-drop k bytes) ∙ ap (λ d. take k bytes ++ d) following.bytes_are ∙ sym (append_assoc (take k bytes) following.before following.rest));
      listed = instruction spells (subst (λ o. Lists o following.before following.listing) moved following.listed);
      bad = following.bad;
      at_is = omega (arith, following.at_is, length-take k bytes, length-append (take k bytes) following.before);
    }

breaks_after : (k offset : ℕ) (bytes : List ℕ) (rule : CodeRule) (at : ℕ) → listing_from k offset bytes ≡ Err (Broken rule at) → k ≤ length bytes → BreaksAfter (offset + k) (drop k bytes) rule at
unfolding listing_from
breaks_after zero offset [] rule at is within = absurd (cc)
breaks_after (suc k) offset [] rule at is within = absurd (cc)
breaks_after zero offset (opcode ∷ bytes) rule at is within =
    elim (listed_err offset (reading.instruction offset opcode bytes) (λ operands. listing_from operands (offset + 1) bytes) rule at is) [
      | here failed at_is ↦ record {
        before = [];
        rest = opcode ∷ bytes;
        listing = [];
        bytes_are = refl;
        listed = nothing;
        bad = rw at_is (broken (subst (Tells offset opcode bytes) failed (tells offset opcode bytes)));
        at_is = omega arith;
      }
      | later s read rest_is ↦
          let told = taken (subst (Tells offset opcode bytes) read (tells offset opcode bytes)) in
          let following = breaks_after s.operands (offset + 1) bytes rule at rest_is told.1 in
          rw (add-zero offset) (later_breaks offset opcode s.operands bytes s.insn rule at told.0 told.1 following)
    ]
breaks_after (suc k) offset (operand ∷ bytes) rule at is within =
    let moved : offset + 1 + k ≡ offset + suc k = omega arith in
    subst (λ o. BreaksAfter o (drop k bytes) rule at) moved (breaks_after k (offset + 1) bytes rule at is (omega arith))

-- The targets of branches.

begins_told : (offsets : List ℕ) (target : ℤ) → begins_at offsets target ≡ true → Begins offsets target
begins_told offsets (pos n) is =
    let (k, offset, within, found, same) = Any-from_list_any (λ offset. eqb offset n) offsets is in
    (offset, (k, within, found), ap pos (sym (eqb-true offset n same)))
begins_told offsets (negsuc n) is = absurd (false≢true is)

begins_again : (offsets : List ℕ) (target : ℤ) → Begins offsets target → begins_at offsets target ≡ true
begins_again offsets target begins =
    let (offset, (k, within, found), target_is) = begins in
    rw target_is (list_any-from_Any (λ o. eqb o offset) offsets (k, offset, within, found, eq-eqb offset offset refl))

lands_told : (offsets : List ℕ) (offset : ℕ) (branches : List ℤ) → all_land offsets offset branches ≡ true → AllByRecursion (λ branch. Begins offsets (pos offset +ℤ branch)) branches
lands_told offsets offset [] is = tt
lands_told offsets offset (branch ∷ branches) is =
    let parts = both_true (begins_at offsets (pos offset +ℤ branch)) (all_land offsets offset branches) is in
    (begins_told offsets (pos offset +ℤ branch) parts.0, lands_told offsets offset branches parts.1)

lands_again : (offsets : List ℕ) (offset : ℕ) (branches : List ℤ) → AllByRecursion (λ branch. Begins offsets (pos offset +ℤ branch)) branches → all_land offsets offset branches ≡ true
lands_again offsets offset [] is = refl
lands_again offsets offset (branch ∷ branches) is =
    rw (begins_again offsets (pos offset +ℤ branch) is.0) (lands_again offsets offset branches is.1)

first_or : (test : Bool) (others : Option ℕ) (n : ℕ) (found : Option ℕ) → cond test others (Some n) ≡ found → ((test ≡ true) × (others ≡ found)) ⊎ ((test ≡ false) × (found ≡ Some n))
first_or true others n found is = inl (refl, is)
first_or false others n found is = inr (refl, sym is)

-- none is astray if each lands
none_astray : (offsets : List ℕ) (listing : Listing) → AllByRecursion (Lands offsets) listing → first_astray offsets listing ≡ None
none_astray offsets [] land = refl
none_astray offsets (entry ∷ listing) land =
    ap (λ test. cond test (first_astray offsets listing) (Some entry.0)) (lands_again offsets entry.0 (branches_of entry.1) land.0) ∙ none_astray offsets listing land.1

land_all : (offsets : List ℕ) (listing : Listing) → first_astray offsets listing ≡ None → AllByRecursion (Lands offsets) listing
land_all offsets [] is = tt
land_all offsets (entry ∷ listing) is =
    elim (first_or (all_land offsets entry.0 (branches_of entry.1)) (first_astray offsets listing) entry.0 None is) [
      | inl h ↦ (lands_told offsets entry.0 (branches_of entry.1) h.0, land_all offsets listing h.1)
      | inr h ↦ absurd (cc)
    ]

-- the first of a listing that is astray
record FirstAstray (offsets : List ℕ) (listing : Listing) (at : ℕ) : Type 0 where
  before : Listing
  after : Listing
  insn : Insn
  listing_is : listing ≡ before ++ (at, insn) ∷ after
  lands_before : AllByRecursion (Lands offsets) before
  strays : Lands offsets (at, insn) → ⊥

later_astray : (offsets : List ℕ) (entry : ℕ × Insn) (listing : Listing) (at : ℕ) → Lands offsets entry → FirstAstray offsets listing at → FirstAstray offsets (entry ∷ listing) at
later_astray offsets entry listing at land first = record {
  before = entry ∷ first.before;
  after = first.after;
  insn = first.insn;
  listing_is = ap (λ l. entry ∷ l) first.listing_is;
  lands_before = (land, first.lands_before);
  strays = first.strays;
}

first_strays : (offsets : List ℕ) (listing : Listing) (at : ℕ) → first_astray offsets listing ≡ Some at → FirstAstray offsets listing at
first_strays offsets [] at is = absurd (cc)
first_strays offsets ((offset, insn) ∷ listing) at is =
    elim (first_or (all_land offsets offset (branches_of insn)) (first_astray offsets listing) offset (Some at) is) [
      | inl h ↦ later_astray offsets (offset, insn) listing at (lands_told offsets offset (branches_of insn) h.0) (first_strays offsets listing at h.1)
      | inr h ↦
          let at_is : offset ≡ at = cc in
          rw (← at_is) (record {
            before = [];
            after = listing;
            insn = insn;
            listing_is = refl;
            lands_before = tt;
            strays = λ land. false≢true (sym h.0 ∙ lands_again offsets offset (branches_of insn) land);
          })
    ]

-- What is read of code.

abbrev checked : Result Listing CodeFault → Result Listing CodeFault
checked read = read >>= λ listing. if_none_astray listing (first_astray (offsets listing) listing)

if_none_ok : (read listing : Listing) (stray : Option ℕ) → if_none_astray read stray ≡ Ok listing → (read ≡ listing) × (stray ≡ None)
if_none_ok read listing None is = (cc, refl)
if_none_ok read listing (Some at) is = absurd (cc)

checked_ok : (read : Result Listing CodeFault) (listing : Listing) → checked read ≡ Ok listing → (read ≡ Ok listing) × (first_astray (offsets listing) listing ≡ None)
checked_ok (Ok found) listing is =
    let (same, none) = if_none_ok found listing (first_astray (offsets found) found) is in
    (ap Ok same, subst (λ l. first_astray (offsets l) l ≡ None) same none)
checked_ok (Err fault) listing is = absurd (cc)

-- what is read is the listing
pub reading_lists : (code : List ℕ) (listing : Listing) → listings.reading code ≡ Ok listing → IsListing code listing
unfolding listings.reading
reading_lists code listing is =
    let (read, none) = checked_ok (listing_from 0 0 code) listing is in
    record { spelled = lists 0 0 code listing read (omega arith); targets = land_all (offsets listing) listing none }

-- the listing is what is read
pub listing_reads : (code : List ℕ) (listing : Listing) → IsListing code listing → listings.reading code ≡ Ok listing
unfolding listings.reading
listing_reads code listing is =
    ap checked (listed_again is.spelled) ∙ ap (if_none_astray listing) (none_astray (offsets listing) listing is.targets)

-- so there is one at most
pub one_listing : (code : List ℕ) (a b : Listing) → IsListing code a → IsListing code b → a ≡ b
one_listing code a b is_a is_b =
    let same : ◌≡◌ {A = Result Listing CodeFault} (Ok a) (Ok b) = sym (listing_reads code a is_a) ∙ listing_reads code b is_b in cc

if_none_err : (read : Listing) (stray : Option ℕ) (rule : CodeRule) (at : ℕ) → if_none_astray read stray ≡ Err (Broken rule at) → (stray ≡ Some at) × (Target ≡ rule)
if_none_err read None rule at is = absurd (cc)
if_none_err read (Some stray) rule at is = (cc, cc)

stray_broken : (code : List ℕ) (listing before after : Listing) (at : ℕ) (insn : Insn) → listing ≡ before ++ (at, insn) ∷ after
    → Lists 0 code listing → AllByRecursion (Lands (offsets listing)) before → (Lands (offsets listing) (at, insn) → ⊥) → IsBroken code Target at
stray_broken code listing before after at insn listing_is =
    let P : Listing → Type 0 = λ l. Lists 0 code l → AllByRecursion (Lands (offsets l)) before → (Lands (offsets l) (at, insn) → ⊥) → IsBroken code Target at in
    subst P (sym listing_is) (λ listed land strays. astray before after at insn listed land strays)

after_broken : (code : List ℕ) (rule : CodeRule) (at : ℕ) → BreaksAfter 0 code rule at → IsBroken code rule at
after_broken code rule at following =
    let at_is : at ≡ length following.before = omega (arith, following.at_is) in
    rw (following.bytes_are, at_is) (unlisted following.listed (subst (λ offset. Breaks offset rule following.rest) at_is following.bad))

checked_breaks : (code : List ℕ) (read : Result Listing CodeFault) (rule : CodeRule) (at : ℕ) → listing_from 0 0 code ≡ read → checked read ≡ Err (Broken rule at) → IsBroken code rule at
checked_breaks code (Ok listing) rule at read is =
    let (stray, rule_is) = if_none_err listing (first_astray (offsets listing) listing) rule at is in
    let first = first_strays (offsets listing) listing at stray in
    let all : Lists 0 code listing = lists 0 0 code listing read (omega arith) in
    rw (← rule_is) (stray_broken code listing first.before first.after at first.insn first.listing_is all first.lands_before first.strays)
checked_breaks code (Err fault) rule at read is =
    let fault_is : fault ≡ Broken rule at = cc in
    after_broken code rule at (breaks_after 0 0 code rule at (read ∙ ap Err fault_is) (omega arith))

-- a fault that is read is one of the code
pub reading_breaks : (code : List ℕ) (rule : CodeRule) (at : ℕ) → listings.reading code ≡ Err (Broken rule at) → IsBroken code rule at
unfolding listings.reading
reading_breaks code rule at is = checked_breaks code (listing_from 0 0 code) rule at refl is

ok_same : (a b : Spelled) → ◌≡◌ {A = Result Spelled CodeRule} (Ok a) (Ok b) → a ≡ b
ok_same a b same = cc

-- no spelling begins another
pub one_spelling : (offset : ℕ) (a b rest more : List ℕ) (insn other : Insn) → Spells offset a insn → Spells offset b other → a ++ rest ≡ b ++ more → (a ≡ b) × (insn ≡ other)
one_spelling offset a b rest more insn other spells_a spells_b joined =
    let x = again spells_a in
    let y = again spells_b in
    let whole : x.opcode ∷ x.operands ++ rest ≡ y.opcode ∷ y.operands ++ more = ap (λ front. front ++ rest) (sym x.bytes_are) ∙ joined ∙ ap (λ front. front ++ more) y.bytes_are in
    let opcodes : x.opcode ≡ y.opcode = cc in
    let tails : x.operands ++ rest ≡ y.operands ++ more = cc in
    let same : ◌≡◌ {A = Result Spelled CodeRule} (Ok (record { insn = insn; operands = length x.operands })) (Ok (record { insn = other; operands = length y.operands })) =
    sym (x.read rest) ∙ ap (λ o. reading.instruction offset o (x.operands ++ rest)) opcodes ∙ ap (reading.instruction offset y.opcode) tails ∙ y.read more in
    let spelled = ok_same _ _ same in
    let lengths : length x.operands ≡ length y.operands = ap (λ (s : Spelled). s.operands) spelled in
    let operands : x.operands ≡ y.operands =
    sym (take-append_seam x.operands rest) ∙ ap (λ n. take n (x.operands ++ rest)) lengths ∙ ap (take (length y.operands)) tails ∙ take-append_seam y.operands more in
    (x.bytes_are ∙ ap (λ o. o ∷ x.operands) opcodes ∙ ap (λ ops. y.opcode ∷ ops) operands ∙ sym y.bytes_are, ap (λ (s : Spelled). s.insn) spelled)

-- the first offset is 0
begins_at_offset : {offset : ℕ} {bytes : List ℕ} {listing : Listing} → Lists offset bytes listing → get_or (offsets listing) 0 offset ≡ offset
begins_at_offset nothing = refl
begins_at_offset (instruction spells rest) = refl

pub listing_begins : (code : List ℕ) (listing : Listing) → IsListing code listing → get_or (offsets listing) 0 0 ≡ 0
listing_begins code listing is = begins_at_offset is.spelled

-- What a call ensures of its result if it gives the reading; `items` is the view of the listing.
module _ {V : Type 0} (items : V → Listing) (code : List ℕ) where
  abbrev Gives : Result V CodeFault → Type 0
  Gives result = MatchResult result (λ listing. listings.reading code ≡ Ok (items listing)) (λ fault. Fails fault (listings.reading code))

  pub found : (result : Result V CodeFault) → Gives result → IfOk result (λ listing. IsListing code (items listing))
  found (Ok listing) is = reading_lists code (items listing) is
  found (Err fault) is = tt

  pub only : (result : Result V CodeFault) → Gives result → (listing : Listing) → IsListing code listing → MatchResult result (λ found. items found ≡ listing) (λ fault. fault ≡ Memory)
  only (Ok found) is listing lists = let read = listing_reads code listing lists in cc
  only (Err Memory) is listing lists = refl
  only (Err (Broken rule at)) is listing lists = let read = listing_reads code listing lists in absurd (cc)

  pub fault : (result : Result V CodeFault) → Gives result → IfErr result (Explains code)
  fault (Ok listing) is = tt
  fault (Err Memory) is = tt
  fault (Err (Broken rule at)) is = reading_breaks code rule at is

  pub begins : (result : Result V CodeFault) → Gives result → IfOk result (λ listing. get_or (offsets (items listing)) 0 0 ≡ 0)
  begins (Ok listing) is = listing_begins code (items listing) (reading_lists code (items listing) is)
  begins (Err fault) is = tt
