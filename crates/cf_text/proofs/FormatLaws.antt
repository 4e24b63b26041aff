-- Readings of formats, put together.
use Rattle.std.proofs.Common.{◌≡◌, ◌+◌, ℕ, zero, suc, Bool, true, false, cond, leb, List, [], ◌∷◌, length, take, drop, Result, Ok, Err, refl, sym, ap, ◌∙◌, subst, arith, inl, inr}
use Rattle.std.specs.Prelude.{IfOk, IfErr}
use Rattle.std.proofs.lemmas.Bool.{false≢true, leb-true, leb-false, le-leb, lt-leb}
use Rattle.byteorder.specs.Endian.{big_number}
use Rattle.cf_text.specs.declared.fault.Rule.{Rule}
use Rattle.cf_text.specs.declared.fault.Rule.TheVariants.{Truncated}
use Rattle.cf_text.specs.declared.fault.ReadFault.{ReadFault}
use Rattle.cf_text.specs.declared.fault.ReadFault.TheVariants.{Broken, Memory}
use Rattle.cf_text.specs.Reading.{Gives, many}
use Rattle.cf_text.specs.Reading.{◌>>=◌ as ◌then◌}
use Rattle.cf_text.specs.Formats.{Format, Reads, FailsBy, IsItem, IsCut, number_format, run_format, done, ◌>>=◌, asking, refused, many_format}
use Rattle.cf_text.specs.Numbers.{number_at, bytes_at, skip_at}

-- a pair from its parts
pub pair_is : {A B : Type 0} {a c : A} {b d : B} → a ≡ c → b ≡ d → ◌≡◌ {A = A × B} (a, b) (c, d)
pair_is {A} {B} {a} {c} {b} {d} p q = ap (λ (x : A). (x, b)) p ∙ ap (λ (y : B). (c, y)) q

-- a fault from its parts
pub broken_is : {r s : Rule} {a b : ℕ} → r ≡ s → a ≡ b → Broken r a ≡ Broken s b
broken_is {r} {s} {a} {b} p q = ap (λ (x : Rule). Broken x a) p ∙ ap (λ (y : ℕ). Broken s y) q

-- an answer that is no fault
abbrev answered : {A : Type 0} → A → Result A ReadFault
answered x = Ok x

-- an answer that is a fault
abbrev refusal : {A : Type 0} → ReadFault → Result A ReadFault
refusal fault = Err fault

-- ---- items

-- a reading of one item of n bytes, with a value that the bytes give
module _ {A : Type 0} (n : ℕ) (bytes : List ℕ) (from : ℕ) (value : A) (format : Format A)
    (stands : (to : ℕ) → IsItem n bytes from to → format.Stands from value to)
    (is : (x : A) (to : ℕ) → format.Stands from x to → IsItem n bytes from to × (x ≡ value))
    (cut : (rule : Rule) (at : ℕ) → IsCut n bytes from rule at → format.Fails from rule at)
    (uncut : (rule : Rule) (at : ℕ) → format.Fails from rule at → IsCut n bytes from rule at) where
  item_taken : (b : Bool) (x : A × ℕ) → leb (from + n) (length bytes) ≡ b → cond b (answered (value, from + n)) (Err (Broken Truncated from)) ≡ Ok x → format.Stands from x.0 x.1
  item_taken true x test e =
      let same : ◌≡◌ {A = A × ℕ} (value, from + n) x = cc in
      subst (λ (y : A × ℕ). format.Stands from y.0 y.1) same (stands (from + n) (record { end = refl; inside = leb-true _ _ test }))
  item_taken false x test e = absurd cc

  item_again : (x : A × ℕ) → IsItem n bytes from x.1 × (x.0 ≡ value) → cond (leb (from + n) (length bytes)) (answered (value, from + n)) (Err (Broken Truncated from)) ≡ Ok x
  item_again x h =
      let fits : leb (from + n) (length bytes) ≡ true = le-leb _ _ (omega (arith, h.0.end, h.0.inside)) in
      rw fits (ap Ok (pair_is (sym h.1) (sym h.0.end)))

  item_failed : (b : Bool) (fault : ReadFault) → leb (from + n) (length bytes) ≡ b → cond b (answered {A = A × ℕ} (value, from + n)) (Err (Broken Truncated from)) ≡ Err fault → FailsBy format from fault
  item_failed true fault test e = absurd cc
  item_failed false (Broken rule at) test e = cut rule at (record { short = leb-false _ _ test; rule_is = cc; at_is = cc })
  item_failed false Memory test e = absurd cc

  item_refused : (rule : Rule) (at : ℕ) → IsCut n bytes from rule at → cond (leb (from + n) (length bytes)) (answered {A = A × ℕ} (value, from + n)) (Err (Broken Truncated from)) ≡ Err (Broken rule at)
  item_refused rule at h =
      let short : leb (from + n) (length bytes) ≡ false = lt-leb (from + n) (length bytes) h.short in
      rw short (ap Err (broken_is (sym h.rule_is) (sym h.at_is)))

  item_ample : (b : Bool) → cond b (answered {A = A × ℕ} (value, from + n)) (Err (Broken Truncated from)) ≡ Err Memory → ⊥
  item_ample true e = cc
  item_ample false e = cc

  item_reads : Reads (cond (leb (from + n) (length bytes)) (answered (value, from + n)) (Err (Broken Truncated from))) from format
  item_reads = record {
    takes = λ x e. item_taken (leb (from + n) (length bytes)) x refl e;
    again = λ x h. item_again x (is x.0 x.1 h);
    fails = λ fault e. item_failed (leb (from + n) (length bytes)) fault refl e;
    refuses = λ rule at h. item_refused rule at (uncut rule at h);
    ample = item_ample (leb (from + n) (length bytes));
  }

pub number_reads : (n : ℕ) (bytes : List ℕ) (from : ℕ) → Reads (number_at n bytes from) from (number_format n bytes)
number_reads n bytes from =
    item_reads n bytes from (big_number n (drop from bytes)) (number_format n bytes) (λ to item. (item, refl)) (λ x to h. h) (λ rule at cut. cut) (λ rule at cut. cut)

pub run_reads : (n : ℕ) (bytes : List ℕ) (from : ℕ) → Reads (bytes_at n bytes from) from (run_format n bytes)
run_reads n bytes from =
    item_reads n bytes from (take n (drop from bytes)) (run_format n bytes) (λ to item. (item, refl)) (λ x to h. h) (λ rule at cut. cut) (λ rule at cut. cut)

-- ---- one after the other

pub done_reads : {A : Type 0} (a : A) (from : ℕ) → Reads (answered (a, from)) from (done a)
done_reads {A} a from = record {
  takes = λ x e. taken x e;
  again = λ x h. ap Ok (pair_is (sym h.0) (sym h.1));
  fails = λ fault e. absurd cc;
  refuses = λ rule at h. absurd h;
  ample = λ e. cc;
}
  where
    taken : (x : A × ℕ) → answered (a, from) ≡ answered x → (x.0 ≡ a) × (x.1 ≡ from)
    taken x e =
        let same : ◌≡◌ {A = A × ℕ} (a, from) x = cc in
        (sym (ap (λ (p : A × ℕ). p.0) same), sym (ap (λ (p : A × ℕ). p.1) same))

module _ {A B : Type 0} (from : ℕ) (one : Format A) (next : A × ℕ → Result (B × ℕ) ReadFault) (other : A × ℕ → Format B)
    (second : (x : A × ℕ) → Reads (next x) x.1 (other x)) where
  then_taken : (r : Result (A × ℕ) ReadFault) → Reads r from one → (y : B × ℕ) → (r then next) ≡ Ok y → (one >>= other).Stands from y.0 y.1
  then_taken (Ok x) first y e = (x, first.takes x refl, (second x).takes y e)
  then_taken (Err fault) first y e = absurd cc

  then_failed : (r : Result (A × ℕ) ReadFault) → Reads r from one → (fault : ReadFault) → (r then next) ≡ Err fault → FailsBy (one >>= other) from fault
  then_failed (Ok x) first (Broken rule at) e = inr (x, first.takes x refl, (second x).fails (Broken rule at) e)
  then_failed (Ok x) first Memory e = tt
  then_failed (Err failed) first (Broken rule at) e =
      let same : failed ≡ Broken rule at = cc in
      inl (first.fails (Broken rule at) (ap Err same))
  then_failed (Err failed) first Memory e = tt

  then_ample : (r : Result (A × ℕ) ReadFault) → Reads r from one → (r then next) ≡ Err Memory → ⊥
  then_ample (Ok x) first e = (second x).ample e
  then_ample (Err (Broken rule at)) first e = cc
  then_ample (Err Memory) first e = first.ample refl

  then_refused : (r : Result (A × ℕ) ReadFault) → Reads r from one → (rule : Rule) (at : ℕ) → (one >>= other).Fails from rule at → (r then next) ≡ Err (Broken rule at)
  then_refused r first rule at h =
      elim h [
        | inl failed ↦ ap (λ (q : Result (A × ℕ) ReadFault). q then next) (first.refuses rule at failed)
        | inr later ↦ ap (λ (q : Result (A × ℕ) ReadFault). q then next) (first.again later.0 later.1) ∙ (second later.0).refuses rule at later.2
      ]

pub then_reads : {A B : Type 0} {reading : Result (A × ℕ) ReadFault} {from : ℕ} {one : Format A} {next : A × ℕ → Result (B × ℕ) ReadFault} {other : A × ℕ → Format B}
    → Reads reading from one → ((x : A × ℕ) → Reads (next x) x.1 (other x)) → Reads (reading then next) from (one >>= other)
then_reads {A} {B} {reading} {from} {one} {next} {other} first second = record {
  takes = λ y e. then_taken from one next other second reading first y e;
  again = λ y h. ap (λ (r : Result (A × ℕ) ReadFault). r then next) (first.again h.0 h.1) ∙ (second h.0).again y h.2;
  fails = λ fault e. then_failed from one next other second reading first fault e;
  refuses = λ rule at h. then_refused from one next other second reading first rule at h;
  ample = λ e. then_ample from one next other second reading first e;
}

-- a reading that is equal to one of a format
pub along_reads : {A : Type 0} {reading other : Result (A × ℕ) ReadFault} {from : ℕ} {format : Format A} → other ≡ reading → Reads reading from format → Reads other from format
along_reads same reads = record {
  takes = λ x e. reads.takes x (sym same ∙ e);
  again = λ x h. same ∙ reads.again x h;
  fails = λ fault e. reads.fails fault (sym same ∙ e);
  refuses = λ rule at h. same ∙ reads.refuses rule at h;
  ample = λ e. reads.ample (sym same ∙ e);
}

-- bytes that are passed over are a run of them
passed_over : {B : Type 0} (b : Bool) (run : List ℕ) (to : ℕ) (fault : ReadFault) (next : ℕ → Result B ReadFault)
    → (cond b (Ok to) (Err fault) then next) ≡ (cond b (answered {A = List ℕ × ℕ} (run, to)) (Err fault) then (λ x. next x.1))
passed_over true run to fault next = refl
passed_over false run to fault next = refl

pub skip_reads : {B : Type 0} (n : ℕ) (bytes : List ℕ) (from : ℕ) (next : ℕ → Result (B × ℕ) ReadFault) {other : List ℕ × ℕ → Format B}
    → ((x : List ℕ × ℕ) → Reads (next x.1) x.1 (other x)) → Reads (skip_at n bytes from then next) from (run_format n bytes >>= other)
skip_reads n bytes from next {other} second =
    along_reads (passed_over (leb (from + n) (length bytes)) (take n (drop from bytes)) (from + n) (Broken Truncated from) next)
    (then_reads {next = λ x. next x.1} (run_reads n bytes from) second)

pub refused_reads : {A : Type 0} (rule : Rule) (at from : ℕ) → Reads (refusal {A = A × ℕ} (Broken rule at)) from (refused rule at)
refused_reads {A} rule at from = record {
  takes = λ x e. absurd cc;
  again = λ x h. absurd h;
  fails = λ fault e. failed fault e;
  refuses = λ r a h. ap Err (broken_is (sym h.0) (sym h.1));
  ample = λ e. cc;
}
  where
    failed : (fault : ReadFault) → refusal {A = A × ℕ} (Broken rule at) ≡ refusal fault → FailsBy (refused {A = A} rule at) from fault
    failed (Broken r a) e = (cc, cc)
    failed Memory e = absurd cc

-- a rule that is asked before the rest is read
pub asking_reads : {A : Type 0} (holds : Bool) (rule : Rule) (at : ℕ) {reading : Result (A × ℕ) ReadFault} {from : ℕ} {format : Format A} → Reads reading from format
    → Reads (cond holds reading (Err (Broken rule at))) from (asking holds rule at format)
asking_reads true rule at {reading} {from} {format} reads = record {
  takes = λ x e. (refl, reads.takes x e);
  again = λ x h. reads.again x h.1;
  fails = λ fault e. failed fault e;
  refuses = λ r a h. refused_later r a h;
  ample = λ e. reads.ample e;
}
  where
    refused_later : (r : Rule) (a : ℕ) → (asking true rule at format).Fails from r a → reading ≡ Err (Broken r a)
    refused_later r a h = elim h [ inl here ↦ absurd (false≢true (sym here.0)) | inr later ↦ reads.refuses r a later.1 ]

    failed : (fault : ReadFault) → reading ≡ Err fault → FailsBy (asking true rule at format) from fault
    failed (Broken r a) e = inr (refl, reads.fails (Broken r a) e)
    failed Memory e = tt
asking_reads {A} false rule at {reading} {from} {format} reads = record {
  takes = λ x e. absurd cc;
  again = λ x h. absurd (false≢true h.0);
  fails = λ fault e. failed fault e;
  refuses = λ r a h. refused_here r a h;
  ample = λ e. cc;
}
  where
    refused_here : (r : Rule) (a : ℕ) → (asking false rule at format).Fails from r a → refusal {A = A × ℕ} (Broken rule at) ≡ Err (Broken r a)
    refused_here r a h = elim h [ inl here ↦ ap Err (broken_is (sym here.1) (sym here.2)) | inr later ↦ absurd (false≢true later.0) ]

    failed : (fault : ReadFault) → refusal {A = A × ℕ} (Broken rule at) ≡ refusal fault → FailsBy (asking false rule at format) from fault
    failed (Broken r a) e = inl (refl, cc, cc)
    failed Memory e = absurd cc

pub many_reads : {A : Type 0} (read : ℕ → Result (A × ℕ) ReadFault) (format : ℕ → Format A) → ((at : ℕ) → Reads (read at) at (format at)) → (n at : ℕ) → Reads (many read n at) at (many_format format n at)
unfolding many
many_reads read format reads zero at = done_reads [] at
many_reads read format reads (suc n) at =
    then_reads (reads at) (λ first. then_reads (many_reads read format reads n first.1) (λ others. done_reads (first.0 ∷ others.0) others.1))

-- ---- what an answer says, from the reading that it gives

pub found : {A : Type 0} {reading : Result (A × ℕ) ReadFault} {from : ℕ} {format : Format A} → Reads reading from format → (answer : Result (A × ℕ) ReadFault)
    → Gives reading answer → IfOk answer (λ x. format.Stands from x.0 x.1)
found reads (Ok x) given = reads.takes x given
found reads (Err fault) given = tt

pub only : {A : Type 0} {reading : Result (A × ℕ) ReadFault} {from : ℕ} {format : Format A} → Reads reading from format → (answer : Result (A × ℕ) ReadFault)
    → Gives reading answer → (x : A × ℕ) → format.Stands from x.0 x.1 → Gives (Ok x) answer
only {A} {reading} reads answer given x stands = subst (λ (r : Result (A × ℕ) ReadFault). Gives r answer) (reads.again x stands) given

pub faults : {A : Type 0} {reading : Result (A × ℕ) ReadFault} {from : ℕ} {format : Format A} → Reads reading from format → (answer : Result (A × ℕ) ReadFault)
    → Gives reading answer → IfErr answer (FailsBy format from)
faults reads (Ok x) given = tt
faults reads (Err (Broken rule at)) given = reads.fails (Broken rule at) given
faults reads (Err Memory) given = tt

-- what stands is one value, up to one position
pub one_stands : {A : Type 0} {reading : Result (A × ℕ) ReadFault} {from : ℕ} {format : Format A} → Reads reading from format → (x y : A × ℕ)
    → format.Stands from x.0 x.1 → format.Stands from y.0 y.1 → x ≡ y
one_stands {A} {reading} reads x y a b = same x y (sym (reads.again x a) ∙ reads.again y b)
  where
    same : (x y : A × ℕ) → answered x ≡ answered y → x ≡ y
    same x y e = cc
