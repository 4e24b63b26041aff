-- What is read of a switch is spelled so, or the rule is broken.
use Rattle.std.proofs.Common.{◌≡◌, ◌≢◌, ℕ, ◌+◌, ◌-◌, ◌*◌, ◌<◌, ◌≤◌, ℤ, pos, negsuc, ◌-ℤ◌, inl, inr, true, false, nat_lt, eqb, eq-eqb, cond, List, ◌∷◌, ◌++◌, length, take, drop, Err, refl, ap, sym, subst, ◌∙◌, arith, length-append, append_assoc}
use Rattle.std.proofs.Math.Seq.{take-append_seam}
use Rattle.std.proofs.lemmas.Bool.{eqb-true, false≢true}
use Rattle.std.proofs.lemmas.Bool.Decides.{nat_tests}
use Rattle.std.proofs.lemmas.Int.{ints}
use Rattle.cf_insns.specs.declared.fault.CodeRule.TheVariants.{Cut, Keys}
use Rattle.cf_insns.specs.declared.insn.Insn.TheVariants.{TableSwitch, LookupSwitch}
use Rattle.cf_insns.specs.declared.opcode.TheConstants as op
use Rattle.cf_insns.specs.Faults.{Breaks, low_above_high, negative, unsorted}
use Rattle.cf_insns.specs.Layout.{padding_length, counted, count_of}
use Rattle.cf_insns.specs.Operands.{IsInt}
use Rattle.cf_insns.specs.Reading.{◌>>=◌, ints_of, cases_of, keys_rise, table_switch, table_rows, lookup_switch, lookup_rows, sorted, spelled}
use Rattle.cf_insns.specs.Spelling.{Spells, tableswitch, lookupswitch}
use Rattle.cf_insns.proofs.Cases.{by_test}
use Rattle.cf_insns.proofs.Keys.{keys_again, keys_told}
use Rattle.cf_insns.proofs.SwitchParts.{completed, order, zeros, zeros_length, Table, table_of, table_read, table_rest, table_length, table_laid, table_short, table_cut, Lookup, lookup_of, lookup_read, lookup_rest, lookup_length, lookup_laid, lookup_short, lookup_cut, ints_told, Cases, cases_told}
use Rattle.cf_insns.proofs.Told.{Tells, takes, breaks}

-- a count that is not 0 says how far the higher one is above the lower
counted_told : (z : ℤ) → counted z ≢ 0 → (n : ℕ) × (z ≡ pos n) × (counted z ≡ n + 1)
counted_told (pos n) some = (n, refl, refl)
counted_told (negsuc n) some = absurd (some refl)

counted_none : (z : ℤ) → counted z ≡ 0 → (n : ℕ) × (z ≡ negsuc n)
counted_none (pos n) none = absurd (omega (arith, none))
counted_none (negsuc n) none = (n, refl)

module _ (offset : ℕ) (operands : List ℕ) (t : Table offset operands) where
  -- rows that the code does not reach
  table_ends : length operands < padding_length offset + 12 + 4 * counted (t.h -ℤ t.l) → Breaks offset Cut (op.TABLESWITCH ∷ operands)
  table_ends short =
      let k = 4 * counted (t.h -ℤ t.l) - length t.rest in
      let all = table_length offset operands t in
      completed offset op.TABLESWITCH operands (zeros k) (omega (arith, all, zeros_length k)) (table_laid offset operands t (zeros k) (omega (arith, all, zeros_length k)))

  table_above : counted (t.h -ℤ t.l) ≡ 0 → Breaks offset Keys (op.TABLESWITCH ∷ operands)
  table_above none =
      let (n, is) = counted_none (t.h -ℤ t.l) none in
      subst (λ all. Breaks offset Keys (op.TABLESWITCH ∷ all)) (sym t.operands_are) (low_above_high t.rest t.aligned t.default_is t.low_is t.high_is (omega (arith, ints, is)))

  table_taken : padding_length offset + 12 + 4 * counted (t.h -ℤ t.l) ≤ length operands → counted (t.h -ℤ t.l) ≢ 0
      → Spells offset (op.TABLESWITCH ∷ take (padding_length offset + 12 + 4 * counted (t.h -ℤ t.l)) operands) (TableSwitch t.d t.l (ints_of (counted (t.h -ℤ t.l)) (drop (padding_length offset + 12) operands)))
  table_taken within some =
      let all = table_length offset operands t in
      let (n, is, many) = counted_told (t.h -ℤ t.l) some in
      let told = ints_told (counted (t.h -ℤ t.l)) t.rest (omega (arith, all)) in
      let written = t.padding ++ (t.default ++ (t.low ++ (t.high ++ told.rows))) in
      let joined : written ++ told.rest ≡ operands = simp append_assoc (sym (t.operands_are ∙ ap (λ rest. t.padding ++ (t.default ++ (t.low ++ (t.high ++ rest)))) told.bytes_are)) in
      let end : length written ≡ padding_length offset + 12 + 4 * counted (t.h -ℤ t.l) = omega (arith, all, told.long, ap length joined, length-append written told.rest, ap length told.bytes_are, length-append told.rows told.rest) in
      let front : take (padding_length offset + 12 + 4 * counted (t.h -ℤ t.l)) operands ≡ written = ap (take (padding_length offset + 12 + 4 * counted (t.h -ℤ t.l))) (sym joined) ∙ ap (λ n. take n (written ++ told.rest)) (sym end) ∙ take-append_seam written told.rest in
      let spells = tableswitch n t.aligned t.default_is t.low_is t.high_is told.are is (told.many ∙ many) in
      let with_rows = subst (λ rest. Spells offset (op.TABLESWITCH ∷ written) (TableSwitch t.d t.l (ints_of (counted (t.h -ℤ t.l)) rest))) (sym (table_rest offset operands t)) spells in
      subst (λ bytes. Spells offset (op.TABLESWITCH ∷ bytes) (TableSwitch t.d t.l (ints_of (counted (t.h -ℤ t.l)) (drop (padding_length offset + 12) operands)))) (sym front) with_rows

  table_rows_tell : Tells offset op.TABLESWITCH operands (table_rows (padding_length offset + 12) t.d t.l (counted (t.h -ℤ t.l)) operands)
  table_rows_tell =
      by_test (λ read. Tells offset op.TABLESWITCH operands (read >>= λ end. cond (eqb (counted (t.h -ℤ t.l)) 0) (Err Keys) (spelled (TableSwitch t.d t.l (ints_of (counted (t.h -ℤ t.l)) (drop (padding_length offset + 12) operands))) end)))
      (nat_lt (length operands) (padding_length offset + 12 + 4 * counted (t.h -ℤ t.l))) _ _
      (λ is. breaks Cut (table_ends (grind (arith, nat_tests))))
      (λ not_cut. by_test (Tells offset op.TABLESWITCH operands) (eqb (counted (t.h -ℤ t.l)) 0) _ _
      (λ is. breaks Keys (table_above (eqb-true _ _ is)))
      (λ some. let within : padding_length offset + 12 + 4 * counted (t.h -ℤ t.l) ≤ length operands = grind (arith, nat_tests) in
      takes _ (padding_length offset + 12 + 4 * counted (t.h -ℤ t.l)) (table_taken within (λ none. false≢true (sym some ∙ eq-eqb (counted (t.h -ℤ t.l)) 0 none))) within))

pub table_tells : (offset : ℕ) (operands : List ℕ) → Tells offset op.TABLESWITCH operands (table_switch offset operands)
table_tells offset operands = elim (order (padding_length offset + 12) (length operands)) [
  | inl within ↦
      let t = table_of offset operands within in
      subst (Tells offset op.TABLESWITCH operands) (sym (table_read offset operands t)) (table_rows_tell offset operands t)
  | inr short ↦ subst (Tells offset op.TABLESWITCH operands) (sym (table_short offset operands short)) (breaks Cut (table_cut offset operands short))
]

module _ (offset : ℕ) (operands : List ℕ) (t : Lookup offset operands) where
  lookup_ends : (n : ℕ) → t.n ≡ pos n → length operands < padding_length offset + 8 + 8 * n → Breaks offset Cut (op.LOOKUPSWITCH ∷ operands)
  lookup_ends n n_is short =
      let k = 8 * n - length t.rest in
      let all = lookup_length offset operands t in
      let many : count_of t.n ≡ n = ap count_of n_is in
      completed offset op.LOOKUPSWITCH operands (zeros k) (omega (arith, all, zeros_length k)) (lookup_laid offset operands t (zeros k) (omega (arith, all, zeros_length k, many)))

  lookup_negative : (n : ℕ) → t.n ≡ negsuc n → Breaks offset Keys (op.LOOKUPSWITCH ∷ operands)
  lookup_negative n n_is =
      subst (λ all. Breaks offset Keys (op.LOOKUPSWITCH ∷ all)) (sym t.operands_are) (negative n t.rest t.aligned t.default_is (subst (IsInt t.npairs) n_is t.npairs_is))

  module _ (n : ℕ) (n_is : t.n ≡ pos n) (within : padding_length offset + 8 + 8 * n ≤ length operands) where
    told : Cases n t.rest
    told = cases_told n t.rest (let all = lookup_length offset operands t in omega (arith, all))

    -- npairs is the number of the cases
    many_are : IsInt t.npairs (pos (length (cases_of n t.rest)))
    many_are = subst (IsInt t.npairs) (n_is ∙ ap pos (sym told.many)) t.npairs_is

    lookup_unsorted : keys_rise (cases_of n t.rest) ≡ false → Breaks offset Keys (op.LOOKUPSWITCH ∷ operands)
    lookup_unsorted unsorted_is =
        let joined : operands ≡ t.padding ++ (t.default ++ (t.npairs ++ (told.rows ++ told.rest))) = t.operands_are ∙ ap (λ rest. t.padding ++ (t.default ++ (t.npairs ++ rest))) told.bytes_are in
        subst (λ all. Breaks offset Keys (op.LOOKUPSWITCH ∷ all)) (sym joined)
        (unsorted told.rest t.aligned t.default_is many_are told.are (λ rise. false≢true (sym unsorted_is ∙ keys_again (cases_of n t.rest) rise)))

    lookup_taken : keys_rise (cases_of n t.rest) ≡ true → Spells offset (op.LOOKUPSWITCH ∷ take (padding_length offset + 8 + 8 * n) operands) (LookupSwitch t.d (cases_of n t.rest))
    lookup_taken sorted_is =
        let all = lookup_length offset operands t in
        let written = t.padding ++ (t.default ++ (t.npairs ++ told.rows)) in
        let joined : written ++ told.rest ≡ operands = simp append_assoc (sym (t.operands_are ∙ ap (λ rest. t.padding ++ (t.default ++ (t.npairs ++ rest))) told.bytes_are)) in
        let end : length written ≡ padding_length offset + 8 + 8 * n = omega (arith, all, told.long, ap length joined, length-append written told.rest, ap length told.bytes_are, length-append told.rows told.rest) in
        let front : take (padding_length offset + 8 + 8 * n) operands ≡ written = ap (take (padding_length offset + 8 + 8 * n)) (sym joined) ∙ ap (λ n. take n (written ++ told.rest)) (sym end) ∙ take-append_seam written told.rest in
        subst (λ bytes. Spells offset (op.LOOKUPSWITCH ∷ bytes) (LookupSwitch t.d (cases_of n t.rest))) (sym front)
        (lookupswitch t.aligned t.default_is many_are told.are (keys_told (cases_of n t.rest) sorted_is))

    sorted_tells : Tells offset op.LOOKUPSWITCH operands (sorted t.d (cases_of n t.rest) (padding_length offset + 8 + 8 * n))
    sorted_tells =
        by_test (Tells offset op.LOOKUPSWITCH operands) (keys_rise (cases_of n t.rest)) _ _
        (λ is. takes _ (padding_length offset + 8 + 8 * n) (lookup_taken is) within)
        (λ is. breaks Keys (lookup_unsorted is))

  lookup_rows_tell : (n : ℕ) → t.n ≡ pos n → Tells offset op.LOOKUPSWITCH operands (lookup_rows (padding_length offset + 8) t.d (pos n) operands)
  lookup_rows_tell n n_is =
      by_test (λ read. Tells offset op.LOOKUPSWITCH operands (read >>= λ end. sorted t.d (cases_of n (drop (padding_length offset + 8) operands)) end))
      (nat_lt (length operands) (padding_length offset + 8 + 8 * n)) _ _
      (λ is. breaks Cut (lookup_ends n n_is (grind (arith, nat_tests))))
      (λ not_cut. subst (λ rest. Tells offset op.LOOKUPSWITCH operands (sorted t.d (cases_of n rest) (padding_length offset + 8 + 8 * n))) (sym (lookup_rest offset operands t)) (sorted_tells n n_is (grind (arith, nat_tests))))

  lookup_any_tells : (n : ℤ) → t.n ≡ n → Tells offset op.LOOKUPSWITCH operands (lookup_rows (padding_length offset + 8) t.d n operands)
  lookup_any_tells (pos n) n_is = lookup_rows_tell n n_is
  lookup_any_tells (negsuc n) n_is = breaks Keys (lookup_negative n n_is)

pub lookup_tells : (offset : ℕ) (operands : List ℕ) → Tells offset op.LOOKUPSWITCH operands (lookup_switch offset operands)
lookup_tells offset operands = elim (order (padding_length offset + 8) (length operands)) [
  | inl within ↦
      let t = lookup_of offset operands within in
      subst (Tells offset op.LOOKUPSWITCH operands) (sym (lookup_read offset operands t)) (lookup_any_tells offset operands t t.n refl)
  | inr short ↦ subst (Tells offset op.LOOKUPSWITCH operands) (sym (lookup_short offset operands short)) (breaks Cut (lookup_cut offset operands short))
]
