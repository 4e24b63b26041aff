-- A switch that is spelled is read again, whatever follows it.
use Rattle.std.proofs.Common.{◌≡◌, ℕ, ◌+◌, ◌*◌, ◌≤◌, ℤ, pos, ◌-ℤ◌, true, false, nat_lt, eqb, cond, List, ◌++◌, length, drop, Result, Ok, Err, refl, ap, sym, ◌∙◌, arith, length-append, append_assoc}
use Rattle.std.proofs.lemmas.Bool.Decides.{nat_tests}
use Rattle.cf_insns.specs.declared.fault.CodeRule.{CodeRule}
use Rattle.cf_insns.specs.declared.fault.CodeRule.TheVariants.{Keys}
use Rattle.cf_insns.specs.declared.insn.Insn.TheVariants.{TableSwitch, LookupSwitch}
use Rattle.cf_insns.specs.declared.insn.SwitchCase.{SwitchCase}
use Rattle.cf_insns.specs.declared.opcode.TheConstants as op
use Rattle.cf_insns.specs.Layout.{IsPadding, padding_length, counted}
use Rattle.cf_insns.specs.Operands.{IsInt, AreInts, AreCases}
use Rattle.cf_insns.specs.Reading as reading
use Rattle.cf_insns.specs.Reading.{instruction, ints_of, cases_of, keys_rise, table_switch, table_rows, lookup_switch, lookup_rows, sorted, spelled}
use Rattle.cf_insns.specs.Spelling.{KeysRise}
use Rattle.cf_insns.proofs.Keys.{keys_again}
use Rattle.cf_insns.proofs.SwitchParts.{Table, table_length, table_rest, table_read, Lookup, lookup_length, lookup_rest, lookup_read, ints_length, ints_again, cases_length, cases_again}

-- rows that the code reaches
reached : {A : Type 0} (operands : List ℕ) (end : ℕ) (cut found : A) → end ≤ length operands → cond (nat_lt (length operands) end) cut found ≡ found
reached operands end cut found le = let test : nat_lt (length operands) end ≡ false = grind (arith, nat_tests) in rw test refl

-- a count of one at least
some : {A : Type 0} (count n : ℕ) (none found : A) → count ≡ n + 1 → cond (eqb count 0) none found ≡ found
some count n none found is = let test : eqb count 0 ≡ false = grind (arith, nat_tests) in rw test refl

rows_read : (from : ℕ) (d l : ℤ) (count n : ℕ) (operands : List ℕ) (branches : List ℤ) (end : ℕ) → from + 4 * count ≤ length operands → count ≡ n + 1
    → ints_of count (drop from operands) ≡ branches → from + 4 * count ≡ end → table_rows from d l count operands ≡ spelled (TableSwitch d l branches) end
rows_read from d l count n operands branches end within is branches_are end_is =
    ap (λ (read : Result ℕ CodeRule). reading.◌>>=◌ read (λ end. cond (eqb count 0) (Err Keys) (spelled (TableSwitch d l (ints_of count (drop from operands))) end))) (reached operands (from + 4 * count) _ _ within)
    ∙ some count n _ _ is
    ∙ ap (λ branches. spelled (TableSwitch d l branches) (from + 4 * count)) branches_are
    ∙ ap (spelled (TableSwitch d l branches)) end_is

pub table_again : {offset : ℕ} {padding default low high rows : List ℕ} {d l h : ℤ} {branches : List ℤ} (n : ℕ)
    → IsPadding offset padding → IsInt default d → IsInt low l → IsInt high h → AreInts rows branches → h -ℤ l ≡ pos n → length branches ≡ n + 1 → (rest : List ℕ)
    → instruction offset op.TABLESWITCH ((padding ++ (default ++ (low ++ (high ++ rows)))) ++ rest) ≡ Ok (record { insn = TableSwitch d l branches; operands = length (padding ++ (default ++ (low ++ (high ++ rows)))) })
unfolding instruction
table_again {offset} {padding} {default} {low} {high} {rows} {d} {l} {h} {branches} n aligned default_is low_is high_is are count many rest =
    let written = padding ++ (default ++ (low ++ (high ++ rows))) in
    let joined : written ++ rest ≡ padding ++ (default ++ (low ++ (high ++ (rows ++ rest)))) = simp append_assoc in
    let t : Table offset (written ++ rest) = record {
      padding = padding;
      default = default;
      low = low;
      high = high;
      rest = rows ++ rest;
      d = d;
      l = l;
      h = h;
      operands_are = joined;
      aligned = aligned;
      default_is = default_is;
      low_is = low_is;
      high_is = high_is;
    } in
    let counted_is : counted (h -ℤ l) ≡ length branches = ap counted count ∙ sym many in
    let all = table_length offset (written ++ rest) t in
    let both = length-append rows rest in
    let whole = length-append written rest in
    let rows_are = ints_length are in
    table_read offset (written ++ rest) t
    ∙ rows_read (padding_length offset + 12) d l (counted (h -ℤ l)) n (written ++ rest) branches (length written) (omega (arith, all, both, rows_are, counted_is)) (counted_is ∙ many)
    (ap (λ count. ints_of count (drop (padding_length offset + 12) (written ++ rest))) counted_is ∙ ap (ints_of (length branches)) (table_rest offset (written ++ rest) t) ∙ ints_again are rest)
    (omega (arith, all, both, whole, rows_are, counted_is))

rise_read : (d : ℤ) (cases : List SwitchCase) (end : ℕ) → keys_rise cases ≡ true → sorted d cases end ≡ spelled (LookupSwitch d cases) end
rise_read d cases end is = rw is refl

lookup_rows_read : (from : ℕ) (d : ℤ) (count : ℕ) (operands : List ℕ) (cases : List SwitchCase) (end : ℕ) → from + 8 * count ≤ length operands
    → cases_of count (drop from operands) ≡ cases → keys_rise cases ≡ true → from + 8 * count ≡ end → lookup_rows from d (pos count) operands ≡ spelled (LookupSwitch d cases) end
lookup_rows_read from d count operands cases end within cases_are rise end_is =
    ap (λ (read : Result ℕ CodeRule). reading.◌>>=◌ read (λ end. sorted d (cases_of count (drop from operands)) end)) (reached operands (from + 8 * count) _ _ within)
    ∙ ap (λ cases. sorted d cases (from + 8 * count)) cases_are
    ∙ rise_read d cases (from + 8 * count) rise
    ∙ ap (spelled (LookupSwitch d cases)) end_is

pub lookup_again : {offset : ℕ} {padding default npairs rows : List ℕ} {d : ℤ} {cases : List SwitchCase}
    → IsPadding offset padding → IsInt default d → IsInt npairs (pos (length cases)) → AreCases rows cases → KeysRise cases → (rest : List ℕ)
    → instruction offset op.LOOKUPSWITCH ((padding ++ (default ++ (npairs ++ rows))) ++ rest) ≡ Ok (record { insn = LookupSwitch d cases; operands = length (padding ++ (default ++ (npairs ++ rows))) })
unfolding instruction
lookup_again {offset} {padding} {default} {npairs} {rows} {d} {cases} aligned default_is npairs_is are rise rest =
    let written = padding ++ (default ++ (npairs ++ rows)) in
    let joined : written ++ rest ≡ padding ++ (default ++ (npairs ++ (rows ++ rest))) = simp append_assoc in
    let t : Lookup offset (written ++ rest) = record {
      padding = padding;
      default = default;
      npairs = npairs;
      rest = rows ++ rest;
      d = d;
      n = pos (length cases);
      operands_are = joined;
      aligned = aligned;
      default_is = default_is;
      npairs_is = npairs_is;
    } in
    let all = lookup_length offset (written ++ rest) t in
    let both = length-append rows rest in
    let whole = length-append written rest in
    let rows_are = cases_length are in
    lookup_read offset (written ++ rest) t
    ∙ lookup_rows_read (padding_length offset + 8) d (length cases) (written ++ rest) cases (length written) (omega (arith, all, both, rows_are))
    (ap (cases_of (length cases)) (lookup_rest offset (written ++ rest) t) ∙ cases_again are rest)
    (keys_again cases rise)
    (omega (arith, all, both, whole, rows_are))
