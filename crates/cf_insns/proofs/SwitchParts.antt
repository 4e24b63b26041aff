-- What stands at the front of the operands of a switch, and what is read of it.
use Rattle.std.proofs.Common.{◌≡◌, ℕ, zero, suc, ◌+◌, ◌-◌, ◌*◌, ◌<◌, ◌≤◌, ℤ, ◌-ℤ◌, ◌⊎◌, inl, inr, Bool, true, false, nat_le, List, [], ◌∷◌, ◌++◌, length, take, drop, replicate, Result, Ok, Err, refl, ap, sym, subst, ◌∙◌, arith, length-append, length-drop, append_assoc}
use Rattle.std.proofs.Math.Seq.{drop-append_seam, drop-append-add}
use Rattle.std.proofs.lemmas.Bool.Decides.{nat_tests}
use Rattle.std.proofs.lemmas.List.{length-replicate, length-take-le, take-append-drop}
use Rattle.cf_insns.specs.declared.fault.CodeRule.{CodeRule}
use Rattle.cf_insns.specs.declared.fault.CodeRule.TheVariants.{Cut}
use Rattle.cf_insns.specs.declared.insn.SwitchCase.{SwitchCase}
use Rattle.cf_insns.specs.declared.opcode.TheConstants as op
use Rattle.cf_insns.specs.Faults.{Breaks, cut}
use Rattle.cf_insns.specs.Layout.{IsPadding, IsLaidOut, table, lookup, padding_length, counted, count_of}
use Rattle.cf_insns.specs.Operands.{signed_int, signed_int_of, IsInt, int, AreInts, no_ints, ints, AreCases, no_cases, cases}
use Rattle.cf_insns.specs.Reading.{◌>>=◌, ints_of, cases_of, table_switch, table_rows, lookup_switch, lookup_rows}

by_bool : {P : Type 0} (test : Bool) → (test ≡ true → P) → (test ≡ false → P) → P
by_bool true passed failed = passed refl
by_bool false passed failed = failed refl

pub order : (a b : ℕ) → (a ≤ b) ⊎ (b < a)
order a b = by_bool (nat_le a b) (λ is. inl (grind (arith, nat_tests))) (λ is. inr (grind (arith, nat_tests)))

pub padding_is : (offset : ℕ) (padding : List ℕ) → IsPadding offset padding → length padding ≡ padding_length offset
padding_is offset padding is = omega (arith, is.few, is.aligned)

pub padding_of : (offset : ℕ) (padding : List ℕ) → length padding ≡ padding_length offset → IsPadding offset padding
padding_of offset padding is = record { few = omega arith; aligned = omega arith }

-- Signed numbers of four bytes.

pub int_length : {bytes : List ℕ} {n : ℤ} → IsInt bytes n → length bytes ≡ 4
int_length (int a b c d) = refl

pub int_read : {bytes : List ℕ} {n : ℤ} → IsInt bytes n → (rest : List ℕ) → signed_int_of (bytes ++ rest) ≡ Ok n
int_read (int a b c d) rest = refl

int_passed : {bytes : List ℕ} {n : ℤ} → IsInt bytes n → (rest : List ℕ) → drop 4 (bytes ++ rest) ≡ rest
int_passed (int a b c d) rest = refl

two_passed : {one two : List ℕ} {n m : ℤ} → IsInt one n → IsInt two m → (rest : List ℕ) → drop 8 (one ++ (two ++ rest)) ≡ rest
two_passed (int a b c d) (int e f g h) rest = refl

three_passed : {one two three : List ℕ} {n m k : ℤ} → IsInt one n → IsInt two m → IsInt three k → (rest : List ℕ) → drop 12 (one ++ (two ++ (three ++ rest))) ≡ rest
three_passed (int a b c d) (int e f g h) (int i j k l) rest = refl

-- the number at the front of four bytes or more
pub record Four (bytes : List ℕ) : Type 0 where
  pub front : List ℕ
  pub rest : List ℕ
  pub number : ℤ
  pub bytes_are : bytes ≡ front ++ rest
  pub is : IsInt front number
  pub longer : length bytes ≡ 4 + length rest

pub four : (bytes : List ℕ) → 4 ≤ length bytes → Four bytes
four [] le = absurd (omega arith)
four (a ∷ []) le = absurd (omega arith)
four (a ∷ b ∷ []) le = absurd (omega arith)
four (a ∷ b ∷ c ∷ []) le = absurd (omega arith)
four (a ∷ b ∷ c ∷ d ∷ rest) le = record {
  front = a ∷ b ∷ c ∷ d ∷ [];
  rest = rest;
  number = signed_int a b c d;
  bytes_are = refl;
  is = int a b c d;
  longer = omega arith;
}

pub signed_int_of-cut : (bytes : List ℕ) → length bytes < 4 → signed_int_of bytes ≡ Err Cut
signed_int_of-cut [] h = refl
signed_int_of-cut (a ∷ []) h = refl
signed_int_of-cut (a ∷ b ∷ []) h = refl
signed_int_of-cut (a ∷ b ∷ c ∷ []) h = refl
signed_int_of-cut (a ∷ b ∷ c ∷ d ∷ bytes) h = absurd (omega arith)

-- what is cut after a number is cut
through : {A : Type 0} (bytes : List ℕ) (f : ℤ → Result A CodeRule) → ((n : ℤ) → f n ≡ Err Cut) → (signed_int_of bytes >>= f) ≡ Err Cut
through [] f following = refl
through (a ∷ []) f following = refl
through (a ∷ b ∷ []) f following = refl
through (a ∷ b ∷ c ∷ []) f following = refl
through (a ∷ b ∷ c ∷ d ∷ rest) f following = following (signed_int a b c d)

after_cut : {A : Type 0} (read : Result ℤ CodeRule) (f : ℤ → Result A CodeRule) → read ≡ Err Cut → (read >>= f) ≡ Err Cut
after_cut read f is = rw is refl

after_two : {A : Type 0} (one two : Result ℤ CodeRule) (n m : ℤ) (f : ℤ → ℤ → Result A CodeRule) → one ≡ Ok n → two ≡ Ok m → (one >>= λ n. two >>= λ m. f n m) ≡ f n m
after_two one two n m f one_is two_is = rw (one_is, two_is) refl

after_three : {A : Type 0} (one two three : Result ℤ CodeRule) (n m k : ℤ) (f : ℤ → ℤ → ℤ → Result A CodeRule) → one ≡ Ok n → two ≡ Ok m → three ≡ Ok k
    → (one >>= λ n. two >>= λ m. three >>= λ k. f n m k) ≡ f n m k
after_three one two three n m k f one_is two_is three_is = rw (one_is, two_is, three_is) refl

-- bytes that end inside an instruction: some bytes more complete it
pub completed : (offset opcode : ℕ) (bytes fill : List ℕ) → 0 < length fill → IsLaidOut offset (opcode ∷ bytes ++ fill) → Breaks offset Cut (opcode ∷ bytes)
completed offset opcode bytes [] some laid = absurd (omega arith)
completed offset opcode bytes (missing ∷ more) some laid = cut opcode missing bytes more laid

abbrev pub zeros : ℕ → List ℕ
zeros n = replicate n 0

pub zeros_length : (n : ℕ) → length (zeros n) ≡ n
zeros_length n = length-replicate {A = ℕ} n 0

-- The front of tableswitch.

pub record Table (offset : ℕ) (operands : List ℕ) : Type 0 where
  pub padding : List ℕ
  pub default : List ℕ
  pub low : List ℕ
  pub high : List ℕ
  pub rest : List ℕ
  pub d : ℤ
  pub l : ℤ
  pub h : ℤ
  pub operands_are : operands ≡ padding ++ (default ++ (low ++ (high ++ rest)))
  pub aligned : IsPadding offset padding
  pub default_is : IsInt default d
  pub low_is : IsInt low l
  pub high_is : IsInt high h

module _ (offset : ℕ) (operands : List ℕ) (t : Table offset operands) where
  table_padding : length t.padding ≡ padding_length offset
  table_padding = padding_is offset t.padding t.aligned

  table_default : drop (padding_length offset) operands ≡ t.default ++ (t.low ++ (t.high ++ t.rest))
  table_default = ap (drop (padding_length offset)) t.operands_are ∙ ap (λ n. drop n (t.padding ++ (t.default ++ (t.low ++ (t.high ++ t.rest))))) (sym table_padding) ∙ drop-append_seam t.padding (t.default ++ (t.low ++ (t.high ++ t.rest)))

  table_after : (n : ℕ) → drop (padding_length offset + n) operands ≡ drop n (t.default ++ (t.low ++ (t.high ++ t.rest)))
  table_after n = ap (drop (padding_length offset + n)) t.operands_are ∙ ap (λ k. drop (k + n) (t.padding ++ (t.default ++ (t.low ++ (t.high ++ t.rest))))) (sym table_padding) ∙ drop-append-add t.padding (t.default ++ (t.low ++ (t.high ++ t.rest))) n

  pub table_rest : drop (padding_length offset + 12) operands ≡ t.rest
  table_rest = table_after 12 ∙ three_passed t.default_is t.low_is t.high_is t.rest

  pub table_length : length operands ≡ padding_length offset + 12 + length t.rest
  table_length =
      ap length t.operands_are
      ∙ omega (arith, table_padding, length-append t.padding (t.default ++ (t.low ++ (t.high ++ t.rest))), length-append t.default (t.low ++ (t.high ++ t.rest)), length-append t.low (t.high ++ t.rest), length-append t.high t.rest, int_length t.default_is, int_length t.low_is, int_length t.high_is)

  pub table_read : table_switch offset operands ≡ table_rows (padding_length offset + 12) t.d t.l (counted (t.h -ℤ t.l)) operands
  unfolding table_switch
  table_read =
      after_three (signed_int_of (drop (padding_length offset) operands)) (signed_int_of (drop (padding_length offset + 4) operands)) (signed_int_of (drop (padding_length offset + 8) operands)) t.d t.l t.h
      (λ default low high. table_rows (padding_length offset + 12) default low (counted (high -ℤ low)) operands)
      (ap signed_int_of table_default ∙ int_read t.default_is (t.low ++ (t.high ++ t.rest)))
      (ap signed_int_of (table_after 4 ∙ int_passed t.default_is (t.low ++ (t.high ++ t.rest))) ∙ int_read t.low_is (t.high ++ t.rest))
      (ap signed_int_of (table_after 8 ∙ two_passed t.default_is t.low_is (t.high ++ t.rest)) ∙ int_read t.high_is t.rest)

  -- with the rows that it lacks it is laid out
  pub table_laid : (fill : List ℕ) → length t.rest + length fill ≡ 4 * counted (t.h -ℤ t.l) → IsLaidOut offset (op.TABLESWITCH ∷ operands ++ fill)
  table_laid fill many =
      let joined : operands ++ fill ≡ t.padding ++ (t.default ++ (t.low ++ (t.high ++ (t.rest ++ fill)))) = ap (λ all. all ++ fill) t.operands_are ∙ simp append_assoc in
      subst (λ all. IsLaidOut offset (op.TABLESWITCH ∷ all)) (sym joined) (table t.default (t.rest ++ fill) t.aligned (int_length t.default_is) t.low_is t.high_is (length-append t.rest fill ∙ many))

pub table_of : (offset : ℕ) (operands : List ℕ) → padding_length offset + 12 ≤ length operands → Table offset operands
table_of offset operands within =
    let p = padding_length offset in
    let one = four (drop p operands) (omega (arith, length-drop p operands)) in
    let two = four one.rest (omega (arith, length-drop p operands, one.longer)) in
    let three = four two.rest (omega (arith, length-drop p operands, one.longer, two.longer)) in
    record {
      padding = take p operands;
      default = one.front;
      low = two.front;
      high = three.front;
      rest = three.rest;
      d = one.number;
      l = two.number;
      h = three.number;
      operands_are = sym (take-append-drop p operands) ∙ ap (λ all. take p operands ++ all) (one.bytes_are ∙ ap (λ all. one.front ++ all) (two.bytes_are ∙ ap (λ all. two.front ++ all) three.bytes_are));
      aligned = padding_of offset (take p operands) (length-take-le p operands (omega arith));
      default_is = one.is;
      low_is = two.is;
      high_is = three.is;
    }

pub table_short : (offset : ℕ) (operands : List ℕ) → length operands < padding_length offset + 12 → table_switch offset operands ≡ Err Cut
unfolding table_switch
table_short offset operands short =
    let p = padding_length offset in
    through (drop p operands) _ (λ d. through (drop (p + 4) operands) _ (λ l.
    after_cut (signed_int_of (drop (p + 8) operands)) _ (signed_int_of-cut (drop (p + 8) operands) (omega (arith, length-drop (p + 8) operands)))))

pub table_cut : (offset : ℕ) (operands : List ℕ) → length operands < padding_length offset + 12 → Breaks offset Cut (op.TABLESWITCH ∷ operands)
table_cut offset operands short =
    let k = padding_length offset + 12 - length operands in
    let filled : length (operands ++ zeros k) ≡ padding_length offset + 12 = length-append operands (zeros k) ∙ omega (arith, zeros_length k) in
    let t = table_of offset (operands ++ zeros k) (omega arith) in
    let m = 4 * counted (t.h -ℤ t.l) in
    let rows : length t.rest + length (zeros m) ≡ m = omega (arith, table_length offset (operands ++ zeros k) t, zeros_length m) in
    completed offset op.TABLESWITCH operands (zeros k ++ zeros m) (omega (arith, length-append (zeros k) (zeros m), zeros_length k))
    (subst (λ all. IsLaidOut offset (op.TABLESWITCH ∷ all)) (append_assoc operands (zeros k) (zeros m)) (table_laid offset (operands ++ zeros k) t (zeros m) rows))

-- The front of lookupswitch.

pub record Lookup (offset : ℕ) (operands : List ℕ) : Type 0 where
  pub padding : List ℕ
  pub default : List ℕ
  pub npairs : List ℕ
  pub rest : List ℕ
  pub d : ℤ
  pub n : ℤ
  pub operands_are : operands ≡ padding ++ (default ++ (npairs ++ rest))
  pub aligned : IsPadding offset padding
  pub default_is : IsInt default d
  pub npairs_is : IsInt npairs n

module _ (offset : ℕ) (operands : List ℕ) (t : Lookup offset operands) where
  lookup_padding : length t.padding ≡ padding_length offset
  lookup_padding = padding_is offset t.padding t.aligned

  lookup_default : drop (padding_length offset) operands ≡ t.default ++ (t.npairs ++ t.rest)
  lookup_default = ap (drop (padding_length offset)) t.operands_are ∙ ap (λ n. drop n (t.padding ++ (t.default ++ (t.npairs ++ t.rest)))) (sym lookup_padding) ∙ drop-append_seam t.padding (t.default ++ (t.npairs ++ t.rest))

  lookup_after : (n : ℕ) → drop (padding_length offset + n) operands ≡ drop n (t.default ++ (t.npairs ++ t.rest))
  lookup_after n = ap (drop (padding_length offset + n)) t.operands_are ∙ ap (λ k. drop (k + n) (t.padding ++ (t.default ++ (t.npairs ++ t.rest)))) (sym lookup_padding) ∙ drop-append-add t.padding (t.default ++ (t.npairs ++ t.rest)) n

  pub lookup_rest : drop (padding_length offset + 8) operands ≡ t.rest
  lookup_rest = lookup_after 8 ∙ two_passed t.default_is t.npairs_is t.rest

  pub lookup_length : length operands ≡ padding_length offset + 8 + length t.rest
  lookup_length =
      ap length t.operands_are
      ∙ omega (arith, lookup_padding, length-append t.padding (t.default ++ (t.npairs ++ t.rest)), length-append t.default (t.npairs ++ t.rest), length-append t.npairs t.rest, int_length t.default_is, int_length t.npairs_is)

  pub lookup_read : lookup_switch offset operands ≡ lookup_rows (padding_length offset + 8) t.d t.n operands
  unfolding lookup_switch
  lookup_read =
      after_two (signed_int_of (drop (padding_length offset) operands)) (signed_int_of (drop (padding_length offset + 4) operands)) t.d t.n
      (λ default count. lookup_rows (padding_length offset + 8) default count operands)
      (ap signed_int_of lookup_default ∙ int_read t.default_is (t.npairs ++ t.rest))
      (ap signed_int_of (lookup_after 4 ∙ int_passed t.default_is (t.npairs ++ t.rest)) ∙ int_read t.npairs_is t.rest)

  pub lookup_laid : (fill : List ℕ) → length t.rest + length fill ≡ 8 * count_of t.n → IsLaidOut offset (op.LOOKUPSWITCH ∷ operands ++ fill)
  lookup_laid fill many =
      let joined : operands ++ fill ≡ t.padding ++ (t.default ++ (t.npairs ++ (t.rest ++ fill))) = ap (λ all. all ++ fill) t.operands_are ∙ simp append_assoc in
      subst (λ all. IsLaidOut offset (op.LOOKUPSWITCH ∷ all)) (sym joined) (lookup t.default (t.rest ++ fill) t.aligned (int_length t.default_is) t.npairs_is (length-append t.rest fill ∙ many))

pub lookup_of : (offset : ℕ) (operands : List ℕ) → padding_length offset + 8 ≤ length operands → Lookup offset operands
lookup_of offset operands within =
    let p = padding_length offset in
    let one = four (drop p operands) (omega (arith, length-drop p operands)) in
    let two = four one.rest (omega (arith, length-drop p operands, one.longer)) in
    record {
      padding = take p operands;
      default = one.front;
      npairs = two.front;
      rest = two.rest;
      d = one.number;
      n = two.number;
      operands_are = sym (take-append-drop p operands) ∙ ap (λ all. take p operands ++ all) (one.bytes_are ∙ ap (λ all. one.front ++ all) two.bytes_are);
      aligned = padding_of offset (take p operands) (length-take-le p operands (omega arith));
      default_is = one.is;
      npairs_is = two.is;
    }

pub lookup_short : (offset : ℕ) (operands : List ℕ) → length operands < padding_length offset + 8 → lookup_switch offset operands ≡ Err Cut
unfolding lookup_switch
lookup_short offset operands short =
    let p = padding_length offset in
    through (drop p operands) _ (λ d. after_cut (signed_int_of (drop (p + 4) operands)) _ (signed_int_of-cut (drop (p + 4) operands) (omega (arith, length-drop (p + 4) operands))))

pub lookup_cut : (offset : ℕ) (operands : List ℕ) → length operands < padding_length offset + 8 → Breaks offset Cut (op.LOOKUPSWITCH ∷ operands)
lookup_cut offset operands short =
    let k = padding_length offset + 8 - length operands in
    let filled : length (operands ++ zeros k) ≡ padding_length offset + 8 = length-append operands (zeros k) ∙ omega (arith, zeros_length k) in
    let t = lookup_of offset (operands ++ zeros k) (omega arith) in
    let m = 8 * count_of t.n in
    let rows : length t.rest + length (zeros m) ≡ m = omega (arith, lookup_length offset (operands ++ zeros k) t, zeros_length m) in
    completed offset op.LOOKUPSWITCH operands (zeros k ++ zeros m) (omega (arith, length-append (zeros k) (zeros m), zeros_length k))
    (subst (λ all. IsLaidOut offset (op.LOOKUPSWITCH ∷ all)) (append_assoc operands (zeros k) (zeros m)) (lookup_laid offset (operands ++ zeros k) t (zeros m) rows))

-- Rows.

pub ints_length : {rows : List ℕ} {ns : List ℤ} → AreInts rows ns → length rows ≡ 4 * length ns
ints_length no_ints = refl
ints_length (ints {rest = rest} {ns = ns} (int a b c d) more) = let many : length rest ≡ 4 * length ns = ints_length more in omega arith

pub ints_again : {rows : List ℕ} {ns : List ℤ} → AreInts rows ns → (rest : List ℕ) → ints_of (length ns) (rows ++ rest) ≡ ns
ints_again no_ints rest = refl
ints_again (ints (int a b c d) more) rest = ap (λ ns. signed_int a b c d ∷ ns) (ints_again more rest)

pub cases_length : {rows : List ℕ} {found : List SwitchCase} → AreCases rows found → length rows ≡ 8 * length found
cases_length no_cases = refl
cases_length (cases {rest = rest} {more = found} (int a b c d) (int e f g h) more) = let many : length rest ≡ 8 * length found = cases_length more in omega arith

pub cases_again : {rows : List ℕ} {found : List SwitchCase} → AreCases rows found → (rest : List ℕ) → cases_of (length found) (rows ++ rest) ≡ found
cases_again no_cases rest = refl
cases_again (cases (int a b c d) (int e f g h) more) rest = ap (λ found. record { key = signed_int a b c d; branch = signed_int e f g h } ∷ found) (cases_again more rest)

-- the rows of n numbers
pub record Ints (n : ℕ) (bytes : List ℕ) : Type 0 where
  pub rows : List ℕ
  pub rest : List ℕ
  pub bytes_are : bytes ≡ rows ++ rest
  pub are : AreInts rows (ints_of n bytes)
  pub long : length rows ≡ 4 * n
  pub many : length (ints_of n bytes) ≡ n

pub ints_told : (n : ℕ) (bytes : List ℕ) → 4 * n ≤ length bytes → Ints n bytes
ints_told zero bytes le = record { rows = []; rest = bytes; bytes_are = refl; are = no_ints; long = refl; many = refl }
ints_told (suc n) [] le = absurd (omega arith)
ints_told (suc n) (a ∷ []) le = absurd (omega arith)
ints_told (suc n) (a ∷ b ∷ []) le = absurd (omega arith)
ints_told (suc n) (a ∷ b ∷ c ∷ []) le = absurd (omega arith)
ints_told (suc n) (a ∷ b ∷ c ∷ d ∷ bytes) le =
    let told = ints_told n bytes (omega arith) in
    record {
      rows = a ∷ b ∷ c ∷ d ∷ told.rows;
      rest = told.rest;
      bytes_are = ap (λ all. a ∷ b ∷ c ∷ d ∷ all) told.bytes_are;
      are = ints (int a b c d) told.are;
      long = omega (arith, told.long);
      many = ap (λ n. suc n) told.many;
    }

-- the rows of n cases
pub record Cases (n : ℕ) (bytes : List ℕ) : Type 0 where
  pub rows : List ℕ
  pub rest : List ℕ
  pub bytes_are : bytes ≡ rows ++ rest
  pub are : AreCases rows (cases_of n bytes)
  pub long : length rows ≡ 8 * n
  pub many : length (cases_of n bytes) ≡ n

pub cases_told : (n : ℕ) (bytes : List ℕ) → 8 * n ≤ length bytes → Cases n bytes
cases_told zero bytes le = record { rows = []; rest = bytes; bytes_are = refl; are = no_cases; long = refl; many = refl }
cases_told (suc n) [] le = absurd (omega arith)
cases_told (suc n) (a ∷ []) le = absurd (omega arith)
cases_told (suc n) (a ∷ b ∷ []) le = absurd (omega arith)
cases_told (suc n) (a ∷ b ∷ c ∷ []) le = absurd (omega arith)
cases_told (suc n) (a ∷ b ∷ c ∷ d ∷ []) le = absurd (omega arith)
cases_told (suc n) (a ∷ b ∷ c ∷ d ∷ e ∷ []) le = absurd (omega arith)
cases_told (suc n) (a ∷ b ∷ c ∷ d ∷ e ∷ f ∷ []) le = absurd (omega arith)
cases_told (suc n) (a ∷ b ∷ c ∷ d ∷ e ∷ f ∷ g ∷ []) le = absurd (omega arith)
cases_told (suc n) (a ∷ b ∷ c ∷ d ∷ e ∷ f ∷ g ∷ h ∷ bytes) le =
    let told = cases_told n bytes (omega arith) in
    record {
      rows = a ∷ b ∷ c ∷ d ∷ e ∷ f ∷ g ∷ h ∷ told.rows;
      rest = told.rest;
      bytes_are = ap (λ all. a ∷ b ∷ c ∷ d ∷ e ∷ f ∷ g ∷ h ∷ all) told.bytes_are;
      are = cases (int a b c d) (int e f g h) told.are;
      long = omega (arith, told.long);
      many = ap (λ n. suc n) told.many;
    }
