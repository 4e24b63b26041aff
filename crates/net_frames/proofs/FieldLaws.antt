-- A field is read as it was written, and what was written is read again.
use Rattle.std.proofs.Common.{◌≡◌, ℕ, zero, suc, ◌+◌, ◌<◌, ◌≤◌, Bool, true, false, cond, ltb, List, [], ◌∷◌, ◌++◌, length, get_or, take, drop, Result, Ok, Err, refl, sym, ap, subst, ◌∙◌, append_assoc, arith, inl, inr, ◌⊎◌}
use Rattle.std.specs.List.{flat_map, AllByRecursion}
use Rattle.std.proofs.lemmas.Bool.{cases_lt, ltb-false, le-ltb}
use Rattle.std.proofs.lemmas.List.{take_at, drop_at, take-append-drop, length-append, length-take, length-take-le, get_or-drop, get_or-take, get_or_past}
use Rattle.std.proofs.lemmas.Nat.{be_bytes_2, be_bytes_4, be_bytes_8}
use Rattle.byteorder.specs.Endian.{big_bytes, big_number}
use Rattle.byteorder.specs.Numbers.{big_from-take, big_from-lt, big_number-reads_back, length-bytes_high_first}
use Rattle.net_message.specs.declared.fault.WireFault.{WireFault}
use Rattle.net_message.specs.declared.fault.WireFault.TheVariants as faults
use Rattle.net_message.specs.Wire.{number_bytes, row_bytes, FitsBytes}
use Rattle.net_frames.specs.Reading.{◌>>=◌, shown, tested, both, items_at, byte_at, raw_at, number_at, row_at}

abbrev pub IsBytes : List ℕ → Type 0
IsBytes bytes = (i : ℕ) → get_or bytes i 0 < 256

pub IsBytes-drop : (n : ℕ) (bytes : List ℕ) → IsBytes bytes → IsBytes (drop n bytes)
IsBytes-drop n bytes h i = rw get_or-drop (h (n + i))

pub IsBytes-take : (n : ℕ) (bytes : List ℕ) → IsBytes bytes → IsBytes (take n bytes)
IsBytes-take n bytes h i =
    elim (cases_lt i n) [
      | inl lt ↦ rw (get_or-take n bytes i 0 lt) (h i)
      | inr le ↦ rw (get_or_past (take n bytes) i 0 (omega (arith, length-take n bytes))) (omega arith)
    ]

pub IsBytes-rest : (b : ℕ) (bytes : List ℕ) → IsBytes (b ∷ bytes) → IsBytes bytes
IsBytes-rest b bytes h i = h (suc i)

-- the value of a step that did not fail
pub bind_ok : {A B : Type 0} (r : Result A WireFault) (f : A → Result B WireFault) (y : B) → (r >>= f) ≡ Ok y → (x : A) × (r ≡ Ok x) × (f x ≡ Ok y)
bind_ok (Ok x) f y e = (x, refl, e)
bind_ok (Err d) f y e = absurd cc

-- the step that failed
pub bind_err : {A B : Type 0} (r : Result A WireFault) (f : A → Result B WireFault) (d : WireFault) → (r >>= f) ≡ Err d → (r ≡ Err d) ⊎ ((x : A) × ((r ≡ Ok x) × (f x ≡ Err d)))
bind_err (Ok x) f d e = inr (x, (refl, e))
bind_err (Err c) f d e = inl (cc)

guard_err : {A : Type 0} (b : Bool) (c d : WireFault) (x : A) → cond b (Err c) (Ok x) ≡ Err d → d ≡ c
guard_err true c d x e = cc
guard_err false c d x e = absurd cc

pub passed_err : {A : Type 0} (b : Bool) (c d : WireFault) (x : A) → cond b (Ok x) (Err c) ≡ Err d → d ≡ c
passed_err true c d x e = absurd cc
passed_err false c d x e = cc

-- a test that did not fail
pub guard_ok : {A : Type 0} (b : Bool) (d : WireFault) (x y : A) → cond b (Err d) (Ok x) ≡ Ok y → (b ≡ false) × (x ≡ y)
guard_ok true d x y e = absurd cc
guard_ok false d x y e = (refl, cc)

pub passed_ok : {A : Type 0} (b : Bool) (d : WireFault) (x y : A) → cond b (Ok x) (Err d) ≡ Ok y → (b ≡ true) × (x ≡ y)
passed_ok true d x y e = (refl, cc)
passed_ok false d x y e = absurd cc

abbrev done : {A : Type 0} → A → Result A WireFault
done x = Ok x

pub ok_not_err : {A : Type 0} (x : A) (fault : WireFault) → done x ≡ Err fault → ⊥
ok_not_err x fault e = absurd cc

pub ok_is : {A : Type 0} (x y : A) → done x ≡ done y → x ≡ y
ok_is x y e = cc

-- ---- a reader of what a spelling writes

-- what a reader took from the front
pub record Takes {A : Type 0} (spelled : A → List ℕ) (Fits : A → Type 0) (bytes : List ℕ) (x : A × List ℕ) : Type 0 where
  pub parts : bytes ≡ spelled x.0 ++ x.1
  pub fits : Fits x.0
  pub rest : IsBytes x.1

pub record IsField {A : Type 0} (read : List ℕ → Result (A × List ℕ) WireFault) (spelled : A → List ℕ) (Fits : A → Type 0) : Type 0 where
  pub takes : (bytes : List ℕ) (x : A × List ℕ) → IsBytes bytes → read bytes ≡ Ok x → Takes spelled Fits bytes x
  pub again : (x : A) (rest : List ℕ) → Fits x → read (spelled x ++ rest) ≡ Ok (x, rest)
  pub fails : (bytes : List ℕ) (fault : WireFault) → read bytes ≡ Err fault → fault ≡ faults.Body

-- the same field, by another name of its range
pub refit : {A : Type 0} (read : List ℕ → Result (A × List ℕ) WireFault) (spelled : A → List ℕ) (F G : A → Type 0) → IsField read spelled F
    → ((x : A) → F x → G x) → ((x : A) → G x → F x) → IsField read spelled G
refit read spelled F G field to from = record {
  takes = λ bytes x h e. let t = field.takes bytes x h e in record { parts = t.parts; fits = to x.0 t.fits; rest = t.rest };
  again = λ x rest g. field.again x rest (from x g);
  fails = field.fails;
}

-- what was shown as f shows it
pub shown_takes : {A B : Type 0} (read : List ℕ → Result (A × List ℕ) WireFault) (spelled : A → List ℕ) (F : A → Type 0) (f : A → B) (spelled_as : B → List ℕ) (G : B → Type 0) → IsField read spelled F
    → ((a : A) → F a → spelled_as (f a) ≡ spelled a) → ((a : A) → F a → G (f a))
    → (bytes : List ℕ) (y : B × List ℕ) → IsBytes bytes → shown f read bytes ≡ Ok y → Takes spelled_as G bytes y
shown_takes read spelled F f spelled_as G field same to bytes y h e =
    let b = bind_ok (read bytes) (λ x. Ok (f x.0, x.1)) y e in
    let t = field.takes bytes b.0 h b.1 in
    subst (Takes spelled_as G bytes) (ok_is (f b.0.0, b.0.1) y b.2)
    (record { parts = t.parts ∙ ap (λ (z : List ℕ). z ++ b.0.1) (sym (same b.0.0 t.fits)); fits = to b.0.0 t.fits; rest = t.rest })

pub shown_again : {A B : Type 0} (read : List ℕ → Result (A × List ℕ) WireFault) (spelled : A → List ℕ) (F : A → Type 0) (f : A → B) → IsField read spelled F
    → (a : A) (rest : List ℕ) → F a → shown f read (spelled a ++ rest) ≡ Ok (f a, rest)
shown_again read spelled F f field a rest fits = ap (λ r. r >>= λ x. Ok (f x.0, x.1)) (field.again a rest fits)

-- the same after a byte that says what comes
pub headed_takes : {A B : Type 0} (read : List ℕ → Result (A × List ℕ) WireFault) (spelled : A → List ℕ) (F : A → Type 0) (f : A → B) (head : ℕ) (spelled_as : B → List ℕ) (G : B → Type 0) → IsField read spelled F
    → ((a : A) → F a → spelled_as (f a) ≡ head ∷ spelled a) → ((a : A) → F a → G (f a))
    → (bytes : List ℕ) (y : B × List ℕ) → IsBytes bytes → shown f read bytes ≡ Ok y → Takes spelled_as G (head ∷ bytes) y
headed_takes read spelled F f head spelled_as G field same to bytes y h e =
    let b = bind_ok (read bytes) (λ x. Ok (f x.0, x.1)) y e in
    let t = field.takes bytes b.0 h b.1 in
    subst (Takes spelled_as G (head ∷ bytes)) (ok_is (f b.0.0, b.0.1) y b.2)
    (record { parts = ap (λ (z : List ℕ). head ∷ z) t.parts ∙ ap (λ (z : List ℕ). z ++ b.0.1) (sym (same b.0.0 t.fits)); fits = to b.0.0 t.fits; rest = t.rest })

pub shown_fails : {A B : Type 0} (read : List ℕ → Result (A × List ℕ) WireFault) (spelled : A → List ℕ) (F : A → Type 0) (f : A → B) → IsField read spelled F
    → (bytes : List ℕ) (fault : WireFault) → shown f read bytes ≡ Err fault → fault ≡ faults.Body
shown_fails {A} {B} read spelled F f field bytes fault e =
    elim (bind_err (read bytes) (λ x. Ok (f x.0, x.1)) fault e) [ inl one ↦ field.fails bytes fault one | inr two ↦ absurd (let never : Ok (f two.0.0, two.0.1) ≡ Err fault = two.1.1 in cc) ]

-- a field under a map that goes both ways
pub shown_field : {A B : Type 0} (read : List ℕ → Result (A × List ℕ) WireFault) (spelled : A → List ℕ) (F : A → Type 0) (f : A → B) (g : B → A) (spelled_as : B → List ℕ) (G : B → Type 0) → IsField read spelled F
    → ((a : A) → F a → spelled_as (f a) ≡ spelled a) → ((a : A) → F a → G (f a))
    → ((b : B) → G b → F (g b)) → ((b : B) → G b → f (g b) ≡ b) → IsField (shown f read) spelled_as G
shown_field {B = B} read spelled F f g spelled_as G field same to from back = record {
  takes = shown_takes read spelled F f spelled_as G field same to;
  again = λ b rest fits.
      let e : spelled_as b ≡ spelled (g b) = ap spelled_as (sym (back b fits)) ∙ same (g b) (from b fits) in
      rw (e, shown_again read spelled F f field (g b) rest (from b fits)) (ap (λ (z : B). done (z, rest)) (back b fits));
  fails = shown_fails read spelled F f field;
}

pub tested_field : {A : Type 0} (read : List ℕ → Result (A × List ℕ) WireFault) (spelled : A → List ℕ) (F : A → Type 0) (test : A → Bool) → IsField read spelled F
    → IsField (tested test read) spelled (λ x. F x × (test x ≡ true))
tested_field read spelled F test field = record {
  takes = λ bytes y h e.
      let b = bind_ok (read bytes) (λ x. cond (test x.0) (Ok x) (Err faults.Body)) y e in
      let t = field.takes bytes b.0 h b.1 in
      let p = passed_ok (test b.0.0) faults.Body b.0 y b.2 in
      subst (Takes spelled (λ x. F x × (test x ≡ true)) bytes) p.1 (record { parts = t.parts; fits = (t.fits, p.0); rest = t.rest });
  again = λ x rest fits. rw (field.again x rest fits.0, fits.1) refl;
  fails = λ bytes fault e.
      elim (bind_err (read bytes) (λ x. cond (test x.0) (Ok x) (Err faults.Body)) fault e) [ inl one ↦ field.fails bytes fault one | inr two ↦ passed_err (test two.0.0) faults.Body fault two.0 two.1.1 ];
}

pub both_field : {A B : Type 0} (first : List ℕ → Result (A × List ℕ) WireFault) (s : A → List ℕ) (F : A → Type 0) (second : List ℕ → Result (B × List ℕ) WireFault) (t : B → List ℕ) (G : B → Type 0)
    → IsField first s F → IsField second t G → IsField (both first second) (λ x. s x.0 ++ t x.1) (λ x. F x.0 × G x.1)
both_field first s F second t G one two = record {
  takes = λ bytes z h e.
      let a = bind_ok (first bytes) (λ x. second x.1 >>= λ y. Ok ((x.0, y.0), y.1)) z e in
      let b = bind_ok (second a.0.1) (λ y. Ok ((a.0.0, y.0), y.1)) z a.2 in
      let p = one.takes bytes a.0 h a.1 in
      let q = two.takes a.0.1 b.0 p.rest b.1 in
      subst (Takes (λ x. s x.0 ++ t x.1) (λ x. F x.0 × G x.1) bytes) (ok_is ((a.0.0, b.0.0), b.0.1) z b.2)
      (record { parts = p.parts ∙ ap (λ (w : List ℕ). s a.0.0 ++ w) q.parts ∙ sym (append_assoc (s a.0.0) (t b.0.0) b.0.1); fits = (p.fits, q.fits); rest = q.rest });
  again = λ x rest fits. rw (append_assoc (s x.0) (t x.1) rest, one.again x.0 (t x.1 ++ rest) fits.0, two.again x.1 rest fits.1) refl;
  fails = λ bytes fault e.
      elim (bind_err (first bytes) (λ x. second x.1 >>= λ y. Ok ((x.0, y.0), y.1)) fault e) [
        | inl at_first ↦ one.fails bytes fault at_first
        | inr past ↦ shown_fails second t G (λ y. (past.0.0, y)) two past.0.1 fault past.1.1
      ];
}

-- n fields of one kind
items_takes : {A : Type 0} (read : List ℕ → Result (A × List ℕ) WireFault) (s : A → List ℕ) (F : A → Type 0) → IsField read s F → (n : ℕ) (bytes : List ℕ) (x : List A × List ℕ) → IsBytes bytes → items_at read n bytes ≡ Ok x
    → Takes (flat_map s) (λ xs. (length xs ≡ n) × AllByRecursion F xs) bytes x
items_takes {A = A} read s F field zero bytes x h e =
    let none : List A × List ℕ = ([], bytes) in
    subst (Takes (flat_map s) (λ xs. (length xs ≡ 0) × AllByRecursion F xs) bytes) (ok_is none x e) (record { parts = refl; fits = (refl, tt); rest = h })
items_takes read s F field (suc n) bytes x h e =
    let a = bind_ok (read bytes) (λ first. items_at read n first.1 >>= λ others. Ok (first.0 ∷ others.0, others.1)) x e in
    let b = bind_ok (items_at read n a.0.1) (λ others. Ok (a.0.0 ∷ others.0, others.1)) x a.2 in
    let p = field.takes bytes a.0 h a.1 in
    let q = items_takes read s F field n a.0.1 b.0 p.rest b.1 in
    subst (Takes (flat_map s) (λ xs. (length xs ≡ suc n) × AllByRecursion F xs) bytes) (ok_is (a.0.0 ∷ b.0.0, b.0.1) x b.2)
    (record { parts = p.parts ∙ ap (λ (w : List ℕ). s a.0.0 ++ w) q.parts ∙ sym (append_assoc (s a.0.0) (flat_map s b.0.0) b.0.1); fits = (ap suc q.fits.0, (p.fits, q.fits.1)); rest = q.rest })

items_again : {A : Type 0} (read : List ℕ → Result (A × List ℕ) WireFault) (s : A → List ℕ) (F : A → Type 0) → IsField read s F → (xs : List A) (rest : List ℕ) → AllByRecursion F xs
    → items_at read (length xs) (flat_map s xs ++ rest) ≡ Ok (xs, rest)
items_again read s F field [] rest fits = refl
items_again read s F field (x ∷ xs) rest fits =
    rw (append_assoc (s x) (flat_map s xs) rest, field.again x (flat_map s xs ++ rest) fits.0, items_again read s F field xs rest fits.1) refl

items_fails : {A : Type 0} (read : List ℕ → Result (A × List ℕ) WireFault) (s : A → List ℕ) (F : A → Type 0) → IsField read s F → (n : ℕ) (bytes : List ℕ) (fault : WireFault) → items_at read n bytes ≡ Err fault → fault ≡ faults.Body
items_fails read s F field zero bytes fault e = absurd cc
items_fails read s F field (suc n) bytes fault e =
    elim (bind_err (read bytes) (λ first. items_at read n first.1 >>= λ others. Ok (first.0 ∷ others.0, others.1)) fault e) [
      | inl at_first ↦ field.fails bytes fault at_first
      | inr past ↦ elim (bind_err (items_at read n past.0.1) (λ others. Ok (past.0.0 ∷ others.0, others.1)) fault past.1.1) [
        | inl later ↦ items_fails read s F field n past.0.1 fault later
        | inr never ↦ absurd (let e2 : Ok (past.0.0 ∷ never.0.0, never.0.1) ≡ Err fault = never.1.1 in cc)
      ]
    ]

-- ---- numbers and bytes

-- numbers of that width and their bytes are one to one
pub record IsWidth (width : ℕ) : Type 0 where
  pub back : (bytes : List ℕ) → length bytes ≡ width → IsBytes bytes → big_bytes width (big_number width bytes) ≡ bytes

pub width1 : IsWidth 1
width1 = record { back = one }
  where
    one : (bytes : List ℕ) → length bytes ≡ 1 → IsBytes bytes → big_bytes 1 (big_number 1 bytes) ≡ bytes
    one [] e h = absurd (omega (arith, e))
    one (b ∷ []) e h = let lt = h 0 in ap (λ (x : ℕ). x ∷ []) (omega arith)
    one (b ∷ c ∷ bytes) e h = absurd (omega (arith, e))

pub width2 : IsWidth 2
width2 = record { back = λ bytes len fits. be_bytes_2 bytes (big_number 2 bytes) len fits (omega arith) }

pub width4 : IsWidth 4
width4 = record { back = λ bytes len fits. be_bytes_4 bytes (big_number 4 bytes) len fits (omega arith) }

pub width8 : IsWidth 8
width8 = record { back = λ bytes len fits. be_bytes_8 bytes (big_number 8 bytes) len fits (omega arith) }

pub number_field : (width : ℕ) → IsWidth width → IsField (number_at width) (number_bytes width) (FitsBytes width)
unfolding number_at number_bytes
number_field width wide = record {
  takes = λ bytes x h e.
      let g = guard_ok (ltb (length bytes) width) faults.Body (big_number width bytes, drop width bytes) x e in
      let long : width ≤ length bytes = ltb-false _ _ g.0 in
      let same : big_number width (take width bytes) ≡ big_number width bytes = big_from-take 0 width width bytes (omega arith) in
      let front : big_bytes width (big_number width bytes) ≡ take width bytes = ap (big_bytes width) (sym same) ∙ wide.back (take width bytes) (length-take-le width bytes long) (IsBytes-take width bytes h) in
      subst (Takes (number_bytes width) (FitsBytes width) bytes) g.1
      (record { parts = sym (ap (λ (w : List ℕ). w ++ drop width bytes) front ∙ take-append-drop width bytes); fits = big_from-lt 0 width bytes h; rest = IsBytes-drop width bytes h });
  again = λ n rest lt.
      let len = length-bytes_high_first width n in
      let long : ltb (length (big_bytes width n ++ rest)) width ≡ false = le-ltb _ _ (omega (arith, length-append (big_bytes width n) rest)) in
      rw (long, big_number-reads_back width n rest lt, drop_at (big_bytes width n) rest width len) refl;
  fails = λ bytes fault e. guard_err (ltb (length bytes) width) faults.Body fault (big_number width bytes, drop width bytes) e;
}

pub raw_field : (count : ℕ) → IsField (raw_at count) (λ bytes. bytes) (λ bytes. length bytes ≡ count)
unfolding raw_at
raw_field count = record {
  takes = λ bytes x h e.
      let g = guard_ok (ltb (length bytes) count) faults.Body (take count bytes, drop count bytes) x e in
      let long : count ≤ length bytes = ltb-false _ _ g.0 in
      subst (Takes (λ bytes. bytes) (λ bytes. length bytes ≡ count) bytes) g.1
      (record { parts = sym (take-append-drop count bytes); fits = length-take-le count bytes long; rest = IsBytes-drop count bytes h });
  again = λ raw rest len.
      let long : ltb (length (raw ++ rest)) count ≡ false = le-ltb _ _ (omega (arith, length-append raw rest)) in
      rw (long, take_at raw rest count len, drop_at raw rest count len) refl;
  fails = λ bytes fault e. guard_err (ltb (length bytes) count) faults.Body fault (take count bytes, drop count bytes) e;
}

pub byte_field : IsField byte_at (λ byte. byte ∷ []) (λ byte. byte < 256)
byte_field = record { takes = takes; again = λ byte rest lt. refl; fails = fails }
  where
    fails : (bytes : List ℕ) (fault : WireFault) → byte_at bytes ≡ Err fault → fault ≡ faults.Body
    fails [] fault e = cc
    fails (b ∷ bytes) fault e = absurd cc

    takes : (bytes : List ℕ) (x : ℕ × List ℕ) → IsBytes bytes → byte_at bytes ≡ Ok x → Takes (λ byte. byte ∷ []) (λ byte. byte < 256) bytes x
    takes [] x h e = absurd cc
    takes (b ∷ bytes) x h e = subst (Takes (λ byte. byte ∷ []) (λ byte. byte < 256) (b ∷ bytes)) (ok_is (b, bytes) x e) (record { parts = refl; fits = h 0; rest = IsBytes-rest b bytes h })

-- a row after its count
pub row_field : {A : Type 0} (test : ℕ → Bool) (width : ℕ) (read : List ℕ → Result (A × List ℕ) WireFault) (s : A → List ℕ) (F : A → Type 0) → IsWidth width → IsField read s F
    → IsField (row_at test width read) (row_bytes width s) (λ xs. FitsBytes width (length xs) × (test (length xs) ≡ true) × AllByRecursion F xs)
row_field test width read s F wide field = let counts = tested_field (number_at width) (number_bytes width) (FitsBytes width) test (number_field width wide) in record {
  takes = λ bytes x h e.
      let a = bind_ok (tested test (number_at width) bytes) (λ count. items_at read count.0 count.1) x e in
      let p = counts.takes bytes a.0 h a.1 in
      let q = items_takes read s F field a.0.0 a.0.1 x p.rest a.2 in
      let n : length x.0 ≡ a.0.0 = q.fits.0 in
      record {
        parts = p.parts ∙ ap (λ (k : ℕ). number_bytes width k ++ a.0.1) (sym n) ∙ ap (λ (w : List ℕ). number_bytes width (length x.0) ++ w) q.parts ∙ sym (append_assoc (number_bytes width (length x.0)) (flat_map s x.0) x.1);
        fits = subst (λ (k : ℕ). FitsBytes width k × (test k ≡ true) × AllByRecursion F x.0) (sym n) (p.fits.0, p.fits.1, q.fits.1);
        rest = q.rest;
      };
  again = λ xs rest fits.
      rw (append_assoc (number_bytes width (length xs)) (flat_map s xs) rest, counts.again (length xs) (flat_map s xs ++ rest) (fits.0, fits.1)) (items_again read s F field xs rest fits.2);
  fails = λ bytes fault e.
      elim (bind_err (tested test (number_at width) bytes) (λ count. items_at read count.0 count.1) fault e) [
        | inl at_count ↦ counts.fails bytes fault at_count
        | inr past ↦ items_fails read s F field past.0.0 past.0.1 fault past.1.1
      ];
}
