-- Changes of a row of values under which it stands for the same words, or for the words with the same change.
use Rattle.std.proofs.Common.{◌≡◌, ℕ, zero, suc, ◌+◌, ◌-◌, ◌<◌, ◌≤◌, List, [], ◌∷◌, ◌++◌, length, map, take, drop, refl, ap, sym, ◌∙◌, append_assoc, arith, Some, get_or, slice_get, slice_set, Bool, true, false, ◌&&◌, nat_eq}
use Rattle.std.specs.Prelude.{ℤ, pos, replicate, if◌then◌else◌}
use Rattle.std.specs.Int.{w32, cast_signed}
use Rattle.std.specs.List.{AllZip}
use Rattle.std.proofs.lemmas.List.{map-append, take_more}
use Rattle.std.proofs.lemmas.Option.{slice_get-get_or}
use Rattle.vm_heap.specs.Tagged.{Tagged, Site, HeapAddress, ReferenceRow, Int, Null, Local, Remote, Fresh, This, Unset, Head, IsSiteWord, IsWord, site_eq, object_at, after_init, when_fresh, when_this, as_this, as_fresh}
use Rattle.vm_heap.specs.Words.{AreWords, after_init_from, forgotten}

len-of : (values : List Tagged) (words : List ℕ) → AllZip IsWord values words → length values ≡ length words
len-of [] [] each = refl
len-of [] (x ∷ words) each = absurd each
len-of (y ∷ values) [] each = absurd each
len-of (y ∷ values) (x ∷ words) each = ap suc (len-of values words each.1)

each-get : (values : List Tagged) (words : List ℕ) (at : ℕ) (v : Tagged) (w : ℕ) → AllZip IsWord values words → at < length words → IsWord (get_or values at v) (get_or words at w)
each-get [] [] at v w each h = absurd (omega arith)
each-get [] (x ∷ words) at v w each h = absurd each
each-get (y ∷ values) [] at v w each h = absurd each
each-get (y ∷ values) (x ∷ words) zero v w each h = each.0
each-get (y ∷ values) (x ∷ words) (suc at) v w each h = each-get values words at v w each.1 (omega arith)

-- the word at an index is that of the value there
pub is_word-get : (values : List Tagged) (words : List ℕ) (at : ℕ) (v : Tagged) (w : ℕ) → AreWords values words → at < length words → IsWord (get_or values at v) (get_or words at w)
is_word-get values words at v w are h = each-get values words at v w are.each h

each-set : (values : List Tagged) (words : List ℕ) (at : ℕ) (v : Tagged) (w : ℕ) → AllZip IsWord values words → IsWord v w → AllZip IsWord (slice_set values at v) (slice_set words at w)
each-set [] [] at v w each is = tt
each-set [] (x ∷ words) at v w each is = absurd each
each-set (y ∷ values) [] at v w each is = absurd each
each-set (y ∷ values) (x ∷ words) zero v w each is = (is, each.1)
each-set (y ∷ values) (x ∷ words) (suc at) v w each is = (each.0, each-set values words at v w each.1 is)

length-set : {A : Type 0} (xs : List A) (at : ℕ) (x : A) → length (slice_set xs at x) ≡ length xs
length-set [] at x = refl
length-set (y ∷ xs) zero x = refl
length-set (y ∷ xs) (suc at) x = ap suc (length-set xs at x)

-- a value and its word written to the same index
pub are_words-set : (values : List Tagged) (words : List ℕ) (at : ℕ) (v : Tagged) (w : ℕ) → AreWords values words → IsWord v w → AreWords (slice_set values at v) (slice_set words at w)
are_words-set values words at v w are is = record {
  len = omega (arith, are.len, length-set values at v, length-set words at w);
  each = each-set values words at v w are.each is;
}

each-add : (values : List Tagged) (words : List ℕ) (v : Tagged) (w : ℕ) → AllZip IsWord values words → IsWord v w → AllZip IsWord (values ++ v ∷ []) (words ++ w ∷ [])
each-add [] [] v w each is = (is, tt)
each-add [] (x ∷ words) v w each is = absurd each
each-add (y ∷ values) [] v w each is = absurd each
each-add (y ∷ values) (x ∷ words) v w each is = (each.0, each-add values words v w each.1 is)

length-add : {A : Type 0} (xs : List A) (x : A) → length (xs ++ x ∷ []) ≡ length xs + 1
length-add [] x = refl
length-add (y ∷ xs) x = omega (arith, length-add xs x)

-- a value and its word added at the end
pub are_words-add : (values : List Tagged) (words : List ℕ) (v : Tagged) (w : ℕ) → AreWords values words → IsWord v w → AreWords (values ++ v ∷ []) (words ++ w ∷ [])
are_words-add values words v w are is = record {
  len = omega (arith, are.len, length-add values v, length-add words w);
  each = each-add values words v w are.each is;
}

-- one int more and its word added at the end
pub int_added : (values : List Tagged) (ints : List ℤ) (i : ℕ) (d : ℤ) (words : List ℕ) (w : ℕ) → i < length ints → IsWord (Int (get_or ints i d)) w
    → AreWords (values ++ map Int (take i ints)) words → AreWords (values ++ map Int (take (i + 1) ints)) (words ++ w ∷ [])
int_added values ints i d words w lt is are =
    let n : ℤ = get_or ints i d in
    let more : values ++ map Int (take (i + 1) ints) ≡ (values ++ map Int (take i ints)) ++ Int n ∷ [] =
    ap (λ (ns : List ℤ). values ++ map Int ns) (take_more ints i d lt)
    ∙ ap (λ (vs : List Tagged). values ++ vs) (map-append Int (take i ints) (n ∷ []))
    ∙ sym (append_assoc values (map Int (take i ints)) (Int n ∷ [])) in
    rw more (are_words-add (values ++ map Int (take i ints)) words (Int n) w are is)

last_zero : (i : ℕ) → map Int (replicate (suc i) (pos 0)) ≡ map Int (replicate i (pos 0)) ++ Int (pos 0) ∷ []
last_zero zero = refl
last_zero (suc i) = ap (λ (vs : List Tagged). Int (pos 0) ∷ vs) (last_zero i)

pub zero_added : (values : List Tagged) (i : ℕ) (words : List ℕ) → AreWords (values ++ map Int (replicate i (pos 0))) words
    → AreWords (values ++ map Int (replicate (i + 1) (pos 0))) (words ++ 0 ∷ [])
zero_added values i words are =
    let next : i + 1 ≡ suc i = omega arith in
    let more : values ++ map Int (replicate (i + 1) (pos 0)) ≡ (values ++ map Int (replicate i (pos 0))) ++ Int (pos 0) ∷ [] =
    ap (λ (k : ℕ). values ++ map Int (replicate k (pos 0))) next
    ∙ ap (λ (vs : List Tagged). values ++ vs) (last_zero i)
    ∙ sym (append_assoc values (map Int (replicate i (pos 0))) (Int (pos 0) ∷ [])) in
    rw more (are_words-add (values ++ map Int (replicate i (pos 0))) words (Int (pos 0)) 0 are refl)

-- ints are read from their words
ints_in : (ints : List ℤ) (words : List ℕ) → AllZip IsWord (map Int ints) words → map (λ bits. cast_signed w32 bits) words ≡ ints
ints_in [] [] each = refl
ints_in [] (x ∷ words) each = absurd each
ints_in (n ∷ ints) [] each = absurd each
ints_in (n ∷ ints) (x ∷ words) each = λ i. sym each.0 i ∷ ints_in ints words each.1 i

each-drop : (n : ℕ) (values : List Tagged) (words : List ℕ) → AllZip IsWord values words → AllZip IsWord (drop n values) (drop n words)
each-drop zero values words each = each
each-drop (suc n) [] [] each = tt
each-drop (suc n) [] (x ∷ words) each = absurd each
each-drop (suc n) (y ∷ values) [] each = absurd each
each-drop (suc n) (y ∷ values) (x ∷ words) each = each-drop n values words each.1

each-take : (n : ℕ) (values : List Tagged) (words : List ℕ) → AllZip IsWord values words → AllZip IsWord (take n values) (take n words)
each-take zero values words each = tt
each-take (suc n) [] [] each = tt
each-take (suc n) [] (x ∷ words) each = absurd each
each-take (suc n) (y ∷ values) [] each = absurd each
each-take (suc n) (y ∷ values) (x ∷ words) each = (each.0, each-take n values words each.1)

pub ints_read : (values : List Tagged) (words : List ℕ) (start count : ℕ) (ints : List ℤ) → AreWords values words → take count (drop start values) ≡ map Int ints
    → map (λ bits. cast_signed w32 bits) (take count (drop start words)) ≡ ints
ints_read values words start count ints are e =
    ints_in ints (take count (drop start words)) (rw e at (each-take count (drop start values) (drop start words) (each-drop start values words are.each)))

-- if no word changes, the value at an index says of its word what another one said
each-same : (values : List Tagged) (words : List ℕ) (at : ℕ) (v : Tagged) → AllZip IsWord values words
    → ((w : ℕ) → IsWord (get_or values at v) w → IsWord v w) → AllZip IsWord (slice_set values at v) words
each-same [] [] at v each is = tt
each-same [] (x ∷ words) at v each is = absurd each
each-same (y ∷ values) [] at v each is = absurd each
each-same (y ∷ values) (x ∷ words) zero v each is = (is x each.0, each.1)
each-same (y ∷ values) (x ∷ words) (suc at) v each is = (each.0, each-same values words at v each.1 is)

-- the value of a running `<init>`'s receiver has the word that it had
is_word-begun : (v : Tagged) (w : ℕ) → IsWord v w → IsWord (as_this v) w
is_word-begun (Int n) w is = is
is_word-begun Null w is = is
is_word-begun (Local a) w is = is
is_word-begun (Remote row) w is = is
is_word-begun (Fresh o a) w is = is
is_word-begun (This a) w is = is
is_word-begun Unset w is = is
is_word-begun (Head header) w is = is

pub are_words-begun : (values : List Tagged) (words : List ℕ) (at : ℕ) (v : Tagged) → AreWords values words → slice_get values at ≡ Some v → AreWords (slice_set values at (as_this v)) words
are_words-begun values words at v are there = record {
  len = omega (arith, are.len, length-set values at (as_this v));
  each = each-same values words at (as_this v) are.each (λ w is. is_word-begun v w (rw (read values at there) at is));
}
  where
    read : (xs : List Tagged) (n : ℕ) → slice_get xs n ≡ Some v → get_or xs n (as_this v) ≡ v
    read [] n e = absurd (cc)
    read (x ∷ xs) zero e = cc
    read (x ∷ xs) (suc n) e = read xs n e

-- an initialised object has the word that it had
object_at-word : (site : Site) (w : ℕ) → IsSiteWord site w → IsWord (object_at site) w
object_at-word (HeapAddress a) w is = is
object_at-word (ReferenceRow r) w is = is

if_object : (b : Bool) (site : Site) (v : Tagged) (w : ℕ) → IsWord v w → IsSiteWord site w → IsWord (if b then object_at site else v) w
if_object true site v w is e = object_at-word site w e
if_object false site v w is e = is

when_fresh-word : (index : ℕ) (site : Site) (v : Tagged) (w : ℕ) → IsWord v w → IsWord (when_fresh index site v) w
when_fresh-word index site (Int n) w is = is
when_fresh-word index site Null w is = is
when_fresh-word index site (Local a) w is = is
when_fresh-word index site (Remote row) w is = is
when_fresh-word index site (Fresh i s) w is = if_object (nat_eq i index && site_eq s site) s (Fresh i s) w is is
when_fresh-word index site (This s) w is = is
when_fresh-word index site Unset w is = is
when_fresh-word index site (Head header) w is = is

when_this-word : (site : Site) (v : Tagged) (w : ℕ) → IsWord v w → IsWord (when_this site v) w
when_this-word site (Int n) w is = is
when_this-word site Null w is = is
when_this-word site (Local a) w is = is
when_this-word site (Remote row) w is = is
when_this-word site (Fresh i s) w is = is
when_this-word site (This s) w is = if_object (site_eq s site) s (This s) w is is
when_this-word site Unset w is = is
when_this-word site (Head header) w is = is

after_init-word : (of v : Tagged) (w : ℕ) → IsWord v w → IsWord (after_init of v) w
unfolding after_init
after_init-word (Int n) v w is = is
after_init-word Null v w is = is
after_init-word (Local a) v w is = is
after_init-word (Remote row) v w is = is
after_init-word (Fresh i s) v w is = when_fresh-word i s v w is
after_init-word (This s) v w is = when_this-word s v w is
after_init-word Unset v w is = is
after_init-word (Head header) v w is = is

-- a new object has the word that it had
pub as_fresh-word : (index : ℕ) (v : Tagged) (w : ℕ) → IsWord v w → IsWord (as_fresh index v) w
as_fresh-word index (Int n) w is = is
as_fresh-word index Null w is = is
as_fresh-word index (Local a) w is = is
as_fresh-word index (Remote row) w is = is
as_fresh-word index (Fresh i s) w is = is
as_fresh-word index (This s) w is = is
as_fresh-word index Unset w is = is
as_fresh-word index (Head header) w is = is

each-after_init : (of : Tagged) (values : List Tagged) (words : List ℕ) → AllZip IsWord values words → AllZip IsWord (map (after_init of) values) words
each-after_init of [] [] each = tt
each-after_init of [] (x ∷ words) each = absurd each
each-after_init of (y ∷ values) [] each = absurd each
each-after_init of (y ∷ values) (x ∷ words) each = (after_init-word of y x each.0, each-after_init of values words each.1)

length-map : {A B : Type 0} (f : A → B) (xs : List A) → length (map f xs) ≡ length xs
length-map f [] = refl
length-map f (x ∷ xs) = ap suc (length-map f xs)

are_words-initialised : (start : ℕ) (of : Tagged) (values : List Tagged) (words : List ℕ) → AllZip IsWord values words → AreWords (after_init_from start of values) words
are_words-initialised zero of values words each = record { len = length-map (after_init of) values ∙ len-of values words each; each = each-after_init of values words each }
are_words-initialised (suc n) of [] [] each = record { len = refl; each = tt }
are_words-initialised (suc n) of [] (x ∷ words) each = absurd each
are_words-initialised (suc n) of (y ∷ values) [] each = absurd each
are_words-initialised (suc n) of (y ∷ values) (x ∷ words) each =
    let rest : AreWords (after_init_from n of values) words = are_words-initialised n of values words each.1 in
    record { len = ap suc rest.len; each = (each.0, rest.each) }

pub are_words-after_init_from : (start : ℕ) (of : Tagged) (values : List Tagged) (words : List ℕ) → AreWords values words → AreWords (after_init_from start of values) words
are_words-after_init_from start of values words are = are_words-initialised start of values words are.each

-- what stands for nothing has any word
each-unset : (n : ℕ) (values : List Tagged) (words : List ℕ) → n ≤ length values → AllZip IsWord values words → AreWords (replicate n Unset ++ drop n values) words
each-unset zero values words h each = record { len = len-of values words each; each = each }
each-unset (suc n) [] words h each = absurd (omega arith)
each-unset (suc n) (y ∷ values) [] h each = absurd each
each-unset (suc n) (y ∷ values) (x ∷ words) h each =
    let rest : AreWords (replicate n Unset ++ drop n values) words = each-unset n values words (omega arith) each.1 in
    record { len = ap suc rest.len; each = (tt, rest.each) }

each-forgotten : (start n : ℕ) (values : List Tagged) (words : List ℕ) → start + n ≤ length values → AllZip IsWord values words
    → AreWords (take start values ++ replicate n Unset ++ drop (start + n) values) words
each-forgotten zero n values words h each = rw (zero-plus n) (each-unset n values words (omega arith) each)
  where
    zero-plus : (m : ℕ) → zero + m ≡ m
    zero-plus m = omega arith
each-forgotten (suc start) n [] words h each = absurd (omega arith)
each-forgotten (suc start) n (y ∷ values) [] h each = absurd each
each-forgotten (suc start) n (y ∷ values) (x ∷ words) h each =
    let rest : AreWords (take start values ++ replicate n Unset ++ drop (start + n) values) words = each-forgotten start n values words (omega arith) each.1 in
    let one : suc start + n ≡ suc (start + n) = omega arith in
    rw one (record { len = ap suc rest.len; each = (each.0, rest.each) })

pub are_words-forgotten : (start end : ℕ) (values : List Tagged) (words : List ℕ) → AreWords values words → start ≤ end → end ≤ length values → AreWords (forgotten start end values) words
are_words-forgotten start end values words are order within =
    let there : start + (end - start) ≡ end = omega arith in
    rw there at (each-forgotten start (end - start) values words (omega arith) are.each)
