-- What becomes of the frames that lie in a row of words.
use Rattle.std.proofs.Common.{◌≡◌, ℕ, zero, suc, ◌+◌, ◌-◌, ◌<◌, ◌≤◌, List, [], ◌∷◌, ◌++◌, length, map, take, drop, reverse, refl, ap, sym, ◌∙◌, arith, length-drop, Some, slice_get, slice_set}
use Rattle.std.proofs.Math.ListN.{set}
use Rattle.std.proofs.Math.Seq.{take-set-lt}
use Rattle.std.proofs.lemmas.List.{drop-set-lt, drop-set-add, take-set-le, take-append-le, length-take, take-take, reverse-append, length-reverse}
use Rattle.std.proofs.lemmas.Option.{slice_get_within}
use Rattle.vm_heap.specs.Tagged.{Tagged, after_init, as_this}
use Rattle.vm_heap.specs.Words.{after_init_from}
use Rattle.vm_stack.specs.Frames.{Frame, Frames, with_local, pushed, initialised, begun, with_receiver}
use Rattle.vm_stack.specs.Layout.{frame_of, frames_of, callers_of, IsPlaced}
use Rattle.vm_stack.specs.declared.link.Link.{Link}

-- the words of the local variables lie between the frame's bottom and its base
local_inside : (words : List Tagged) (link : Link) (top local : ℕ)
    → local < length (frame_of (take top words) link).locals → link.bottom + local < link.base
local_inside words link top local given =
    omega (arith, length-drop link.bottom (take link.base (take top words)), length-take link.base (take top words))

-- a write of one of them writes that local variable, and leaves all else
pub frames_of-set : (words : List Tagged) (link : Link) (top : ℕ) (links : List Link) (free local : ℕ) (value : Tagged) → IsPlaced link.bottom link.base link.limit top
    → local < length (frame_of (take top words) link).locals
    → frames_of (set words (link.bottom + local) value) link top links free ≡ with_local local value (frames_of words link top links free)
frames_of-set words link top links free local value placed given =
    let inside : link.bottom + local < link.base = local_inside words link top local given in
    let below_top : link.bottom + local < top = omega arith in
    let above : link.bottom ≤ link.bottom + local = omega arith in
    rw (
      take-set-lt top words (link.bottom + local) value below_top,
      take-set-lt link.base (take top words) (link.bottom + local) value inside,
      drop-set-add,
      drop-set-lt link.base (take top words) (link.bottom + local) value inside,
      take-set-le link.bottom words (link.bottom + local) value above,
    )

slice_get-drop : {A : Type 0} (n : ℕ) (xs : List A) (k : ℕ) → slice_get (drop n xs) k ≡ slice_get xs (n + k)
slice_get-drop zero xs k = let e : zero + k ≡ k = omega arith in rw e refl
slice_get-drop (suc n) [] k = refl
slice_get-drop (suc n) (x ∷ xs) k = let e : suc n + k ≡ suc (n + k) = omega arith in rw e (slice_get-drop n xs k)

slice_get-take : {A : Type 0} (n : ℕ) (xs : List A) (k : ℕ) → k < n → slice_get (take n xs) k ≡ slice_get xs k
slice_get-take zero xs k h = absurd (omega arith)
slice_get-take (suc n) [] k h = refl
slice_get-take (suc n) (x ∷ xs) zero h = refl
slice_get-take (suc n) (x ∷ xs) (suc k) h = slice_get-take n xs k (omega arith)

-- the word of a local variable
pub local_read : (words : List Tagged) (link : Link) (top local : ℕ) → IsPlaced link.bottom link.base link.limit top
    → local < length (frame_of (take top words) link).locals → slice_get (frame_of (take top words) link).locals local ≡ slice_get words (link.bottom + local)
local_read words link top local placed given =
    let inside : link.bottom + local < link.base = local_inside words link top local given in
    slice_get-drop link.bottom (take link.base (take top words)) local
    ∙ (slice_get-take link.base (take top words) (link.bottom + local) inside ∙ slice_get-take top words (link.bottom + local) (omega arith))

pub local_fits : (words : List Tagged) (link : Link) (top local : ℕ) → IsPlaced link.bottom link.base link.limit top
    → local < length (frame_of (take top words) link).locals → link.bottom + local < top
local_fits words link top local placed given = omega (arith, local_inside words link top local given)

take_one_more : {A : Type 0} (n : ℕ) (xs : List A) (x : A) → slice_get xs n ≡ Some x → take (n + 1) xs ≡ take n xs ++ x ∷ []
take_one_more n [] x e = absurd (cc)
take_one_more zero (y ∷ xs) x e = let same : y ≡ x = cc in rw same refl
take_one_more (suc n) (y ∷ xs) x e = let one : suc n + 1 ≡ suc (n + 1) = omega arith in rw one (ap (λ (ys : _). y ∷ ys) (take_one_more n xs x e))

pub drop_before : {A : Type 0} (n : ℕ) (xs ys : List A) → n ≤ length xs → drop n (xs ++ ys) ≡ drop n xs ++ ys
drop_before zero xs ys h = refl
drop_before (suc n) [] ys h = absurd (omega arith)
drop_before (suc n) (x ∷ xs) ys h = drop_before n xs ys (omega arith)

-- the operand on top
pub frames_of-pop : (words : List Tagged) (link : Link) (top : ℕ) (links : List Link) (free : ℕ) (value : Tagged)
    → link.base ≤ top → slice_get words top ≡ Some value → frames_of words link (top + 1) links free ≡ pushed value (frames_of words link top links free)
frames_of-pop words link top links free value base is =
    let within : top < length words = slice_get_within words top value is in
    let enough : link.base ≤ length (take top words) = omega (arith, length-take top words) in
    let more : link.base ≤ top + 1 = omega arith in
    let locals : take link.base (take (top + 1) words) ≡ take link.base (take top words) = take-take link.base (top + 1) words more ∙ sym (take-take link.base top words base) in
    rw (locals, take_one_more top words value is, drop_before link.base (take top words) (value ∷ []) enough, reverse-append (drop link.base (take top words)) (value ∷ [])) refl

take-after_init : (n start : ℕ) (of : Tagged) (xs : List Tagged) → start ≤ n → take n (after_init_from start of xs) ≡ after_init_from start of (take n xs)
take-after_init n zero of xs h = taken n xs
  where
    taken : (k : ℕ) (ys : List Tagged) → take k (map (after_init of) ys) ≡ map (after_init of) (take k ys)
    taken zero ys = refl
    taken (suc k) [] = refl
    taken (suc k) (y ∷ ys) = ap (λ (zs : List Tagged). after_init of y ∷ zs) (taken k ys)
take-after_init zero (suc start) of xs h = absurd (omega arith)
take-after_init (suc n) (suc start) of [] h = refl
take-after_init (suc n) (suc start) of (x ∷ xs) h = ap (λ (zs : List Tagged). x ∷ zs) (take-after_init n start of xs (omega arith))

drop-after_init : (n start : ℕ) (of : Tagged) (xs : List Tagged) → start ≤ n → drop n (after_init_from start of xs) ≡ map (after_init of) (drop n xs)
drop-after_init n zero of xs h = dropped n xs
  where
    dropped : (k : ℕ) (ys : List Tagged) → drop k (map (after_init of) ys) ≡ map (after_init of) (drop k ys)
    dropped zero ys = refl
    dropped (suc k) [] = refl
    dropped (suc k) (y ∷ ys) = dropped k ys
drop-after_init zero (suc start) of xs h = absurd (omega arith)
drop-after_init (suc n) (suc start) of [] h = refl
drop-after_init (suc n) (suc start) of (x ∷ xs) h = drop-after_init n start of xs (omega arith)

take-after_init-below : (start : ℕ) (of : Tagged) (xs : List Tagged) → take start (after_init_from start of xs) ≡ take start xs
take-after_init-below zero of xs = refl
take-after_init-below (suc start) of [] = refl
take-after_init-below (suc start) of (x ∷ xs) = ap (λ (zs : List Tagged). x ∷ zs) (take-after_init-below start of xs)

map-append : {A B : Type 0} (f : A → B) (xs ys : List A) → map f (xs ++ ys) ≡ map f xs ++ map f ys
map-append f [] ys = refl
map-append f (x ∷ xs) ys = ap (λ (zs : _). f x ∷ zs) (map-append f xs ys)

reverse-map : {A B : Type 0} (f : A → B) (xs : List A) → reverse (map f xs) ≡ map f (reverse xs)
reverse-map f [] = refl
reverse-map f (x ∷ xs) =
    reverse-append (f x ∷ []) (map f xs)
    ∙ (ap (λ (zs : _). zs ++ f x ∷ []) (reverse-map f xs) ∙ (sym (map-append f (reverse xs) (x ∷ [])) ∙ ap (map f) (sym (reverse-append (x ∷ []) xs))))

-- if all copies of a value turn from the frame's bottom on, they turn in the running method's frame, and nowhere else
pub frames_of-initialised : (words : List Tagged) (link : Link) (top : ℕ) (links : List Link) (free : ℕ) (of : Tagged) → IsPlaced link.bottom link.base link.limit top
    → frames_of (after_init_from link.bottom of words) link top links free ≡ initialised of (frames_of words link top links free)
frames_of-initialised words link top links free of placed =
    let to_top : link.bottom ≤ top = omega (arith, placed.locals, placed.operands) in
    rw (
      take-after_init top link.bottom of words to_top,
      take-after_init link.base link.bottom of (take top words) placed.locals,
      drop-after_init link.base link.bottom of (take top words) placed.locals,
      reverse-map (after_init of) (drop link.base (take top words)),
      take-after_init-below link.bottom of words,
    ) (rw (drop_all link.bottom (take link.base (take top words))) refl)
  where
    drop_all : (n : ℕ) (xs : List Tagged) → drop n (after_init_from n of xs) ≡ map (after_init of) (drop n xs)
    drop_all n xs = drop-after_init n n of xs (omega arith)

-- if there is an operand, the frame reaches past its base
pub has_operand : (words : List Tagged) (link : Link) (top : ℕ) → 0 < length (frame_of (take top words) link).operands → link.base < top
has_operand words link top h =
    omega (arith, length-reverse (drop link.base (take top words)), length-drop link.base (take top words), length-take top words)

first_set : (xs : List Tagged) (v : Tagged) → slice_get xs 0 ≡ Some v → slice_set xs 0 (as_this v) ≡ with_receiver xs
first_set [] v e = absurd (cc)
first_set (x ∷ xs) v e = let same : x ≡ v = cc in rw same refl

-- the first word of the frame becomes the receiver of its `<init>`
pub frames_of-begun : (words : List Tagged) (link : Link) (top : ℕ) (links : List Link) (free : ℕ) (v : Tagged) → IsPlaced link.bottom link.base link.limit top
    → 0 < length (frame_of (take top words) link).locals → slice_get words link.bottom ≡ Some v
    → frames_of (slice_set words link.bottom (as_this v)) link top links free ≡ begun (frames_of words link top links free)
frames_of-begun words link top links free v placed some is =
    let none : link.bottom + 0 ≡ link.bottom = omega arith in
    let read : slice_get (frame_of (take top words) link).locals 0 ≡ Some v = local_read words link top 0 placed some ∙ rw none is in
    (rw none at (frames_of-set words link top links free 0 (as_this v) placed some))
    ∙ ap (λ (xs : List Tagged). record (frames_of words link top links free) { frame = record (frame_of (take top words) link) { locals = xs } })
    (first_set (frame_of (take top words) link).locals v read)

-- words that are added above a frame leave all frames as they are
pub frames_of-grown : (words more : List Tagged) (link : Link) (top : ℕ) (links : List Link) (free : ℕ) → link.bottom ≤ top → top ≤ length words
    → frames_of (words ++ more) link top links free ≡ frames_of words link top links free
frames_of-grown words more link top links free bottom within =
    let lower : link.bottom ≤ length words = omega arith in
    rw (take-append-le top words more within, take-append-le link.bottom words more lower) refl
