-- What a call does to the frames that lie in a row of words.
use Rattle.std.proofs.Common.{◌≡◌, ℕ, zero, suc, ◌+◌, ◌-◌, ◌<◌, ◌≤◌, List, [], ◌∷◌, ◌++◌, length, map, take, drop, reverse, refl, ap, sym, ◌∙◌, arith, append_assoc, length-append, length-drop}
use Rattle.std.specs.Prelude.{replicate}
use Rattle.std.proofs.lemmas.List.{length-take, take-take, drop-take, take-append-drop, take-append-le, reverse-append, reverse-reverse, length-reverse}
use Rattle.vm_heap.specs.Tagged.{Tagged, Unset}
use Rattle.vm_heap.specs.Words.{forgotten}
use Rattle.vm_stack.specs.Frames.{Frame, Frames, entered, frame_cost, without}
use Rattle.vm_stack.specs.Layout.{frame_of, frames_of, callers_of, IsPlaced}
use Rattle.vm_stack.specs.declared.link.Link.{Link}
use Rattle.vm_stack.proofs.Rows.{drop_before, frames_of-grown}

take_front : {A : Type 0} (n : ℕ) (xs ys : List A) → length xs ≡ n → take n (xs ++ ys) ≡ xs
take_front zero [] ys e = refl
take_front (suc n) [] ys e = absurd (omega arith)
take_front zero (x ∷ xs) ys e = absurd (omega arith)
take_front (suc n) (x ∷ xs) ys e = ap (λ (zs : _). x ∷ zs) (take_front n xs ys (omega arith))

drop_front : {A : Type 0} (n : ℕ) (xs ys : List A) → length xs ≡ n → drop n (xs ++ ys) ≡ ys
drop_front zero [] ys e = refl
drop_front (suc n) [] ys e = absurd (omega arith)
drop_front zero (x ∷ xs) ys e = absurd (omega arith)
drop_front (suc n) (x ∷ xs) ys e = drop_front n xs ys (omega arith)

drop_all : {A : Type 0} (n : ℕ) (xs : List A) → length xs ≤ n → drop n xs ≡ []
drop_all zero [] h = refl
drop_all (suc n) [] h = refl
drop_all zero (x ∷ xs) h = absurd (omega arith)
drop_all (suc n) (x ∷ xs) h = drop_all n xs (omega arith)

drop_none : {A : Type 0} (n : ℕ) → drop {A = A} n [] ≡ []
drop_none zero = refl
drop_none (suc n) = refl

drop_more : {A : Type 0} (m n : ℕ) (xs : List A) → drop m (drop n xs) ≡ drop (n + m) xs
drop_more m zero xs = let e : zero + m ≡ m = omega arith in rw e refl
drop_more m (suc n) [] = let e : suc n + m ≡ suc (n + m) = omega arith in rw e (drop_none m)
drop_more m (suc n) (x ∷ xs) = let e : suc n + m ≡ suc (n + m) = omega arith in rw e (drop_more m n xs)

pub length-replicate : {A : Type 0} (n : ℕ) (x : A) → length (replicate n x) ≡ n
length-replicate zero x = refl
length-replicate (suc n) x = ap suc (length-replicate n x)

-- the last n, and what is before them
reversed : {A : Type 0} (n : ℕ) (ys : List A) → n ≤ length ys → reverse ys ≡ reverse (drop (length ys - n) ys) ++ reverse (take (length ys - n) ys)
reversed n ys h = ap reverse (sym (take-append-drop (length ys - n) ys)) ∙ reverse-append (take (length ys - n) ys) (drop (length ys - n) ys)

length-last : {A : Type 0} (n : ℕ) (ys : List A) → n ≤ length ys → length (reverse (drop (length ys - n) ys)) ≡ n
length-last n ys h = omega (arith, length-reverse (drop (length ys - n) ys), length-drop (length ys - n) ys)

last_ones : {A : Type 0} (n : ℕ) (ys : List A) → n ≤ length ys → reverse (take n (reverse ys)) ≡ drop (length ys - n) ys
last_ones n ys h =
    ap (λ (zs : _). reverse (take n zs)) (reversed n ys h)
    ∙ (ap reverse (take_front n (reverse (drop (length ys - n) ys)) (reverse (take (length ys - n) ys)) (length-last n ys h)) ∙ reverse-reverse (drop (length ys - n) ys))

before_last : {A : Type 0} (n : ℕ) (ys : List A) → n ≤ length ys → drop n (reverse ys) ≡ reverse (take (length ys - n) ys)
before_last n ys h =
    ap (drop n) (reversed n ys h) ∙ drop_front n (reverse (drop (length ys - n) ys)) (reverse (take (length ys - n) ys)) (length-last n ys h)

frames_of-entered : (words : List Tagged) (link : Link) (top : ℕ) (links : List Link) (free method arguments max_locals max_stack : ℕ)
    → IsPlaced link.bottom link.base link.limit top → top - arguments + max_locals ≤ length words → arguments ≤ max_locals
    → arguments ≤ length (frame_of (take top words) link).operands
    → frames_of (forgotten top (top - arguments + max_locals) words)
    (record { method = method; index = 0; bottom = top - arguments; base = top - arguments + max_locals; limit = top - arguments + max_locals + max_stack })
    (top - arguments + max_locals) (links ++ link ∷ []) (free - frame_cost max_locals max_stack)
    ≡ entered method arguments max_locals max_stack (frames_of words link top links free)
unfolding entered
frames_of-entered words link top links free method arguments max_locals max_stack placed within locals few =
    let below : ℕ = top - arguments in
    let base : ℕ = top - arguments + max_locals in
    let row : List Tagged = take top words in
    let there : length row ≡ top = omega (arith, length-take top words) in
    let count : length (drop link.base row) ≡ top - link.base = omega (arith, length-drop link.base row) in
    let few' : arguments ≤ length (drop link.base row) = omega (arith, length-reverse (drop link.base row)) in
    let above : link.base ≤ below = omega (arith, placed.operands) in
    let whole : length (row ++ replicate (base - top) Unset) ≡ base = omega (arith, length-append row (replicate (base - top) Unset), length-replicate (base - top) Unset) in
    let taken : take base (forgotten top base words) ≡ row ++ replicate (base - top) Unset = take_front base (row ++ replicate (base - top) Unset) (drop base words) whole in
    let again : take base (row ++ replicate (base - top) Unset) ≡ row ++ replicate (base - top) Unset =
    ap (take base) (sym taken) ∙ (take-take base base (forgotten top base words) (omega arith) ∙ taken) in
    let kept : drop below (row ++ replicate (base - top) Unset) ≡ drop below row ++ replicate (base - top) Unset = drop_before below row (replicate (base - top) Unset) (omega arith) in
    let at_last : link.base + (length (drop link.base row) - arguments) ≡ below = omega arith in
    let last : drop below row ≡ reverse (take arguments (reverse (drop link.base row))) =
    sym (last_ones arguments (drop link.base row) few' ∙ (drop_more (length (drop link.base row) - arguments) link.base row ∙ ap (λ (n : ℕ). drop n row) at_last)) in
    let unset : base - top ≡ max_locals - arguments = omega arith in
    let none : drop base (row ++ replicate (base - top) Unset) ≡ [] = drop_all base (row ++ replicate (base - top) Unset) (omega arith) in
    let room : base + max_stack - base ≡ max_stack = omega arith in
    let lower : take below (forgotten top base words) ≡ take below words =
    ap (take below) (append_assoc row (replicate (base - top) Unset) (drop base words))
    ∙ (take-append-le below row (replicate (base - top) Unset ++ drop base words) (omega arith) ∙ take-take below top words (omega arith)) in
    let caller_locals : take link.base (take below words) ≡ take link.base row = take-take link.base below words above ∙ sym (take-take link.base top words placed.operands) in
    let caller_operands : reverse (drop link.base (take below words)) ≡ drop arguments (reverse (drop link.base row)) =
    ap (λ (zs : List Tagged). reverse (drop link.base zs)) (sym (take-take below top words (omega arith)))
    ∙ (ap (λ (n : ℕ). reverse (drop link.base (take n row))) (sym at_last)
    ∙ (ap reverse (drop-take link.base (length (drop link.base row) - arguments) row) ∙ sym (before_last arguments (drop link.base row) few'))) in
    let caller_below : take link.bottom (take below words) ≡ take link.bottom words = take-take link.bottom below words (omega (arith, placed.locals)) in
    rw (reverse-append links (link ∷ []), lower, caller_locals, caller_operands, caller_below, taken, again, none, kept, last, unset, room) refl

-- the operands on top are taken off
pub frames_of-without : (words : List Tagged) (link : Link) (top count : ℕ) (links : List Link) (free : ℕ) → link.base ≤ top → top ≤ length words
    → count ≤ length (frame_of (take top words) link).operands → frames_of words link (top - count) links free ≡ without count (frames_of words link top links free)
frames_of-without words link top count links free placed within few =
    let row : List Tagged = take top words in
    let below : ℕ = top - count in
    let size : length (drop link.base row) ≡ top - link.base = omega (arith, length-drop link.base row, length-take top words) in
    let few' : count ≤ length (drop link.base row) = omega (arith, few, length-reverse (drop link.base row)) in
    let at_last : link.base + (length (drop link.base row) - count) ≡ below = omega arith in
    let locals : take link.base (take below words) ≡ take link.base row = take-take link.base below words (omega arith) ∙ sym (take-take link.base top words placed) in
    let operands : reverse (drop link.base (take below words)) ≡ drop count (reverse (drop link.base row)) =
    ap (λ (zs : List Tagged). reverse (drop link.base zs)) (sym (take-take below top words (omega arith)))
    ∙ (ap (λ (n : ℕ). reverse (drop link.base (take n row))) (sym at_last)
    ∙ (ap reverse (drop-take link.base (length (drop link.base row) - count) row) ∙ sym (before_last count (drop link.base row) few'))) in
    rw (locals, operands) refl

pub length-callers : (row : List Tagged) (links : List Link) → length (callers_of row links) ≡ length links
length-callers row [] = refl
length-callers row (link ∷ links) = ap suc (length-callers (take link.bottom row) links)

-- how many local variables a new frame has
pub count_locals : (words : List Tagged) (top arguments max_locals : ℕ) → arguments ≤ top → arguments ≤ max_locals → top - arguments + max_locals ≤ length words
    → length (drop (top - arguments) (take (top - arguments + max_locals) (take (top - arguments + max_locals) (forgotten top (top - arguments + max_locals) words)))) ≡ max_locals
count_locals words top arguments max_locals few locals within =
    let base : ℕ = top - arguments + max_locals in
    let row : List Tagged = forgotten top base words in
    omega (
      arith,
      length-drop (top - arguments) (take base (take base row)),
      length-take base (take base row),
      length-take base row,
      length-append (take top words ++ replicate (base - top) Unset) (drop base words),
      length-append (take top words) (replicate (base - top) Unset),
      length-take top words,
      length-replicate (base - top) Unset,
      length-drop base words,
    )

-- a call leads to the callee's frame also if words were added before
pub frames_of-called : (words more grown : List Tagged) (link : Link) (top : ℕ) (links : List Link) (free method arguments max_locals max_stack : ℕ)
    → grown ≡ words ++ more → IsPlaced link.bottom link.base link.limit top → top ≤ length words → top - arguments + max_locals ≤ length grown → arguments ≤ max_locals
    → arguments ≤ length (frame_of (take top words) link).operands
    → frames_of (forgotten top (top - arguments + max_locals) grown)
    (record { method = method; index = 0; bottom = top - arguments; base = top - arguments + max_locals; limit = top - arguments + max_locals + max_stack })
    (top - arguments + max_locals) (links ++ link ∷ []) (free - frame_cost max_locals max_stack)
    ≡ entered method arguments max_locals max_stack (frames_of words link top links free)
frames_of-called words more grown link top links free method arguments max_locals max_stack is placed written within locals few =
    let same : take top grown ≡ take top words = rw is (take-append-le top words more written) in
    let few' : arguments ≤ length (frame_of (take top grown) link).operands = rw same few in
    let bottom : link.bottom ≤ top = omega (arith, placed.locals, placed.operands) in
    let before : frames_of grown link top links free ≡ frames_of words link top links free = rw is (frames_of-grown words more link top links free bottom written) in
    frames_of-entered grown link top links free method arguments max_locals max_stack placed within locals few'
    ∙ ap (entered method arguments max_locals max_stack) before

-- the words grow to `count`
pub length-grown : (words grown : List Tagged) (count : ℕ) → grown ≡ words ++ replicate (count - length words) Unset → count ≤ length grown
length-grown words grown count is =
    rw is (omega (arith, length-append words (replicate (count - length words) Unset), length-replicate (count - length words) Unset))
