-- Frames for a connection, counted one by one and batch by batch.
use Rattle.std.specs.Global.{Global}
use Rattle.std.proofs.Common.{arith, Vec, ◌≡◌, ◌<◌, ◌≤◌, ◌+◌, ◌-◌, ◌^◌, ℕ, suc, Bool, true, false, List, [], ◌∷◌, ◌++◌, map, min, take, length, get_or, if◌then◌else◌, refl, ap, ◌∙◌, add-one}
use Rattle.sp_outputs.specs.Notes.{output_of}
use Rattle.sp_outputs.specs.declared.output.Output as declared
use Rattle.sp_rules.specs.Events.{Output}
use Rattle.sp_history.specs.Entries.{outputs_in_all}
use Rattle.sp_history.specs.Frames.{frames_on, is_frame_on, unsent_with}
use Rattle.sp_history.proofs.EntryLemmas.{batches_push, take_push}

counted : (b : Bool) (m n : ℕ) → (if b then suc (m + n) else m + n) ≡ (if b then suc m else m) + n
counted true m n = omega arith
counted false m n = refl

frames_append : (conn : ℕ) (xs ys : List Output) → frames_on conn (xs ++ ys) ≡ frames_on conn xs + frames_on conn ys
frames_append conn [] ys = omega arith
frames_append conn (x ∷ xs) ys =
    ap (λ (n : ℕ). if is_frame_on conn x then suc n else n) (frames_append conn xs ys) ∙ counted (is_frame_on conn x) (frames_on conn xs) (frames_on conn ys)

map_push : (xs : List declared.Output) (x : declared.Output) → map output_of (xs ++ x ∷ []) ≡ map output_of xs ++ output_of x ∷ []
map_push [] x = refl
map_push (y ∷ ys) x = ap (λ l. output_of y ∷ l) (map_push ys x)

frames_one : (conn : ℕ) (xs : List declared.Output) (i : ℕ) (x : declared.Output) (b : Bool) → i < length xs → x ≡ get_or xs i x → is_frame_on conn (output_of x) ≡ b
    → frames_on conn (map output_of (take (suc i) xs)) ≡ frames_on conn (map output_of (take i xs)) + (if b then 1 else 0)
frames_one conn xs i x b below is mine =
    ap (λ l. frames_on conn (map output_of l)) (take_push xs i x below is) ∙ ap (frames_on conn) (map_push (take i xs) x) ∙ frames_append conn (map output_of (take i xs)) (output_of x ∷ [])
    ∙ ap (λ (t : Bool). frames_on conn (map output_of (take i xs)) + (if t then 1 else 0)) mine

-- one frame more
pub counts_on : (conn : ℕ) (xs : List declared.Output) (i : ℕ) (x : declared.Output) (frames next : ℕ) → i < length xs → x ≡ get_or xs i x → is_frame_on conn (output_of x) ≡ true → next ≡ frames + 1
    → (frames ≡ frames_on conn (map output_of (take i xs))) × (frames ≤ i) → (next ≡ frames_on conn (map output_of (take (i + 1) xs))) × (next ≤ i + 1)
counts_on conn xs i x frames next below is mine now so_far =
    let more = frames_one conn xs i x true below is mine in
    let count : next ≡ frames_on conn (map output_of (take (suc i) xs)) = omega (arith, more, now, so_far.0) in
    (rw add-one count, omega (arith, now, so_far.1))

-- an output that is none
pub counts_past : (conn : ℕ) (xs : List declared.Output) (i : ℕ) (x : declared.Output) (frames next : ℕ) → i < length xs → x ≡ get_or xs i x → is_frame_on conn (output_of x) ≡ false → next ≡ frames
    → (frames ≡ frames_on conn (map output_of (take i xs))) × (frames ≤ i) → (next ≡ frames_on conn (map output_of (take (i + 1) xs))) × (next ≤ i + 1)
counts_past conn xs i x frames next below is other now so_far =
    let more = frames_one conn xs i x false below is other in
    let count : next ≡ frames_on conn (map output_of (take (suc i) xs)) = omega (arith, more, now, so_far.0) in
    (rw add-one count, omega (arith, now, so_far.1))

-- one batch more
pub counts_batch : (conn unsent total next : ℕ) (bs : List (Vec declared.Output Global)) (i : ℕ) (b : Vec declared.Output Global) → i < length bs → b ≡ get_or bs i b
    → total ≡ unsent_with unsent (frames_on conn (outputs_in_all (take i bs))) → next ≡ min (total + frames_on conn (map output_of b.items)) (2 ^ 64 - 1)
    → next ≡ unsent_with unsent (frames_on conn (outputs_in_all (take (i + 1) bs)))
counts_batch conn unsent total next bs i b below is so_far now =
    let more : frames_on conn (outputs_in_all (take (suc i) bs)) ≡ frames_on conn (outputs_in_all (take i bs)) + frames_on conn (map output_of b.items) =
    ap (λ l. frames_on conn (outputs_in_all l)) (take_push bs i b below is) ∙ ap (frames_on conn) (batches_push (take i bs) b) ∙ frames_append conn (outputs_in_all (take i bs)) (map output_of b.items) in
    let count : next ≡ unsent_with unsent (frames_on conn (outputs_in_all (take (suc i) bs))) = omega (arith, more, so_far, now) in
    rw add-one count
