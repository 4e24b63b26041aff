-- Reading frames one after the other, as a loop does.
use Rattle.std.proofs.Common.{◌≡◌, ℕ, suc, ◌-◌, ◌+◌, ◌<◌, ◌≤◌, List, [], ◌∷◌, ◌++◌, length, Option, Some, unwrap_or, Result, Ok, Err, refl, sym, ap, ◌∙◌, append_assoc, arith}
use Rattle.std.proofs.lemmas.List.{append-nil}
use Rattle.ver_frames.specs.Frames.{Frame}
use Rattle.ver_frames.specs.Gives.{Fails}
use Rattle.ver_frames.specs.Method.{Subject}
use Rattle.ver_frames.specs.StackMap.{◌>>=◌, frame, frames}
use Rattle.ver_frames.specs.StackMapFormat.{Spelled, declared_by}
use Rattle.ver_frames.specs.declared.fault.StackMapFault.{StackMapFault}
use Rattle.ver_frames.specs.declared.fault.StackMapFault.TheVariants as fault
use Rattle.ver_frames.specs.declared.fault.StackMapRule.TheVariants.{Reserved}
use Rattle.ver_frames.specs.declared.vtype.VType.{VType}

abbrev pub Frames : Type 0
Frames = List (ℕ × Frame)

-- what was read before, and what is still read
abbrev pub with_frames : Frames → Result Frames StackMapFault → Result Frames StackMapFault
with_frames front read = read >>= λ others. Ok (front ++ others)

regroup : (front : Frames) (first : ℕ × Frame) (read : Result Frames StackMapFault) → with_frames front (read >>= λ others. Ok (first ∷ others)) ≡ with_frames (front ++ first ∷ []) read
regroup front first (Ok others) = ap (λ (fs : Frames). Ok fs) (simp append_assoc)
regroup front first (Err e) = refl

-- one more frame is read
pub frames_left : (m : Subject) (count i : ℕ) (front : Frames) (last : Option ℕ) (before : List VType) (bytes : List ℕ) (first : Spelled) (rest : List ℕ) (total : Result Frames StackMapFault)
    → i < count → frame m last before bytes ≡ Ok (first, rest)
    → with_frames front (frames m (count - i) last before bytes) ≡ total
    → with_frames (front ++ declared_by m first ∷ []) (frames m (count - (i + 1)) (Some first.offset) first.locals rest) ≡ total
unfolding frames
frames_left m count i front last before bytes first rest total lt here so_far =
    let k : count - i ≡ suc (count - (i + 1)) = omega arith in
    let one : with_frames front (frames m (count - i) last before bytes) ≡ with_frames (front ++ declared_by m first ∷ []) (frames m (count - (i + 1)) (Some first.offset) first.locals rest) = rw (k, here) (regroup front (declared_by m first) (frames m (count - (i + 1)) (Some first.offset) first.locals rest)) in
    sym one ∙ so_far

-- a frame is not read
pub frames_fail : (e : StackMapFault) (m : Subject) (count i : ℕ) (front : Frames) (last : Option ℕ) (before : List VType) (bytes : List ℕ) (total : Result Frames StackMapFault)
    → i < count → Fails e (frame m last before bytes)
    → with_frames front (frames m (count - i) last before bytes) ≡ total → Fails e total
unfolding frames
frames_fail fault.Memory m count i front last before bytes total lt here so_far = tt
frames_fail (fault.Broken rule at) m count i front last before bytes total lt here so_far =
    let k : count - i ≡ suc (count - (i + 1)) = omega arith in
    let one : with_frames front (frames m (count - i) last before bytes) ≡ Err (fault.Broken rule at) = rw (k, here) in
    sym so_far ∙ one

-- all frames are read, and no byte is left
pub frames_done : (m : Subject) (count i : ℕ) (front : Frames) (last : Option ℕ) (before : List VType) (bytes : List ℕ) (total : Result Frames StackMapFault)
    → count ≤ i → length bytes < 1 → with_frames front (frames m (count - i) last before bytes) ≡ total → total ≡ Ok front
unfolding frames
frames_done m count i front last before [] total le none so_far =
    let k : count - i ≡ 0 = omega arith in
    let one : with_frames front (frames m (count - i) last before []) ≡ Ok front = rw k (ap (λ (fs : Frames). Ok fs) (append-nil front)) in
    sym so_far ∙ one
frames_done m count i front last before (byte ∷ bytes) total le none so_far = absurd (omega arith)

-- all frames are read, and bytes are left
pub frames_over : (m : Subject) (count i : ℕ) (front : Frames) (last : Option ℕ) (before : List VType) (bytes : List ℕ) (total : Result Frames StackMapFault)
    → count ≤ i → 1 ≤ length bytes → with_frames front (frames m (count - i) last before bytes) ≡ total → total ≡ Err (fault.Broken Reserved (unwrap_or last 0))
unfolding frames
frames_over m count i front last before [] total le some so_far = absurd (omega arith)
frames_over m count i front last before (byte ∷ bytes) total le some so_far =
    let k : count - i ≡ 0 = omega arith in
    let one : with_frames front (frames m (count - i) last before (byte ∷ bytes)) ≡ Err (fault.Broken Reserved (unwrap_or last 0)) = rw k in
    sym so_far ∙ one
