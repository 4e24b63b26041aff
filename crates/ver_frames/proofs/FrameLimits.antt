-- What is true of all declared frames: their offsets rise, and they have as many local variables as the method and no more
-- operands.
use Rattle.std.proofs.Common.{◌≡◌, ℕ, zero, suc, ◌+◌, ◌-◌, ◌<◌, ◌≤◌, Bool, true, false, Option, Some, None, Result, Ok, Err, List, [], ◌∷◌, ◌++◌, length, take, reverse, replicate, unwrap_or, refl, ap, sym, subst, arith, add-one}
use Rattle.std.specs.Prelude.{nat_le, map, option_map, option_and_then, slice_index}
use Rattle.std.specs.List.{AllByRecursion}
use Rattle.std.specs.List.Sorted.{IsStrictlyIncreasing}
use Rattle.std.specs.Option.{option_map_or}
use Rattle.std.proofs.lemmas.Bool.Decides.{nat_tests}
use Rattle.std.proofs.lemmas.List.{length-append, length-replicate, length-reverse}
use Rattle.ver_frames.proofs.Fillings.{filled_long}
use Rattle.ver_frames.specs.Frames.{Frame, filled}
use Rattle.ver_frames.specs.Limits.{FitsMethod}
use Rattle.ver_frames.specs.Method.{Subject, argument_types}
use Rattle.ver_frames.specs.StackMap.{◌>>=◌, or_broken, demand, kept, added, operands, after_items, delta, is_start, items, item, frame_after, frame, frames, declared_frames, frames_of, frames_of_table, u2}
use Rattle.ver_frames.specs.StackMapFormat.{Spelled, next_offset, declared_frame}
use Rattle.ver_frames.specs.declared.fault.StackMapFault.{StackMapFault}
use Rattle.ver_frames.specs.declared.fault.StackMapRule.{StackMapRule}
use Rattle.ver_frames.specs.declared.fault.StackMapRule.TheVariants.{Reserved, Chop, Locals, Offset, Kind}
use Rattle.ver_frames.specs.declared.vtype.VType.{VType}
use Rattle.ver_frames.specs.declared.vtype.VType.TheVariants.{Top}

-- what passes one step and then another
pub both : {A B : Type 0} (r : Result A StackMapFault) (f : A → Result B StackMapFault) (y : B) → (r >>= f) ≡ Ok y → (x : A) × ((r ≡ Ok x) × (f x ≡ Ok y))
both (Ok x) f y e = (x, (refl, e))
both (Err fault) f y e = absurd (cc)

pub there : {A : Type 0} (rule : StackMapRule) (at : ℕ) (o : Option A) (x : A) → or_broken rule at o ≡ Ok x → o ≡ Some x
there rule at None x e = absurd (cc)
there rule at (Some y) x e = let same : y ≡ x = cc in ap (λ z. Some z) same

pub passed : (rule : StackMapRule) (at : ℕ) (test : Bool) (x : Unit {0}) → demand rule at test ≡ Ok x → test ≡ true
passed rule at true x e = refl
passed rule at false x e = absurd (cc)

pub both_options : {A B : Type 0} (o : Option A) (f : A → Option B) (y : B) → option_and_then f o ≡ Some y → (x : A) × ((o ≡ Some x) × (f x ≡ Some y))
both_options (Some x) f y e = (x, (refl, e))
both_options None f y e = absurd (cc)

long : (first : VType) (found : List VType × List ℕ) (n : ℕ) (o : Option (List VType × List ℕ)) → ((others : List VType × List ℕ) → o ≡ Some others → length others.0 ≡ n)
    → option_map (λ (others : List VType × List ℕ). (first ∷ others.0, others.1)) o ≡ Some found → length found.0 ≡ suc n
long first found n None h e = absurd (cc)
long first found n (Some others) h e =
    let same : ◌≡◌ {A = List VType × List ℕ} (first ∷ others.0, others.1) found = cc in
    subst (λ (p : List VType × List ℕ). length p.0 ≡ suc n) same (ap suc (h others refl))

-- n items say n types
items_long : (m : Subject) (n : ℕ) (bytes : List ℕ) (found : List VType × List ℕ) → items m n bytes ≡ Some found → length found.0 ≡ n
unfolding items
items_long m zero bytes found e =
    let same : ◌≡◌ {A = List VType × List ℕ} ([], bytes) found = cc in
    subst (λ (p : List VType × List ℕ). length p.0 ≡ 0) same refl
items_long m (suc n) bytes found e =
    let first = both_options (item m bytes) _ found e in
    long first.0.0 found n (items m n first.0.1) (λ others is. items_long m n first.0.1 others is) first.1.1

-- a frame as spelled stands at this offset, and fits the method
record Fits (m : Subject) (at : ℕ) (s : Spelled) : Type 0 where
  offset : s.offset ≡ at
  locals : length s.locals ≤ m.code.max_locals
  stack : length s.stack ≤ m.code.max_stack

few_operands : (most : ℕ) (o : Option (ℕ × List ℕ)) (p : ℕ × List ℕ) → o ≡ Some p → option_map_or (λ (count : ℕ × List ℕ). nat_le count.0 most) o true ≡ true → p.0 ≤ most
few_operands most None p is e = absurd (cc)
few_operands most (Some q) p is e =
    let same : ◌≡◌ {A = ℕ × List ℕ} q p = cc in
    subst (λ (r : ℕ × List ℕ). r.0 ≤ most) same (grind (arith, nat_tests))

pub same_read : (p q : Spelled × List ℕ) → ◌≡◌ {A = Result (Spelled × List ℕ) StackMapFault} (Ok p) (Ok q) → p ≡ q
same_read p q e = cc

pub same_frames : (p q : List (ℕ × Frame)) → ◌≡◌ {A = Result (List (ℕ × Frame)) StackMapFault} (Ok p) (Ok q) → p ≡ q
same_frames p q e = cc

pub at_most : (n most : ℕ) → nat_le n most ≡ true → n ≤ most
at_most n most e = grind (arith, nat_tests)

short : (keeps : ℕ) (before : List VType) → length (take keeps before) ≤ keeps
short zero before = omega arith
short (suc n) [] = omega arith
short (suc n) (t ∷ before) = omega (arith, short n before)

after_fits : (m : Subject) (at : ℕ) (before : List VType) (tag : ℕ) (rest : List ℕ) (read : Spelled × List ℕ) → frame_after m at before tag rest ≡ Ok read → Fits m at read.0
unfolding frame_after
after_fits m at before tag rest read e =
    let keeps = both (or_broken Chop at (kept tag (length before))) _ read e in
    let adds = both (or_broken Reserved at (added tag rest)) _ read keeps.1.1 in
    let holds : Option (ℕ × List ℕ) = option_and_then (operands tag) (after_items adds.0.0 adds.0.1) in
    let few = both (demand Locals at (nat_le (keeps.0 + adds.0.0) m.code.max_locals)) _ read adds.1.1 in
    let fit = both (demand Locals at (option_map_or (λ (count : ℕ × List ℕ). nat_le count.0 m.code.max_stack) holds true)) _ read few.1.1 in
    let starts = both (demand Offset at (is_start m at)) _ read fit.1.1 in
    let pushes = both (or_broken Kind at holds) _ read starts.1.1 in
    let locals = both (or_broken Kind at (items m adds.0.0 adds.0.1)) _ read pushes.1.1 in
    let stack = both (or_broken Kind at (items m pushes.0.0 pushes.0.1)) _ read locals.1.1 in
    let spelled : Spelled = record { offset = at; locals = take keeps.0 before ++ locals.0.0; stack = stack.0.0 } in
    let same : ◌≡◌ {A = Spelled × List ℕ} (spelled, stack.0.1) read = same_read (spelled, stack.0.1) read stack.1.1 in
    let enough : nat_le (keeps.0 + adds.0.0) m.code.max_locals ≡ true = passed Locals at (nat_le (keeps.0 + adds.0.0) m.code.max_locals) few.0 few.1.0 in
    let most : keeps.0 + adds.0.0 ≤ m.code.max_locals = at_most (keeps.0 + adds.0.0) m.code.max_locals enough in
    let taken : length (take keeps.0 before) ≤ keeps.0 = short keeps.0 before in
    let more : length locals.0.0 ≡ adds.0.0 = items_long m adds.0.0 adds.0.1 locals.0 (there Kind at (items m adds.0.0 adds.0.1) locals.0 locals.1.0) in
    let pushed : length stack.0.0 ≡ pushes.0.0 = items_long m pushes.0.0 pushes.0.1 stack.0 (there Kind at (items m pushes.0.0 pushes.0.1) stack.0 stack.1.0) in
    let room : pushes.0.0 ≤ m.code.max_stack = few_operands m.code.max_stack holds pushes.0 (there Kind at holds pushes.0 pushes.1.0) (passed Locals at (option_map_or (λ (count : ℕ × List ℕ). nat_le count.0 m.code.max_stack) holds true) fit.0 fit.1.0) in
    let joined : length (take keeps.0 before ++ locals.0.0) ≡ length (take keeps.0 before) + length locals.0.0 = length-append (take keeps.0 before) locals.0.0 in
    subst (λ (p : Spelled × List ℕ). Fits m at p.0) same (record { offset = refl; locals = omega arith; stack = omega arith })

-- an offset is above the last one, if there is one
abbrev pub IsAfter : Option ℕ → ℕ → Type 0
IsAfter None at = Unit {0}
IsAfter (Some last) at = last < at

-- each declared frame is after the one before it, and fits the method
abbrev pub RiseAndFit : Subject → Option ℕ → List (ℕ × Frame) → Type 0
RiseAndFit m last [] = Unit {0}
RiseAndFit m last (d ∷ ds) = IsAfter last d.0 × (length d.1.locals ≡ m.code.max_locals) × (length d.1.stack ≤ m.code.max_stack) × RiseAndFit m (Some d.0) ds

after_last : (last : Option ℕ) (distance : ℕ) → IsAfter last (next_offset last distance)
after_last None distance = tt
after_last (Some last) distance = omega arith

record FitsAfter (m : Subject) (last : Option ℕ) (s : Spelled) : Type 0 where
  after : IsAfter last s.offset
  locals : length s.locals ≤ m.code.max_locals
  stack : length s.stack ≤ m.code.max_stack

frame_fits : (m : Subject) (last : Option ℕ) (before : List VType) (bytes : List ℕ) (read : Spelled × List ℕ) → frame m last before bytes ≡ Ok read → FitsAfter m last read.0
unfolding frame
frame_fits m last before [] read e = absurd (cc)
frame_fits m last before (tag ∷ rest) read e =
    let distance = both (or_broken Reserved (unwrap_or last 0) (delta tag rest)) _ read e in
    let fits = after_fits m (next_offset last distance.0.0) before tag distance.0.1 read distance.1.1 in
    record { after = subst (λ (n : ℕ). IsAfter last n) (sym fits.offset) (after_last last distance.0.0); locals = fits.locals; stack = fits.stack }

-- the declared frames rise and fit
pub frames_fit : (m : Subject) (n : ℕ) (last : Option ℕ) (before : List VType) (bytes : List ℕ) (ds : List (ℕ × Frame)) → frames m n last before bytes ≡ Ok ds → RiseAndFit m last ds
unfolding frames
frames_fit m zero last before [] ds e =
    let same : ◌≡◌ {A = List (ℕ × Frame)} [] ds = cc in
    subst (λ (fs : List (ℕ × Frame)). RiseAndFit m last fs) same tt
frames_fit m zero last before (byte ∷ bytes) ds e = absurd (cc)
frames_fit m (suc n) last before bytes ds e =
    let first = both (frame m last before bytes) _ ds e in
    let others = both (frames m n (Some first.0.0.offset) first.0.0.locals first.0.1) _ ds first.1.1 in
    let fits = frame_fits m last before bytes first.0 first.1.0 in
    let front : ℕ × Frame = (first.0.0.offset, declared_frame m.code.max_locals first.0.0.locals first.0.0.stack) in
    let same : ◌≡◌ {A = List (ℕ × Frame)} (front ∷ others.0) ds = same_frames (front ∷ others.0) ds others.1.1 in
    let long : length (filled m.code.max_locals first.0.0.locals) ≡ m.code.max_locals = filled_long m.code.max_locals first.0.0.locals fits.locals in
    let deep : length (reverse first.0.0.stack) ≡ length first.0.0.stack = length-reverse first.0.0.stack in
    subst (λ (fs : List (ℕ × Frame)). RiseAndFit m last fs) same
    (fits.after, long, omega (arith, fits.stack), frames_fit m n (Some first.0.0.offset) first.0.0.locals first.0.1 others.0 others.1.0)

-- a reading of n frames gives n declared frames
pub frames_long : (m : Subject) (n : ℕ) (last : Option ℕ) (before : List VType) (bytes : List ℕ) (ds : List (ℕ × Frame)) → frames m n last before bytes ≡ Ok ds → length ds ≡ n
unfolding frames
frames_long m zero last before [] ds e =
    let same : ◌≡◌ {A = List (ℕ × Frame)} [] ds = cc in
    subst (λ (fs : List (ℕ × Frame)). length fs ≡ 0) same refl
frames_long m zero last before (byte ∷ bytes) ds e = absurd (cc)
frames_long m (suc n) last before bytes ds e =
    let first = both (frame m last before bytes) _ ds e in
    let others = both (frames m n (Some first.0.0.offset) first.0.0.locals first.0.1) _ ds first.1.1 in
    subst (λ (fs : List (ℕ × Frame)). length fs ≡ suc n) (same_frames _ ds others.1.1)
    (ap suc (frames_long m n (Some first.0.0.offset) first.0.0.locals first.0.1 others.0 others.1.0))

table_fits : (m : Subject) (o : Option (List ℕ)) (ds : List (ℕ × Frame)) → frames_of m o ≡ Ok ds → RiseAndFit m None ds
unfolding frames_of_table
table_fits m None ds e =
    let same : ◌≡◌ {A = List (ℕ × Frame)} [] ds = cc in
    subst (λ (fs : List (ℕ × Frame)). RiseAndFit m None fs) same tt
table_fits m (Some bytes) ds e =
    let count = both (or_broken Reserved 0 (u2 bytes)) _ ds e in
    frames_fit m count.0.0 None (argument_types m) count.0.1 ds count.1.1

pub declared_fit : (m : Subject) (ds : List (ℕ × Frame)) → declared_frames m ≡ Ok ds → RiseAndFit m None ds
unfolding declared_frames
declared_fit m ds e = table_fits m m.code.stack_map_table ds e

rise_on : (m : Subject) (last : Option ℕ) (ds : List (ℕ × Frame)) → RiseAndFit m last ds → (k : ℕ) → suc k < length (map (λ (d : ℕ × Frame). d.0) ds)
    → slice_index (map (λ (d : ℕ × Frame). d.0) ds) k < slice_index (map (λ (d : ℕ × Frame). d.0) ds) (suc k)
rise_on m last [] fit k lt = absurd (omega arith)
rise_on m last (d ∷ []) fit k lt = absurd (omega arith)
rise_on m last (d ∷ e ∷ ds) fit zero lt = fit.3.0
rise_on m last (d ∷ e ∷ ds) fit (suc k) lt = rise_on m (Some d.0) (e ∷ ds) fit.3 k (omega arith)

all_fit : (m : Subject) (last : Option ℕ) (ds : List (ℕ × Frame)) → RiseAndFit m last ds → AllByRecursion (FitsMethod m) ds
all_fit m last [] fit = tt
all_fit m last (d ∷ ds) fit = (record { locals = fit.1; stack = fit.2 }, all_fit m (Some d.0) ds fit.3)

-- the offsets of the declared frames rise
pub declared_rise : (m : Subject) (ds : List (ℕ × Frame)) → declared_frames m ≡ Ok ds → IsStrictlyIncreasing (map (λ (d : ℕ × Frame). d.0) ds)
declared_rise m ds e k lt =
    let next : k + 1 ≡ suc k = add-one k in
    rw next (rise_on m None ds (declared_fit m ds e) k (omega arith))

-- the declared frames have as many local variables as the method, and no more operands
pub declared_within : (m : Subject) (ds : List (ℕ × Frame)) → declared_frames m ≡ Ok ds → AllByRecursion (FitsMethod m) ds
declared_within m ds e = all_fit m None ds (declared_fit m ds e)
