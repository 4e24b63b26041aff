-- Each declared frame stands at an instruction.
use Rattle.std.proofs.Common.{◌≡◌, ℕ, zero, suc, ◌+◌, Bool, true, false, Option, Some, None, Result, Ok, Err, List, [], ◌∷◌, ◌++◌, length, take, unwrap_or, refl, subst}
use Rattle.std.specs.Prelude.{◌==◌, nat_le, option_and_then}
use Rattle.std.specs.List.{AllByRecursion, list_any}
use Rattle.std.specs.Option.{option_map_or}
use Rattle.ver_frames.specs.Frames.{Frame}
use Rattle.ver_frames.specs.Method.{Subject, argument_types}
use Rattle.ver_frames.specs.StackMap.{◌>>=◌, or_broken, demand, kept, added, operands, after_items, delta, is_start, items, frame_after, frame, frames, declared_frames, frames_of, frames_of_table, u2}
use Rattle.ver_frames.specs.StackMapFormat.{Spelled, next_offset, declared_frame}
use Rattle.ver_frames.specs.declared.fault.StackMapFault.{StackMapFault}
use Rattle.ver_frames.specs.declared.fault.StackMapRule.{StackMapRule}
use Rattle.ver_frames.specs.declared.fault.StackMapRule.TheVariants.{Reserved, Chop, Locals, Offset, Kind}
use Rattle.ver_frames.specs.declared.vtype.VType.{VType}

-- what passes one step and then another
both : {A B : Type 0} (r : Result A StackMapFault) (f : A → Result B StackMapFault) (y : B) → (r >>= f) ≡ Ok y → (x : A) × ((r ≡ Ok x) × (f x ≡ Ok y))
both (Ok x) f y e = (x, (refl, e))
both (Err fault) f y e = absurd (cc)

passed : (rule : StackMapRule) (at : ℕ) (test : Bool) (x : Unit {0}) → demand rule at test ≡ Ok x → test ≡ true
passed rule at true x e = refl
passed rule at false x e = absurd (cc)

same_read : (p q : Spelled × List ℕ) → ◌≡◌ {A = Result (Spelled × List ℕ) StackMapFault} (Ok p) (Ok q) → p ≡ q
same_read p q e = cc

same_frames : (p q : List (ℕ × Frame)) → ◌≡◌ {A = Result (List (ℕ × Frame)) StackMapFault} (Ok p) (Ok q) → p ≡ q
same_frames p q e = cc

after_starts : (m : Subject) (at : ℕ) (before : List VType) (tag : ℕ) (rest : List ℕ) (read : Spelled × List ℕ) → frame_after m at before tag rest ≡ Ok read → is_start m read.0.offset ≡ true
unfolding frame_after
after_starts m at before tag rest read e =
    let keeps = both (or_broken Chop at (kept tag (length before))) _ read e in
    let adds = both (or_broken Reserved at (added tag rest)) _ read keeps.1.1 in
    let holds : Option (ℕ × List ℕ) = option_and_then (operands tag) (after_items adds.0.0 adds.0.1) in
    let few = both (demand Locals at (nat_le (keeps.0 + adds.0.0) m.code.max_locals)) _ read adds.1.1 in
    let fit = both (demand Locals at (option_map_or (λ (count : ℕ × List ℕ). nat_le count.0 m.code.max_stack) holds true)) _ read few.1.1 in
    let starts = both (demand Offset at (is_start m at)) _ read fit.1.1 in
    let pushes = both (or_broken Kind at holds) _ read starts.1.1 in
    let locals = both (or_broken Kind at (items m adds.0.0 adds.0.1)) _ read pushes.1.1 in
    let stack = both (or_broken Kind at (items m pushes.0.0 pushes.0.1)) _ read locals.1.1 in
    let spelled : Spelled = record { offset = at; locals = take keeps.0 before ++ locals.0.0; stack = stack.0.0 } in
    let same : ◌≡◌ {A = Spelled × List ℕ} (spelled, stack.0.1) read = same_read (spelled, stack.0.1) read stack.1.1 in
    subst (λ (p : Spelled × List ℕ). is_start m p.0.offset ≡ true) same (passed Offset at (is_start m at) starts.0 starts.1.0)

frame_starts : (m : Subject) (last : Option ℕ) (before : List VType) (bytes : List ℕ) (read : Spelled × List ℕ) → frame m last before bytes ≡ Ok read → is_start m read.0.offset ≡ true
unfolding frame
frame_starts m last before [] read e = absurd (cc)
frame_starts m last before (tag ∷ rest) read e =
    let distance = both (or_broken Reserved (unwrap_or last 0) (delta tag rest)) _ read e in
    after_starts m (next_offset last distance.0.0) before tag distance.0.1 read distance.1.1

abbrev Stand : Subject → List (ℕ × Frame) → Type 0
Stand m ds = AllByRecursion (λ (d : ℕ × Frame). list_any (λ start. start == d.0) m.linked.offsets ≡ true) ds

frames_stand : (m : Subject) (n : ℕ) (last : Option ℕ) (before : List VType) (bytes : List ℕ) (ds : List (ℕ × Frame)) → frames m n last before bytes ≡ Ok ds → Stand m ds
unfolding frames
frames_stand m zero last before [] ds e =
    let same : ◌≡◌ {A = List (ℕ × Frame)} [] ds = cc in
    subst (λ (fs : List (ℕ × Frame)). Stand m fs) same tt
frames_stand m zero last before (byte ∷ bytes) ds e = absurd (cc)
frames_stand m (suc n) last before bytes ds e =
    let first = both (frame m last before bytes) _ ds e in
    let others = both (frames m n (Some first.0.0.offset) first.0.0.locals first.0.1) _ ds first.1.1 in
    let front : ℕ × Frame = (first.0.0.offset, declared_frame m.code.max_locals first.0.0.locals first.0.0.stack) in
    let same : ◌≡◌ {A = List (ℕ × Frame)} (front ∷ others.0) ds = same_frames (front ∷ others.0) ds others.1.1 in
    subst (λ (fs : List (ℕ × Frame)). Stand m fs) same
    (frame_starts m last before bytes first.0 first.1.0, frames_stand m n (Some first.0.0.offset) first.0.0.locals first.0.1 others.0 others.1.0)

table_stands : (m : Subject) (o : Option (List ℕ)) (ds : List (ℕ × Frame)) → frames_of m o ≡ Ok ds → Stand m ds
unfolding frames_of_table
table_stands m None ds e =
    let same : ◌≡◌ {A = List (ℕ × Frame)} [] ds = cc in
    subst (λ (fs : List (ℕ × Frame)). Stand m fs) same tt
table_stands m (Some bytes) ds e =
    let count = both (or_broken Reserved 0 (u2 bytes)) _ ds e in
    frames_stand m count.0.0 None (argument_types m) count.0.1 ds count.1.1

-- at the offset of each declared frame an instruction begins
pub declared_stand : (m : Subject) (ds : List (ℕ × Frame)) → declared_frames m ≡ Ok ds → AllByRecursion (λ (d : ℕ × Frame). list_any (λ start. start == d.0) m.linked.offsets ≡ true) ds
unfolding declared_frames
declared_stand m ds e = table_stands m m.code.stack_map_table ds e
