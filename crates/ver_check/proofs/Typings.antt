-- The one pass and the typings of a body: a typing has the frames that the pass reaches, and if the pass comes through all instructions
-- there is a typing.
use Rattle.std.proofs.Common.{◌≡◌, ◌≢◌, inl, inr, ℕ, zero, suc, ◌+◌, ◌<◌, ◌≤◌, Bool, true, false, Option, Some, None, Result, Ok, List, length, refl, sym, ap, subst, ◌∙◌, arith}
use Rattle.std.specs.Prelude.{◌==◌, if◌then◌else◌, MatchOption, MatchBool, IsSome, slice_get, option_and_then}
use Rattle.std.proofs.lemmas.Bool.{eq-eqb, ne_eqb}
use Rattle.std.proofs.lemmas.Option.{slice_get_cases, slice_get_within}
use borrow.Author.Count.{below_more}
use Rattle.cls_link.specs.declared.linked_code.LinkedInsn.{LinkedInsn}
use Rattle.cls_set.specs.declared.class.Class.{Class}
use Rattle.ver_check.proofs.Within.{effect_within}
use Rattle.ver_check.specs.Bodies.{Body, insn_at, declared_at, frame_at_offset, offset_at}
use Rattle.ver_check.specs.Effects.{effect, falls_through}
use Rattle.ver_check.specs.Flow.{ComesIn, Passes, Reaches}
use Rattle.ver_check.specs.Flow.Reaches.{begins, comes_on}
use Rattle.ver_check.specs.Typing.{Enters, GoesOn, IsFineAt, IsTyping, IsTypeSafe, IsWithin}
use Rattle.ver_rules.specs.declared.fault.CheckRule.{CheckRule}
use Rattle.ver_frames.specs.Assignable.{IsFrameAssignable}
use Rattle.ver_frames.specs.Frames.{Frame}

-- the frame at an index: the declared one, if there is one, to which the incoming frame is assignable; else the incoming one
abbrev Came : List Class → Option Frame → Frame → Frame → Type 0
Came classes o given here = MatchOption o (here ≡ given) (λ declared. IsFrameAssignable classes given declared × (here ≡ declared))

abbrev Entered : List Class → Option Frame → Frame → Frame → Type 0
Entered classes o given here = MatchOption o (here ≡ given) (λ declared. IsFrameAssignable classes given declared)

same_some : (f g : Frame) → ◌≡◌ {A = Option Frame} (Some f) (Some g) → f ≡ g
same_some f g e = cc

same_ok : (f g : Frame) → ◌≡◌ {A = Result Frame CheckRule} (Ok f) (Ok g) → f ≡ g
same_ok f g e = cc

came_same : (classes : List Class) (o : Option Frame) (given here g : Frame) → Came classes o given here → Entered classes o given g → ((d : Frame) → o ≡ Some d → g ≡ d) → g ≡ here
came_same classes None given here g came entered declared = entered ∙ sym came
came_same classes (Some d) given here g came entered declared = declared d refl ∙ sym came.1

came_from : (classes : List Class) (o : Option Frame) (given g : Frame) → Entered classes o given g → ((d : Frame) → o ≡ Some d → g ≡ d) → Came classes o given g
came_from classes None given g entered declared = entered
came_from classes (Some d) given g entered declared = (entered, declared d refl)

entered_from : (classes : List Class) (o : Option Frame) (given here : Frame) → Came classes o given here → Entered classes o given here
entered_from classes None given here came = came
entered_from classes (Some d) given here came = came.0

came_declared : (classes : List Class) (o : Option Frame) (given here : Frame) → Came classes o given here → (d : Frame) → o ≡ Some d → here ≡ d
came_declared classes None given here came d is = absurd (cc)
came_declared classes (Some e) given here came d is = came.1 ∙ same_some e d is

came_within : (body : Body) (o : Option Frame) (given here : Frame) → Came body.classes o given here → IsWithin body given → ((d : Frame) → o ≡ Some d → IsWithin body d) → IsWithin body here
came_within body None given here came fits declared = subst (λ (f : Frame). IsWithin body f) (sym came) fits
came_within body (Some d) given here came fits declared = subst (λ (f : Frame). IsWithin body f) (sym came.1) (declared d refl)

is_declared : (o : Option Frame) (g : Frame) → IsSome o → ((d : Frame) → o ≡ Some d → g ≡ d) → o ≡ Some g
is_declared None g some declared = absurd (cc)
is_declared (Some d) g some declared = ap (λ (f : Frame). Some f) (sym (declared d refl))

-- ---- a typing has the frames of the pass

module _ (body : Body) (frames : ℕ → Frame) (typing : IsTyping body frames) where
  next_same : (index : ℕ) (falls : Bool) (after next : Frame)
      → MatchBool falls ((suc index < length body.insns) × ComesIn body (suc index) after next) (suc index < length body.insns → declared_at body (suc index) ≡ Some next)
      → MatchBool falls ((suc index < length body.insns) × Enters body frames (suc index) after) (suc index < length body.insns → IsSome (declared_at body (suc index)))
      → suc index < length body.insns → frames (suc index) ≡ next
  next_same index true after next to on inside = came_same body.classes (declared_at body (suc index)) after next (frames (suc index)) to.1 on.1 (typing.declared (suc index))
  next_same index false after next to on inside = typing.declared (suc index) next (to inside)

  pub reached : (index : ℕ) (here : Frame) → Reaches body index here → index < length body.insns → frames index ≡ here
  reached index here (begins first came) inside = came_same body.classes (declared_at body 0) body.opening here (frames 0) came typing.opening (typing.declared 0)
  reached index here (comes_on last insn before next reaches at passes) inside =
      let same : frames last ≡ before = reached last before reaches (omega arith) in
      let fine = typing.fine last insn at in
      let after_same : fine.after ≡ passes.after = same_ok fine.after passes.after (sym fine.acts ∙ ap (effect body (offset_at body last) insn) same ∙ passes.acts) in
      next_same last (falls_through insn) passes.after next passes.goes_to (subst (λ (f : Frame). GoesOn body frames last insn f) after_same fine.goes_on) inside

  goes_from : (index : ℕ) (falls : Bool) (after : Frame)
      → MatchBool falls ((suc index < length body.insns) × Enters body frames (suc index) after) (suc index < length body.insns → IsSome (declared_at body (suc index)))
      → MatchBool falls ((suc index < length body.insns) × ComesIn body (suc index) after (frames (suc index))) (suc index < length body.insns → declared_at body (suc index) ≡ Some (frames (suc index)))
  goes_from index true after on = (on.0, came_from body.classes (declared_at body (suc index)) after (frames (suc index)) on.1 (typing.declared (suc index)))
  goes_from index false after on = λ inside. is_declared (declared_at body (suc index)) (frames (suc index)) (on inside) (typing.declared (suc index))

  passes_from : (index : ℕ) (insn : LinkedInsn) (here : Frame) → frames index ≡ here → insn_at body index ≡ Some insn → Passes body index insn here (frames (suc index))
  passes_from index insn here same at =
      let fine = typing.fine index insn at in
      record {
        after = fine.after;
        acts = ap (effect body (offset_at body index) insn) (sym same) ∙ fine.acts;
        lands = fine.lands;
        goes_to = goes_from index (falls_through insn) fine.after fine.goes_on;
      }

  -- the pass reaches each instruction, with the frame of the typing
  pub reaches_all : (index : ℕ) → index < length body.insns → Reaches body index (frames index)
  reaches_all zero inside = begins (frames 0) (came_from body.classes (declared_at body 0) body.opening (frames 0) typing.opening (typing.declared 0))
  reaches_all (suc index) inside =
      elim (slice_get_cases body.insns index).1 [
        | inl r ↦ comes_on index r.0 (frames index) (frames (suc index)) (reaches_all index (omega arith)) r.2 (passes_from index r.0 (frames index) refl r.2)
        | inr r ↦ absurd (omega arith)
      ]

-- two typings agree at each instruction
pub one_typing : (body : Body) (frames others : ℕ → Frame) → IsTyping body frames → IsTyping body others → (index : ℕ) → index < length body.insns → frames index ≡ others index
one_typing body frames others one other index inside =
    sym (reached body others other index (frames index) (reaches_all body frames one index inside) inside)

-- if the pass does not come through an instruction, the body is not type safe
pub refuted : (body : Body) (index : ℕ) (insn : LinkedInsn) (here : Frame) → Reaches body index here → insn_at body index ≡ Some insn
    → ((next : Frame) → ¬ Passes body index insn here next) → ¬ IsTypeSafe body
refuted body index insn here reaches at stops safe =
    let inside = slice_get_within body.insns index insn at in
    stops (safe.frames (suc index)) (passes_from body safe.frames safe.typing index insn here (reached body safe.frames safe.typing index here reaches inside) at)

-- if the opening frame does not come in at the first instruction, the body is not type safe
pub refuted_opening : (body : Body) → ((here : Frame) → ¬ ComesIn body 0 body.opening here) → ¬ IsTypeSafe body
refuted_opening body stops safe =
    stops (safe.frames 0) (came_from body.classes (declared_at body 0) body.opening (safe.frames 0) safe.typing.opening (safe.typing.declared 0))

-- ---- the pass gives a typing

-- the frames, but this one at an index
abbrev with_frame : (ℕ → Frame) → ℕ → Frame → ℕ → Frame
with_frame frames n f k = if k == n then f else frames k

at_it : (frames : ℕ → Frame) (n : ℕ) (f : Frame) → with_frame frames n f n ≡ f
at_it frames n f = rw (eq-eqb n n refl)

elsewhere : (frames : ℕ → Frame) (n : ℕ) (f : Frame) (k : ℕ) → k ≢ n → with_frame frames n f k ≡ frames k
elsewhere frames n f k other = rw (ne_eqb k n other)

-- frames that agree with what the pass came through before an index
record SoFar (body : Body) (n : ℕ) (here : Frame) : Type 0 where
  frames : ℕ → Frame
  at_last : frames n ≡ here
  opening : Enters body frames 0 body.opening
  declared : (k : ℕ) → k < n + 1 → k < length body.insns → (f : Frame) → declared_at body k ≡ Some f → frames k ≡ f
  within : (k : ℕ) → k < n + 1 → k < length body.insns → IsWithin body (frames k)
  fine : (k : ℕ) → k < n → (insn : LinkedInsn) → insn_at body k ≡ Some insn → IsFineAt body frames k insn

moved_on : (body : Body) (frames others : ℕ → Frame) (index : ℕ) (falls : Bool) (after : Frame) → frames (suc index) ≡ others (suc index)
    → MatchBool falls ((suc index < length body.insns) × Enters body frames (suc index) after) (suc index < length body.insns → IsSome (declared_at body (suc index)))
    → MatchBool falls ((suc index < length body.insns) × Enters body others (suc index) after) (suc index < length body.insns → IsSome (declared_at body (suc index)))
moved_on body frames others index true after same on = (on.0, subst (λ (f : Frame). Entered body.classes (declared_at body (suc index)) after f) same on.1)
moved_on body frames others index false after same on = on

moved : (body : Body) (frames others : ℕ → Frame) (index : ℕ) (insn : LinkedInsn) → frames index ≡ others index → frames (suc index) ≡ others (suc index)
    → IsFineAt body frames index insn → IsFineAt body others index insn
moved body frames others index insn here next fine = record {
  after = fine.after;
  acts = ap (effect body (offset_at body index) insn) (sym here) ∙ fine.acts;
  lands = fine.lands;
  goes_on = moved_on body frames others index (falls_through insn) fine.after next fine.goes_on;
}

some_declared : (o : Option Frame) (f : Frame) → o ≡ Some f → IsSome o
some_declared None f is = absurd (cc)
some_declared (Some d) f is = refl

on_from : (body : Body) (frames : ℕ → Frame) (index : ℕ) (falls : Bool) (after next : Frame) → frames (suc index) ≡ next
    → MatchBool falls ((suc index < length body.insns) × ComesIn body (suc index) after next) (suc index < length body.insns → declared_at body (suc index) ≡ Some next)
    → MatchBool falls ((suc index < length body.insns) × Enters body frames (suc index) after) (suc index < length body.insns → IsSome (declared_at body (suc index)))
on_from body frames index true after next same to =
    (to.0, subst (λ (f : Frame). Entered body.classes (declared_at body (suc index)) after f) (sym same) (entered_from body.classes (declared_at body (suc index)) after next to.1))
on_from body frames index false after next same to = λ inside. some_declared (declared_at body (suc index)) next (to inside)

next_declared : (body : Body) (index : ℕ) (falls : Bool) (after next : Frame)
    → MatchBool falls ((suc index < length body.insns) × ComesIn body (suc index) after next) (suc index < length body.insns → declared_at body (suc index) ≡ Some next)
    → suc index < length body.insns → (d : Frame) → declared_at body (suc index) ≡ Some d → next ≡ d
next_declared body index true after next to inside d is = came_declared body.classes (declared_at body (suc index)) after next to.1 d is
next_declared body index false after next to inside d is = same_some next d (sym (to inside) ∙ is)

same_insn : (a b : LinkedInsn) → ◌≡◌ {A = Option LinkedInsn} (Some a) (Some b) → a ≡ b
same_insn a b e = cc

module _ (body : Body) (opening_within : IsWithin body body.opening) (declared_within : (index : ℕ) (f : Frame) → declared_at body index ≡ Some f → IsWithin body f) where
  next_within : (index : ℕ) (falls : Bool) (after next : Frame)
      → MatchBool falls ((suc index < length body.insns) × ComesIn body (suc index) after next) (suc index < length body.insns → declared_at body (suc index) ≡ Some next)
      → IsWithin body after → suc index < length body.insns → IsWithin body next
  next_within index true after next to fits inside = came_within body (declared_at body (suc index)) after next to.1 fits (declared_within (suc index))
  next_within index false after next to fits inside = declared_within (suc index) next (to inside)

  begun : (here : Frame) → ComesIn body 0 body.opening here → SoFar body 0 here
  begun here came = record {
    frames = λ k. here;
    at_last = refl;
    opening = entered_from body.classes (declared_at body 0) body.opening here came;
    declared = λ k lt inside d is. came_declared body.classes (declared_at body 0) body.opening here came d (subst (λ (j : ℕ). declared_at body j ≡ Some d) {x = k} (omega arith) is);
    within = λ k lt inside. came_within body (declared_at body 0) body.opening here came opening_within (declared_within 0);
    fine = λ k lt insn at. absurd (omega arith);
  }

  went_on : (index : ℕ) (insn : LinkedInsn) (here next : Frame) → SoFar body index here → insn_at body index ≡ Some insn → Passes body index insn here next → SoFar body (suc index) next
  went_on index insn here next before at passes =
      let frames : ℕ → Frame = with_frame before.frames (suc index) next in
      let old : (k : ℕ) → k < suc index → frames k ≡ before.frames k = λ k lt. elsewhere before.frames (suc index) next k (omega arith) in
      let new : frames (suc index) ≡ next = at_it before.frames (suc index) next in
      let here_within : IsWithin body here = subst (λ (f : Frame). IsWithin body f) before.at_last (before.within index (omega arith) (slice_get_within body.insns index insn at)) in
      let after_within : IsWithin body passes.after = effect_within body (offset_at body index) insn here passes.after here_within passes.acts in
      record {
        frames = frames;
        at_last = new;
        opening = subst (λ (f : Frame). Entered body.classes (declared_at body 0) body.opening f) (sym (old 0 (omega arith))) before.opening;
        declared = below_more (λ k. k < length body.insns → (f : Frame) → declared_at body k ≡ Some f → frames k ≡ f) (suc index)
            (λ k lt inside f is. old k lt ∙ before.declared k (omega arith) inside f is)
            (λ inside f is. new ∙ next_declared body index (falls_through insn) passes.after next passes.goes_to inside f is);
        within = below_more (λ k. k < length body.insns → IsWithin body (frames k)) (suc index)
            (λ k lt inside. subst (λ (f : Frame). IsWithin body f) (sym (old k lt)) (before.within k (omega arith) inside))
            (λ inside. subst (λ (f : Frame). IsWithin body f) (sym new) (next_within index (falls_through insn) passes.after next passes.goes_to after_within inside));
        fine = λ k lt. below_more (λ j. (i : LinkedInsn) → insn_at body j ≡ Some i → IsFineAt body frames j i) index
            (λ j below i is. moved body before.frames frames j i (sym (old j (omega arith))) (sym (old (suc j) (omega arith))) (before.fine j below i is))
            (λ i is. subst (λ (x : LinkedInsn). IsFineAt body frames index x) (same_insn insn i (sym at ∙ is)) (record {
              after = passes.after;
              acts = ap (effect body (offset_at body index) insn) (old index (omega arith) ∙ before.at_last) ∙ passes.acts;
              lands = passes.lands;
              goes_on = on_from body frames index (falls_through insn) passes.after next new passes.goes_to;
            })) k (omega arith);
      }

  so_far : (index : ℕ) (here : Frame) → Reaches body index here → SoFar body index here
  so_far index here (begins first came) = begun here came
  so_far index here (comes_on last insn before next reaches at passes) = went_on last insn before next (so_far last before reaches) at passes

declared_inside : (body : Body) (index : ℕ) (f : Frame) → length body.offsets ≡ length body.insns → declared_at body index ≡ Some f → index < length body.insns
unfolding declared_at
declared_inside body index f listed is = some_offset (slice_get body.offsets index) refl is
  where
    some_offset : (o : Option ℕ) → slice_get body.offsets index ≡ o → option_and_then (frame_at_offset body.declared) o ≡ Some f → index < length body.insns
    some_offset None at found = absurd (cc)
    some_offset (Some offset) at found = let within : index < length body.offsets = slice_get_within body.offsets index offset at in omega arith

-- if the pass comes to the end, the body is type safe
pub proved_safe : (body : Body) (here : Frame) → length body.offsets ≡ length body.insns → length body.opening.locals ≤ body.max_locals → 0 < length body.insns → IsWithin body body.opening
    → ((index : ℕ) (f : Frame) → declared_at body index ≡ Some f → IsWithin body f)
    → Reaches body (length body.insns) here → IsTypeSafe body
proved_safe body here listed arguments some opening_within declared_within reaches =
    let all = so_far body opening_within declared_within (length body.insns) here reaches in
    record {
      frames = all.frames;
      typing = record {
        arguments = arguments;
        begins = some;
        opening = all.opening;
        declared = λ index f is. let inside = declared_inside body index f listed is in all.declared index (omega arith) inside f is;
        within = λ index inside. all.within index (omega arith) inside;
        fine = λ index insn at. all.fine index (slice_get_within body.insns index insn at) insn at;
      };
    }
