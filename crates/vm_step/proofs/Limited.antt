-- The frames of a typed machine are within the limits of their methods.
use Rattle.std.proofs.Common.{◌≡◌, ℕ, ◌+◌, ◌<◌, ◌≤◌, true, false, List, [], ◌∷◌, length, refl, ap, sym, subst, ◌∙◌, arith, Option, Some, None}
use Rattle.std.specs.Option.{option_map_or}
use Rattle.std.specs.Prelude.{option_map}
use Rattle.cls_link.specs.Links.{Links}
use Rattle.ver_frames.specs.Assignable.{IsAssignable}
use Rattle.ver_frames.specs.Frames as types
use Rattle.ver_frames.specs.Method.{Subject}
use Rattle.ver_frames.specs.declared.vtype.VType.{VType}
use Rattle.vm_act.specs.declared.machine.Machine.{Machine}
use Rattle.vm_stack.specs.Frames.{Frame}
use Rattle.vm_typing.proofs.Leads.{length-AllZip}
use Rattle.vm_typing.specs.Fits.{Held, Fits, held_by, no_method}
use Rattle.vm_typing.specs.Runs.{KeepsTyped}
use Rattle.vm_typing.specs.Typed.{CallersWait, FitsFrame, IsTyped, StandsBefore, marks_of, with_result}
use Rattle.vm_typing.specs.Typed as waiting
use Rattle.vm_typing.specs.World.{World, IsPlain, MethodType}
use Rattle.vm_laws.specs.Worlds.{AreTyped, method_type, subject_at, world_of}
use Rattle.vm_laws.specs.Steps as insns
use Rattle.vm_step.specs.Limited.{IsWithinCode, AreWithinCode, KeepsWithin}
use Rattle.vm_step.specs.Run.{State, Running, Waits, Over, Lost}
use Rattle.vm_step.specs.Subjects.{declared_at, declared_of}
use Rattle.vm_step.proofs.Safe.{IsSound}

-- a frame below the one with a result has no more operands
more_with : (r : Option VType) (f : types.Frame) (count : ℕ) → length (with_result r f).stack ≤ count → length f.stack ≤ count
more_with None f count few = few
more_with (Some t) f count few = omega (arith, few)

locals_with : (r : Option VType) (f : types.Frame) → (with_result r f).locals ≡ f.locals
locals_with None f = refl
locals_with (Some t) f = refl

module _ (links : Links) (frames : ℕ → ℕ → types.Frame) (typed : AreTyped links frames) where
  abbrev world : World
  world = world_of links frames

  has_subject : (number : ℕ) → world.has_code number ≡ true → (m : Subject) × (subject_at links number ≡ Some m)
  has_subject number e = on (subject_at links number) refl e
    where
      on : (o : Option Subject) → subject_at links number ≡ o → option_map_or (λ (m : Subject). true) o false ≡ true → (m : Subject) × (subject_at links number ≡ Some m)
      on None is known = absurd (cc)
      on (Some m) is known = (m, is)

  -- a method with code, as it is declared
  record Known (frame : Frame) : Type 0 where
    at : Subject
    is : subject_at links frame.method ≡ Some at

  known_at : (frame : Frame) → world.has_code frame.method ≡ true → Known frame
  known_at frame known = let s = has_subject frame.method known in record { at = s.0; is = s.1 }

  -- the type frame at an index is within its limits
  within_at : (frame : Frame) (k : Known frame) (index : ℕ) → index < (world.method frame.method).count
      → (length ((world.method frame.method).frames index).locals ≡ k.at.code.max_locals) × (length ((world.method frame.method).frames index).stack ≤ k.at.code.max_stack)
  within_at frame k index inside =
      let type : world.method frame.method ≡ method_type k.at (frames frame.method) =
      ap (λ (o : Option Subject). option_map_or (λ (m : Subject). method_type m (frames frame.method)) o no_method) k.is in
      let count : (world.method frame.method).count ≡ length k.at.linked.insns = ap (λ (t : MethodType). t.count) type in
      let here : (world.method frame.method).frames index ≡ frames frame.method index = ap (λ (t : MethodType). t.frames index) type in
      let within = (typed frame.method k.at k.is).typing.within index (subst (λ (n : ℕ). index < n) count inside) in
      let all_locals : length (frames frame.method index).locals ≡ k.at.code.max_locals = within.locals in
      let fewer_operands : length (frames frame.method index).stack ≤ k.at.code.max_stack = within.stack in
      let some_locals : length ((world.method frame.method).frames index).locals ≡ length (frames frame.method index).locals = ap (λ (f : types.Frame). length f.locals) here in
      let some_operands : length ((world.method frame.method).frames index).stack ≡ length (frames frame.method index).stack = ap (λ (f : types.Frame). length f.stack) here in
      (some_locals ∙ all_locals, omega (arith, some_operands, fewer_operands))

  -- what has as many local variables as a type frame of its method at one index, and as few operands as one at another
  few_at : (frame : Frame) (index other : ℕ) → world.has_code frame.method ≡ true → index < (world.method frame.method).count → other < (world.method frame.method).count
      → length frame.locals ≡ length ((world.method frame.method).frames index).locals
      → length frame.operands ≤ length ((world.method frame.method).frames other).stack → IsWithinCode links frame
  unfolding declared_at
  few_at frame index other known inside there locals operands =
      let k = known_at frame known in
      let one = within_at frame k index inside in
      let two = within_at frame k other there in
      record {
        declared = declared_of k.at;
        is = ap (option_map declared_of) k.is;
        locals = locals ∙ one.0;
        operands = omega (arith, operands, two.1);
      }

  few_within : (frame : Frame) (index : ℕ) → world.has_code frame.method ≡ true → index < (world.method frame.method).count
      → length frame.locals ≡ length ((world.method frame.method).frames index).locals
      → length frame.operands ≤ length ((world.method frame.method).frames index).stack → IsWithinCode links frame
  few_within frame index known inside locals operands = few_at frame index index known inside inside locals operands

  waiting_within : (held : Held) (result : Option VType) (frame : Frame) → waiting.Waits world held result frame → IsWithinCode links frame
  waiting_within held result frame waits =
      let enters = waits.enters in
      let given_locals : length frame.locals ≡ length waits.given.locals =
      length-AllZip (Fits world held (marks_of world frame.method waits.fresh waits.receiver)) waits.given.locals frame.locals waits.fits.locals in
      let given_operands : length frame.operands ≡ length waits.given.stack =
      length-AllZip (Fits world held (marks_of world frame.method waits.fresh waits.receiver)) waits.given.stack frame.operands waits.fits.operands in
      let there_locals : length ((world.method frame.method).frames frame.index).locals ≡ length (with_result result waits.given).locals =
      length-AllZip (IsAssignable links.classes) (with_result result waits.given).locals ((world.method frame.method).frames frame.index).locals enters.to.locals in
      let there_operands : length ((world.method frame.method).frames frame.index).stack ≡ length (with_result result waits.given).stack =
      length-AllZip (IsAssignable links.classes) (with_result result waits.given).stack ((world.method frame.method).frames frame.index).stack enters.to.stack in
      let same_locals : length (with_result result waits.given).locals ≡ length waits.given.locals = ap length (locals_with result waits.given) in
      let same : length (with_result result waits.given).stack ≤ length ((world.method frame.method).frames frame.index).stack = omega (arith, there_operands) in
      let fewer : length waits.given.stack ≤ length ((world.method frame.method).frames frame.index).stack = more_with result waits.given _ same in
      few_within frame frame.index waits.fits.known enters.inside (given_locals ∙ sym (there_locals ∙ same_locals)) (omega (arith, given_operands, fewer))

  callers_within : (asked : Option VType) (held : Held) (result : Option VType) (callers : List Frame) → CallersWait world asked held result callers → AreWithinCode links callers
  callers_within asked held result [] waits = tt
  callers_within asked held result (frame ∷ []) waits = tt
  callers_within asked held result (frame ∷ below ∷ callers) waits =
      (waiting_within held result frame waits.0, callers_within asked held (world.method frame.method).result (below ∷ callers) waits.1)

  typed_within : (asked : Option VType) (m : Machine) (fuel : ℕ) → IsTyped world asked m → KeepsWithin links (Running m fuel)
  typed_within asked m fuel is =
      let fits = is.at.frame in
      let here : types.Frame = (world.method m.stack.frame.method).frames m.stack.frame.index in
      let locals : length m.stack.frame.locals ≡ length here.locals =
      length-AllZip (Fits world (held_by m) (marks_of world m.stack.frame.method is.fresh is.receiver)) here.locals m.stack.frame.locals fits.locals in
      let operands : length m.stack.frame.operands ≡ length here.stack =
      length-AllZip (Fits world (held_by m) (marks_of world m.stack.frame.method is.fresh is.receiver)) here.stack m.stack.frame.operands fits.operands in (
        few_within m.stack.frame m.stack.frame.index fits.known is.inside locals (omega (arith, operands)),
        callers_within asked (held_by m) (world.method m.stack.frame.method).result m.stack.callers is.at.callers,
      )

  -- a machine that waits has as many local variables as come in at the next instruction, and no more operands than come in at some
  waits_within : (asked : Option VType) (m : Machine) → StandsBefore world asked m → IsWithinCode links m.stack.frame × AreWithinCode links m.stack.callers
  waits_within asked m is =
      let enters = is.enters in
      let depth = is.operands in
      let there_locals : length ((world.method m.stack.frame.method).frames (m.stack.frame.index + 1)).locals ≡ length is.next.locals =
      length-AllZip (IsAssignable links.classes) is.next.locals ((world.method m.stack.frame.method).frames (m.stack.frame.index + 1)).locals enters.to.locals in (
        few_at m.stack.frame (m.stack.frame.index + 1) depth.index is.known enters.inside depth.inside (is.locals ∙ sym there_locals) depth.few,
        callers_within asked (held_by m) (world.method m.stack.frame.method).result m.stack.callers is.callers,
      )

  pub sound_within : (asked : Option VType) (plain : (t : VType) → asked ≡ Some t → IsPlain t) (keeps : KeepsTyped world asked (insns.step links)) (s : State)
      → IsSound links frames asked plain keeps s → KeepsWithin links s
  sound_within asked plain keeps (Running m fuel) sound = typed_within asked m fuel sound
  sound_within asked plain keeps (Waits op m fuel) sound = waits_within asked m sound.before
  sound_within asked plain keeps (Over end fuel) sound = tt
  sound_within asked plain keeps Lost sound = tt
