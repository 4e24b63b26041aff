-- What a machine that stands at a checked instruction has: room for operands, and the frame that comes in at the next one.
use Rattle.std.proofs.Common.{◌≡◌, ℕ, ◌+◌, ◌<◌, true, List, sym, subst}
use Rattle.std.specs.List.{AllByRecursion}
use Rattle.cls_link.specs.Links.{Links}
use Rattle.cls_link.specs.declared.linked_code.LinkedInsn.{LinkedInsn}
use Rattle.cls_set.specs.Sets.{IsClassSet}
use Rattle.cls_set.specs.declared.class.Class.{Class}
use Rattle.ver_check.specs.Bodies.{Body}
use Rattle.ver_check.specs.Effects.{falls_through, targets}
use Rattle.ver_frames.specs.Assignable.{IsAssignable}
use Rattle.ver_frames.specs.Frames.{Frame}
use Rattle.ver_frames.specs.declared.vtype.VType.{VType}
use Rattle.ver_rules.specs.Wants.{is_wanted}
use Rattle.ver_rules.specs.declared.want.Want.TheVariants as want
use Rattle.vm_act.specs.declared.machine.Machine.{Machine}
use Rattle.vm_typing.specs.World.{World, Enters}
use Rattle.vm_laws.specs.Rows.{StandsAt}
use Rattle.vm_laws.proofs.Wants.{fits_wanted}

module _ (links : Links) (w : World) (body : Body) (insn : LinkedInsn) (f after : Frame) (m : Machine) (s : StandsAt links w body insn f after m) where
  pub room_for : (count : ℕ) → count < body.max_stack → count < (w.method m.stack.frame.method).max_stack
  room_for count room = subst (λ (k : ℕ). count < k) s.body_of.max_stack room

  pub next_is : (g : Frame) → g ≡ after → falls_through insn ≡ true → Enters w m.stack.frame.method (m.stack.frame.index + 1) g
  next_is g is falls = subst (λ (h : Frame). Enters w m.stack.frame.method (m.stack.frame.index + 1) h) (sym is) (s.goes_on falls)

  pub lands_is : (g : Frame) → g ≡ after → AllByRecursion (λ to. Enters w m.stack.frame.method to g) (targets body insn)
  lands_is g is = subst (λ (h : Frame). AllByRecursion (λ to. Enters w m.stack.frame.method to h) (targets body insn)) (sym is) s.lands

  pub fits_asked : IsClassSet w.classes → (asked t : VType) → is_wanted body.classes (want.Fits asked) t ≡ true → IsAssignable w.classes t asked
  fits_asked set asked t e = fits_wanted w.classes set asked t (subst (λ (classes : List Class). is_wanted classes (want.Fits asked) t ≡ true) s.body_of.classes e)
