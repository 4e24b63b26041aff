-- Class sets whose tasks are never stuck, though the machine checks nothing again that verification has checked (JVMS 4.10).
use Rattle.std.specs.Prelude.{ℕ, Option}
use Rattle.cls_link.specs.Links.{Links}
use Rattle.ver_frames.specs.Frames.{Frame}
use Rattle.ver_frames.specs.declared.vtype.VType.{VType}
use Rattle.vm_typing.specs.Runs.{KeepsTyped}
use Rattle.vm_laws.specs.Files.{AreAsRead}
use Rattle.vm_laws.specs.Worlds.{AreTyped, world_of}
use Rattle.vm_laws.specs.Steps.{step}

-- The methods of a set are typed by frames (JVMS 4.10.1.6), its classes are as class files of the profile are, and each step of a
-- typed machine leads to a typed one, or ends its task with what that may give.
pub record IsSoundSet (links : Links) : Type 0 where
  pub frames : ℕ → ℕ → Frame
  pub typed : AreTyped links frames
  pub read : AreAsRead links.classes
  pub keeps : (asked : Option VType) → KeepsTyped (world_of links frames) asked (step links)
