-- What is known of a program: its set is sound, and what running it looks up is of the set. (This project's own.)
use Rattle.std.specs.Prelude.{◌≡◌, ◌<◌, ◌^◌}
use Rattle.cls_link.specs.Links.{Links}
use Rattle.vm_step.specs.Run.{State, IsNeverStuck}
use Rattle.vm_step.specs.Sound.{IsSoundSet}
use Rattle.vm_step.specs.Task.{fuel_left}
use Rattle.vm_step.specs.Thrown.{AreThrown}
use Rattle.vm_step.specs.declared.thrown.ThrownClasses.{ThrownClasses}

pub record IsProgram (links : Links) (looked_up : Links) (rows : Links) (called : Links) (numbers : ThrownClasses) : Type 0 where
  pub sound : IsSoundSet links
  pub tables : looked_up ≡ links
  pub flat : rows ≡ links
  pub callees : called ≡ links
  pub thrown : AreThrown links.classes numbers

-- what is known of a task: its machine is never stuck, and its fuel is a number of the code
pub record IsTask (links : Links) (numbers : ThrownClasses) (state : State) : Type 0 where
  pub thrown : AreThrown links.classes numbers
  pub never_stuck : IsNeverStuck links state
  pub short : fuel_left state < 2 ^ 64
