-- A class set that is linked and checked is sound.
use Rattle.cls_link.specs.Links.{Links, AreLinks}
use Rattle.ver_check.specs.Acceptance.{AreSafe}
use Rattle.vm_laws.proofs.Starts.{checked}
use Rattle.vm_laws.specs.Sound.{IsNeverStuck}
use Rattle.vm_laws.proofs.AsRead.{as_read}
use Rattle.vm_step.specs.Sound.{IsSoundSet}

pub sound_set : (links : Links) → AreLinks links → AreSafe links → IsSoundSet links
sound_set links are safe =
    let never : IsNeverStuck links = checked links are safe in
    record { frames = never.frames; typed = never.typed; read = as_read links.classes are.set; keeps = never.keeps }
