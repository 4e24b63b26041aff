use Rattle.std.proofs.Common.{subst}
use Rattle.cls_link.specs.Links.{AreLinks}
use Rattle.sp_lending.proofs.BeginLemmas.{home-of, new-space}
use Rattle.std.proofs.Common.{◌∙◌, ap, sym}
use Rattle.sp_behaviours.specs.Classes.{classes_of}
use Rattle.sp_lending.proofs.parts.Parts.new.Goals as goal

pub returns : goal.returns
returns c = λ g classes id digest limits version.
    new-space g _ (home-of g _ c.out_of_memory-thrown.result classes id limits c.out_of_memory-thrown.ensures (subst AreLinks c.linked.ensures.linked c.len-methods.ensures.links) c.linked.ensures.sound c.requires.rules)
    (classes ∙ ap classes_of (sym c.requires.classes)) (c.in_ok-with_hashes.ensures g id digest limits.fuel version) c.new.ensures
