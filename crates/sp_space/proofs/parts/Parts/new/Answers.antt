use Rattle.std.proofs.Common.{refl, subst}
use Rattle.cls_link.specs.Links.{AreLinks}
use Rattle.sp_space.proofs.BeginLemmas.{new-space, of-setting, setting_of}
use Rattle.sp_space.proofs.SpaceStep.{resting}
use Rattle.sp_rules.specs.State.{opening}
use Rattle.sp_space.proofs.parts.Parts.new.Goals as goal

pub returns-clause-spaces : goal.returns-clause-spaces
returns-clause-spaces c = λ g classes id digest limits version.
    new-space g _ (of-setting g _ c.out_of_memory-thrown.result classes c.requires.classes id limits c.out_of_memory-thrown.ensures (subst AreLinks c.linked.ensures.linked c.len-methods.ensures.links) c.linked.ensures.sound c.requires.rules)
    (c.in_ok-new.ensures g id digest limits.fuel version) c.new-2.ensures

pub returns-clause-rests : goal.returns-clause-rests
returns-clause-rests c =
    let g = setting_of c.args.program.now c.args.id c.args.digest c.args.limits c.args.version in
    resting g opening _
    (new-space g _ (of-setting g _ c.out_of_memory-thrown.result refl c.requires.classes refl (record { heap = refl; stack = refl; references = refl; fuel = refl }) c.out_of_memory-thrown.ensures (subst AreLinks c.linked.ensures.linked c.len-methods.ensures.links)
    c.linked.ensures.sound c.requires.rules)
    (c.in_ok-new.ensures g refl refl refl refl) c.new-2.ensures)
