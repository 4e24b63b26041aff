use Rattle.sp_rules.specs.Classes.{Classes}
use Rattle.sp_behaviours.proofs.Told.{told}
use Rattle.sp_behaviours.specs.Classes.{classes_of}
use Rattle.sp_behaviours.proofs.classes.SpaceClassesClassSet.is_remote.Goals as goal

pub returns : goal.returns
returns c = λ classes same.
    told (λ (asked : Classes). asked.is_remote c.args.class) classes (classes_of c.args.self.now.program.now) c.has_instances.result c.has_instances.ensures same
