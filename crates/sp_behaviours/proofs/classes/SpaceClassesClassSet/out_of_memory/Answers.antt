use Rattle.std.specs.Prelude.{codes}
use Rattle.sp_rules.specs.Classes.{Classes}
use Rattle.sp_behaviours.proofs.Told.{named_is, told}
use Rattle.sp_behaviours.specs.Classes.{classes_of}
use Rattle.sp_behaviours.proofs.classes.SpaceClassesClassSet.out_of_memory.Goals as goal

pub returns : goal.returns
returns c = λ classes same.
    told (λ (asked : Classes). asked.out_of_memory) classes (classes_of c.args.self.now.program.now) c.out_of_memory.result
    (named_is c.args.self.now.program.now.classes (codes "java/lang/OutOfMemoryError") c.out_of_memory.result c.out_of_memory.ensures) same
