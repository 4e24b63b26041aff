use Rattle.std.specs.Prelude.{length}
use Rattle.sp_rules.specs.Classes.{Classes}
use Rattle.sp_behaviours.proofs.Told.{told}
use Rattle.sp_behaviours.specs.Classes.{classes_of}
use Rattle.sp_behaviours.proofs.classes.SpaceClassesClassSet.field_count.Goals as goal

pub returns : goal.returns
returns c = λ classes same.
    told (λ (asked : Classes). length (asked.fields c.args.class)) classes (classes_of c.args.self.now.program.now) c.count_fields.result c.count_fields.ensures same
