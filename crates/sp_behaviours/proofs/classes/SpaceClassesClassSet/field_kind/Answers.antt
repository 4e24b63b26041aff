use Rattle.std.specs.Prelude.{option_map, slice_get}
use Rattle.sp_requests.specs.ClassSets.{kind_of}
use Rattle.sp_rules.specs.Classes.{Classes}
use Rattle.sp_behaviours.proofs.Told.{told}
use Rattle.sp_behaviours.specs.Classes.{classes_of}
use Rattle.sp_behaviours.proofs.classes.SpaceClassesClassSet.field_kind.Goals as goal

pub returns : goal.returns
returns c = λ classes same.
    told (λ (asked : Classes). slice_get (asked.fields c.args.class) c.args.slot) classes (classes_of c.args.self.now.program.now) (option_map kind_of c.kind_at.result) c.kind_at.ensures same
