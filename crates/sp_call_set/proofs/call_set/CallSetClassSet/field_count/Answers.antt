use Rattle.std.specs.Prelude.{length}
use Rattle.std.proofs.Common.{refl}
use Rattle.sp_behaviours.specs.Classes.{classes_of}
use Rattle.sp_rules.specs.Classes.{Classes}
use Rattle.sp_call_set.proofs.Told.{told_of}
use Rattle.sp_call_set.proofs.call_set.CallSetClassSet.field_count.Goals as goal

pub returns : goal.returns
returns c = λ classes same.
    let inside = c.self.inside in
    told_of (λ (asked : Classes). length (asked.fields c.args.class)) inside.program.now c.args.self.now classes c.field_count.result (c.field_count.ensures (classes_of inside.program.now) refl) c.self.view_is same
