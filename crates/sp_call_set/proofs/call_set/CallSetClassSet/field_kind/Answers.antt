use Rattle.std.proofs.Common.{refl}
use Rattle.std.specs.Prelude.{option_map}
use Rattle.sp_behaviours.specs.Classes.{classes_of}
use Rattle.sp_requests.specs.ClassSets.{kind_of}
use Rattle.sp_rules.specs.Classes.{Classes, field_kind}
use Rattle.sp_call_set.proofs.Told.{told_of}
use Rattle.sp_call_set.proofs.call_set.CallSetClassSet.field_kind.Goals as goal

pub returns : goal.returns
returns c = λ classes same.
    let inside = c.self.inside in
    told_of (λ (asked : Classes). field_kind asked c.args.class c.args.slot) inside.program.now c.args.self.now classes (option_map kind_of c.field_kind.result)
    (c.field_kind.ensures (classes_of inside.program.now) refl) c.self.view_is same
