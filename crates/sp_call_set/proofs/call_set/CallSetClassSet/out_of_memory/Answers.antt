use Rattle.std.proofs.Common.{refl}
use Rattle.sp_behaviours.specs.Classes.{classes_of}
use Rattle.sp_rules.specs.Classes.{Classes}
use Rattle.sp_call_set.proofs.Told.{told_of}
use Rattle.sp_call_set.proofs.call_set.CallSetClassSet.out_of_memory.Goals as goal

pub returns : goal.returns
returns c = λ classes same.
    let inside = c.self.inside in
    told_of (λ (asked : Classes). asked.out_of_memory) inside.program.now c.args.self.now classes c.out_of_memory.result (c.out_of_memory.ensures (classes_of inside.program.now) refl) c.self.view_is same
