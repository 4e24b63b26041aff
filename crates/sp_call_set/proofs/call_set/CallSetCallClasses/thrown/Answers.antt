use Rattle.std.proofs.Common.{◌∙◌}
use Rattle.sp_requests.specs.Thrown.{thrown_class}
use Rattle.sp_rules.specs.Classes.{Classes}
use Rattle.sp_call_set.proofs.Told.{thrown_is, told_of}
use Rattle.sp_call_set.proofs.call_set.CallSetCallClasses.thrown.Goals as goal

pub returns : goal.returns
returns c = λ classes same.
    let inside = c.self.inside in
    told_of (λ (asked : Classes). thrown_class asked c.args.exception) inside.program.now c.args.self.now classes c.thrown.result
    (c.thrown.ensures ∙ thrown_is inside.program.now inside.named c.self.invariant.named c.args.exception) c.self.view_is same
