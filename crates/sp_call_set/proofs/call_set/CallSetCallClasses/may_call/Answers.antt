use Rattle.sp_rules.specs.Classes.{Classes}
use Rattle.sp_call_set.proofs.Told.{told_of}
use Rattle.sp_call_set.proofs.call_set.CallSetCallClasses.may_call.Goals as goal

pub returns : goal.returns
returns c = λ classes same.
    told_of (λ (asked : Classes). asked.may_call c.args.class c.args.method) c.self.inside.program.now c.args.self.now classes c.may_call.result c.may_call.ensures c.self.view_is same
