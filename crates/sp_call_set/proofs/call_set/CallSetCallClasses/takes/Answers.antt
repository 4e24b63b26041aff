use Rattle.sp_rules.specs.Classes.{Classes, fit_kinds}
use Rattle.sp_call_set.proofs.Told.{told_of}
use Rattle.sp_call_set.proofs.call_set.CallSetCallClasses.takes.Goals as goal

pub returns : goal.returns
returns c = λ classes same.
    told_of (λ (asked : Classes). fit_kinds (asked.parameters c.args.method) c.args.arguments.now) c.self.inside.program.now c.args.self.now classes c.takes.result c.takes.ensures c.self.view_is same
