use Rattle.sp_requests.specs.Asking.{kind_of}
use Rattle.sp_rules.specs.Classes.{Classes}
use Rattle.sp_call_set.proofs.Told.{told_of}
use Rattle.sp_call_set.proofs.call_set.CallSetCallClasses.result_kind.Goals as goal

pub returns : goal.returns
returns c = λ classes same.
    told_of (λ (asked : Classes). asked.result c.args.method) c.self.inside.program.now c.args.self.now classes (kind_of c.result_kind.result) c.result_kind.ensures c.self.view_is same
