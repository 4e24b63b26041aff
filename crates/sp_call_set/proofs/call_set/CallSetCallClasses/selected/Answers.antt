use Rattle.sp_rules.specs.Classes.{Classes}
use Rattle.sp_call_set.proofs.Told.{told_of}
use Rattle.sp_call_set.proofs.call_set.CallSetCallClasses.selected.Goals as goal

pub returns : goal.returns
returns c = λ classes same.
    told_of (λ (asked : Classes). asked.selected c.args.class c.args.method) c.self.inside.program.now c.args.self.now classes c.selected.result c.selected.ensures c.self.view_is same
