use Rattle.std.proofs.Common.{sym}
use Rattle.ver_check.proofs.Accepts.{subject_listed}
use Rattle.ver_check.proofs.all_methods.check_method.Goals as goal

pub check_code-requires : goal.check_code-requires
check_code-requires c =
    subject_listed c.args.classes.now c.args.method.now c.in-Some.view (sym c.in-Some.ensures) c.requires
