use Rattle.sp_main.proofs.Replied.{bad_line_told}
use Rattle.sp_main.proofs.entry.script_report.Goals as goal

pub returns-in-Err-BadLine : goal.returns-in-Err-BadLine
returns-in-Err-BadLine g c =
    bad_line_told c.args.path.now c.in-Err-BadLine.number c.bad_line_report.result (c.bad_line_report.ensures).status (c.bad_line_report.ensures).text
