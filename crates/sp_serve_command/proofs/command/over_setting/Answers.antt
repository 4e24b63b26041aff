use denote.Exit.{no}
use denote.Param.{layout}
use denote.Param.Send.{arg_send, param_send}
use Rattle.sp_served.proofs.Crossing.{apart_send, served_send}
use Rattle.sp_serve_command.proofs.command.over_setting.Goals as goal
use Rattle.sp_serve_command.proofs.command.over_setting.Lts as code

pub run_space-requires-send-S : goal.run_space-requires-send-S
run_space-requires-send-S g c κs within =
    let space = (code.arg-2-1 g.row.N g.row.R g.row.I g.row.O g.row.E g.N.laws g.R.laws g.I.laws g.O.laws g.E.laws g.N.Setup g.N.Setup-dict g.R.Host g.R.Host-dict g.R.Net g.R.Net-dict g.bound-4 g.bound-4-dict g.bound-5 g.bound-5-dict g.bound-6 g.bound-6-dict g.bound-7 g.bound-7-dict g.bound-8 g.bound-8-dict g.bound-9 g.bound-9-dict g.R.Threads g.R.Threads-dict g.R.Wait g.R.Wait-dict g.R.Clock g.R.Clock-dict g.R.AllocGlobal g.R.AllocGlobal-dict g.R.Alloc g.R.Alloc-dict g.bound-15 g.bound-15-dict g.bound-16 g.bound-16-dict g.I.BufRead g.I.BufRead-dict g.I.Read g.I.Read-dict g.O.Write g.O.Write-dict g.E.Write g.E.Write-dict g.O.Destruct-dict κs) in
    param_send 1 space (arg_send (layout space) no _ (served_send _ _ _ c.type_bounds.send-N))

pub run_space-requires-send-S-Apart : goal.run_space-requires-send-S-Apart
run_space-requires-send-S-Apart g c κs within =
    let apart = (code.arg-2-5 g.row.N g.row.R g.row.I g.row.O g.row.E g.N.laws g.R.laws g.I.laws g.O.laws g.E.laws g.N.Setup g.N.Setup-dict g.R.Host g.R.Host-dict g.R.Net g.R.Net-dict g.bound-4 g.bound-4-dict g.bound-5 g.bound-5-dict g.bound-6 g.bound-6-dict g.bound-7 g.bound-7-dict g.bound-8 g.bound-8-dict g.bound-9 g.bound-9-dict g.R.Threads g.R.Threads-dict g.R.Wait g.R.Wait-dict g.R.Clock g.R.Clock-dict g.R.AllocGlobal g.R.AllocGlobal-dict g.R.Alloc g.R.Alloc-dict g.bound-15 g.bound-15-dict g.bound-16 g.bound-16-dict g.I.BufRead g.I.BufRead-dict g.I.Read g.I.Read-dict g.O.Write g.O.Write-dict g.E.Write g.E.Write-dict g.O.Destruct-dict κs) in
    param_send 5 apart (arg_send (layout apart) no _ (apart_send _ _ _ c.type_bounds.send-N))
