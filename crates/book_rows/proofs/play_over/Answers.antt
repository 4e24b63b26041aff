use denote.Exit.{no}
use denote.Param.{layout}
use denote.Param.Send.{arg_send, param_send}
use Rattle.book_rows.proofs.Crossing.{apart_send, rest_send, space_send}
use Rattle.book_rows.proofs.play_over.Goals as goal
use Rattle.book_rows.proofs.play_over.Lts as code

-- a lending space may go to any thread, and so may a task apart from it and what is left of one

pub play_in-requires-send-S : goal.play_in-requires-send-S
play_in-requires-send-S g c κs within =
    let given = (code.arg-4-1 g.row.M g.row.R g.row.W g.row.R-File g.row.R-Dir g.M.laws g.R.laws g.W.laws g.R.File.laws g.R.Dir.laws g.M.Setup g.M.Setup-dict g.R.Host g.R.Host-dict g.R.Threads g.R.Threads-dict g.R.Wait g.R.Wait-dict g.R.Clock g.R.Clock-dict g.R.Env g.R.Env-dict g.R.Files g.R.Files-dict g.R.File.Read g.R.File.Read-dict g.R.File.Write g.R.File.Write-dict g.R.File.Seek g.R.File.Seek-dict g.R.File.OpenFile g.R.File.OpenFile-dict g.R.Dir.Read g.R.Dir.Read-dict g.R.AllocGlobal g.R.AllocGlobal-dict g.R.Alloc g.R.Alloc-dict g.bound-15 g.bound-15-dict g.bound-16 g.bound-16-dict g.R.Clone g.R.Clone-dict g.W.Write g.W.Write-dict g.R.Destruct-dict g.R.File.Destruct-dict g.R.Dir.Destruct-dict κs) in
    param_send 1 given (arg_send (layout given) no _ (space_send _ _ _ c.type_bounds.send-M))

pub play_in-requires-send-S-Task : goal.play_in-requires-send-S-Task
play_in-requires-send-S-Task g c κs within =
    let given = (code.arg-4-4 g.row.M g.row.R g.row.W g.row.R-File g.row.R-Dir g.M.laws g.R.laws g.W.laws g.R.File.laws g.R.Dir.laws g.M.Setup g.M.Setup-dict g.R.Host g.R.Host-dict g.R.Threads g.R.Threads-dict g.R.Wait g.R.Wait-dict g.R.Clock g.R.Clock-dict g.R.Env g.R.Env-dict g.R.Files g.R.Files-dict g.R.File.Read g.R.File.Read-dict g.R.File.Write g.R.File.Write-dict g.R.File.Seek g.R.File.Seek-dict g.R.File.OpenFile g.R.File.OpenFile-dict g.R.Dir.Read g.R.Dir.Read-dict g.R.AllocGlobal g.R.AllocGlobal-dict g.R.Alloc g.R.Alloc-dict g.bound-15 g.bound-15-dict g.bound-16 g.bound-16-dict g.R.Clone g.R.Clone-dict g.W.Write g.W.Write-dict g.R.Destruct-dict g.R.File.Destruct-dict g.R.Dir.Destruct-dict κs) in
    param_send 4 given (arg_send (layout given) no _ (apart_send _ _ _ c.type_bounds.send-M))

pub play_in-requires-send-S-Rest : goal.play_in-requires-send-S-Rest
play_in-requires-send-S-Rest g c κs within =
    let given = (code.arg-4-5 g.row.M g.row.R g.row.W g.row.R-File g.row.R-Dir g.M.laws g.R.laws g.W.laws g.R.File.laws g.R.Dir.laws g.M.Setup g.M.Setup-dict g.R.Host g.R.Host-dict g.R.Threads g.R.Threads-dict g.R.Wait g.R.Wait-dict g.R.Clock g.R.Clock-dict g.R.Env g.R.Env-dict g.R.Files g.R.Files-dict g.R.File.Read g.R.File.Read-dict g.R.File.Write g.R.File.Write-dict g.R.File.Seek g.R.File.Seek-dict g.R.File.OpenFile g.R.File.OpenFile-dict g.R.Dir.Read g.R.Dir.Read-dict g.R.AllocGlobal g.R.AllocGlobal-dict g.R.Alloc g.R.Alloc-dict g.bound-15 g.bound-15-dict g.bound-16 g.bound-16-dict g.R.Clone g.R.Clone-dict g.W.Write g.W.Write-dict g.R.Destruct-dict g.R.File.Destruct-dict g.R.Dir.Destruct-dict κs) in
    param_send 5 given (arg_send (layout given) no _ (rest_send _))
