use denote.Exit.{no}
use denote.Param.{layout}
use denote.Param.Send.{arg_send, param_send}
use Rattle.sp_served.proofs.Crossing.{apart_send, served_send}
use Rattle.serve_rows.proofs.spaces.serve_over.Goals as goal
use Rattle.serve_rows.proofs.spaces.serve_over.Lts as code

-- a space that is served may go to any thread, and so may a task apart from it
pub serve-requires-send-S : goal.serve-requires-send-S
serve-requires-send-S g c κs within =
    let space = (code.arg-2-1 g.row.N g.row.R g.row.G g.N.laws g.R.laws g.G.laws g.N.Setup g.N.Setup-dict g.R.Host g.R.Host-dict g.R.Net g.R.Net-dict g.bound-4 g.bound-4-dict g.bound-5 g.bound-5-dict g.bound-6 g.bound-6-dict g.bound-7 g.bound-7-dict g.bound-8 g.bound-8-dict g.bound-9 g.bound-9-dict g.R.Threads g.R.Threads-dict g.R.Wait g.R.Wait-dict g.R.Clock g.R.Clock-dict g.R.AllocGlobal g.R.AllocGlobal-dict g.R.Alloc g.R.Alloc-dict g.bound-15 g.bound-15-dict g.bound-16 g.bound-16-dict g.G.Gate g.G.Gate-dict g.G.Destruct-dict κs) in
    param_send 1 space (arg_send (layout space) no _ (served_send _ _ _ c.type_bounds.send-N))

pub serve-requires-send-S-Apart : goal.serve-requires-send-S-Apart
serve-requires-send-S-Apart g c κs within =
    let apart = (code.arg-2-3 g.row.N g.row.R g.row.G g.N.laws g.R.laws g.G.laws g.N.Setup g.N.Setup-dict g.R.Host g.R.Host-dict g.R.Net g.R.Net-dict g.bound-4 g.bound-4-dict g.bound-5 g.bound-5-dict g.bound-6 g.bound-6-dict g.bound-7 g.bound-7-dict g.bound-8 g.bound-8-dict g.bound-9 g.bound-9-dict g.R.Threads g.R.Threads-dict g.R.Wait g.R.Wait-dict g.R.Clock g.R.Clock-dict g.R.AllocGlobal g.R.AllocGlobal-dict g.R.Alloc g.R.Alloc-dict g.bound-15 g.bound-15-dict g.bound-16 g.bound-16-dict g.G.Gate g.G.Gate-dict g.G.Destruct-dict κs) in
    param_send 3 apart (arg_send (layout apart) no _ (apart_send _ _ _ c.type_bounds.send-N))
