use Rattle.std.proofs.Common.{◌≡◌, ◌+◌, ◌≤◌, ◌<◌, suc, true, not, subst, arith, length, map}
use Rattle.std.proofs.lemmas.List.{length-map}
use Rattle.std.specs.Prelude.{slice_get}
use Rattle.sp_pipes.specs.Connections.{pipe_of, waits_at}
use Rattle.sp_pipes.proofs.PipeLemmas.{arrived, passed, passed-within}
use Rattle.sp_pipes.proofs.pipes.Pipes.advance.Goals as goal

pub up-preserved : goal.up-preserved
up-preserved c =
    let u = c.up.self.unaccepted in
    let rows = map pipe_of c.up.self.rows.items in
    let more : u + 1 ≡ suc u = omega arith in
    let s : not (waits_at (slice_get rows u)) ≡ true = cc in
    record {
      rows = c.up.invariant.rows;
      within = λ h. let k = passed-within u (u + 1) rows more s in let l = length-map c.up.self.rows.items pipe_of in omega (arith, k, l);
      below = λ h. passed u (u + 1) rows more s (c.up.invariant.below h);
    }

pub up-smaller : goal.up-smaller
up-smaller c =
    let u = c.up.self.unaccepted in
    let rows = map pipe_of c.up.self.rows.items in
    let more : u + 1 ≡ suc u = omega arith in
    let s : not (waits_at (slice_get rows u)) ≡ true = cc in
    let k = passed-within u (u + 1) rows more s in
    let l = length-map c.up.self.rows.items pipe_of in
    let n = c.up.self.rows.ok.0 in
    omega (arith, k, l, n)

pub returns-clause-found : goal.returns-clause-found
returns-clause-found c = λ w h. arrived c.args.self.now c.up.self c.up.invariant.rows (c.up.invariant.below h) (c.up.invariant.within w) (cc)
