use Rattle.std.proofs.Common.{◌≡◌, ◌≤◌, ℕ, length, None, Ok, ap, sym, subst, ◌∙◌, arith}
use Rattle.std.specs.Prelude.{map}
use Rattle.std.proofs.lemmas.Result.{err_from_is_err_and}
use Rattle.ver_frames.proofs.ChainFrames.{frames_stand, one_more_read, stand_more}
use Rattle.ver_frames.proofs.FrameLimits.{frames_long}
use Rattle.ver_frames.proofs.FrameLoops.{frames_fail, frames_done, frames_over}
use Rattle.ver_frames.specs.Chains.{declared_in, types_of}
use Rattle.ver_frames.specs.Method.{Subject, argument_types}
use Rattle.ver_frames.specs.StackMap.{frames}
use Rattle.ver_frames.proofs.stack_map.frames.Goals as goal

pub returns-in_err-raw-clause-frames : goal.returns-in_err-raw-clause-frames
returns-in_err-raw-clause-frames c =
    let p = err_from_is_err_and c.from_residual-in_err-raw.result c.from_residual-in_err-raw.ensures.1 in
    let m = c.args.method.now in
    rw (p.1, p.2) (frames_fail c.in_err-raw.field-0.0 m c.args.count c.loop.counter (map (declared_in m.code.max_locals c.loop.nodes) c.loop.frames.items) c.loop.last (types_of c.loop.nodes c.loop.locals) c.loop.rest.now (frames m c.args.count None (argument_types m) c.args.bytes.now) c.loop-test.true c.in_err-raw.ensures.gives c.loop.invariant.read)

pub loop-preserved : goal.loop-preserved
loop-preserved c =
    let m = c.args.method.now in
    let old = c.loop.nodes in
    let new = c.frame.new.nodes in
    let raw = c.in_ok-raw.raw in
    let fs = c.loop.frames.items in
    let found = c.in_ok-raw.ensures in
    record {
      stand = rw (c.in_ok-push.ensures.items) (stand_more new fs raw (frames_stand old new fs found.kept c.loop.invariant.stand) found.stands);
      before = found.stands.locals;
      read = rw (c.in_ok-push.ensures.items)
          (one_more_read m c.args.count c.loop.counter old new fs c.loop.last c.loop.locals c.loop.rest.now c.in_ok-raw.after.now raw (frames m c.args.count None (argument_types m) c.args.bytes.now) c.loop-test.true found.kept c.loop.invariant.stand found.gives c.loop.invariant.read);
    }

pub returns-in-empty-clause-frames : goal.returns-in-empty-clause-frames
returns-in-empty-clause-frames c =
    let m = c.args.method.now in
    let most = ap (λ (s : Subject). s.code.max_locals) c.method.view_is in
    let done = frames_done m c.args.count c.loop.counter (map (declared_in m.code.max_locals c.loop.nodes) c.loop.frames.items) c.loop.last (types_of c.loop.nodes c.loop.locals) c.loop.rest.now (frames m c.args.count None (argument_types m) c.args.bytes.now) c.loop-test.false c.in-empty.len_below c.loop.invariant.read in
    done ∙ ap (λ (k : ℕ). Ok (map (declared_in k c.loop.nodes) c.loop.frames.items)) (sym most)

pub returns-in-empty-clause-few : goal.returns-in-empty-clause-few
returns-in-empty-clause-few c =
    let m = c.args.method.now in
    let most = ap (λ (s : Subject). s.code.max_locals) c.method.view_is in
    let done = frames_done m c.args.count c.loop.counter (map (declared_in m.code.max_locals c.loop.nodes) c.loop.frames.items) c.loop.last (types_of c.loop.nodes c.loop.locals) c.loop.rest.now (frames m c.args.count None (argument_types m) c.args.bytes.now) c.loop-test.false c.in-empty.len_below c.loop.invariant.read in
    let long = frames_long m c.args.count None (argument_types m) c.args.bytes.now (map (declared_in m.code.max_locals c.loop.nodes) c.loop.frames.items) done in
    let fits : length (map (declared_in m.code.max_locals c.loop.nodes) c.loop.frames.items) ≤ 65535 = omega (arith, long) in
    subst (λ (k : ℕ). length (map (declared_in k c.loop.nodes) c.loop.frames.items) ≤ 65535) (sym most) fits

pub returns-in-len1-up-clause-frames : goal.returns-in-len1-up-clause-frames
returns-in-len1-up-clause-frames c =
    let m = c.args.method.now in
    let over = frames_over m c.args.count c.loop.counter (map (declared_in m.code.max_locals c.loop.nodes) c.loop.frames.items) c.loop.last (types_of c.loop.nodes c.loop.locals) c.loop.rest.now (frames m c.args.count None (argument_types m) c.args.bytes.now) c.loop-test.false c.in-len1-up.len_at_least c.loop.invariant.read in
    rw (c.broken.ensures, c.from-in-len1-up.ensures, c.unwrap_or.ensures) over
