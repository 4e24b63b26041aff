use Rattle.std.proofs.Common.{sym, ◌∙◌, ◌≡◌, ◌-◌, refl, ap, arith, ℕ}
use Rattle.ver_frames.specs.Chains.{types_of}
use Rattle.ver_frames.specs.StackMap.{items, with_front}
use Rattle.ver_frames.proofs.Chains.{keeps_all, keeps_on}
use Rattle.ver_frames.proofs.Loops.{items_left, items_end, items_done, none_after_front}
use Rattle.ver_frames.proofs.items.append_items.Goals as goal

pub loop-init : goal.loop-init
loop-init c =
    let e : c.args.count - 0 ≡ c.args.count = omega arith in
    record {
      read = ap (λ (n : ℕ). with_front (types_of c.args.nodes.now c.args.chain) (items c.args.method.now n c.args.bytes.now)) e;
      stands = c.requires.stands;
      few = c.requires.few;
      kept = keeps_all c.args.nodes.now;
    }

pub returns-in_default-clause-items : goal.returns-in_default-clause-items
returns-in_default-clause-items c =
    none_after_front (types_of c.args.nodes.now c.args.chain) (items c.args.method.now c.args.count c.args.bytes.now)
    (sym c.loop.invariant.read ∙ items_end c.args.method.now c.args.count c.loop.counter (types_of c.loop.nodes c.loop.longer) c.loop.rest.now c.loop-test.true c.in_default.ensures)

pub returns-in_err-longer-clause-kept : goal.returns-in_err-longer-clause-kept
returns-in_err-longer-clause-kept c = keeps_on c.args.nodes.now c.loop.nodes c.append.new.self c.loop.invariant.kept c.in_err-longer.ensures.kept

pub loop-preserved : goal.loop-preserved
loop-preserved c =
    let more = c.in_ok-longer.ensures in
    record {
      read = rw (more.types) (sym (items_left c.args.method.now c.args.count c.loop.counter (types_of c.loop.nodes c.loop.longer) c.loop.rest.now c.in-Some.kind c.in-Some.after.now c.loop-test.true c.in-Some.ensures) ∙ c.loop.invariant.read);
      stands = more.stands;
      few = omega (arith, more.count, c.loop.invariant.few);
      kept = keeps_on c.args.nodes.now c.loop.nodes c.append.new.self c.loop.invariant.kept more.kept;
    }

pub returns-clause-items : goal.returns-clause-items
returns-clause-items c =
    sym c.loop.invariant.read ∙ items_done c.args.method.now c.args.count c.loop.counter (types_of c.loop.nodes c.loop.longer) c.loop.rest.now c.loop-test.false
