use Rattle.std.proofs.Common.{◌≡◌, ◌-◌, ◌≤◌, ap, sym, ◌∙◌, arith}
use Rattle.vm_step.specs.Ends.{end_of}
use Rattle.vm_step.specs.Run.{Running, Waits, over, run}
use Rattle.vm_step.specs.Task.{last_end, phase_state}
use Rattle.vm_step.specs.Reached.{state_with}
use Rattle.vm_step.proofs.Runs.{run_asked, run_done, run_ended, run_spent, run_waits}
use Rattle.vm_step.proofs.phase.Phase.after.Goals as goal
use Rattle.vm_step.proofs.phase.Phase.after.Goals.{then-k-fuel, else-k-fuel}

pub returns-in-Ends : goal.returns-in-Ends
returns-in-Ends c =
    let was : phase_state c.args.self ≡ Running c.in-Running.machine c.in-Running.fuel = ap phase_state c.in-Running.is in
    let asked : c.if-k-fuel.most ≤ c.args.k = elim c.if-k-fuel.branch [ then-k-fuel w ↦ omega arith | else-k-fuel w ↦ omega arith ] in
    let reached : run c.args.program.now (c.in-Running.fuel - c.run-reached.result.fuel) (Running c.in-Running.machine c.in-Running.fuel)
    ≡ over (end_of c.run-reached.result.machine.heap.cells c.in-Ends.ending) c.run-reached.result.fuel =
    c.run-reached.ensures.state ∙ ap (λ ending. state_with ending c.run-reached.result.machine c.run-reached.result.fuel) c.in-Ends.is in
    rw (c.keep.ensures, was)
    (sym (run_ended c.args.program.now (c.in-Running.fuel - c.run-reached.result.fuel) c.args.k (Running c.in-Running.machine c.in-Running.fuel)
    (end_of c.run-reached.result.machine.heap.cells c.in-Ends.ending) c.run-reached.result.fuel reached (omega (arith, c.run-reached.ensures.most, asked))))

pub returns-in-Turn : goal.returns-in-Turn
returns-in-Turn c =
    let was : phase_state c.args.self ≡ Running c.in-Running.machine c.in-Running.fuel = ap phase_state c.in-Running.is in
    let all : c.if-k-fuel.most ≡ c.in-Running.fuel = elim c.if-k-fuel.branch [ then-k-fuel w ↦ omega arith | else-k-fuel w ↦ omega arith ] in
    let none_left : c.run-reached.result.fuel ≡ 0 = omega (arith, c.run-reached.ensures.all c.in-Turn.is) in
    let reached : run c.args.program.now (c.in-Running.fuel - c.run-reached.result.fuel) (Running c.in-Running.machine c.in-Running.fuel)
    ≡ Running c.run-reached.result.machine c.run-reached.result.fuel =
    c.run-reached.ensures.state ∙ ap (λ ending. state_with ending c.run-reached.result.machine c.run-reached.result.fuel) c.in-Turn.is in
    rw was
    (sym (run_spent c.args.program.now (c.in-Running.fuel - c.run-reached.result.fuel) c.args.k (Running c.in-Running.machine c.in-Running.fuel)
    c.run-reached.result.machine (reached ∙ ap (Running c.run-reached.result.machine) none_left) (omega arith)))

pub returns-in-Over : goal.returns-in-Over
returns-in-Over c =
    let was : phase_state c.args.self ≡ over (last_end c.in-Over.last) c.in-Over.fuel = ap phase_state c.in-Over.is in
    sym (ap (run c.args.program.now c.args.k) was ∙ run_done c.args.program.now c.args.k (last_end c.in-Over.last) c.in-Over.fuel)

pub returns-in-Asks : goal.returns-in-Asks
returns-in-Asks c =
    let was : phase_state c.args.self ≡ Running c.in-Running.machine c.in-Running.fuel = ap phase_state c.in-Running.is in
    let asked : c.if-k-fuel.most ≤ c.args.k = elim c.if-k-fuel.branch [ then-k-fuel w ↦ omega arith | else-k-fuel w ↦ omega arith ] in
    let reached : run c.args.program.now (c.in-Running.fuel - c.run-reached.result.fuel) (Running c.in-Running.machine c.in-Running.fuel)
    ≡ Waits c.in-Asks.asked c.run-reached.result.machine c.run-reached.result.fuel =
    c.run-reached.ensures.state ∙ ap (λ stop. state_with stop c.run-reached.result.machine c.run-reached.result.fuel) c.in-Asks.is in
    rw was
    (sym (run_asked c.args.program.now (c.in-Running.fuel - c.run-reached.result.fuel) c.args.k (Running c.in-Running.machine c.in-Running.fuel)
    c.in-Asks.asked c.run-reached.result.machine c.run-reached.result.fuel reached (omega (arith, c.run-reached.ensures.most, asked))))

pub returns-in-Waiting : goal.returns-in-Waiting
returns-in-Waiting c =
    let was : phase_state c.args.self ≡ Waits c.in-Waiting.asked c.in-Waiting.machine c.in-Waiting.fuel = ap phase_state c.in-Waiting.is in
    sym (ap (run c.args.program.now c.args.k) was ∙ run_waits c.args.program.now c.args.k c.in-Waiting.asked c.in-Waiting.machine c.in-Waiting.fuel)
