use Rattle.std.proofs.Common.{◌≡◌, ◌+◌, ◌≤◌, false, ap, sym, subst, ◌∙◌, arith}
use Rattle.std.specs.Prelude.{◌-◌}
use Rattle.sp_rules.specs.LivingTasks.{after_steps}
use Rattle.vm_step.specs.Run.{run}
use Rattle.vm_step.specs.Task.{fuel_left}
use Rattle.sp_machines.specs.Players.{IsLevel, Played}
use Rattle.sp_machines.proofs.PlayedLemmas.{run-level, run-on-is, still-level}
use Rattle.sp_machines.proofs.task_machine.TaskMachine.run.Goals as goal

pub returns-then-self-clause-level : goal.returns-then-self-clause-level
returns-then-self-clause-level c = λ links g t level. still-level links g t c.args.self.now level

pub returns-clause-level : goal.returns-clause-level
returns-clause-level c = λ links g t level.
    let p = c.args.self.now in
    let most = c.args.most in
    let abreast : p.ahead ≡ false = ap (λ (q : Played). q.ahead) (sym c.self.view_is) ∙ c.if-self.false in
    let same = run-on-is p c.self.inside.task c.run.new.self c.self.inside.taken c.self.inside.is_ahead c.self.inside.program.now most c.self.view_is c.self.invariant c.run.ensures.task in
    let before = c.fuel-before.result in
    let after = c.fuel.result in
    let had : before ≡ fuel_left p.task.state = c.fuel-before.ensures ∙ ap (λ (q : Played). fuel_left q.task.state) c.self.view_is in
    let has : after ≡ fuel_left (run p.task.program most p.task.state) = c.fuel.ensures ∙ ap (λ (q : Played). fuel_left q.task.state) same in
    let first : before ≡ fuel_left c.self.inside.task.state = c.fuel-before.ensures in
    let second : after ≡ fuel_left c.run.new.self.state = c.fuel.ensures in
    let less : fuel_left c.run.new.self.state ≤ fuel_left c.self.inside.task.state = c.run.ensures.fuel in
    let took : before - after + fuel_left (run p.task.program most p.task.state) ≡ fuel_left p.task.state = omega (arith, had, has, first, second, less) in
    subst (IsLevel links g (after_steps (before - after) t)) (sym same) (run-level links g t p most (before - after) level abreast took)
