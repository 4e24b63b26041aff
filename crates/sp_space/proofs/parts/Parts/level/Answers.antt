use Rattle.std.proofs.Common.{◌≡◌, ℕ, Some, Option, ap, sym, subst, ◌∙◌}
use Rattle.std.specs.Prelude.{◌==◌}
use Rattle.sp_rules.specs.Space.{state_of}
use Rattle.sp_rules.specs.State.{Living, task_at}
use Rattle.sp_space.specs.Hands.{IsInHand, IsLevelHand}
use Rattle.sp_space.specs.Machines.{machine_at}
use Rattle.sp_machines.specs.Players.{IsLevelAt, IsPlayed, Played}
use Rattle.sp_space.proofs.HandLemmas.{can-catch-up, level-stands}
use Rattle.sp_space.proofs.LentLemmas.{lent-hand}
use Rattle.sp_machines.proofs.ResultLemmas.{ok-or-on, on-ok}
use Rattle.sp_space.proofs.StandLemmas.{machine-change}
use Rattle.sp_space.proofs.parts.Parts.level.Goals as goal

pub catch_up-requires : goal.catch_up-requires
catch_up-requires c =
    let k = c.requires.known in
    can-catch-up k.setting k.history c.make.new.self c.args.hand.now c.id.result c.record.result.now.past (c.make.ensures.same k.setting k.history k.is) c.id.ensures c.in_ok-make.ensures.machine c.record.ensures

pub returns-clause-level : goal.returns-clause-level
returns-clause-level c =
    on-ok c.catch_up.result _ _ (λ level. λ g h old.
    let s = state_of g h in
    let space = c.make.new.self in
    let links = space.program.now in
    let hand = c.args.hand.now in
    let i = c.make.ensures.same g h old in
    let l = lent-hand g s space.core hand i.stands.core i.own in
    let there : task_at s c.id.result ≡ Some l.living = ap (λ n. task_at s n) c.id.ensures ∙ l.there in
    let played = subst (λ (o : Option Living). IsPlayed links g o (machine_at c.id.result space.machines)) there (i.stands.played c.id.result) in
    let now = subst (λ n. IsLevelAt links g l.living (machine_at n c.catch_up.new.self)) c.id.ensures (level links g l.living i.stands.of.plays played l.waits (l.past ∙ sym c.record.ensures)) in
    record {
      in_hand = record {
        stands = machine-change g h space c.catch_up.new.self hand.task.id i.stands (level-stands links g l.living (task_at s hand.task.id) (machine_at hand.task.id c.catch_up.new.self) l.there now)
            (λ other apart. c.catch_up.ensures.others other (ap (λ n. n == other) c.id.ensures ∙ apart));
        own = i.own;
        fresh = i.fresh;
      };
      living = l.living;
      lives = l.there;
      level = now;
    }) c.catch_up.ensures.level

pub returns-clause-same : goal.returns-clause-same
returns-clause-same c =
    ok-or-on c.catch_up.result _ _ _ (λ level. λ g h old.
    let s = state_of g h in
    let space = c.make.new.self in
    let links = space.program.now in
    let hand = c.args.hand.now in
    let i = c.make.ensures.same g h old in
    let l = lent-hand g s space.core hand i.stands.core i.own in
    let there : task_at s c.id.result ≡ Some l.living = ap (λ n. task_at s n) c.id.ensures ∙ l.there in
    let played = subst (λ (o : Option Living). IsPlayed links g o (machine_at c.id.result space.machines)) there (i.stands.played c.id.result) in
    let now = subst (λ n. IsLevelAt links g l.living (machine_at n c.catch_up.new.self)) c.id.ensures (level links g l.living i.stands.of.plays played l.waits (l.past ∙ sym c.record.ensures)) in
    record {
      stands = machine-change g h space c.catch_up.new.self hand.task.id i.stands (level-stands links g l.living (task_at s hand.task.id) (machine_at hand.task.id c.catch_up.new.self) l.there now)
          (λ other apart. c.catch_up.ensures.others other (ap (λ n. n == other) c.id.ensures ∙ apart));
      own = i.own;
      fresh = i.fresh;
    }) (λ same. λ g h old.
    let s = state_of g h in
    let space = c.make.new.self in
    let links = space.program.now in
    let hand = c.args.hand.now in
    let i = c.make.ensures.same g h old in
    let at : machine_at hand.task.id c.catch_up.new.self ≡ machine_at hand.task.id space.machines = ap (λ n. machine_at n c.catch_up.new.self) (sym c.id.ensures) ∙ same ∙ ap (λ n. machine_at n space.machines) c.id.ensures in
    record {
      stands = machine-change g h space c.catch_up.new.self hand.task.id i.stands (subst (IsPlayed links g (task_at s hand.task.id)) (sym at) (i.stands.played hand.task.id))
          (λ other apart. c.catch_up.ensures.others other (ap (λ n. n == other) c.id.ensures ∙ apart));
      own = i.own;
      fresh = i.fresh;
    }) c.catch_up.ensures.level c.catch_up.ensures.same
