use Rattle.std.proofs.Common.{◌≡◌, ℕ, Some, ap, sym, subst, ◌∙◌, refl}
use Rattle.std.specs.Prelude.{◌==◌, map}
use Rattle.sp_outputs.specs.Notes.{output_of}
use Rattle.sp_rules.specs.Space.{state_of}
use Rattle.sp_core.specs.Cores.{lent_as}
use Rattle.sp_core.specs.Hands.{given_back}
use Rattle.sp_space.specs.Machines.{machine_at}
use Rattle.sp_space.proofs.FreeLemmas.{none-lent}
use Rattle.sp_space.proofs.HandLemmas.{back-level}
use Rattle.sp_space.proofs.LentLemmas.{back-alone, lends-those, lent-hand, lent_ids}
use Rattle.sp_space.proofs.StandLemmas.{lent-event}
use Rattle.sp_space.proofs.StepLemmas.{happened}
use Rattle.sp_space.proofs.parts.Parts.go_on.Goals as goal

pub returns-clause-goes : goal.returns-clause-goes
returns-clause-goes c = λ g h m.
    let s = state_of g h in
    let space = c.args.self.now in
    let hand = c.args.hand in
    let lent = lent-hand g s space.core hand m.stands.core m.own in
    let taken = c.take_back.ensures.accepted g s (lent_ids space.core) m.stands.core (lends-those space.core) in
    let settled : machine_at hand.task.id c.settle.new.self ≡ Some (record m.player { ahead = Rattle.std.proofs.Common.false }) =
    ap (λ n. machine_at n c.settle.new.self) (sym c.id.ensures) ∙ c.settle.ensures.mine m.player (ap (λ n. machine_at n space.machines) c.id.ensures ∙ m.plays) in
    happened g h (given_back hand.task) _ _ (sym (back-alone g s space.core hand.task lent) ∙ taken) (ap (map output_of) c.new.ensures.items ∙ sym (c.take_back.ensures.outputs g s))
    (lent-event g h space c.take_back.new.self c.settle.new.self (given_back hand.task) hand.task.id m.stands refl (lent_as s hand.task (lent_ids space.core)) taken (c.take_back.ensures.state g s m.stands.core)
    (back-level g h space hand c.settle.new.self m settled) (λ other apart. c.settle.ensures.others other (ap (λ n. n == other) c.id.ensures ∙ apart)))

pub returns-clause-free : goal.returns-clause-free
returns-clause-free c = none-lent c.args.self.now.core c.take_back.new.self c.args.hand.task.id c.requires.others c.take_back.ensures.others
