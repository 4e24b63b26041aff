use Rattle.std.proofs.Common.{◌≡◌, ap, sym, subst, ◌∙◌}
use Rattle.std.specs.Prelude.{IsSomeAnd}
use Rattle.sp_machines.specs.Players.{AsksIn, Played}
use Rattle.sp_space.specs.Machines.{machine_at}
use Rattle.sp_space.proofs.HandLemmas.{asks-hand}
use Rattle.sp_machines.proofs.ResultLemmas.{if-err, if-ok}
use Rattle.sp_space.proofs.parts.Parts.ask.Goals as goal

pub op-requires : goal.op-requires
op-requires c = subst (λ n. IsSomeAnd (machine_at n c.args.self.now.machines) (λ (p : Played). AsksIn c.args.asked.now p.task.state)) (sym c.id.ensures) c.requires.asked

pub returns-then-is_on_store-clause-done : goal.returns-then-is_on_store-clause-done
returns-then-is_on_store-clause-done c =
    if-ok c.commit.result _ _ (λ outputs told. λ g h n.
    told g h (asks-hand g h c.args.self.now c.args.hand c.args.asked.now c.in-Ok.op n
    (λ p m fuel plays state. c.in-Ok.ensures p m fuel (ap (λ i. machine_at i c.args.self.now.machines) c.id.ensures ∙ plays) state)) (sym c.is_on_store.ensures ∙ c.if-is_on_store.true)) c.commit.ensures.done

pub returns-then-is_on_store-clause-refused : goal.returns-then-is_on_store-clause-refused
returns-then-is_on_store-clause-refused c =
    if-err c.commit.result _ _ (λ fault told. λ g h n.
    told g h (asks-hand g h c.args.self.now c.args.hand c.args.asked.now c.in-Ok.op n
    (λ p m fuel plays state. c.in-Ok.ensures p m fuel (ap (λ i. machine_at i c.args.self.now.machines) c.id.ensures ∙ plays) state)) (sym c.is_on_store.ensures ∙ c.if-is_on_store.true)) c.commit.ensures.refused

pub returns-else-is_on_store-clause-done : goal.returns-else-is_on_store-clause-done
returns-else-is_on_store-clause-done c =
    if-ok c.park.result _ _ (λ outputs told. λ g h n.
    told g h (asks-hand g h c.args.self.now c.args.hand c.args.asked.now c.in-Ok.op n
    (λ p m fuel plays state. c.in-Ok.ensures p m fuel (ap (λ i. machine_at i c.args.self.now.machines) c.id.ensures ∙ plays) state)) (sym c.is_on_store.ensures ∙ c.if-is_on_store.false)) c.park.ensures.done

pub returns-else-is_on_store-clause-refused : goal.returns-else-is_on_store-clause-refused
returns-else-is_on_store-clause-refused c =
    if-err c.park.result _ _ (λ fault told. λ g h n.
    told g h (asks-hand g h c.args.self.now c.args.hand c.args.asked.now c.in-Ok.op n
    (λ p m fuel plays state. c.in-Ok.ensures p m fuel (ap (λ i. machine_at i c.args.self.now.machines) c.id.ensures ∙ plays) state)) (sym c.is_on_store.ensures ∙ c.if-is_on_store.false)) c.park.ensures.refused
