use Rattle.std.proofs.Common.{sym, subst}
use Rattle.std.proofs.lemmas.Result.{on_ok_weaker}
use Rattle.net_message.specs.declared.message.Message.{Message}
use Rattle.sp_rules.specs.Frames.{got}
use Rattle.sp_state.specs.Spaces.{IsSpace}
use Rattle.sp_state.proofs.FrameLemmas.{closed-at}
use Rattle.sp_state.proofs.space_state.SpaceState.receive_answer.Goals as goal

pub returns-in-Hello-clause-got : goal.returns-in-Hello-clause-got
unfolding got
returns-in-Hello-clause-got w c = on_ok_weaker c.close.result (λ now. λ g s row peer is silent tells on dialled.
    subst (λ (m : Message). IsSpace g (got g row m s) c.close.new.self) (sym c.in-Hello.is) (closed-at g g.classes.unmarshal c.args.conn s row c.close.new.self on (now g s is silent tells))) c.close.ensures.closed

pub returns-in-Returned-clause-got : goal.returns-in-Returned-clause-got
unfolding got
returns-in-Returned-clause-got w c = on_ok_weaker c.receive_returned.result (λ now. λ g s row peer is silent tells on dialled.
    subst (λ (m : Message). IsSpace g (got g row m s) c.receive_returned.new.self) (sym c.in-Returned.is) (now g s row peer is silent tells on dialled)) c.receive_returned.ensures.got

pub returns-in-Threw-clause-got : goal.returns-in-Threw-clause-got
unfolding got
returns-in-Threw-clause-got w c = on_ok_weaker c.receive_threw.result (λ now. λ g s row peer is silent tells on dialled.
    subst (λ (m : Message). IsSpace g (got g row m s) c.receive_threw.new.self) (sym c.in-Threw.is) (now g s row peer is silent tells on dialled)) c.receive_threw.ensures.got

pub returns-in-Spent-clause-got : goal.returns-in-Spent-clause-got
unfolding got
returns-in-Spent-clause-got w c = on_ok_weaker c.receive_spent.result (λ now. λ g s row peer is silent tells on dialled.
    subst (λ (m : Message). IsSpace g (got g row m s) c.receive_spent.new.self) (sym c.in-Spent.is) (now g s row peer is silent tells on dialled)) c.receive_spent.ensures.got

pub returns-in-Lease-clause-got : goal.returns-in-Lease-clause-got
unfolding got
returns-in-Lease-clause-got w c = on_ok_weaker c.receive_lease.result (λ now. λ g s row peer is silent tells on dialled.
    subst (λ (m : Message). IsSpace g (got g row m s) c.receive_lease.new.self) (sym c.in-Lease.is) (now g s row peer is silent tells on dialled)) c.receive_lease.ensures.got

pub returns-in-Cleaned-clause-got : goal.returns-in-Cleaned-clause-got
unfolding got
returns-in-Cleaned-clause-got w c = on_ok_weaker c.receive_cleaned.result (λ now. λ g s row peer is silent tells on dialled.
    subst (λ (m : Message). IsSpace g (got g row m s) c.receive_cleaned.new.self) (sym c.in-Cleaned.is) (now g s row peer is silent tells on dialled)) c.receive_cleaned.ensures.got
