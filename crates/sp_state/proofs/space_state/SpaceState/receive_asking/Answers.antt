use Rattle.std.proofs.Common.{ℕ, List, sym, ap, subst}
use Rattle.std.proofs.lemmas.Result.{on_ok_weaker}
use Rattle.net_message.specs.declared.message.Message.{Message}
use Rattle.sp_requests.specs.declared.connection.Connection.{Connection}
use Rattle.space_ids.specs.declared.ids.ObjId.{ObjId}
use Rattle.sp_rules.specs.Frames.{got, got_clean, got_dirty, got_lookup}
use Rattle.sp_state.specs.Spaces.{IsSpace}
use Rattle.sp_state.proofs.space_state.SpaceState.receive_asking.Goals as goal

pub returns-in-Call-clause-got : goal.returns-in-Call-clause-got
unfolding got
returns-in-Call-clause-got w c = on_ok_weaker c.receive_call.result (λ now. λ g s row is silent tells on seen there.
    subst (λ (m : Message). IsSpace g (got g row m s) c.receive_call.new.self) (sym c.in-Call.is) (now g s row is silent tells on (sym (ap (λ (k : Connection). k.last) seen)))) c.receive_call.ensures.got

pub returns-in-Lookup-clause-got : goal.returns-in-Lookup-clause-got
unfolding got
returns-in-Lookup-clause-got w c = on_ok_weaker c.receive_lookup.result (λ now. λ g s row is silent tells on seen there.
    subst (λ (m : Message). IsSpace g (got g row m s) c.receive_lookup.new.self) (sym c.in-Lookup.is)
    (subst (λ (name : List ℕ). IsSpace g (got_lookup g row c.in-Lookup.number name s) c.receive_lookup.new.self) c.as_slice.ensures (now g s row is silent tells on (sym (ap (λ (k : Connection). k.last) seen))))) c.receive_lookup.ensures.got

pub returns-in-Ack-clause-got : goal.returns-in-Ack-clause-got
unfolding got
returns-in-Ack-clause-got w c = on_ok_weaker c.receive_ack.result (λ now. λ g s row is silent tells on seen there.
    subst (λ (m : Message). IsSpace g (got g row m s) c.receive_ack.new.self) (sym c.in-Ack.is) (now g s row is silent tells on)) c.receive_ack.ensures.got

pub returns-in-Dirty-clause-got : goal.returns-in-Dirty-clause-got
unfolding got
returns-in-Dirty-clause-got w c = on_ok_weaker c.receive_dirty.result (λ now. λ g s row is silent tells on seen there.
    subst (λ (m : Message). IsSpace g (got g row m s) c.receive_dirty.new.self) (sym c.in-Dirty.is)
    (subst (λ (ids : List ObjId). IsSpace g (got_dirty g row c.in-Dirty.sequence c.in-Dirty.period ids s) c.receive_dirty.new.self) c.as_slice-ids.ensures (now g s row is silent tells on seen))) c.receive_dirty.ensures.got

pub returns-in-Clean-clause-got : goal.returns-in-Clean-clause-got
unfolding got
returns-in-Clean-clause-got w c = on_ok_weaker c.receive_clean.result (λ now. λ g s row is silent tells on seen there.
    subst (λ (m : Message). IsSpace g (got g row m s) c.receive_clean.new.self) (sym c.in-Clean.is)
    (subst (λ (ids : List ObjId). IsSpace g (got_clean g row c.in-Clean.sequence c.in-Clean.strong ids s) c.receive_clean.new.self) c.as_slice-ids-in-Clean.ensures (now g s row is silent tells on seen))) c.receive_clean.ensures.got
