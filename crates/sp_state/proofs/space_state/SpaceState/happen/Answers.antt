use Rattle.std.proofs.Common.{ℕ, List, sym, subst}
use Rattle.std.proofs.lemmas.Result.{on_ok_weaker}
use Rattle.sp_events.specs.Events.{event_of}
use Rattle.sp_events.specs.declared.event.Event.{Event}
use Rattle.sp_registry.specs.Bindings as registry
use Rattle.sp_rules.specs.Holders.{own_object}
use Rattle.sp_rules.specs.OwnEvents.{set_names}
use Rattle.sp_rules.specs.Space.{happen}
use Rattle.sp_state.specs.LetIn.{IsLetIn}
use Rattle.sp_state.specs.Spaces.{IsSpace}
use Rattle.sp_state.proofs.LetInLemmas.{let-lookup, let-moment, let-opened, let-refused}
use Rattle.sp_tasks.proofs.LentLemmas.{lent-same}
use Rattle.sp_state.proofs.space_state.SpaceState.happen.Goals as goal

pub returns-in-RootAck-clause-happened : goal.returns-in-RootAck-clause-happened
unfolding happen
returns-in-RootAck-clause-happened w c = λ g s is rest tells lets. subst (λ (e : Event). IsSpace g (happen g (event_of e) s) c.root_ack.new.self) (sym c.in-RootAck.is) (c.root_ack.ensures.released g s is)

pub returns-in-Moment-clause-happened : goal.returns-in-Moment-clause-happened
unfolding happen
returns-in-Moment-clause-happened w c = on_ok_weaker c.moment.result (λ now. λ g s is rest tells lets. subst (λ (e : Event). IsSpace g (happen g (event_of e) s) c.moment.new.self) (sym c.in-Moment.is) (now g s is (let-moment g s c.in-Moment.moment (subst (λ (e : Event). IsLetIn g s (event_of e)) c.in-Moment.is lets)))) c.moment.ensures.passed

pub returns-in-Sweep-clause-happened : goal.returns-in-Sweep-clause-happened
unfolding happen
returns-in-Sweep-clause-happened w c = on_ok_weaker c.sweep.result (λ now. λ g s is rest tells lets. subst (λ (e : Event). IsSpace g (happen g (event_of e) s) c.sweep.new.self) (sym c.in-Sweep.is) (now g s is)) c.sweep.ensures.swept

pub returns-in-Bind-clause-happened : goal.returns-in-Bind-clause-happened
unfolding happen
returns-in-Bind-clause-happened w c = on_ok_weaker c.bind.result (λ now. λ g s is rest tells lets. subst (λ (e : Event). IsSpace g (happen g (event_of e) s) c.bind.new.self) (sym c.in-Bind.is)
    (subst (λ (name : List ℕ). IsSpace g (set_names (registry.bind s.owner.names name (own_object g s c.in-Bind.value)) s) c.bind.new.self) c.as_slice.ensures (now g s is))) c.bind.ensures.bound

pub returns-in-Rebind-clause-happened : goal.returns-in-Rebind-clause-happened
unfolding happen
returns-in-Rebind-clause-happened w c = on_ok_weaker c.rebind.result (λ now. λ g s is rest tells lets. subst (λ (e : Event). IsSpace g (happen g (event_of e) s) c.rebind.new.self) (sym c.in-Rebind.is)
    (subst (λ (name : List ℕ). IsSpace g (set_names (registry.rebind s.owner.names name (own_object g s c.in-Rebind.value)) s) c.rebind.new.self) c.as_slice-in-Rebind.ensures (now g s is))) c.rebind.ensures.bound

pub returns-in-Unbind-clause-happened : goal.returns-in-Unbind-clause-happened
unfolding happen
returns-in-Unbind-clause-happened w c = on_ok_weaker c.unbind.result (λ now. λ g s is rest tells lets. subst (λ (e : Event). IsSpace g (happen g (event_of e) s) c.unbind.new.self) (sym c.in-Unbind.is)
    (subst (λ (name : List ℕ). IsSpace g (set_names (registry.unbind s.owner.names name) s) c.unbind.new.self) c.as_slice-in-Unbind.ensures (now g s is))) c.unbind.ensures.unbound

pub returns-in-Lookup-clause-happened : goal.returns-in-Lookup-clause-happened
unfolding happen
returns-in-Lookup-clause-happened w c = on_ok_weaker c.look_up.result (λ now. λ g s is rest tells lets. subst (λ (e : Event). IsSpace g (happen g (event_of e) s) c.look_up.new.self) (sym c.in-Lookup.is) (now g s is (let-lookup g s c.in-Lookup.peer c.in-Lookup.name (subst (λ (e : Event). IsLetIn g s (event_of e)) c.in-Lookup.is lets)))) c.look_up.ensures.looked_up

pub returns-in-Opened-clause-happened : goal.returns-in-Opened-clause-happened
unfolding happen
returns-in-Opened-clause-happened w c = on_ok_weaker c.opened.result (λ now. λ g s is rest tells lets. subst (λ (e : Event). IsSpace g (happen g (event_of e) s) c.opened.new.self) (sym c.in-Opened.is) (let asked = let-opened g s c.in-Opened.conn c.in-Opened.dialled (subst (λ (e : Event). IsLetIn g s (event_of e)) c.in-Opened.is lets) in now g s is rest.notes asked.free asked.asked)) c.opened.ensures.opened

pub returns-in-Refused-clause-happened : goal.returns-in-Refused-clause-happened
unfolding happen
returns-in-Refused-clause-happened w c = on_ok_weaker c.refused.result (λ now. λ g s is rest tells lets. subst (λ (e : Event). IsSpace g (happen g (event_of e) s) c.refused.new.self) (sym c.in-Refused.is) (now g s is rest.notes tells (let-refused g s c.in-Refused.peer (subst (λ (e : Event). IsLetIn g s (event_of e)) c.in-Refused.is lets)))) c.refused.ensures.refused

pub returns-in-Received-clause-happened : goal.returns-in-Received-clause-happened
unfolding happen
returns-in-Received-clause-happened w c = on_ok_weaker c.received.result (λ now. λ g s is rest tells lets. subst (λ (e : Event). IsSpace g (happen g (event_of e) s) c.received.new.self) (sym c.in-Received.is) (now g s is rest.notes tells)) c.received.ensures.received

pub returns-in-Closed-clause-happened : goal.returns-in-Closed-clause-happened
unfolding happen
returns-in-Closed-clause-happened w c = on_ok_weaker c.end_connection.result (λ now. λ g s is rest tells lets. subst (λ (e : Event). IsSpace g (happen g (event_of e) s) c.end_connection.new.self) (sym c.in-Closed.is) (now g s is rest.notes tells)) c.end_connection.ensures.ended

pub returns-in-ReadFailed-clause-happened : goal.returns-in-ReadFailed-clause-happened
unfolding happen
returns-in-ReadFailed-clause-happened w c = on_ok_weaker c.end_connection-in-ReadFailed.result (λ now. λ g s is rest tells lets. subst (λ (e : Event). IsSpace g (happen g (event_of e) s) c.end_connection-in-ReadFailed.new.self) (sym c.in-ReadFailed.is) (now g s is rest.notes tells)) c.end_connection-in-ReadFailed.ensures.ended

pub returns-in-Bad-clause-happened : goal.returns-in-Bad-clause-happened
unfolding happen
returns-in-Bad-clause-happened w c = on_ok_weaker c.end_connection-in-Bad.result (λ now. λ g s is rest tells lets. subst (λ (e : Event). IsSpace g (happen g (event_of e) s) c.end_connection-in-Bad.new.self) (sym c.in-Bad.is) (now g s is rest.notes tells)) c.end_connection-in-Bad.ensures.ended

pub returns-in-WriteFailed-clause-happened : goal.returns-in-WriteFailed-clause-happened
unfolding happen
returns-in-WriteFailed-clause-happened w c = on_ok_weaker c.fail_write.result (λ now. λ g s is rest tells lets. subst (λ (e : Event). IsSpace g (happen g (event_of e) s) c.fail_write.new.self) (sym c.in-WriteFailed.is) (now g s is rest.notes tells)) c.fail_write.ensures.failed

pub returns-in-RootAck-clause-lent : goal.returns-in-RootAck-clause-lent
returns-in-RootAck-clause-lent w c = lent-same c.root_ack.ensures.tasks
