use Rattle.std.proofs.Common.{refl, subst, ap, ◌∙◌}
use Rattle.std.specs.Prelude.{◌&&◌, is_none}
use Rattle.dgc_client.specs.History.Event.{DirtyFailed}
use Rattle.dgc_client.specs.Lease.{is_made}
use Rattle.dgc_client.specs.declared.groups.Group.{Group}
use Rattle.dgc_client.specs.declared.lease.ClientLease.{ClientLease}
use Rattle.sp_transport.specs.Answers.{tell_leases}
use Rattle.sp_transport.specs.Transports.{IsTransport}
use Rattle.sp_living.specs.Telling.{dirty_failed}
use Rattle.sp_living.proofs.LivingLemmas.{moved}
use Rattle.sp_living.proofs.living.Living.dirty_failed.Goals as goal

pub returns-clause-lacks : goal.returns-clause-lacks
returns-clause-lacks c = λ g s a. c.is_unleased-lacks.ensures ∙ ap (λ (l : ClientLease). is_made l.dirty c.args.call && is_none l.lease) (c.lease.ensures s a.transport)

pub returns-clause-failed : goal.returns-clause-failed
returns-clause-failed c = λ g s a.
    let told = subst (λ (group : Group). IsTransport (tell_leases group (DirtyFailed c.args.call) s) c.dirty_failed.new.self) c.in_ok-group.ensures (c.dirty_failed.ensures.told s a.transport) in
    moved g s (dirty_failed c.args.call s c.args.reference.now) c.args.self.now c.dirty_failed.new.self refl (λ b. told) a
