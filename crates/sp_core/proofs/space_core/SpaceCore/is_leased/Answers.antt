use Rattle.std.proofs.Common.{ap, ◌∙◌}
use Rattle.std.specs.Prelude.{is_some}
use Rattle.dgc_client.specs.declared.lease.ClientLease.{ClientLease}
use Rattle.sp_core.proofs.space_core.SpaceCore.is_leased.Goals as goal

pub returns : goal.returns
returns c = λ g s is. c.is_some.ensures ∙ ap (λ (l : ClientLease). is_some l.lease) (c.lease.ensures s (c.transport.ensures g s (c.living.ensures.stands g s is.state)))
