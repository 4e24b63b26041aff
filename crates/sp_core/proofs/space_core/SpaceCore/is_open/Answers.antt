use Rattle.std.proofs.Common.{ap, ◌∙◌}
use Rattle.std.specs.Prelude.{is_some}
use Rattle.sp_requests.specs.Tables.{seen}
use Rattle.sp_rules.specs.State.{connection_at}
use Rattle.sp_core.proofs.CheckLemmas.{is-mapped}
use Rattle.sp_core.proofs.space_core.SpaceCore.is_open.Goals as goal

pub returns : goal.returns
returns c = λ g s is. c.is_some.ensures ∙ ap is_some (c.connection.ensures s (c.transport.ensures g s (c.living.ensures.stands g s is.state))) ∙ is-mapped seen (connection_at s c.args.conn)
