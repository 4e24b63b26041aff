use Rattle.std.proofs.Common.{refl, ap}
use Rattle.sp_rules.specs.OwnEvents.{is_among}
use Rattle.sp_rules.specs.State.{opening}
use Rattle.sp_transport.proofs.ViewLemmas.{opening-lines}
use Rattle.sp_transport.proofs.transport.Transport.new.Goals as goal

pub returns : goal.returns
unfolding opening
returns c = record {
  leases = c.with_hashes.ensures;
  connections = c.new.ensures;
  noted = λ peer. ap (λ l. is_among l peer) c.new-2.ensures;
  asked = c.new-3.ensures;
  calls_made = refl;
  groups_made = refl;
  fresh = refl;
  notes = c.new-4.ensures;
  lines = opening-lines;
}
