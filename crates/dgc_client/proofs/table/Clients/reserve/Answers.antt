use Rattle.std.proofs.Common.{refl}
use Rattle.dgc_client.proofs.TableLemmas.{after-touched}
use Rattle.dgc_client.proofs.SoundLemmas.{sound-same}
use Rattle.dgc_client.proofs.table.Clients.reserve.Goals as goal

pub returns-clause-same : goal.returns-clause-same
returns-clause-same c = λ h was.
    after-touched h c.args.self.now _ c.reserve.ensures.moment refl c.reserve.ensures.leases (sound-same c.args.self.now c.reserve.new.self c.reserve.ensures.leases c.reserve.ensures.moment was.sound) was
