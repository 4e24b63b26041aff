use Rattle.std.proofs.Common.{refl}
use Rattle.sp_parked.specs.Parkings.{naming, on_connection}
use Rattle.sp_parked.proofs.ParkingLemmas.{release}
use Rattle.sp_parked.proofs.parked.Parked.release.Goals as goal

pub returns-clause-same : goal.returns-clause-same
returns-clause-same c = λ frames a.
    release frames c.args.conn c.args.references.now c.args.self.now _ refl refl (c.remove_all.ensures (naming frames) a.named) (c.remove.ensures.removed (on_connection frames) a.came) a
