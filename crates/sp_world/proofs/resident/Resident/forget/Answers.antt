use Rattle.std.proofs.Common.{ap, sym}
use Rattle.sp_world.specs.Residents.{told}
use Rattle.sp_world.proofs.resident.Resident.forget.Goals as goal

pub returns : goal.returns
returns g c = λ s r. record { space = r.space; outputs = sym (ap told c.clear.ensures.items) }
