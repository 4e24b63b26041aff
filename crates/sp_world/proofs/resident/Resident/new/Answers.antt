use Rattle.std.proofs.Common.{ap, sym}
use Rattle.sp_world.specs.Residents.{told}
use Rattle.sp_world.proofs.resident.Resident.new.Goals as goal

pub returns : goal.returns
returns g c = λ s is. record { space = is; outputs = sym (ap told c.new.ensures.items) }
