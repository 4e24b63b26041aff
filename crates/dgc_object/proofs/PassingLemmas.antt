use Rattle.std.proofs.Common.{refl, arith}
use Rattle.dgc_object.specs.AllClients.{start, AreFitting}
use Rattle.dgc_object.specs.Passing.{passing}

pub passing-fits : AreFitting (start 1) passing
passing-fits = (tt, ((omega arith, refl, refl), (omega arith, ((refl, refl), (tt, (tt, ((omega arith, refl, omega arith), (omega arith, (refl, (omega arith, ((refl, refl), (tt, (tt, ((omega arith, refl, omega arith), (refl, (omega arith, tt))))))))))))))))
