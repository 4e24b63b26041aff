use Rattle.std.proofs.Common.{Ok, Err, rules}
use Rattle.cf_load.proofs.Front.{loaded}
use Rattle.cf_load.specs.declared.load_fault.LoadFault.TheVariants.{Read}
use Rattle.cf_load.proofs.source.load.Goals as goal

pub returns-in-Ok-read_class-clause-all : goal.returns-in-Ok-read_class-clause-all
returns-in-Ok-read_class-clause-all g c =
    loaded (g.S.Source.remaining c.args.source.now) c.deref.result.now (Ok c.in-Ok-read_class.class) (search rules) (search rules)

pub returns-clause-all : goal.returns-clause-all
returns-clause-all g c =
    loaded (g.S.Source.remaining c.args.source.now) c.deref.result.now (Err (Read c.in-Err.fault)) (search rules) (search rules)
