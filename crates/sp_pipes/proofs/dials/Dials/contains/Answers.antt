use Rattle.std.proofs.Common.{◌∙◌, ap}
use Rattle.std.specs.Prelude.{is_some}
use Rattle.sp_pipes.proofs.DialLemmas.{any-found}
use Rattle.sp_pipes.proofs.dials.Dials.contains.Goals as goal

pub returns : goal.returns
returns c = c.is_some.ensures ∙ ap is_some c.find.ensures ∙ any-found c.args.dialler c.args.dialled c.args.self.now.rows.items
