use Rattle.std.proofs.Common.{sym, ap, ◌∙◌}
use Rattle.std.specs.Prelude.{map}
use Rattle.sp_pipes.specs.Asked.{pair_of}
use Rattle.sp_pipes.proofs.DialLemmas.{not-there, removed}
use Rattle.sp_pipes.proofs.dials.Dials.remove.Goals as goal

pub returns-in_default : goal.returns-in_default
returns-in_default c = not-there c.args.dialler c.args.dialled c.args.self.now.rows.items (sym c.find.ensures ∙ c.in_default.is)

pub returns : goal.returns
returns c = ap (map pair_of) c.remove.ensures.items ∙ removed c.args.dialler c.args.dialled c.args.self.now.rows.items c.in-Some.index (sym c.find.ensures ∙ c.in-Some.is)
