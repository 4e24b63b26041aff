use Rattle.std.proofs.Common.{sym, ◌∙◌}
use Rattle.std.specs.Cmp.Lexicographic.{pointwise_decides}
use Rattle.std.proofs.lemmas.Bool.Decides.{Decides-int_eq}
use Rattle.sp_same_events.proofs.values.same_ints.Goals as goal

pub returns : goal.returns
returns c = λ same. (pointwise_decides Decides-int_eq c.args.ints.now c.args.others.now).0 (sym c.eq.ensures ∙ same)
