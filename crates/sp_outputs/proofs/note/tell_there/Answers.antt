use Rattle.std.proofs.Common.{◌++◌, map, sym, ap, ◌∙◌, append-nil}
use Rattle.sp_outputs.specs.Notes.{noted, output_of}
use Rattle.sp_outputs.proofs.RankLemmas.{all-left, none-told}
use Rattle.sp_outputs.proofs.note.tell_there.Goals as goal

pub returns-else-is_there-clause-told : goal.returns-else-is_there-clause-told
returns-else-is_there-clause-told c =
    sym (ap (λ l. map output_of c.args.told.now.items ++ l) (none-told c.args.rank (noted c.args.slots.now) (sym c.requires.there ∙ c.if-is_there.false)) ∙ append-nil (map output_of c.args.told.now.items))

pub returns-else-is_there-clause-others : goal.returns-else-is_there-clause-others
returns-else-is_there-clause-others c = sym (all-left c.args.rank (noted c.args.slots.now) (sym c.requires.there ∙ c.if-is_there.false))
