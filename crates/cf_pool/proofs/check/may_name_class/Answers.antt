use Rattle.std.proofs.Common.{Bool, Option, None, List, ap, subst, sym, ◌∙◌}
use Rattle.std.specs.Prelude.{slice_index_or}
use Rattle.cf_pool.proofs.Known.{noted, right}
use Rattle.cf_pool.specs.Known.{Knows}
use Rattle.cf_pool.specs.Pools.{is_class_entry_name}
use Rattle.cf_pool.proofs.check.may_name_class.Goals as goal

pub returns-in-Some-clause-value : goal.returns-in-Some-clause-value
returns-in-Some-clause-value c =
    right is_class_entry_name c.args.pool.now c.args.known.now.items c.args.index c.in-Some.answer c.args.text.now c.requires.knows
    (sym (ap (λ (ks : List (Option Bool)). slice_index_or ks c.args.index None) c.deref.ensures.value) ∙ sym c.known_at.ensures ∙ c.in-Some.is) c.requires.text

pub returns-clause-knows : goal.returns-clause-knows
returns-clause-knows c =
    subst (λ (ks : List (Option Bool)). Knows is_class_entry_name c.args.pool.now ks) (sym c.note.ensures)
    (noted is_class_entry_name c.args.pool.now c.args.known.now.items c.args.index c.in_ok-answer.answer c.args.text.now c.requires.knows c.requires.text c.in_ok-answer.ensures.value)
