use Rattle.std.proofs.Common.{sym, ap, ◌∙◌}
use Rattle.std.specs.Prelude.{◌||◌}
use Rattle.std.specs.List.{list_any}
use Rattle.sp_results.specs.Held.{of_roots}
use Rattle.sp_rules.specs.References.{is_reference_in, references_in}
use Rattle.sp_rules.specs.State.{KeptResult}
use Rattle.sp_holders.proofs.PlaceLemmas.{roots-have, tasks-have}
use Rattle.sp_holders.proofs.tables.is_in_own_tables.Goals as goal

pub returns-then-has_reference : goal.returns-then-has_reference
returns-then-has_reference c = λ g s a.
    let r = c.args.reference.now in
    let roots = list_any (λ (k : KeptResult). is_reference_in (references_in k.value) r) (of_roots s.results) in
    c.if-has_reference.true ∙ ap (λ t. t || roots) (sym c.if-has_reference.true ∙ c.has_reference.ensures ∙ tasks-have r c.tasks.result.now.rows s.tasks (c.tasks.ensures.are g s a).rows)

pub returns-else-has_reference : goal.returns-else-has_reference
returns-else-has_reference c = λ g s a.
    let r = c.args.reference.now in
    let none = sym c.if-has_reference.false ∙ c.has_reference.ensures ∙ tasks-have r c.tasks.result.now.rows s.tasks (c.tasks.ensures.are g s a).rows in
    let roots = c.has_reference-else-has_reference.ensures ∙ roots-have r c.results.result.now s.results (c.results.ensures g s a) in
    λ j. none j || roots j
