use Rattle.std.proofs.Common.{sym, ◌∙◌}
use Rattle.std.specs.List.{list_any}
use Rattle.sp_rules.specs.References.{is_reference_in, references_in}
use Rattle.sp_rules.specs.State.{KeptResult, Living}
use Rattle.sp_holders.proofs.AnyLemmas.{or-left, or-right}
use Rattle.sp_holders.proofs.PlaceLemmas.{root-has, roots-have, tasks-have}
use Rattle.sp_holders.proofs.holder.is_in_table.Goals as goal

pub returns-in-Task : goal.returns-in-Task
returns-in-Task c = λ has. λ g s a.
    let r = c.args.reference.now in
    or-left (list_any (λ (t : Living). is_reference_in t.task.held r) s.tasks) (list_any (λ (k : KeptResult). is_reference_in (references_in k.value) r) s.results)
    (sym (tasks-have r c.tasks.result.now.rows s.tasks (c.tasks.ensures.are g s a).rows) ∙ c.task_has.ensures has)

pub returns-in-Result : goal.returns-in-Result
returns-in-Result c = λ has. λ g s a.
    let r = c.args.reference.now in
    or-right (list_any (λ (t : Living). is_reference_in t.task.held r) s.tasks) (list_any (λ (k : KeptResult). is_reference_in (references_in k.value) r) s.results)
    (root-has r s.results (sym (roots-have r c.results.result.now s.results (c.results.ensures g s a)) ∙ c.result_has.ensures has))

pub returns-in-Call : goal.returns-in-Call
returns-in-Call c = λ has. λ g s a.
    let r = c.args.reference.now in
    or-right (list_any (λ (t : Living). is_reference_in t.task.held r) s.tasks) (list_any (λ (k : KeptResult). is_reference_in (references_in k.value) r) s.results)
    (c.call_has.ensures has s.moment s.results (c.call_results.ensures g s a))
