use Rattle.std.proofs.Common.{◌≡◌, sym, ap, ◌∙◌}
use Rattle.std.specs.Prelude.{◌||◌}
use Rattle.std.specs.List.{list_any}
use Rattle.std.proofs.lemmas.Result.{on_ok_weaker}
use Rattle.uuid.specs.declared.Uuid.{Uuid}
use Rattle.sp_rules.specs.Holders.{is_held_by_tasks, is_parked}
use Rattle.sp_rules.specs.References.{is_id_in, own_ids, references_in}
use Rattle.sp_rules.specs.State.{KeptResult, Living}
use Rattle.sp_results.specs.Held.{is_named_in, of_calls, of_roots}
use Rattle.sp_results.proofs.RootLemmas.{any-of-both}
use Rattle.sp_endings.proofs.NeedLemmas.{gathered, roots-any, tasks-any}
use Rattle.sp_endings.proofs.needing.insert_own.Goals as goal

pub returns : goal.returns
returns c = on_ok_weaker c.insert_parked.result (λ parked. λ g s a id.
    let own = c.id-own.result in
    let mine : own ≡ g.id = c.id-own.ensures g s a in
    let living = c.tasks.ensures.are g s a in
    let before = is_id_in c.args.ids.now id in
    let first = is_id_in c.insert_own.new.ids id in
    let second = is_id_in c.insert_own-2.new.ids id in
    let third = is_id_in c.insert_own-3.new.ids id in
    let held = is_held_by_tasks g s id in
    let names = λ (r : KeptResult). is_id_in (own_ids g.id (references_in r.value)) id in
    let tasks = c.in_ok-insert_own.ensures id ∙ ap (λ b. before || b) (tasks-any own id c.tasks.result.now.rows s.tasks living.rows ∙ ap (λ (u : Uuid). list_any (λ (t : Living). is_id_in (own_ids u t.task.held) id) s.tasks) mine) in
    let roots = c.in_ok-insert_own-2.ensures id ∙ ap (λ b. first || b) (roots-any own id c.results.result.now (of_roots s.results) (c.results.ensures g s a) ∙ ap (λ (u : Uuid). is_named_in u (of_roots s.results) id) mine) in
    let calls = c.in_ok-insert_own-3.ensures s.moment s.results (c.call_results.ensures g s a) id ∙ ap (λ b. second || b) (ap (λ (u : Uuid). is_named_in u (of_calls s.results) id) mine) in
    gathered (is_id_in c.insert_parked.new.ids id) third second first before held (list_any names (of_roots s.results)) (list_any names (of_calls s.results)) (is_parked g s id) tasks roots calls
    (parked g s mine (c.parked.ensures g s a) id)
    ∙ ap (λ b. before || (held || (b || is_parked g s id))) (sym (any-of-both names s.results))) c.insert_parked.ensures
