use Rattle.std.proofs.Common.{ℕ, List, Option, sym, ap, subst, map, ◌∙◌}
use Rattle.std.proofs.lemmas.Result.{IfOk-at_ok}
use Rattle.space_ids.specs.declared.value.Value.{Value}
use Rattle.sp_rules.specs.Laws.{AllOf}
use Rattle.sp_tasks.specs.Rows.{TaskTable}
use Rattle.sp_living.specs.Parts.{IsIdle}
use Rattle.sp_living.specs.Views.{kept, seen_row}
use Rattle.sp_living.proofs.living.Living.copy.Goals as goal

pub returns : goal.returns
returns c = record {
  copied = λ g s is fresh notes.
      let all = c.in_ok-tasks.ensures in
      let rest = IfOk-at_ok _ all.1 c.both.ensures in
      let ended = IfOk-at_ok _ rest.0 c.both-ended.ensures in
      let carried = IfOk-at_ok _ rest.1 c.both-carried.ensures in
      let tasks = IfOk-at_ok _ all.0 c.copy-5.ensures.copied in record {
        id = is.id;
        moment = is.moment;
        transport = IfOk-at_ok _ carried.1 c.copy-4.ensures.copied s is.transport fresh notes;
        tasks = record {
          rows = ap (λ (t : TaskTable). map seen_row t.rows) tasks ∙ is.tasks.rows;
          last = ap (λ (t : TaskTable). t.made) tasks ∙ is.tasks.last;
          runs = is.tasks.runs;
          numbers = is.tasks.numbers;
          idle = subst (λ (t : TaskTable). AllOf IsIdle t.rows) (sym tasks) is.tasks.idle;
        };
        results = record {
          of_own = ap (λ (rows : List (ℕ × Option Value)). map kept rows) (IfOk-at_ok _ ended.0 c.copy.ensures.copied) ∙ is.results.of_own;
          of_calls = IfOk-at_ok _ ended.1 c.copy-2.ensures.copied s.moment s.results is.results.of_calls;
        };
        parked = record {
          frames = is.parked.frames;
          are = is.parked.are;
          ticketed = IfOk-at_ok _ carried.0 c.copy-3.ensures.copied is.parked.frames is.parked.ticketed;
          once = is.parked.once;
        };
      };
  rows = ap (λ (t : TaskTable). t.rows) (IfOk-at_ok _ c.in_ok-tasks.ensures.0 c.copy-5.ensures.copied);
}
