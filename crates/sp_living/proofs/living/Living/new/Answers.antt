use Rattle.std.proofs.Common.{arith, ℕ, List, Option, [], refl, sym, subst}
use Rattle.space_ids.specs.declared.value.Value.{Value}
use Rattle.sp_rules.specs.State.{opening}
use Rattle.sp_tasks.specs.Rows.{TaskTable}
use Rattle.sp_living.specs.Parts.{AreResults, AreTasks}
use Rattle.sp_living.proofs.living.Living.new.Goals as goal

pub returns : goal.returns
unfolding opening
returns c = λ g same. record {
  id = sym same;
  moment = record { same = refl; fits = omega arith };
  transport = c.new-5.ensures;
  tasks = subst (λ (t : TaskTable). AreTasks g 0 [] t) (sym c.new.ensures) (record { rows = refl; last = refl; runs = tt; numbers = tt; idle = tt });
  results = subst (λ (rows : List (ℕ × Option Value)). AreResults 0 [] rows c.new-3.result) (sym c.in_ok-new.ensures) (record { of_own = refl; of_calls = c.new-3.ensures 0 });
  parked = record { frames = []; are = refl; ticketed = c.new-4.ensures.frames; once = tt };
}
