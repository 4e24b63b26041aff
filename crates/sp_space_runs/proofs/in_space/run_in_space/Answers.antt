use Rattle.std.specs.Prelude.{List}
use Rattle.std.proofs.Common.{subst, sym}
use Rattle.space_ids.specs.declared.value.Value.{Value}
use Rattle.sp_runs.specs.InSpace.{RunsInSpace}
use Rattle.sp_space_runs.proofs.in_space.run_in_space.Goals as goal

pub run_in_set-requires : goal.run_in_set-requires
run_in_set-requires c = record { program = c.requires.program; classes = c.in_ok-classes.ensures }

pub returns-clause-only : goal.returns-clause-only
returns-clause-only c = λ outcome runs.
    (c.run_in_set.ensures).only outcome
    (subst (λ (arguments : List Value). RunsInSpace c.args.program.now c.args.method arguments c.args.limits outcome) (sym c.deref.ensures.value) runs)
