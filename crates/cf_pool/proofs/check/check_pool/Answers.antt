use Rattle.std.proofs.Common.{Bool, Option, List, get_or, refl, rules, subst, sym}
use Rattle.std.proofs.lemmas.Result.{err_from_is_err_and}
use Rattle.cf_pool.specs.declared.layout.Positions.{Positions}
use Rattle.cf_pool.proofs.Known.{nothing}
use Rattle.cf_pool.specs.Known.{Knows}
use Rattle.cf_pool.specs.Pools.{index_demands, is_class_entry_name, pool_demands}
use Rattle.cf_text.specs.Names.{is_name}
use Rattle.cf_text.proofs.Verdicts.{of_each-goes_on, of_each-fails, of_each-end}
use Rattle.cf_pool.proofs.check.check_pool.Goals as goal

-- what stands past the end of a row of positions
nowhere : Positions
nowhere = record { first = 0; second = 0 }

pub loop-index-init : goal.loop-index-init
unfolding pool_demands
loop-index-init c = record {
  left = refl;
  classes = subst (λ (ks : List (Option Bool)). Knows is_class_entry_name c.args.layout.now.pool ks) (sym c.in_ok-known.ensures.classes) (nothing is_class_entry_name c.args.layout.now.pool _);
  names = subst (λ (ks : List (Option Bool)). Knows is_name c.args.layout.now.pool ks) (sym c.in_ok-known.ensures.names) (nothing is_name c.args.layout.now.pool _);
}

pub returns-in_err-check_index : goal.returns-in_err-check_index
unfolding pool_demands nowhere
returns-in_err-check_index c =
    let p = err_from_is_err_and c.from_residual-in_err-check_index.result c.from_residual-in_err-check_index.ensures.1 in
    let positions = c.args.layout.now.positions in
    rw (p.1, p.2) (of_each-fails (index_demands c.args.layout.now.pool) positions c.loop-index.index nowhere (get_or positions c.loop-index.index nowhere) (search rules) refl c.loop-index.invariant.left c.in_err-check_index.field-0.0 (search rules))

pub loop-index-preserved : goal.loop-index-preserved
unfolding pool_demands nowhere
loop-index-preserved c =
    let positions = c.args.layout.now.positions in
    record {
      left = of_each-goes_on (index_demands c.args.layout.now.pool) positions c.loop-index.index nowhere (get_or positions c.loop-index.index nowhere) (search rules) refl c.loop-index.invariant.left (search rules);
      classes = c.check_index.ensures.classes;
      names = c.check_index.ensures.names;
    }

pub returns : goal.returns
unfolding pool_demands
returns c = of_each-end (index_demands c.args.layout.now.pool) c.args.layout.now.positions c.loop-index.index (search rules) c.loop-index.invariant.left
