-- The limits that machines are given. (This project's own.)
use Rattle.std.specs.Prelude.{◌≡◌}
use Rattle.sp_rules.specs.Classes.{Setting}
use Rattle.vm_step.specs.declared.limits.Limits.{Limits}

-- The limits of a setting are those that machines are given.
pub record AreLimits (g : Setting) (limits : Limits) : Type 0 where
  pub heap : g.limits.heap ≡ limits.heap_words
  pub stack : g.limits.stack ≡ limits.stack_words
  pub references : g.limits.references ≡ limits.references
  pub fuel : g.limits.fuel ≡ limits.fuel
