-- Spaces as scripts play them. (This project's own.)
use Rattle.std.specs.Prelude.{ℕ, List}
use Rattle.cls_link.specs.Links.{Links}
use Rattle.sim_shows.specs.declared.script_space.Shown.{Shown}
use Rattle.sp_core.specs.Shown as core
use Rattle.vm_step.specs.declared.limits.Limits.{Limits}

-- what spaces are made of: the linked set of their program, and the digest of its files
pub record Origins : Type 0 where
  pub links : Links
  pub digest : List ℕ

-- what a task of a space that is played may use
abbrev pub played_limits : Limits
played_limits = record { heap_words = 65536; stack_words = 16384; references = 1024; fuel = 1000000 }

-- what is shown of a standing object, as the rules say it
abbrev pub shown_of : Shown → core.Sight
shown_of x = record { id = x.id; class = x.class; names = x.names; entries = x.entries }
