-- A world after what one of its spaces answered was let go. (This project's own.)
use Rattle.std.specs.Prelude.{ℕ, []}
use Rattle.sp_rules.specs.Lists.{at_index}
use Rattle.sp_rules.specs.Worlds as rules

-- a space as if it had answered nothing until now; its setting, its history and its state are what they were
abbrev pub silent : rules.Space → rules.Space
silent s = record s { outputs = [] }

-- a world with such a space
abbrev pub without_outputs : ℕ → rules.World → rules.World
without_outputs number w = record w { spaces = at_index silent number w.spaces }
