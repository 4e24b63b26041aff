-- The dials that wait, as the pairs of a world by the rules of spaces. (This project's own.)
use Rattle.std.specs.Prelude.{ℕ, List, map}
use Rattle.sp_pipes.specs.declared.dials.Dial.{Dial}
use Rattle.sp_pipes.specs.declared.dials.Dials.{Dials}

abbrev pub pair_of : Dial → ℕ × ℕ
pair_of dial = (dial.dialler, dial.dialled)

-- all of them, oldest first
abbrev pub asked : Dials → List (ℕ × ℕ)
asked dials = map pair_of dials.rows.items
