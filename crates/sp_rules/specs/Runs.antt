-- What a living task is: its start, and then what its own record says: replies, each after instructions of its own. (This project's own rule.)
use Rattle.std.specs.Prelude.{◌≡◌, Bool, true, false, List, [], ◌∷◌}
use Rattle.sp_rules.specs.Classes.{Setting}
use Rattle.sp_rules.specs.State.{Beginning, Given, Living}
use Rattle.sp_rules.specs.Tasks.{Task, start, steps, answer, lend_fuel}

-- A task that waits for the reply to a call has lent its fuel.
abbrev pub lent_if : Bool → Task → Task
lent_if true t = lend_fuel t
lent_if false t = t

-- a task after the replies that it was given, newest first
abbrev pub replayed : Setting → Beginning → List Given → Task
replayed g b [] = start g b.method b.arguments b.fuel
replayed g b (given ∷ more) = answer g given.reply (lent_if given.lent (steps given.steps (replayed g b more)))

-- the point to which its record brings a living task
abbrev pub recorded : Setting → Living → Task
recorded g t = lent_if t.waits (steps t.steps (replayed g t.began t.given))

abbrev pub AreRecorded : Setting → List Living → Type 0
AreRecorded g [] = Unit {0}
AreRecorded g (t ∷ ts) = (t.task ≡ recorded g t) × AreRecorded g ts
