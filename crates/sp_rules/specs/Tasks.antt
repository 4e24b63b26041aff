-- A task: what it does from here on, its fuel, and the references that it holds. (This project's own rules of fuel and of what a task may use.)
use Rattle.std.specs.Prelude.{ℕ, zero, suc, Bool, true, false, ◌+◌, ◌-◌, min, nat_le, List, [], length, drop, Option, if◌then◌else◌}
use Rattle.space_ids.specs.declared.ids.Ref.{Ref}
use Rattle.space_ids.specs.declared.value.Value.{Value}
use Rattle.sp_rules.specs.Behaviours.{Outcome, Threw, Spent, Op, Reply, Gives, GivesBack, Throws, RunsOut, Behaviour, Plain, Asks, Ends, Over}
use Rattle.sp_rules.specs.Classes.{Setting}
use Rattle.sp_rules.specs.References.{references_in, references_of, with_references}

pub record Task : Type 0 where
  pub behaviour : Behaviour
  pub fuel : ℕ
  -- the instructions that it executed
  pub made : ℕ
  -- the references that it holds, each once, in the order in which they came
  pub held : List Ref

-- the point at which a task stands: before an instruction of its own, at one that asks, or at its end
pub data Stand : Type 0 where
  Runs : Stand
  AsksFor : (op : Op) → Stand
  HasEnded : (outcome : Outcome) → Stand

-- A task with no fuel left ends as Spent before its next instruction.
abbrev pub stand_at : Behaviour → ℕ → Stand
stand_at (Over outcome) fuel = HasEnded outcome
stand_at (Plain next) zero = HasEnded Spent
stand_at (Plain next) (suc fuel) = Runs
stand_at (Asks op next) zero = HasEnded Spent
stand_at (Asks op next) (suc fuel) = AsksFor op
stand_at (Ends outcome) zero = HasEnded Spent
stand_at (Ends outcome) (suc fuel) = Runs

unfoldable pub stand : Task → Stand
stand t = stand_at t.behaviour t.fuel

-- ---- instructions of its own

abbrev pub after_own : Behaviour → Behaviour
after_own (Plain next) = next
after_own (Asks op next) = Asks op next
after_own (Ends outcome) = Over outcome
after_own (Over outcome) = Over outcome

abbrev pub step_at : Stand → Task → Task
step_at Runs t = record t { behaviour = after_own t.behaviour; fuel = t.fuel - 1; made = t.made + 1 }
step_at (AsksFor op) t = t
step_at (HasEnded outcome) t = t

-- An instruction takes one unit of fuel.
unfoldable pub step : Task → Task
step t = step_at (stand t) t

-- whether a task is at its end, whatever fuel it has left
abbrev pub is_at_end : Behaviour → Bool
is_at_end (Plain next) = false
is_at_end (Asks op next) = false
is_at_end (Ends outcome) = false
is_at_end (Over outcome) = true

-- n instructions of its own
unfoldable pub steps : ℕ → Task → Task
steps zero t = t
steps (suc k) t = steps k (step t)

-- ---- replies

-- what it does after the value that it asked for
abbrev pub after_reply : Behaviour → Option Value → Behaviour
after_reply (Plain next) value = Plain next
after_reply (Asks op next) value = next value
after_reply (Ends outcome) value = Ends outcome
after_reply (Over outcome) value = Over outcome

-- If the references of a task are more than its limit, it throws OutOfMemoryError.
abbrev pub within_limit : Setting → List Ref → Behaviour → Behaviour
within_limit g references b = if nat_le (length references) g.limits.references then b else Over (Threw g.classes.out_of_memory)

-- A task holds each reference of its arguments and replies until it ends.
abbrev pub with_value : Setting → Option Value → Task → Task
with_value g value t = record t {
  held = with_references t.held (references_in value);
  behaviour = within_limit g (with_references t.held (references_in value)) (after_reply t.behaviour value);
}

-- The instruction that asks takes one unit too, and the reply to a call gives back the fuel left.
abbrev pub pay_with : ℕ → ℕ → Task → Task
pay_with zero back t = record t { fuel = back }
pay_with (suc left) back t = record t { fuel = left + back; made = t.made + 1 }

abbrev pub pay : ℕ → Task → Task
pay back t = pay_with t.fuel back t

-- A thrown class ends the task, and a callee that is Spent makes its caller Spent.
abbrev pub ended_with : Outcome → Task → Task
ended_with outcome t = record t { behaviour = Over outcome }

abbrev pub answered : Setting → Reply → Task → Task
answered g (Gives value) t = with_value g value (pay 0 t)
answered g (GivesBack value fuel) t = with_value g value (pay fuel t)
answered g (Throws class) t = ended_with (Threw class) (pay 0 t)
answered g RunsOut t = ended_with Spent (pay 0 t)

-- the instruction that asks is completed
unfoldable pub answer : Setting → Reply → Task → Task
answer g reply t = answered g reply t

-- the references that a task holds after something and did not hold before
abbrev pub gained : Task → Task → List Ref
gained before after = drop (length before.held) after.held

-- ---- calls

-- A remote call takes its unit and lends all the rest.
abbrev pub lent : Task → ℕ
lent t = t.fuel - 1

-- the unit of the call itself stays with the task until the reply comes
unfoldable pub lend_fuel : Task → Task
lend_fuel t = record t { fuel = min 1 t.fuel }

-- ---- starts

unfoldable pub start : Setting → ℕ → List Value → ℕ → Task
start g method arguments fuel = record {
  behaviour = within_limit g (with_references [] (references_of arguments)) (g.classes.behaviour g.id g.limits method arguments fuel);
  fuel = fuel;
  made = 0;
  held = with_references [] (references_of arguments);
}
