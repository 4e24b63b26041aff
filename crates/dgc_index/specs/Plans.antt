-- A lease is due for renewal when not more than half of its period is left, and ends when all of it is over (Java RMI specification, 9.1; that it is half is this project's own rule).
use Rattle.std.specs.Prelude.{ℕ, ◌-◌, ◌/◌, Bool, nat_lt, nat_le}
use Rattle.dgc_index.specs.Deadlines.{over_at, IsPlanned}
use Rattle.dgc_index.specs.declared.plans.Plans.{Plans}
use Rattle.dgc_index.specs.declared.plans.Term.{Term}

-- whether the lease stands at a moment: its period, counted from the moment at which its dirty call was sent, is not over
abbrev pub stands_at : Term → ℕ → Bool
stands_at term moment = nat_lt (moment - term.sent) term.period

-- whether not more than half of the period is left at a moment: what is left is not more than what is over
abbrev pub is_half_over_at : Term → ℕ → Bool
is_half_over_at term moment = nat_le (term.period - (moment - term.sent)) (moment - term.sent)

-- when not more than half of the lease is left
abbrev pub half_at : Term → ℕ
half_at term = over_at term.sent (term.period - term.period / 2)

-- when all of it is over
abbrev pub end_at : Term → ℕ
end_at term = over_at term.sent term.period

-- the lease at an index may be this one
pub record IsPlannedTerm (plans : Plans) (term : Term) (index : ℕ) : Type 0 where
  pub half : IsPlanned plans.halves (record { moment = half_at term; index = index })
  pub end : IsPlanned plans.ends (record { moment = end_at term; index = index })
