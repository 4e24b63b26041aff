-- How a device over memory counts its calls: the call that is chosen to fail, and each after it, fails. (This project's own.)
use Rattle.std.specs.Prelude.{ℕ, ◌-◌, zero, suc, Bool, true, false}
use Rattle.dev_io.specs.declared.calls.Calls.{Calls}
use Rattle.dev_io.specs.declared.calls.Calls.TheVariants.{Unlimited, Left, Failed}

-- what one more call leaves of the calls
abbrev pub after_call : Calls → Calls
after_call Unlimited = Unlimited
after_call (Left zero) = Failed
after_call (Left (suc n)) = Left n
after_call Failed = Failed

-- whether a call has failed
abbrev pub is_failed : Calls → Bool
is_failed Unlimited = false
is_failed (Left n) = false
is_failed Failed = true

-- the calls if the call of this number, counted from 1, has to fail: a device that has failed stays failed
abbrev pub failing_at : ℕ → Calls → Calls
failing_at call Unlimited = Left (call - 1)
failing_at call (Left n) = Left (call - 1)
failing_at call Failed = Failed
