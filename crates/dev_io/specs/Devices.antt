-- Devices over memory: their bytes, and how many of them a call moves. (This project's own.)
use Rattle.std.specs.Prelude.{ℕ, List}
use Rattle.dev_io.specs.declared.calls.Calls.{Calls}

-- what a source over memory has left to give, at most how much of it a call, and its calls
pub record Supply : Type 0 where
  pub bytes : List ℕ
  pub step : ℕ
  pub calls : Calls

-- what a sink over memory has taken, how much it can hold, at most how much it takes a call, and its calls
pub record Store : Type 0 where
  pub bytes : List ℕ
  pub room : ℕ
  pub step : ℕ
  pub calls : Calls
