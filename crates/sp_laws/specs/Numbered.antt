-- Sequence numbers: each dirty and clean call goes out under one of its own (Java RMI specification, 9.1: the sequence numbers of a client's calls rise).
use Rattle.std.specs.Prelude.{◌≡◌, ℕ, ◌+◌, ◌≤◌, ◌&&◌, Bool, List, filter, length}
use Rattle.dgc_client.specs.Table.{numbers_of}
use Rattle.sp_rules.specs.Classes.{Setting}
use Rattle.sp_rules.specs.Endings.{is_group}
use Rattle.sp_rules.specs.Events.{Event}
use Rattle.sp_rules.specs.Frames.{has_sequence}
use Rattle.sp_rules.specs.Space.{state_of}
use Rattle.sp_rules.specs.State.{State, Request}

-- whether a dirty or clean call is out under this sequence number
abbrev pub is_out_under : ℕ → Request → Bool
is_out_under sequence q = is_group q.asked && has_sequence sequence q.stage

-- the dirty and clean calls that are out under it and not answered
abbrev pub calls_under : ℕ → List Request → ℕ
calls_under sequence requests = length (filter (is_out_under sequence) requests)

-- Numbers rise by one from 1: each stands once at most, and one that was not given nowhere.
pub record HasFreshSequences (s : State) : Type 0 where
  pub once : (sequence : ℕ) → calls_under sequence s.requests ≤ 1
  pub from_one : calls_under 0 s.requests ≡ 0
  pub given : (sequence : ℕ) → numbers_of s.leases + 1 ≤ sequence → calls_under sequence s.requests ≡ 0

-- This holds after every history.
abbrev pub SequenceNumbersAreFresh : Type 0
SequenceNumbersAreFresh = (g : Setting) (h : List Event) → HasFreshSequences (state_of g h)
