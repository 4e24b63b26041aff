-- Tasks in hand: when one is the living task of a history, and the events in which it asks or comes back. (This project's own.)
use Rattle.std.specs.Prelude.{◌≡◌, ℕ, Option, None, Some, reverse}
use Rattle.sp_rules.specs.Events as rules
use Rattle.sp_rules.specs.State.{Living}
use Rattle.sp_tasks.specs.Behaviours.{op_of}
use Rattle.sp_tasks.specs.Rows.{Hand}
use Rattle.sp_tasks.specs.declared.behaviour.Op.{Op}

-- a task in hand that has made this many instructions of its own
abbrev pub with_made : ℕ → Hand → Hand
with_made made hand = record hand { made = made }

-- ---- its record

-- A task in hand is the living task if it began so, was given these replies, and had made as many instructions since the last as it was lent. A hand
-- has the oldest reply first.
abbrev pub IsHistorys : Option Living → Hand → Type 0
IsHistorys None hand = ⊥
IsHistorys (Some t) hand = (hand.past.began ≡ t.began) × (reverse hand.past.given ≡ t.given) × (hand.steps ≡ t.steps)

-- ---- events

abbrev pub committed : Hand → Op → rules.Event
committed hand op = rules.Committed hand.id hand.made (op_of op)

abbrev pub parked : Hand → rules.Event
parked hand = rules.Parked hand.id hand.made

abbrev pub given_back : Hand → rules.Event
given_back hand = rules.GivenBack hand.id hand.made

abbrev pub finished : Hand → rules.Event
finished hand = rules.Finished hand.id hand.made
