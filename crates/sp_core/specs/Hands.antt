-- Tasks in hand, where they stand, and the events in which they come back. (This project's own.)
use Rattle.std.specs.Prelude.{◌≡◌, ◌==◌, ◌&&◌, ◌+◌, ℕ, Bool, true, false, Option, None, Some, IfSome}
use Rattle.sp_rules.specs.Behaviours.{Op as Asked, Create, Get, Put, Call}
use Rattle.sp_rules.specs.Classes.{Setting}
use Rattle.sp_rules.specs.Events as rules
use Rattle.sp_rules.specs.State.{State}
use Rattle.sp_tasks.specs.Behaviours.{op_of}
use Rattle.sp_tasks.specs.Lent.{KeepsLent, LendsToo}
use Rattle.sp_tasks.specs.Rows.{Hand, replied_hand}
use Rattle.sp_tasks.specs.declared.behaviour.Op.{Op}
use Rattle.sp_living.specs.Hands as living
use Rattle.sp_state.specs.Hands as state
use Rattle.sp_state.specs.Spaces.{IsSpace}
use Rattle.sp_state.specs.declared.space_state.SpaceState.{SpaceState}

-- The machine of a task in hand has this fuel left.
abbrev pub HasFuel : Setting → Hand → ℕ → Type 0
HasFuel g hand fuel = fuel ≡ (living.task_of g hand).fuel

-- ---- the second of two states

-- The second of two equal states is the state of the rules too, and lends the same tasks.
pub record IsSecond (g : Setting) (s : State) (first second : SpaceState) : Type 0 where
  pub state : IsSpace g s second
  pub lent : KeepsLent first.living.tasks second.living.tasks

-- whether the second state lends the twin of a task in hand, if there are both
abbrev pub fits : Option SpaceState → Hand → Option Hand → Bool
fits None hand twin = true
fits (Some spare) hand None = true
fits (Some spare) hand (Some twin) = (twin.id == hand.id && twin.made == hand.made) && state.has_lent spare twin

-- What a state becomes as it lends a task, and answers it or that it may not be lent.
pub record IsLentIn (id : ℕ) (old new : SpaceState) (hand : Option Hand) : Type 0 where
  pub twin : hand ≡ state.hand_at id old
  pub same : (g : Setting) (s : State) → IsSpace g s old → IsSpace g s new
  pub lent : IfSome hand (λ _. LendsToo id old.living.tasks new.living.tasks)

-- The same of the second state, if there is one.
abbrev pub IsLentToo : ℕ → Option SpaceState → Option SpaceState → Option Hand → Type 0
IsLentToo id None None hand = Unit {0}
IsLentToo id None (Some new) hand = ⊥
IsLentToo id (Some old) None hand = ⊥
IsLentToo id (Some old) (Some new) hand = IsLentIn id old new hand

-- The twin of a task after more instructions, or none.
abbrev pub HasRun : ℕ → Option Hand → Option Hand → Type 0
HasRun made twin None = Unit {0}
HasRun made None (Some after) = ⊥
HasRun made (Some twin) (Some after) = after ≡ record twin { made = twin.made + made }

-- ---- events

abbrev pub committed : Hand → Op → rules.Event
committed hand op = rules.Committed hand.id hand.made (op_of op)

abbrev pub parked : Hand → rules.Event
parked hand = rules.Parked hand.id hand.made

abbrev pub given_back : Hand → rules.Event
given_back hand = rules.GivenBack hand.id hand.made

abbrev pub finished : Hand → rules.Event
finished hand = rules.Finished hand.id hand.made

-- whether what a task asks for is an operation on the store, and no call
abbrev pub is_on_store : Asked → Bool
is_on_store (Create class) = true
is_on_store (Get object slot) = true
is_on_store (Put object slot value) = true
is_on_store (Call target method arguments) = false
