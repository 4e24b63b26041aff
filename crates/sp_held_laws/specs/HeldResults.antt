-- The result of a call is held until its Ack (Java RMI specification, 3.3: an object that is referenced is not collected; that a result is held until it is acknowledged is this project's own rule).
use Rattle.std.specs.Prelude.{◌≡◌, ◌⊎◌, ℕ, List, [], ◌∷◌, Option}
use Rattle.net_message.specs.declared.message.Message.TheVariants as message
use Rattle.space_ids.specs.declared.value.Value.{Value}
use Rattle.sp_rules.specs.Classes.{Setting}
use Rattle.sp_rules.specs.Events.{Event, Received, Output, Send}
use Rattle.sp_rules.specs.Laws.{AllOf}
use Rattle.sp_rules.specs.Space.{state_of, outputs_of, on}
use Rattle.sp_rules.specs.State.{Acked, Passed, KeptResult}

-- the result is one of these
abbrev pub IsKept : KeptResult → List KeptResult → Type 0
IsKept k [] = ⊥
IsKept k (x ∷ xs) = (k ≡ x) ⊎ IsKept k xs

-- The result of the call of this number that came on the connection is held: until its Ack, or, where the connection ended, until some moment.
abbrev pub IsHeld : ℕ → ℕ → Option Value → List KeptResult → Type 0
IsHeld conn number value results = IsKept (record { until = Acked conn number; value = value }) results ⊎ ((moment : ℕ) × IsKept (record { until = Passed moment; value = value }) results)

-- What a Returned says is held.
abbrev pub HoldsWhatItSends : List KeptResult → Output → Type 0
HoldsWhatItSends results (Send conn (message.Returned number fuel value)) = IsHeld conn number value results
HoldsWhatItSends results _ = Unit {0}

-- So with each event after every history.
abbrev pub ResultsAreHeld : Type 0
ResultsAreHeld = (g : Setting) (h : List Event) (e : Event) → AllOf (HoldsWhatItSends (on g e (state_of g h)).0.results) (outputs_of g h e)

-- After every history, whatever event comes: a result that is held until its Ack is held on, if the event is not that Ack.
abbrev pub ResultsStayHeld : Type 0
ResultsStayHeld = (g : Setting) (h : List Event) (e : Event) (conn number : ℕ) (value : Option Value) → IsKept (record { until = Acked conn number; value = value }) (state_of g h).results
    → IsHeld conn number value (on g e (state_of g h)).0.results ⊎ (e ≡ Received conn (message.Ack number))
