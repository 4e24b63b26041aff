-- Ends and calls of lent tasks, as the ends of their events.
use Rattle.std.proofs.Common.{◌≡◌, ℕ, true, refl}
use Rattle.sp_rules.specs.Classes.{Setting}
use Rattle.sp_rules.specs.Events.{Finished, Parked}
use Rattle.sp_rules.specs.LivingTasks.{finish_task, park_call}
use Rattle.sp_rules.specs.Space.{finish_event, happen, on}
use Rattle.sp_rules.specs.State.{State}
use Rattle.sp_transport.specs.Settling.{MaySettle}
use Rattle.sp_state.specs.Spaces.{IsAtRest}
use Rattle.sp_state.proofs.EndLemmas.{happen-settles}
use Rattle.sp_state.proofs.HappenLemmas.{on-so}

pub end-may : (g : Setting) (s : State) (id k : ℕ) → IsAtRest s → MaySettle (finish_task g id k s)
unfolding happen
end-may g s id k rest = happen-settles g (Finished id k) s refl rest

pub end-is : (g : Setting) (s : State) (id k : ℕ) → on g (Finished id k) s ≡ finish_event true (finish_task g id k s)
unfolding happen
end-is g s id k = on-so g (Finished id k) s refl

pub call-may : (g : Setting) (s : State) (id k : ℕ) → IsAtRest s → MaySettle (park_call g id k s)
unfolding happen
call-may g s id k rest = happen-settles g (Parked id k) s refl rest

pub call-is : (g : Setting) (s : State) (id k : ℕ) → on g (Parked id k) s ≡ finish_event true (park_call g id k s)
unfolding happen
call-is g s id k = on-so g (Parked id k) s refl
