-- What holds after every history that a space took holds of the spaces of worlds.
use Rattle.std.proofs.Common.{◌≡◌, List, [], ◌∷◌, subst, sym}
use Rattle.sp_rules.specs.Laws.{AllOf, HasHistory, StatesAreHistories}
use Rattle.sp_rules.specs.Origins.{HasTaken, HistoriesAreTaken, OwnReferencesStand, OwnStand}
use Rattle.sp_rules.specs.State.{State}
use Rattle.sp_rules.specs.Worlds.{Space, run, new_world}
use Rattle.sp_held_laws.specs.Standing.{HasOwnStanding, OwnReferencesStandInWorlds}

all-stand : OwnReferencesStand → (spaces : List Space) → AllOf HasTaken spaces → AllOf HasHistory spaces → AllOf HasOwnStanding spaces
all-stand own [] taken same = tt
all-stand own (s ∷ spaces) taken same =
    (subst (λ (now : State). OwnStand s.setting now) (sym same.0) (own s.setting s.history taken.0), all-stand own spaces taken.1 same.1)

pub own_references_stand_in_worlds : HistoriesAreTaken → StatesAreHistories → OwnReferencesStand → OwnReferencesStandInWorlds
own_references_stand_in_worlds taken same own settings events =
    all-stand own (run (new_world settings) events).spaces (taken settings events) (same settings events)
