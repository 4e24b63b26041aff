-- A run in which a reference passes through a third space: the owner gives it to one client, which gives it to another and lets it go (Java RMI specification, 3.3: a live reference may be passed on).
use Rattle.std.specs.Prelude.{true, List, [], ◌∷◌, None, Some}
use Rattle.dgc_object.specs.OneClient as pair
use Rattle.dgc_object.specs.AllClients.{Event}
use Rattle.dgc_object.specs.AllClients.Event.{At, Sends, Parks, Goes, OwnLets}

-- newest first
abbrev pub passing : List Event
passing =
    At 0 pair.Arrives ∷ At 0 (pair.CleanMade 1) ∷ At 0 pair.Lets
    ∷ Goes [] (Some 0) 1 [] true ∷ At 1 pair.Answers ∷ At 1 pair.Arrives ∷ At 1 (pair.DirtyMade 0) ∷ OwnLets ∷ Parks [] (Some 0) 1 [] ∷ Sends (Some 0) (Some 1)
    ∷ Goes [] None 0 [] true ∷ At 0 pair.Answers ∷ At 0 pair.Arrives ∷ At 0 (pair.DirtyMade 0) ∷ Parks [] None 0 [] ∷ Sends None (Some 0) ∷ []
