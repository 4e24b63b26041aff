-- Events that are played in pieces.
use Rattle.std.proofs.Common.{◌≡◌, List, [], ◌∷◌, ◌++◌, refl}
use Rattle.sp_rules.specs.Worlds.{World, WorldEvent, after, run}

pub pieces : (w : World) (some others : List WorldEvent) → run (run w some) others ≡ run w (some ++ others)
unfolding run
pieces w [] others = refl
pieces w (e ∷ es) others = pieces (after w e) es others
