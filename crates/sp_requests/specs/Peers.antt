-- The requests of one peer among those of all, as a table for each peer keeps them. (This project's own.)
use Rattle.std.specs.Prelude.{◌≡◌, ℕ, true, List, filter}
use Rattle.std.specs.Str.{bytes_eq}
use Rattle.uuid.specs.declared.Uuid.{Uuid}
use Rattle.sp_rules.specs.ParkedFrames.{is_out_on}
use Rattle.sp_rules.specs.State.{Request}

-- the requests of a peer, in their order
abbrev pub of_peer : Uuid → List Request → List Request
of_peer peer rows = filter (λ (r : Request). bytes_eq r.peer peer) rows

-- What is out on the connection is asked of this peer.
abbrev pub IsWith : ℕ → Uuid → Request → Type 0
IsWith conn peer r = is_out_on conn r.stage ≡ true → r.peer ≡ peer
