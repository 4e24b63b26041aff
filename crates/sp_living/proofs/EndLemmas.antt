-- Nothing is asked on a connection that a peer dialled.
use Rattle.std.proofs.Common.{◌≡◌, ℕ, false, List, [], ◌∷◌, None, refl, ap}
use Rattle.std.specs.Prelude.{filter, not}
use Rattle.sp_rules.specs.Endings.{is_of_connection}
use Rattle.sp_rules.specs.ParkedFrames.{remove_requests}
use Rattle.sp_rules.specs.State.{State, Request}

none-of : (rs : List Request) → filter (λ (r : Request). false) rs ≡ []
none-of [] = refl
none-of (r ∷ rs) = none-of rs

all-of : (rs : List Request) → filter (λ (r : Request). not false) rs ≡ rs
all-of [] = refl
all-of (r ∷ rs) = ap (λ l. r ∷ l) (all-of rs)

pub none-ends : (conn : ℕ) (rs : List Request) → filter (is_of_connection conn None) rs ≡ []
none-ends conn rs = none-of rs

pub none-removed : (conn : ℕ) (s : State) → remove_requests (is_of_connection conn None) s ≡ s
none-removed conn s = ap (λ rs. record s { requests = rs }) (all-of s.requests)
