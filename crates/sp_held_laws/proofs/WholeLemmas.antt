-- What an object is seen to pass by keeps it whole.
use mathlib.Core.Path.{sym, ap, subst, ◌∙◌}
use Rattle.std.proofs.Common.{arith}
use Rattle.std.specs.Prelude.{◌≡◌, ◌<◌, ◌≤◌, ℕ, nat_lt, Bool, List, [], ◌∷◌, Option, None, Some}
use Rattle.dgc_object.specs.AllClients.{World, Event, IsWhole, AreFitting, world_of, seen, lent, held_by, count, is_from, is_to, is_parked_at}
use Rattle.dgc_object.specs.OneClient as pair
use Rattle.dgc_object.specs.OneClient.{IsSafe}
use Rattle.dgc_object.proofs.AllClientsLemmas.{whole-after}
use Rattle.sp_held_laws.specs.SeenAs.{counts_of, IsLike, WhatIsSeenStaysWhole}

-- through all events
stays-whole : (x : World) (events : List Event) → AreFitting x events → IsWhole x → IsWhole (world_of x events)
stays-whole x [] fits whole = whole
stays-whole x (event ∷ events) fits whole = whole-after event (world_of x events) fits.0 (stays-whole x events fits.1 whole)

-- a client's machine is made of what counts
set-of : Bool → Bool → pair.State → pair.State
set-of stands other s = record s { stands = stands; other = other }

seen-like : (x y : World) → IsLike x y → (client : ℕ) → seen client x ≡ seen client y
unfolding set-of
seen-like x y k client =
    ap (set-of x.stands (nat_lt 0 (count (is_to client) x.frames))) (k.clients client)
    ∙ (ap (λ (b : Bool). set-of b (nat_lt 0 (count (is_to client) x.frames)) (counts_of (y.clients client))) k.stands
    ∙ ap (λ (n : ℕ). set-of y.stands (nat_lt 0 n) (counts_of (y.clients client))) (k.frames (is_to client)))

holds-like : (x y : World) → IsLike x y → (who : Option ℕ) → held_by who x ≡ held_by who y
holds-like x y k None = k.own
holds-like x y k (Some client) = ap (λ (s : pair.State). s.started) (k.clients client)

like-whole : (x y : World) → IsLike x y → IsWhole y → IsWhole x
like-whole x y k whole = record {
  safe = λ client. subst IsSafe (sym (seen-like x y k client)) (whole.safe client);
  loans = λ who. let a : lent who y ≤ held_by who y = whole.loans who in let b : count (is_from who) x.frames ≡ count (is_from who) y.frames = k.frames (is_from who) in let c : held_by who x ≡ held_by who y = holds-like x y k who in omega arith;
  own_stands = λ some. k.stands ∙ whole.own_stands (subst (λ n. 0 < n) k.own some);
  parked = λ client. ap (λ (s : pair.State). s.parked) (k.clients client) ∙ (whole.parked client ∙ sym (k.frames (is_parked_at client)));
}

pub what_is_seen_stays_whole : WhatIsSeenStaysWhole
what_is_seen_stays_whole w v owner id events k whole = like-whole _ _ k.seen (stays-whole _ events k.fits whole)
