-- Whether a world, as one object sees it, is as the machine of the object and its clients keeps it: the clauses of its invariant, each as a test (Java RMI specification, 3.3 and 9.1).
use Rattle.std.specs.Prelude.{ℕ, zero, suc, ◌==◌, ◌&&◌, ◌||◌, not, nat_lt, nat_le, Bool, true, false, List, [], ◌∷◌, Option, None, Some, is_none}
use Rattle.std.specs.List.{list_all}
use Rattle.dgc_object.specs.AllClients as objects
use Rattle.dgc_object.specs.OneClient as pair
use Rattle.sp_rules.specs.Lists.{numbers_below}
use Rattle.sp_rules.specs.Worlds.{World, after}
use Rattle.sp_scripts.specs.Scripts.{Sim, Line, SettleLine, possible, unless_bad}

-- ---- the machine's invariant

abbrev pub is_secure : pair.State → Bool
is_secure s = s.entry && not (pair.has_clean s.path)

-- of a dirty call that is on its way, if one is
abbrev pub of_way : Option ℕ → (ℕ → Bool) → Bool
of_way None is = true
of_way (Some call) is = is call

-- one client: each clause of `IsSafe`
abbrev pub is_safe : pair.State → Bool
is_safe s = list_all (λ (b : Bool). b) (
    (not s.entry || s.stands)
    ∷ (not s.other || s.stands)
    ∷ (s.parked == 0 || s.other)
    ∷ (not s.lease || is_secure s)
    ∷ (s.started == 0 || is_secure s)
    ∷ of_way s.way (λ call. pair.is_last call s.path)
    ∷ of_way s.way (λ call. not (pair.comes call s.coming) || is_secure s)
    ∷ of_way s.way (λ call. s.lease || (not (s.parked == 0) || is_secure s))
    ∷ (not s.lease || s.due)
    ∷ (is_none s.way || s.due)
    ∷ list_all (λ op. nat_lt (pair.call_of op) s.next) s.path
    ∷ list_all (λ call. nat_lt call s.next) s.coming
    ∷ [])

-- all clients among the first `spaces` spaces: each clause of `IsWhole`
abbrev pub is_whole : ℕ → objects.World → Bool
is_whole spaces w =
    list_all (λ client. is_safe (objects.seen client w)) (numbers_below spaces)
    && (list_all (λ client. nat_le (objects.lent (Some client) w) (objects.held_by (Some client) w)) (numbers_below spaces)
    && (nat_le (objects.lent None w) w.own
    && ((w.own == 0 || w.stands)
    && list_all (λ client. (w.clients client).parked == objects.count (objects.is_parked_at client) w.frames) (numbers_below spaces))))

-- ---- through a run

-- so it is in each world, event by event, until nothing is possible
unfoldable pub settles_with : ℕ → (World → Bool) → World → Bool
settles_with zero is w = is w
settles_with (suc n) is w = is w && elim (possible w) [ None ↦ true | Some e ↦ settles_with n is (after w e) ]

-- and in some world
unfoldable pub settles_to : ℕ → (World → Bool) → World → Bool
settles_to zero is w = is w
settles_to (suc n) is w = is w || elim (possible w) [ None ↦ false | Some e ↦ settles_to n is (after w e) ]

-- through the lines of a script, each world of each of them
unfoldable pub plays_with : ℕ → (World → Bool) → List Line → Sim → Bool
plays_with k is [] s = is s.world
plays_with k is (SettleLine ∷ lines) s = settles_with 100000 is s.world && plays_with (suc k) is lines (unless_bad k SettleLine s.bad s)
plays_with k is (line ∷ lines) s = is s.world && plays_with (suc k) is lines (unless_bad k line s.bad s)

unfoldable pub plays_to : ℕ → (World → Bool) → List Line → Sim → Bool
plays_to k is [] s = is s.world
plays_to k is (SettleLine ∷ lines) s = settles_to 100000 is s.world || plays_to (suc k) is lines (unless_bad k SettleLine s.bad s)
plays_to k is (line ∷ lines) s = is s.world || plays_to (suc k) is lines (unless_bad k line s.bad s)
