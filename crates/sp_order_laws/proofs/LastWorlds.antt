-- A call or lookup comes with a number above the last of its connection, in every run of every world.
use mathlib.Core.Path.{sym, subst}
use Rattle.std.proofs.Common.{arith, inl, inr}
use Rattle.std.proofs.lemmas.Bool.{eqb-true}
use Rattle.std.specs.Prelude.{◌≡◌, ◌≤◌, ◌⊎◌, ℕ, ◌+◌, ◌==◌, List, [], ◌∷◌, ◌++◌}
use Rattle.sp_rules.specs.Endings.{call_number_in}
use Rattle.sp_rules.specs.Laws.{AllOf, RisesWithin}
use Rattle.sp_rules.specs.State.{State, Connection}
use Rattle.sp_rules.specs.Worlds.{World, run, new_world}
use Rattle.sp_rules.proofs.AllLemmas.{all-found, found-is}
use Rattle.sp_laws.specs.Directions.{FramesGoTheirWay}
use Rattle.sp_order_laws.specs.Delivered.{came_on, WhatComesWasSent}
use Rattle.sp_order_laws.specs.Ends.{IsOneOf}
use Rattle.sp_order_laws.specs.LastCalls.{LastCame, IsAboveTheLast, CallsComeAboveTheLast}
use Rattle.sp_order_laws.specs.Rising.{call_numbers, NumbersRiseIn}
use Rattle.sp_order_laws.proofs.LastMoves.{last_calls_came}
use Rattle.sp_order_laws.proofs.NoteLemmas.{flat-append, rises-rest}
use Rattle.sp_order_laws.proofs.RisingWorlds.{numbers_rise}
use Rattle.sp_order_laws.proofs.WorldFacts.{Known, all_known, at-all}

-- numbers that rise are above where they begin
rises-above : (n top k : ℕ) (xs : List ℕ) → RisesWithin n top xs → IsOneOf k xs → n + 1 ≤ k
rises-above n top k [] r a = absurd a
rises-above n top k (x ∷ xs) r (inl e) = let b : n + 1 ≤ x = r.0 in omega (arith, e)
rises-above n top k (x ∷ xs) r (inr a) = let b : n + 1 ≤ x = r.0 in let c : x + 1 ≤ k = rises-above x top k xs r.1 a in omega arith

-- the later ones are above the earlier ones
pub rises-over : (n top j k : ℕ) (xs ys : List ℕ) → RisesWithin n top (xs ++ ys) → IsOneOf j xs → IsOneOf k ys → j + 1 ≤ k
rises-over n top j k [] ys r a b = absurd a
rises-over n top j k (x ∷ xs) ys r (inl e) b = let c : x + 1 ≤ k = rises-above x top k ys (rises-rest x top xs ys r.1) b in omega (arith, e)
rises-over n top j k (x ∷ xs) ys r (inr a) b = rises-over x top j k xs ys r.1 a b

above : (w : World) → AllOf Known w.spaces → NumbersRiseIn w → IsAboveTheLast w
above w all rise conn k p a b c is found there = by (subst (λ n. (c.last ≡ 0) ⊎ IsOneOf c.last (call_numbers (came_on n b.history))) number last)
  where
    number : c.number ≡ conn
    number = eqb-true c.number conn (found-is (λ (d : Connection). d.number == conn) b.state.connections c found)

    known : Known b
    known = at-all Known p.accepter.space w.spaces b is.accepted all

    last : LastCame b.history c
    last = all-found (LastCame b.history) (λ (d : Connection). d.number == conn) b.state.connections c found (subst (λ (t : State). AllOf (LastCame b.history) t.connections) (sym known.state) (last_calls_came b.setting b.history))

    rises : RisesWithin 0 a.state.calls_made (call_numbers (came_on conn b.history) ++ call_numbers p.accepter.queue)
    rises = subst (RisesWithin 0 a.state.calls_made) (flat-append call_number_in (came_on conn b.history) p.accepter.queue) (rise.brought conn p is.pipe a b is.dialled is.accepted).calls

    by : (c.last ≡ 0) ⊎ IsOneOf c.last (call_numbers (came_on conn b.history)) → c.last + 1 ≤ k
    by (inl e) = let d : 0 + 1 ≤ k = rises-above 0 a.state.calls_made k (call_numbers p.accepter.queue) (rises-rest 0 a.state.calls_made (call_numbers (came_on conn b.history)) (call_numbers p.accepter.queue) rises) there in omega (arith, e)
    by (inr e) = rises-over 0 a.state.calls_made c.last k (call_numbers (came_on conn b.history)) (call_numbers p.accepter.queue) rises e there

pub calls_come_above_the_last : FramesGoTheirWay → WhatComesWasSent → CallsComeAboveTheLast
calls_come_above_the_last ways comes settings events = above (run (new_world settings) events) (all_known settings events) (numbers_rise ways comes settings events)
