-- Runs that meet the premises of the laws of worlds: one in which a reference passes through a third space, and its object is as the
-- machine keeps it in each world; one in which a frame is lost, and calls end. (This project's own.)
use Rattle.std.specs.Prelude.{◌≡◌, ℕ, ◌==◌, ◌&&◌, nat_lt, Bool, true, false, [], None, map, slice_get}
use Rattle.std.specs.List.{list_any}
use Rattle.space_ids.specs.declared.ids.ObjId.{ObjId}
use Rattle.sp_rules.specs.Lists.{with_some}
use Rattle.sp_rules.specs.State.{Request, Asked, Calls, Stage, Out, Living}
use Rattle.sp_rules.specs.Worlds.{World, Space, new_world}
use Rattle.sp_held_laws.specs.OneObject.{object_in}
use Rattle.sp_scripts.specs.FailuresScripts.{lines_of_ack_lost}
use Rattle.sp_scripts.specs.LeasesScripts.{lines_of_kept_far, lines_of_lease_of_an_overtaken_dirty, lines_of_parked_call_is_a_reason}
use Rattle.sp_scripts.specs.Programs.{setting_of}
use Rattle.sp_scripts.specs.Scripts.{Sim, spaces_from}
use Rattle.sp_scripts.specs.ThirdSpacesScripts.{lines_of_fetch_through_third, lines_of_fresh_round_trip, lines_of_third_space}
use Rattle.sp_held_laws.specs.Whole.{is_whole, plays_with, plays_to}

abbrev pub first : ObjId
first = record { 0 = 1 }

-- as a script of n spaces begins
abbrev pub begun : ℕ → Sim
begun n = record { world = new_world (map setting_of (spaces_from 1 n)); vars = []; shown = []; bad = None }

-- ---- a third space

-- In each world of the run, the first object of the first and of the second space is as the machine keeps it.
abbrev pub both_are_whole : World → Bool
both_are_whole w = is_whole 3 (object_in w 0 first) && is_whole 3 (object_in w 1 first)

-- The second space holds the first one's object, by a lease and an entry, and nothing of the first space holds it.
abbrev pub has_passed : World → Bool
has_passed w =
    let o = object_in w 0 first in
    (o.own == 0) && (nat_lt 0 (o.clients 1).started && ((o.clients 1).lease && (o.clients 1).entry))

-- a frame that names it is parked at the second space
abbrev pub is_passing : World → Bool
is_passing w = nat_lt 0 ((object_in w 0 first).clients 1).parked

pub record PassesWhole : Type 0 where
  pub whole : plays_with 4 both_are_whole lines_of_third_space (begun 3) ≡ true
  pub passing : plays_to 4 is_passing lines_of_third_space (begun 3) ≡ true
  pub passed : plays_to 4 has_passed lines_of_third_space (begun 3) ≡ true

-- ---- other runs

-- the first object of the space of this number, among `spaces` spaces
abbrev pub is_kept_whole : ℕ → ℕ → World → Bool
is_kept_whole spaces owner w = is_whole spaces (object_in w owner first)

-- So it is where a field holds a reference of a third space and gives it on; where an object that a call made comes home; where fields far away hold objects; and where a renewal is under way as nothing holds the reference any more, and its Lease comes when a new one is held. It is not so where an entry expires.
pub record StaysWhole : Type 0 where
  pub fetched : plays_with 4 (λ w. is_kept_whole 3 2 w && is_kept_whole 3 1 w) lines_of_fetch_through_third (begun 3) ≡ true
  pub came_home : plays_with 4 (λ w. is_kept_whole 3 0 w && (is_kept_whole 3 1 w && is_kept_whole 3 2 w)) lines_of_fresh_round_trip (begun 3) ≡ true
  pub far : plays_with 3 (λ w. is_kept_whole 2 0 w && is_kept_whole 2 1 w) lines_of_kept_far (begun 2) ≡ true
  pub overtaken : plays_with 3 (is_kept_whole 2 0) lines_of_lease_of_an_overtaken_dirty (begun 2) ≡ true
  pub expired : plays_with 4 (is_kept_whole 3 1) lines_of_parked_call_is_a_reason (begun 3) ≡ false

-- ---- a lost frame

abbrev pub is_out_call : Asked → Stage → Bool
is_out_call (Calls number task lent kind m) (Out conn sequence) = true
is_out_call asked stage = false

-- A call of the second space is out, and its task waits.
abbrev pub has_call_out : World → Bool
has_call_out w = with_some (slice_get w.spaces 1) false (λ (s : Space). list_any (λ (q : Request). is_out_call q.asked q.stage) s.state.requests && list_any (λ (t : Living). t.waits) s.state.tasks)

abbrev pub RunsWithLoss : Type 0
RunsWithLoss = plays_to 3 has_call_out lines_of_ack_lost (begun 2) ≡ true
