-- The laws of one space, for each space of every world.
use mathlib.Core.Path.{sym, subst}
use Rattle.std.specs.Prelude.{◌≡◌, List}
use Rattle.sp_rules.specs.Laws.{AllOf, HasHistory}
use Rattle.sp_rules.specs.Origins.{IsTaken, HasTaken}
use Rattle.sp_rules.specs.State.{State}
use Rattle.sp_rules.specs.Worlds.{Space, run, new_world}
use Rattle.sp_rules.proofs.AllLemmas.{all-with}
use Rattle.sp_rules.proofs.LinesOfRules.{lines_wait_for_hellos}
use Rattle.sp_rules.proofs.OwnLemmas.{own_references_stand, histories_are_taken}
use Rattle.sp_rules.proofs.WorldLemmas.{states_are_histories}
use Rattle.sp_laws.specs.AllSpaces.{IsInOrder, SpacesAreInOrder}
use Rattle.sp_laws.proofs.CountRules.{holders_are_counted}
use Rattle.sp_laws.proofs.HeldCalls.{calls_are_held}
use Rattle.sp_laws.proofs.OwingLemmas.{leases_owe_their_end}
use Rattle.sp_laws.proofs.PlaceEvents.{answers_are_parked}
use Rattle.sp_laws.proofs.WaitHistories.{waiting_tasks_have_one_call}

-- a space that is given by its setting, its history and its state
in-order : (s : Space) → HasHistory s → HasTaken s → IsInOrder s
in-order s e t = record {
  own = subst (Rattle.sp_rules.specs.Origins.OwnStand s.setting) (sym e) (own_references_stand s.setting s.history t);
  lines = subst Rattle.sp_rules.specs.Lines.HasLines (sym e) (lines_wait_for_hellos s.setting s.history t);
  calls = subst Rattle.sp_laws.specs.Waiting.CallsWait (sym e) (waiting_tasks_have_one_call s.setting s.history);
  held = subst (λ (u : State). AllOf (λ (q : Rattle.sp_rules.specs.State.Request). Rattle.sp_laws.specs.CallsHeld.IsAskedFor (Rattle.sp_rules.specs.State.task_at u) q.peer q.asked) u.requests) (sym e) (calls_are_held s.setting s.history t);
  places = subst Rattle.sp_laws.specs.Answered.AreInPlace (sym e) (answers_are_parked s.setting s.history t);
  counted = λ r. subst (λ (u : State). Rattle.std.specs.Prelude.nat_lt (Rattle.sp_laws.specs.Counted.times_held r u.leases) 18446744073709551615 ≡ Rattle.std.specs.Prelude.true → (Rattle.sp_rules.specs.Holders.lease_now u r).holders ≡ Rattle.sp_rules.specs.Holders.holders_of s.setting u r) (sym e) (holders_are_counted s.setting s.history t r);
  owing = λ r. subst (λ (u : State). Rattle.sp_laws.specs.Owing.OwesItsEnd (Rattle.sp_rules.specs.Holders.lease_now u r)) (sym e) (leases_owe_their_end s.setting s.history r);
}

pub spaces_are_in_order : SpacesAreInOrder
spaces_are_in_order settings events = all-with HasHistory HasTaken IsInOrder (run (new_world settings) events).spaces in-order (states_are_histories settings events) (histories_are_taken settings events)
