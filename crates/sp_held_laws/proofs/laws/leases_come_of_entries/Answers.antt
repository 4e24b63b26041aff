use Rattle.sp_held_laws.proofs.HeldLaws
use Rattle.sp_held_laws.proofs.laws.leases_come_of_entries.Goals as goal

pub returns : goal.returns
returns c = HeldLaws.leases_come_of_entries (record {
  laws = record {
    ways = c.frames_go_their_way.ensures;
    parked = c.parked_results_came.ensures;
    directions = c.spaces_have_directions.ensures;
    sent = c.what_comes_was_sent.ensures;
    shakes = c.hand_shakes_are_in_table.ensures;
    above = c.calls_come_above_the_last.ensures;
    calls = c.each_call_stands_once.ensures;
    groups = c.each_group_is_answered_once.ensures;
    results = c.each_result_is_acknowledged_once.ensures;
    answered = c.frames_are_answered_once.ensures;
    places = c.answers_are_parked.ensures;
    opened = c.connections_are_opened_once.ensures;
  };
  granted = c.what_is_held_is_granted.ensures;
  awaited = c.dirty_calls_are_awaited.ensures;
  secure = c.granted_references_stay_secure.ensures;
  leases = c.only_leases_grant.ensures;
  asked = c.what_is_out_stays_asked.ensures;
  entries = c.entries_stay_until_cleaned.ensures;
  sets = c.dirty_calls_set_entries.ensures;
  hold = c.senders_hold.ensures;
  time = c.calls_come_in_time.ensures;
  ways = c.calls_on_their_way_are_requests.ensures;
  due = c.calls_are_made_when_due.ensures;
  order = c.calls_keep_their_order.ensures;
  sequences = c.sequence_numbers_rise.ensures;
  reach = c.events_reach_one_space.ensures;
})
