use Rattle.sp_order_laws.proofs.UnbrokenLaws
use Rattle.sp_order_laws.proofs.answers.nothing_closes.Goals as goal

pub returns : goal.returns
returns c = UnbrokenLaws.nothing_closes (record {
  ways = c.frames_go_their_way.ensures;
  parked = c.parked_results_came.ensures;
  directions = c.spaces_have_directions.ensures;
  sent = c.what_comes_was_sent.ensures;
  shakes = c.hand_shakes_are_in_table.ensures;
  above = c.calls_come_above_the_last.ensures;
  calls = c.each_call_stands_once.ensures;
  groups = c.each_group_is_answered_once.ensures;
  results = c.each_result_is_acknowledged_once.ensures;
  answered = c.frames_are_answered_once.ensures;
  places = c.answers_are_parked.ensures;
  opened = c.connections_are_opened_once.ensures;
})
