-- Dirty and clean calls, leases and their ends, computed.
use Rattle.std.specs.Prelude.{refl}
use Rattle.sp_rules.specs.Books
use Rattle.sp_rules.specs.Endings
use Rattle.sp_rules.specs.Events
use Rattle.sp_rules.specs.Frames
use Rattle.sp_rules.specs.Holders
use Rattle.sp_rules.specs.Lists
use Rattle.sp_rules.specs.LivingTasks
use Rattle.sp_rules.specs.OwnEvents
use Rattle.sp_rules.specs.ParkedFrames
use Rattle.sp_rules.specs.Refusals
use Rattle.sp_rules.specs.Requests
use Rattle.sp_rules.specs.Space
use Rattle.sp_rules.specs.State
use Rattle.sp_rules.specs.Tasks
use Rattle.sp_rules.specs.Worlds
use Rattle.sp_scripts.specs.Scripts
use Rattle.sp_scripts.specs.LeasesScripts.{WithdrawnObject, CleanNotRepeatedWithHolder, CleanRepeatedUntilNotYet, LastHolderOfTwo, LateDirtyAfterStrongClean, LookupNeedsAckOfLease, MomentBelow, RenewalFailedAgain, WeakCleanForgets, OvertakenLease, LeaseOfAnOvertakenDirty, ParkedCallIsAReason, KeptFar, ChurnCleans, CycleStays, CellMadeAfar}

pub withdrawn_object : WithdrawnObject
unfolding Books.book_run Endings.fail_dirty Endings.end_requests Endings.end_connection Endings.close Endings.fail_write Events.in_order Frames.first_frame Frames.got_call Frames.got_lookup Frames.release Frames.got_ack Frames.got_dirty Frames.got_clean Frames.answered_by Frames.told_by Frames.got Frames.receive Holders.hold_ids Holders.drop_ids Holders.has_reason Lists.each LivingTasks.add_task LivingTasks.reply_task LivingTasks.reply_to LivingTasks.op_reply LivingTasks.after_op LivingTasks.commit LivingTasks.park_call LivingTasks.give_back LivingTasks.finish_task OwnEvents.on_moment OwnEvents.on_sweep OwnEvents.set_names OwnEvents.on_lookup OwnEvents.on_opened OwnEvents.on_refused ParkedFrames.start_call ParkedFrames.answer_parked ParkedFrames.go ParkedFrames.go_all ParkedFrames.park_frame ParkedFrames.fail_parked Refusals.refusal Requests.due_groups Requests.part_goes_out Requests.go_out Requests.dial Requests.ask Requests.flush_waiting Requests.make_group Requests.make_due Requests.ask_fresh Requests.settle Space.happen Space.on Space.state_of Space.outputs_of State.opening State.send Tasks.stand Tasks.step Tasks.steps Tasks.answer Tasks.lend_fuel Tasks.start Worlds.take_event Worlds.acts Worlds.step_task Worlds.deliver Worlds.read_fails Worlds.write_fails Worlds.accept Worlds.open_pipe Worlds.refuse Worlds.after Worlds.run Worlds.new_world Scripts.settle_world Scripts.settle_swept Scripts.run_lines
withdrawn_object = refl

pub clean_not_repeated_with_holder : CleanNotRepeatedWithHolder
unfolding Books.book_run Endings.fail_dirty Endings.end_requests Endings.end_connection Endings.close Endings.fail_write Events.in_order Frames.first_frame Frames.got_call Frames.got_lookup Frames.release Frames.got_ack Frames.got_dirty Frames.got_clean Frames.answered_by Frames.told_by Frames.got Frames.receive Holders.hold_ids Holders.drop_ids Holders.has_reason Lists.each LivingTasks.add_task LivingTasks.reply_task LivingTasks.reply_to LivingTasks.op_reply LivingTasks.after_op LivingTasks.commit LivingTasks.park_call LivingTasks.give_back LivingTasks.finish_task OwnEvents.on_moment OwnEvents.on_sweep OwnEvents.set_names OwnEvents.on_lookup OwnEvents.on_opened OwnEvents.on_refused ParkedFrames.start_call ParkedFrames.answer_parked ParkedFrames.go ParkedFrames.go_all ParkedFrames.park_frame ParkedFrames.fail_parked Refusals.refusal Requests.due_groups Requests.part_goes_out Requests.go_out Requests.dial Requests.ask Requests.flush_waiting Requests.make_group Requests.make_due Requests.ask_fresh Requests.settle Space.happen Space.on Space.state_of Space.outputs_of State.opening State.send Tasks.stand Tasks.step Tasks.steps Tasks.answer Tasks.lend_fuel Tasks.start Worlds.take_event Worlds.acts Worlds.step_task Worlds.deliver Worlds.read_fails Worlds.write_fails Worlds.accept Worlds.open_pipe Worlds.refuse Worlds.after Worlds.run Worlds.new_world Scripts.settle_world Scripts.settle_swept Scripts.run_lines
clean_not_repeated_with_holder = refl

pub clean_repeated_until_not_yet : CleanRepeatedUntilNotYet
unfolding Books.book_run Endings.fail_dirty Endings.end_requests Endings.end_connection Endings.close Endings.fail_write Events.in_order Frames.first_frame Frames.got_call Frames.got_lookup Frames.release Frames.got_ack Frames.got_dirty Frames.got_clean Frames.answered_by Frames.told_by Frames.got Frames.receive Holders.hold_ids Holders.drop_ids Holders.has_reason Lists.each LivingTasks.add_task LivingTasks.reply_task LivingTasks.reply_to LivingTasks.op_reply LivingTasks.after_op LivingTasks.commit LivingTasks.park_call LivingTasks.give_back LivingTasks.finish_task OwnEvents.on_moment OwnEvents.on_sweep OwnEvents.set_names OwnEvents.on_lookup OwnEvents.on_opened OwnEvents.on_refused ParkedFrames.start_call ParkedFrames.answer_parked ParkedFrames.go ParkedFrames.go_all ParkedFrames.park_frame ParkedFrames.fail_parked Refusals.refusal Requests.due_groups Requests.part_goes_out Requests.go_out Requests.dial Requests.ask Requests.flush_waiting Requests.make_group Requests.make_due Requests.ask_fresh Requests.settle Space.happen Space.on Space.state_of Space.outputs_of State.opening State.send Tasks.stand Tasks.step Tasks.steps Tasks.answer Tasks.lend_fuel Tasks.start Worlds.take_event Worlds.acts Worlds.step_task Worlds.deliver Worlds.read_fails Worlds.write_fails Worlds.accept Worlds.open_pipe Worlds.refuse Worlds.after Worlds.run Worlds.new_world Scripts.settle_world Scripts.settle_swept Scripts.run_lines
clean_repeated_until_not_yet = refl

pub last_holder_of_two : LastHolderOfTwo
unfolding Books.book_run Endings.fail_dirty Endings.end_requests Endings.end_connection Endings.close Endings.fail_write Events.in_order Frames.first_frame Frames.got_call Frames.got_lookup Frames.release Frames.got_ack Frames.got_dirty Frames.got_clean Frames.answered_by Frames.told_by Frames.got Frames.receive Holders.hold_ids Holders.drop_ids Holders.has_reason Lists.each LivingTasks.add_task LivingTasks.reply_task LivingTasks.reply_to LivingTasks.op_reply LivingTasks.after_op LivingTasks.commit LivingTasks.park_call LivingTasks.give_back LivingTasks.finish_task OwnEvents.on_moment OwnEvents.on_sweep OwnEvents.set_names OwnEvents.on_lookup OwnEvents.on_opened OwnEvents.on_refused ParkedFrames.start_call ParkedFrames.answer_parked ParkedFrames.go ParkedFrames.go_all ParkedFrames.park_frame ParkedFrames.fail_parked Refusals.refusal Requests.due_groups Requests.part_goes_out Requests.go_out Requests.dial Requests.ask Requests.flush_waiting Requests.make_group Requests.make_due Requests.ask_fresh Requests.settle Space.happen Space.on Space.state_of Space.outputs_of State.opening State.send Tasks.stand Tasks.step Tasks.steps Tasks.answer Tasks.lend_fuel Tasks.start Worlds.take_event Worlds.acts Worlds.step_task Worlds.deliver Worlds.read_fails Worlds.write_fails Worlds.accept Worlds.open_pipe Worlds.refuse Worlds.after Worlds.run Worlds.new_world Scripts.settle_world Scripts.settle_swept Scripts.run_lines
last_holder_of_two = refl

pub late_dirty_after_strong_clean : LateDirtyAfterStrongClean
unfolding Books.book_run Endings.fail_dirty Endings.end_requests Endings.end_connection Endings.close Endings.fail_write Events.in_order Frames.first_frame Frames.got_call Frames.got_lookup Frames.release Frames.got_ack Frames.got_dirty Frames.got_clean Frames.answered_by Frames.told_by Frames.got Frames.receive Holders.hold_ids Holders.drop_ids Holders.has_reason Lists.each LivingTasks.add_task LivingTasks.reply_task LivingTasks.reply_to LivingTasks.op_reply LivingTasks.after_op LivingTasks.commit LivingTasks.park_call LivingTasks.give_back LivingTasks.finish_task OwnEvents.on_moment OwnEvents.on_sweep OwnEvents.set_names OwnEvents.on_lookup OwnEvents.on_opened OwnEvents.on_refused ParkedFrames.start_call ParkedFrames.answer_parked ParkedFrames.go ParkedFrames.go_all ParkedFrames.park_frame ParkedFrames.fail_parked Refusals.refusal Requests.due_groups Requests.part_goes_out Requests.go_out Requests.dial Requests.ask Requests.flush_waiting Requests.make_group Requests.make_due Requests.ask_fresh Requests.settle Space.happen Space.on Space.state_of Space.outputs_of State.opening State.send Tasks.stand Tasks.step Tasks.steps Tasks.answer Tasks.lend_fuel Tasks.start Worlds.take_event Worlds.acts Worlds.step_task Worlds.deliver Worlds.read_fails Worlds.write_fails Worlds.accept Worlds.open_pipe Worlds.refuse Worlds.after Worlds.run Worlds.new_world Scripts.settle_world Scripts.settle_swept Scripts.run_lines
late_dirty_after_strong_clean = refl

pub lookup_needs_ack_of_lease : LookupNeedsAckOfLease
unfolding Books.book_run Endings.fail_dirty Endings.end_requests Endings.end_connection Endings.close Endings.fail_write Events.in_order Frames.first_frame Frames.got_call Frames.got_lookup Frames.release Frames.got_ack Frames.got_dirty Frames.got_clean Frames.answered_by Frames.told_by Frames.got Frames.receive Holders.hold_ids Holders.drop_ids Holders.has_reason Lists.each LivingTasks.add_task LivingTasks.reply_task LivingTasks.reply_to LivingTasks.op_reply LivingTasks.after_op LivingTasks.commit LivingTasks.park_call LivingTasks.give_back LivingTasks.finish_task OwnEvents.on_moment OwnEvents.on_sweep OwnEvents.set_names OwnEvents.on_lookup OwnEvents.on_opened OwnEvents.on_refused ParkedFrames.start_call ParkedFrames.answer_parked ParkedFrames.go ParkedFrames.go_all ParkedFrames.park_frame ParkedFrames.fail_parked Refusals.refusal Requests.due_groups Requests.part_goes_out Requests.go_out Requests.dial Requests.ask Requests.flush_waiting Requests.make_group Requests.make_due Requests.ask_fresh Requests.settle Space.happen Space.on Space.state_of Space.outputs_of State.opening State.send Tasks.stand Tasks.step Tasks.steps Tasks.answer Tasks.lend_fuel Tasks.start Worlds.take_event Worlds.acts Worlds.step_task Worlds.deliver Worlds.read_fails Worlds.write_fails Worlds.accept Worlds.open_pipe Worlds.refuse Worlds.after Worlds.run Worlds.new_world Scripts.settle_world Scripts.settle_swept Scripts.run_lines
lookup_needs_ack_of_lease = refl

pub moment_below : MomentBelow
unfolding Books.book_run Endings.fail_dirty Endings.end_requests Endings.end_connection Endings.close Endings.fail_write Events.in_order Frames.first_frame Frames.got_call Frames.got_lookup Frames.release Frames.got_ack Frames.got_dirty Frames.got_clean Frames.answered_by Frames.told_by Frames.got Frames.receive Holders.hold_ids Holders.drop_ids Holders.has_reason Lists.each LivingTasks.add_task LivingTasks.reply_task LivingTasks.reply_to LivingTasks.op_reply LivingTasks.after_op LivingTasks.commit LivingTasks.park_call LivingTasks.give_back LivingTasks.finish_task OwnEvents.on_moment OwnEvents.on_sweep OwnEvents.set_names OwnEvents.on_lookup OwnEvents.on_opened OwnEvents.on_refused ParkedFrames.start_call ParkedFrames.answer_parked ParkedFrames.go ParkedFrames.go_all ParkedFrames.park_frame ParkedFrames.fail_parked Refusals.refusal Requests.due_groups Requests.part_goes_out Requests.go_out Requests.dial Requests.ask Requests.flush_waiting Requests.make_group Requests.make_due Requests.ask_fresh Requests.settle Space.happen Space.on Space.state_of Space.outputs_of State.opening State.send Tasks.stand Tasks.step Tasks.steps Tasks.answer Tasks.lend_fuel Tasks.start Worlds.take_event Worlds.acts Worlds.step_task Worlds.deliver Worlds.read_fails Worlds.write_fails Worlds.accept Worlds.open_pipe Worlds.refuse Worlds.after Worlds.run Worlds.new_world Scripts.settle_world Scripts.settle_swept Scripts.run_lines
moment_below = refl

pub renewal_failed_again : RenewalFailedAgain
unfolding Books.book_run Endings.fail_dirty Endings.end_requests Endings.end_connection Endings.close Endings.fail_write Events.in_order Frames.first_frame Frames.got_call Frames.got_lookup Frames.release Frames.got_ack Frames.got_dirty Frames.got_clean Frames.answered_by Frames.told_by Frames.got Frames.receive Holders.hold_ids Holders.drop_ids Holders.has_reason Lists.each LivingTasks.add_task LivingTasks.reply_task LivingTasks.reply_to LivingTasks.op_reply LivingTasks.after_op LivingTasks.commit LivingTasks.park_call LivingTasks.give_back LivingTasks.finish_task OwnEvents.on_moment OwnEvents.on_sweep OwnEvents.set_names OwnEvents.on_lookup OwnEvents.on_opened OwnEvents.on_refused ParkedFrames.start_call ParkedFrames.answer_parked ParkedFrames.go ParkedFrames.go_all ParkedFrames.park_frame ParkedFrames.fail_parked Refusals.refusal Requests.due_groups Requests.part_goes_out Requests.go_out Requests.dial Requests.ask Requests.flush_waiting Requests.make_group Requests.make_due Requests.ask_fresh Requests.settle Space.happen Space.on Space.state_of Space.outputs_of State.opening State.send Tasks.stand Tasks.step Tasks.steps Tasks.answer Tasks.lend_fuel Tasks.start Worlds.take_event Worlds.acts Worlds.step_task Worlds.deliver Worlds.read_fails Worlds.write_fails Worlds.accept Worlds.open_pipe Worlds.refuse Worlds.after Worlds.run Worlds.new_world Scripts.settle_world Scripts.settle_swept Scripts.run_lines
renewal_failed_again = refl

pub weak_clean_forgets : WeakCleanForgets
unfolding Books.book_run Endings.fail_dirty Endings.end_requests Endings.end_connection Endings.close Endings.fail_write Events.in_order Frames.first_frame Frames.got_call Frames.got_lookup Frames.release Frames.got_ack Frames.got_dirty Frames.got_clean Frames.answered_by Frames.told_by Frames.got Frames.receive Holders.hold_ids Holders.drop_ids Holders.has_reason Lists.each LivingTasks.add_task LivingTasks.reply_task LivingTasks.reply_to LivingTasks.op_reply LivingTasks.after_op LivingTasks.commit LivingTasks.park_call LivingTasks.give_back LivingTasks.finish_task OwnEvents.on_moment OwnEvents.on_sweep OwnEvents.set_names OwnEvents.on_lookup OwnEvents.on_opened OwnEvents.on_refused ParkedFrames.start_call ParkedFrames.answer_parked ParkedFrames.go ParkedFrames.go_all ParkedFrames.park_frame ParkedFrames.fail_parked Refusals.refusal Requests.due_groups Requests.part_goes_out Requests.go_out Requests.dial Requests.ask Requests.flush_waiting Requests.make_group Requests.make_due Requests.ask_fresh Requests.settle Space.happen Space.on Space.state_of Space.outputs_of State.opening State.send Tasks.stand Tasks.step Tasks.steps Tasks.answer Tasks.lend_fuel Tasks.start Worlds.take_event Worlds.acts Worlds.step_task Worlds.deliver Worlds.read_fails Worlds.write_fails Worlds.accept Worlds.open_pipe Worlds.refuse Worlds.after Worlds.run Worlds.new_world Scripts.settle_world Scripts.settle_swept Scripts.run_lines
weak_clean_forgets = refl

pub overtaken_lease : OvertakenLease
unfolding Books.book_run Endings.fail_dirty Endings.end_requests Endings.end_connection Endings.close Endings.fail_write Events.in_order Frames.first_frame Frames.got_call Frames.got_lookup Frames.release Frames.got_ack Frames.got_dirty Frames.got_clean Frames.answered_by Frames.told_by Frames.got Frames.receive Holders.hold_ids Holders.drop_ids Holders.has_reason Lists.each LivingTasks.add_task LivingTasks.reply_task LivingTasks.reply_to LivingTasks.op_reply LivingTasks.after_op LivingTasks.commit LivingTasks.park_call LivingTasks.give_back LivingTasks.finish_task OwnEvents.on_moment OwnEvents.on_sweep OwnEvents.set_names OwnEvents.on_lookup OwnEvents.on_opened OwnEvents.on_refused ParkedFrames.start_call ParkedFrames.answer_parked ParkedFrames.go ParkedFrames.go_all ParkedFrames.park_frame ParkedFrames.fail_parked Refusals.refusal Requests.due_groups Requests.part_goes_out Requests.go_out Requests.dial Requests.ask Requests.flush_waiting Requests.make_group Requests.make_due Requests.ask_fresh Requests.settle Space.happen Space.on Space.state_of Space.outputs_of State.opening State.send Tasks.stand Tasks.step Tasks.steps Tasks.answer Tasks.lend_fuel Tasks.start Worlds.take_event Worlds.acts Worlds.step_task Worlds.deliver Worlds.read_fails Worlds.write_fails Worlds.accept Worlds.open_pipe Worlds.refuse Worlds.after Worlds.run Worlds.new_world Scripts.settle_world Scripts.settle_swept Scripts.run_lines
overtaken_lease = refl

pub lease_of_an_overtaken_dirty : LeaseOfAnOvertakenDirty
unfolding Books.book_run Endings.fail_dirty Endings.end_requests Endings.end_connection Endings.close Endings.fail_write Events.in_order Frames.first_frame Frames.got_call Frames.got_lookup Frames.release Frames.got_ack Frames.got_dirty Frames.got_clean Frames.answered_by Frames.told_by Frames.got Frames.receive Holders.hold_ids Holders.drop_ids Holders.has_reason Lists.each LivingTasks.add_task LivingTasks.reply_task LivingTasks.reply_to LivingTasks.op_reply LivingTasks.after_op LivingTasks.commit LivingTasks.park_call LivingTasks.give_back LivingTasks.finish_task OwnEvents.on_moment OwnEvents.on_sweep OwnEvents.set_names OwnEvents.on_lookup OwnEvents.on_opened OwnEvents.on_refused ParkedFrames.start_call ParkedFrames.answer_parked ParkedFrames.go ParkedFrames.go_all ParkedFrames.park_frame ParkedFrames.fail_parked Refusals.refusal Requests.due_groups Requests.part_goes_out Requests.go_out Requests.dial Requests.ask Requests.flush_waiting Requests.make_group Requests.make_due Requests.ask_fresh Requests.settle Space.happen Space.on Space.state_of Space.outputs_of State.opening State.send Tasks.stand Tasks.step Tasks.steps Tasks.answer Tasks.lend_fuel Tasks.start Worlds.take_event Worlds.acts Worlds.step_task Worlds.deliver Worlds.read_fails Worlds.write_fails Worlds.accept Worlds.open_pipe Worlds.refuse Worlds.after Worlds.run Worlds.new_world Scripts.settle_world Scripts.settle_swept Scripts.run_lines
lease_of_an_overtaken_dirty = refl

pub parked_call_is_a_reason : ParkedCallIsAReason
unfolding Books.book_run Endings.fail_dirty Endings.end_requests Endings.end_connection Endings.close Endings.fail_write Events.in_order Frames.first_frame Frames.got_call Frames.got_lookup Frames.release Frames.got_ack Frames.got_dirty Frames.got_clean Frames.answered_by Frames.told_by Frames.got Frames.receive Holders.hold_ids Holders.drop_ids Holders.has_reason Lists.each LivingTasks.add_task LivingTasks.reply_task LivingTasks.reply_to LivingTasks.op_reply LivingTasks.after_op LivingTasks.commit LivingTasks.park_call LivingTasks.give_back LivingTasks.finish_task OwnEvents.on_moment OwnEvents.on_sweep OwnEvents.set_names OwnEvents.on_lookup OwnEvents.on_opened OwnEvents.on_refused ParkedFrames.start_call ParkedFrames.answer_parked ParkedFrames.go ParkedFrames.go_all ParkedFrames.park_frame ParkedFrames.fail_parked Refusals.refusal Requests.due_groups Requests.part_goes_out Requests.go_out Requests.dial Requests.ask Requests.flush_waiting Requests.make_group Requests.make_due Requests.ask_fresh Requests.settle Space.happen Space.on Space.state_of Space.outputs_of State.opening State.send Tasks.stand Tasks.step Tasks.steps Tasks.answer Tasks.lend_fuel Tasks.start Worlds.take_event Worlds.acts Worlds.step_task Worlds.deliver Worlds.read_fails Worlds.write_fails Worlds.accept Worlds.open_pipe Worlds.refuse Worlds.after Worlds.run Worlds.new_world Scripts.settle_world Scripts.settle_swept Scripts.run_lines
parked_call_is_a_reason = refl

pub kept_far : KeptFar
unfolding Books.book_run Endings.fail_dirty Endings.end_requests Endings.end_connection Endings.close Endings.fail_write Events.in_order Frames.first_frame Frames.got_call Frames.got_lookup Frames.release Frames.got_ack Frames.got_dirty Frames.got_clean Frames.answered_by Frames.told_by Frames.got Frames.receive Holders.hold_ids Holders.drop_ids Holders.has_reason Lists.each LivingTasks.add_task LivingTasks.reply_task LivingTasks.reply_to LivingTasks.op_reply LivingTasks.after_op LivingTasks.commit LivingTasks.park_call LivingTasks.give_back LivingTasks.finish_task OwnEvents.on_moment OwnEvents.on_sweep OwnEvents.set_names OwnEvents.on_lookup OwnEvents.on_opened OwnEvents.on_refused ParkedFrames.start_call ParkedFrames.answer_parked ParkedFrames.go ParkedFrames.go_all ParkedFrames.park_frame ParkedFrames.fail_parked Refusals.refusal Requests.due_groups Requests.part_goes_out Requests.go_out Requests.dial Requests.ask Requests.flush_waiting Requests.make_group Requests.make_due Requests.ask_fresh Requests.settle Space.happen Space.on Space.state_of Space.outputs_of State.opening State.send Tasks.stand Tasks.step Tasks.steps Tasks.answer Tasks.lend_fuel Tasks.start Worlds.take_event Worlds.acts Worlds.step_task Worlds.deliver Worlds.read_fails Worlds.write_fails Worlds.accept Worlds.open_pipe Worlds.refuse Worlds.after Worlds.run Worlds.new_world Scripts.settle_world Scripts.settle_swept Scripts.run_lines
kept_far = refl

pub churn_cleans : ChurnCleans
unfolding Books.book_run Endings.fail_dirty Endings.end_requests Endings.end_connection Endings.close Endings.fail_write Events.in_order Frames.first_frame Frames.got_call Frames.got_lookup Frames.release Frames.got_ack Frames.got_dirty Frames.got_clean Frames.answered_by Frames.told_by Frames.got Frames.receive Holders.hold_ids Holders.drop_ids Holders.has_reason Lists.each LivingTasks.add_task LivingTasks.reply_task LivingTasks.reply_to LivingTasks.op_reply LivingTasks.after_op LivingTasks.commit LivingTasks.park_call LivingTasks.give_back LivingTasks.finish_task OwnEvents.on_moment OwnEvents.on_sweep OwnEvents.set_names OwnEvents.on_lookup OwnEvents.on_opened OwnEvents.on_refused ParkedFrames.start_call ParkedFrames.answer_parked ParkedFrames.go ParkedFrames.go_all ParkedFrames.park_frame ParkedFrames.fail_parked Refusals.refusal Requests.due_groups Requests.part_goes_out Requests.go_out Requests.dial Requests.ask Requests.flush_waiting Requests.make_group Requests.make_due Requests.ask_fresh Requests.settle Space.happen Space.on Space.state_of Space.outputs_of State.opening State.send Tasks.stand Tasks.step Tasks.steps Tasks.answer Tasks.lend_fuel Tasks.start Worlds.take_event Worlds.acts Worlds.step_task Worlds.deliver Worlds.read_fails Worlds.write_fails Worlds.accept Worlds.open_pipe Worlds.refuse Worlds.after Worlds.run Worlds.new_world Scripts.settle_world Scripts.settle_swept Scripts.run_lines
churn_cleans = refl

pub cycle_stays : CycleStays
unfolding Books.book_run Endings.fail_dirty Endings.end_requests Endings.end_connection Endings.close Endings.fail_write Events.in_order Frames.first_frame Frames.got_call Frames.got_lookup Frames.release Frames.got_ack Frames.got_dirty Frames.got_clean Frames.answered_by Frames.told_by Frames.got Frames.receive Holders.hold_ids Holders.drop_ids Holders.has_reason Lists.each LivingTasks.add_task LivingTasks.reply_task LivingTasks.reply_to LivingTasks.op_reply LivingTasks.after_op LivingTasks.commit LivingTasks.park_call LivingTasks.give_back LivingTasks.finish_task OwnEvents.on_moment OwnEvents.on_sweep OwnEvents.set_names OwnEvents.on_lookup OwnEvents.on_opened OwnEvents.on_refused ParkedFrames.start_call ParkedFrames.answer_parked ParkedFrames.go ParkedFrames.go_all ParkedFrames.park_frame ParkedFrames.fail_parked Refusals.refusal Requests.due_groups Requests.part_goes_out Requests.go_out Requests.dial Requests.ask Requests.flush_waiting Requests.make_group Requests.make_due Requests.ask_fresh Requests.settle Space.happen Space.on Space.state_of Space.outputs_of State.opening State.send Tasks.stand Tasks.step Tasks.steps Tasks.answer Tasks.lend_fuel Tasks.start Worlds.take_event Worlds.acts Worlds.step_task Worlds.deliver Worlds.read_fails Worlds.write_fails Worlds.accept Worlds.open_pipe Worlds.refuse Worlds.after Worlds.run Worlds.new_world Scripts.settle_world Scripts.settle_swept Scripts.run_lines
cycle_stays = refl

pub cell_made_afar : CellMadeAfar
unfolding Books.book_run Endings.fail_dirty Endings.end_requests Endings.end_connection Endings.close Endings.fail_write Events.in_order Frames.first_frame Frames.got_call Frames.got_lookup Frames.release Frames.got_ack Frames.got_dirty Frames.got_clean Frames.answered_by Frames.told_by Frames.got Frames.receive Holders.hold_ids Holders.drop_ids Holders.has_reason Lists.each LivingTasks.add_task LivingTasks.reply_task LivingTasks.reply_to LivingTasks.op_reply LivingTasks.after_op LivingTasks.commit LivingTasks.park_call LivingTasks.give_back LivingTasks.finish_task OwnEvents.on_moment OwnEvents.on_sweep OwnEvents.set_names OwnEvents.on_lookup OwnEvents.on_opened OwnEvents.on_refused ParkedFrames.start_call ParkedFrames.answer_parked ParkedFrames.go ParkedFrames.go_all ParkedFrames.park_frame ParkedFrames.fail_parked Refusals.refusal Requests.due_groups Requests.part_goes_out Requests.go_out Requests.dial Requests.ask Requests.flush_waiting Requests.make_group Requests.make_due Requests.ask_fresh Requests.settle Space.happen Space.on Space.state_of Space.outputs_of State.opening State.send Tasks.stand Tasks.step Tasks.steps Tasks.answer Tasks.lend_fuel Tasks.start Worlds.take_event Worlds.acts Worlds.step_task Worlds.deliver Worlds.read_fails Worlds.write_fails Worlds.accept Worlds.open_pipe Worlds.refuse Worlds.after Worlds.run Worlds.new_world Scripts.settle_world Scripts.settle_swept Scripts.run_lines
cell_made_afar = refl
