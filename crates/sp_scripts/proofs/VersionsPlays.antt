-- Scripts of spaces of both versions, computed.
use Rattle.std.specs.Prelude.{refl}
use Rattle.sp_rules.specs.Books
use Rattle.sp_rules.specs.Endings
use Rattle.sp_rules.specs.Events
use Rattle.sp_rules.specs.Frames
use Rattle.sp_rules.specs.Holders
use Rattle.sp_rules.specs.Lists
use Rattle.sp_rules.specs.LivingTasks
use Rattle.sp_rules.specs.OwnEvents
use Rattle.sp_rules.specs.ParkedFrames
use Rattle.sp_rules.specs.Refusals
use Rattle.sp_rules.specs.Requests
use Rattle.sp_rules.specs.Space
use Rattle.sp_rules.specs.State
use Rattle.sp_rules.specs.Tasks
use Rattle.sp_rules.specs.Worlds
use Rattle.sp_scripts.specs.Scripts
use Rattle.sp_scripts.specs.VersionsScripts.{BothOfVersion2, OwnerOfVersion1, ClientOfVersion1, ThirdOfVersion2}

pub both_of_version_2 : BothOfVersion2
unfolding Books.book_run Endings.fail_dirty Endings.end_requests Endings.end_connection Endings.redial Endings.close Endings.fail_write Events.in_order Frames.first_frame Frames.got_call Frames.got_lookup Frames.release Frames.got_ack Frames.got_dirty Frames.got_clean Frames.answered_by Frames.told_by Frames.got Frames.receive Holders.hold_ids Holders.drop_ids Holders.has_reason Lists.each LivingTasks.add_task LivingTasks.reply_task LivingTasks.reply_to LivingTasks.op_reply LivingTasks.after_op LivingTasks.commit LivingTasks.park_call LivingTasks.give_back LivingTasks.finish_task OwnEvents.on_moment OwnEvents.on_sweep OwnEvents.set_names OwnEvents.on_lookup OwnEvents.on_opened OwnEvents.on_refused ParkedFrames.start_call ParkedFrames.answer_parked ParkedFrames.go ParkedFrames.go_all ParkedFrames.park_frame ParkedFrames.fail_parked Refusals.refusal Requests.due_groups Requests.part_goes_out Requests.go_out Requests.dial Requests.ask Requests.flush_waiting Requests.make_group Requests.make_due Requests.ask_fresh Requests.settle Space.happen Space.on Space.state_of Space.outputs_of State.opening State.send Tasks.stand Tasks.step Tasks.steps Tasks.answer Tasks.lend_fuel Tasks.start Worlds.take_event Worlds.acts Worlds.step_task Worlds.deliver Worlds.read_fails Worlds.write_fails Worlds.accept Worlds.open_pipe Worlds.refuse Worlds.after Worlds.run Worlds.new_world Scripts.settle_world Scripts.settle_swept Scripts.run_lines
both_of_version_2 = refl

pub owner_of_version_1 : OwnerOfVersion1
unfolding Books.book_run Endings.fail_dirty Endings.end_requests Endings.end_connection Endings.redial Endings.close Endings.fail_write Events.in_order Frames.first_frame Frames.got_call Frames.got_lookup Frames.release Frames.got_ack Frames.got_dirty Frames.got_clean Frames.answered_by Frames.told_by Frames.got Frames.receive Holders.hold_ids Holders.drop_ids Holders.has_reason Lists.each LivingTasks.add_task LivingTasks.reply_task LivingTasks.reply_to LivingTasks.op_reply LivingTasks.after_op LivingTasks.commit LivingTasks.park_call LivingTasks.give_back LivingTasks.finish_task OwnEvents.on_moment OwnEvents.on_sweep OwnEvents.set_names OwnEvents.on_lookup OwnEvents.on_opened OwnEvents.on_refused ParkedFrames.start_call ParkedFrames.answer_parked ParkedFrames.go ParkedFrames.go_all ParkedFrames.park_frame ParkedFrames.fail_parked Refusals.refusal Requests.due_groups Requests.part_goes_out Requests.go_out Requests.dial Requests.ask Requests.flush_waiting Requests.make_group Requests.make_due Requests.ask_fresh Requests.settle Space.happen Space.on Space.state_of Space.outputs_of State.opening State.send Tasks.stand Tasks.step Tasks.steps Tasks.answer Tasks.lend_fuel Tasks.start Worlds.take_event Worlds.acts Worlds.step_task Worlds.deliver Worlds.read_fails Worlds.write_fails Worlds.accept Worlds.open_pipe Worlds.refuse Worlds.after Worlds.run Worlds.new_world Scripts.settle_world Scripts.settle_swept Scripts.run_lines
owner_of_version_1 = refl

pub client_of_version_1 : ClientOfVersion1
unfolding Books.book_run Endings.fail_dirty Endings.end_requests Endings.end_connection Endings.redial Endings.close Endings.fail_write Events.in_order Frames.first_frame Frames.got_call Frames.got_lookup Frames.release Frames.got_ack Frames.got_dirty Frames.got_clean Frames.answered_by Frames.told_by Frames.got Frames.receive Holders.hold_ids Holders.drop_ids Holders.has_reason Lists.each LivingTasks.add_task LivingTasks.reply_task LivingTasks.reply_to LivingTasks.op_reply LivingTasks.after_op LivingTasks.commit LivingTasks.park_call LivingTasks.give_back LivingTasks.finish_task OwnEvents.on_moment OwnEvents.on_sweep OwnEvents.set_names OwnEvents.on_lookup OwnEvents.on_opened OwnEvents.on_refused ParkedFrames.start_call ParkedFrames.answer_parked ParkedFrames.go ParkedFrames.go_all ParkedFrames.park_frame ParkedFrames.fail_parked Refusals.refusal Requests.due_groups Requests.part_goes_out Requests.go_out Requests.dial Requests.ask Requests.flush_waiting Requests.make_group Requests.make_due Requests.ask_fresh Requests.settle Space.happen Space.on Space.state_of Space.outputs_of State.opening State.send Tasks.stand Tasks.step Tasks.steps Tasks.answer Tasks.lend_fuel Tasks.start Worlds.take_event Worlds.acts Worlds.step_task Worlds.deliver Worlds.read_fails Worlds.write_fails Worlds.accept Worlds.open_pipe Worlds.refuse Worlds.after Worlds.run Worlds.new_world Scripts.settle_world Scripts.settle_swept Scripts.run_lines
client_of_version_1 = refl

pub third_of_version_2 : ThirdOfVersion2
unfolding Books.book_run Endings.fail_dirty Endings.end_requests Endings.end_connection Endings.redial Endings.close Endings.fail_write Events.in_order Frames.first_frame Frames.got_call Frames.got_lookup Frames.release Frames.got_ack Frames.got_dirty Frames.got_clean Frames.answered_by Frames.told_by Frames.got Frames.receive Holders.hold_ids Holders.drop_ids Holders.has_reason Lists.each LivingTasks.add_task LivingTasks.reply_task LivingTasks.reply_to LivingTasks.op_reply LivingTasks.after_op LivingTasks.commit LivingTasks.park_call LivingTasks.give_back LivingTasks.finish_task OwnEvents.on_moment OwnEvents.on_sweep OwnEvents.set_names OwnEvents.on_lookup OwnEvents.on_opened OwnEvents.on_refused ParkedFrames.start_call ParkedFrames.answer_parked ParkedFrames.go ParkedFrames.go_all ParkedFrames.park_frame ParkedFrames.fail_parked Refusals.refusal Requests.due_groups Requests.part_goes_out Requests.go_out Requests.dial Requests.ask Requests.flush_waiting Requests.make_group Requests.make_due Requests.ask_fresh Requests.settle Space.happen Space.on Space.state_of Space.outputs_of State.opening State.send Tasks.stand Tasks.step Tasks.steps Tasks.answer Tasks.lend_fuel Tasks.start Worlds.take_event Worlds.acts Worlds.step_task Worlds.deliver Worlds.read_fails Worlds.write_fails Worlds.accept Worlds.open_pipe Worlds.refuse Worlds.after Worlds.run Worlds.new_world Scripts.settle_world Scripts.settle_swept Scripts.run_lines
third_of_version_2 = refl
