use Rattle.std.proofs.Common.{◌∷◌, ◌++◌, [], ap, ◌∙◌}
use Rattle.net_message.specs.declared.message.Message.{Message}
use Rattle.sp_rules.specs.Events.{Sends}
use Rattle.sp_rules.specs.Requests.{group_frame}
use Rattle.sp_outputs.specs.Notes.{notes_of, turn_of}
use Rattle.sp_transport.specs.Transports.{IsTransport}
use Rattle.sp_transport.proofs.GoingLemmas.{tell-out}
use Rattle.sp_transport.proofs.transport.Transport.tell_part.Goals as goal

pub returns : goal.returns
returns c = λ s stands hello may.
    let ready : IsTransport s c.reserve_notes.new.self = c.reserve_notes.ensures.same s (c.reserve_requests.ensures.same s stands) in
    let frame = c.frame_of-message.ensures ∙ ap (group_frame c.args.part.kind c.in-Some.sequence) (c.new-ids.ensures ∙ c.in_ok-to_vec.ensures.items_if_clones_equal (λ x y e. e) ∙ c.as_slice.ensures) in
    tell-out s c.reserve_notes.new.self c.args.turn c.args.conn c.args.call c.args.part c.in-Some.sequence c.sent.new.self c.tell_reserved.new.self c.send_reserved.new.self c.requires (c.in-Some.ensures.number s.leases ready.leases) hello may
    (c.in-Some.ensures.some s.leases ready.leases) c.tell_reserved.ensures.sent
    (c.send_reserved.ensures.notes ∙ ap (λ (m : Message). notes_of c.reserve_notes.new.self.outputs ++ Sends (turn_of c.args.turn) c.args.conn m ∷ []) frame) ready
