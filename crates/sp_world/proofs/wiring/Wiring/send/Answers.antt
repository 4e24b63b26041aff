use Rattle.std.proofs.Common.{refl, subst}
use Rattle.std.proofs.lemmas.Result.{on_ok_weaker}
use Rattle.net_message.specs.declared.message.Message.{Message}
use Rattle.sp_rules.specs.Events.{Send}
use Rattle.sp_rules.specs.Worlds.{put}
use Rattle.sp_pipes.specs.Connections.{ArePipes}
use Rattle.sp_world.proofs.WiringLemmas.{on-err, wired-pipes}
use Rattle.sp_world.proofs.wiring.Wiring.send.Goals as goal

pub returns-clause-sent : goal.returns-clause-sent
returns-clause-sent c = on_ok_weaker c.queue_up.result (λ k w h.
    wired-pipes w (put c.args.writer w (Send c.args.conn c.args.message.now)) c.args.self.now _ refl refl refl refl
    (subst (λ (m : Message). ArePipes (put c.args.writer w (Send c.args.conn m)).pipes c.queue_up.new.self) c.in_ok-copy.ensures (k w.pipes h.pipes)) h) c.queue_up.ensures.queued

pub returns-clause-same : goal.returns-clause-same
returns-clause-same c = on-err c.queue_up.result (λ k w h. wired-pipes w w c.args.self.now _ refl refl refl refl (k w.pipes h.pipes) h) c.queue_up.ensures.same
