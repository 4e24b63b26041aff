use Rattle.std.proofs.Common.{◌≡◌, ◌+◌, ◌-◌, [], length, ap, refl, ◌∙◌, arith}
use Rattle.std.specs.Prelude.{min, ◌^◌}
use Rattle.sp_requests.specs.declared.requests.Requests.{Requests}
use Rattle.net_message.specs.declared.message.Message.TheVariants as message
use Rattle.sp_requests.specs.Asking.{calls_in}
use Rattle.sp_requests.proofs.AskingLemmas.{none-sent}
use Rattle.sp_requests.proofs.FrameLemmas.{frame-sent}
use Rattle.sp_requests.proofs.requests.Requests.hello.Goals as goal

pub returns-clause-sent : goal.returns-clause-sent
returns-clause-sent c = λ conn version rows space digest a.
    let e = c.count_frame.ensures in
    let count : length (calls_in [] rows) ≡ 0 = ap length (none-sent (calls_in [] rows) a.were_sent) in
    frame-sent conn rows [] (message.Hello version space digest) c.args.self.now c.count_frame.new.self (ap (λ (t : Requests). t.waiting) e) (ap (λ (t : Requests). t.calls) e) (ap (λ (t : Requests). t.groups) e)
    (ap (λ (t : Requests). t.frames) e ∙ ap (λ n. min (n + 1) (2 ^ 128 - 1)) a.frames) refl refl (omega (arith, count)) a
