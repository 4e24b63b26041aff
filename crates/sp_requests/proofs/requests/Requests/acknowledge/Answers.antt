use Rattle.std.proofs.Common.{◌+◌, ◌-◌, length, refl, sym, ap, ◌∙◌, true≢false}
use Rattle.std.specs.Prelude.{filter, is_some, min, not, ◌^◌}
use Rattle.net_message.specs.declared.message.Message.TheVariants as message
use Rattle.sp_rules.specs.ParkedFrames.{is_call_on}
use Rattle.sp_rules.specs.State.{Request}
use Rattle.sp_requests.specs.declared.requests.Requests.{Requests}
use Rattle.sp_requests.specs.Asking.{calls_in, last_call, last_sequence}
use Rattle.sp_requests.proofs.AskingLemmas.{found-call, none-out}
use Rattle.sp_requests.proofs.FrameLemmas.{acknowledge-call, fits}
use Rattle.sp_requests.proofs.requests.Requests.acknowledge.Goals as goal

pub returns-in_err-call-clause-acknowledged : goal.returns-in_err-call-clause-acknowledged
returns-in_err-call-clause-acknowledged c = λ conn rows sent a there.
    absurd (true≢false (sym there ∙ ap is_some (none-out conn c.args.number sent rows a.on (found-call conn c.args.number sent rows a.on ∙ sym (c.in_err-call.ensures.call conn rows sent a)))))

pub returns-clause-acknowledged : goal.returns-clause-acknowledged
returns-clause-acknowledged c = λ conn rows sent a there.
    let e = c.count_frame.ensures in
    let mid = c.take_call.new.self in
    let b = c.in_ok-call.ensures.taken conn rows sent a in
    let left = filter (λ (r : Request). not (is_call_on conn c.args.number r)) rows in
    acknowledge-call conn c.args.number rows sent (message.Ack c.args.number) c.args.self.now mid c.count_frame.new.self b
    (e ∙ (λ j. record mid { frames = sym (ap (λ (t : Requests). t.frames) e) j }))
    (ap (λ (t : Requests). t.frames) e ∙ ap (λ n. min (n + 1) (2 ^ 128 - 1)) b.frames ∙ fits (length sent) (length (calls_in sent left)) (last_call sent) (last_sequence sent) b.few b.call_fits b.sequence_fits) refl refl there a
