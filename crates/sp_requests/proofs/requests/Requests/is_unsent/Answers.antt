use Rattle.std.proofs.Common.{◌≡◌, ◌+◌, ◌-◌, nat_eq, Some, length, sym, ap, ◌∙◌, true≢false}
use Rattle.std.specs.Prelude.{is_some, min, nat_le, ◌^◌}
use Rattle.std.specs.Map.{lookup}
use Rattle.sp_requests.specs.Asking.{calls_in, last_call, last_sequence, index_of}
use Rattle.sp_requests.proofs.AskingLemmas.{found-some, some-out}
use Rattle.sp_requests.proofs.FrameLemmas.{index-below, sums, unsent}
use Rattle.sp_requests.proofs.requests.Requests.is_unsent.Goals as goal

pub returns-in-Some : goal.returns-in-Some
returns-in-Some c = λ conn rows sent a there.
    let table = c.args.self.now in
    let n = c.args.number in
    let found : lookup (nat_eq n) (calls_in sent rows) ≡ Some c.in-Some.call.now = sym (c.in-Some.ensures (calls_in sent rows) a.calls) in
    let at = some-out conn n sent rows c.in-Some.call.now a.on a.were_sent found in
    let sum : c.saturating_add.result ≡ index_of n sent + c.args.unsent =
    c.saturating_add.ensures ∙ ap (λ x. min (c.in-Some.call.now.index + x) (2 ^ 128 - 1)) c.from.ensures ∙ ap (λ x. min (x + c.args.unsent) (2 ^ 128 - 1)) at.0
    ∙ sums (index_of n sent) (length sent) (length (calls_in sent rows)) (last_call sent) (last_sequence sent) c.args.unsent (index-below n sent at.1) a.few a.call_fits a.sequence_fits c.ranges.unsent.fits in
    (λ j. nat_le (a.frames j) (sum j)) ∙ sym (unsent n sent c.args.unsent at.1)

pub returns-in-None : goal.returns-in-None
returns-in-None c = λ conn rows sent a there.
    absurd (true≢false (sym (found-some conn c.args.number sent rows a.on there) ∙ ap is_some (sym (c.in-None.ensures (calls_in sent rows) a.calls))))
