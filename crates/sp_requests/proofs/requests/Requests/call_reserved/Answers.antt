use Rattle.std.proofs.Common.{◌+◌, ◌-◌, length, sym, ap, subst, ◌++◌, ◌∷◌, [], ◌∙◌}
use Rattle.std.specs.Prelude.{min, ◌^◌, false}
use Rattle.rising_map.specs.Rows.{AreRows}
use Rattle.rising_map.specs.declared.map.RisingMap.{RisingMap}
use Rattle.sp_requests.specs.declared.asked.OutCall.{OutCall}
use Rattle.sp_requests.specs.declared.requests.Requests.{Requests}
use Rattle.sp_requests.specs.Asking.{calls_in, last_call, last_sequence}
use Rattle.sp_requests.proofs.FrameLemmas.{call-sent, fits}
use Rattle.sp_requests.proofs.requests.Requests.call_reserved.Goals as goal

pub returns-clause-sent : goal.returns-clause-sent
returns-clause-sent c = λ conn rows sent peer asked frame a above asks named its.
    let e = c.count_frame.ensures in
    let old = c.args.self.now in
    call-sent conn c.args.number c.args.asker rows sent peer asked frame old _ (ap (λ (t : Requests). t.waiting) e) (ap (λ (t : Requests). t.groups) e)
    (ap (λ (t : Requests). t.frames) e ∙ ap (λ n. min (n + 1) (2 ^ 128 - 1)) a.frames ∙ fits (length sent) (length (calls_in sent rows)) (last_call sent) (last_sequence sent) a.few a.call_fits a.sequence_fits)
    c.ranges.number.fits above asks named its
    (λ calls b below. subst (λ (m : RisingMap OutCall). AreRows (calls ++ (c.args.number, record { asker = c.args.asker; answered = false; index = old.frames }) ∷ []) m) (sym (ap (λ (t : Requests). t.calls) e)) (c.push_reserved.ensures.pushed calls b below)) a
