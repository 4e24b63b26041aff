use Rattle.std.proofs.Common.{◌+◌, ◌-◌, length, sym, ap, subst, ◌++◌, ◌∷◌, [], ◌∙◌}
use Rattle.std.specs.Prelude.{min, ◌^◌}
use Rattle.rising_map.specs.Rows.{AreRows}
use Rattle.rising_map.specs.declared.map.RisingMap.{RisingMap}
use Rattle.sp_requests.specs.declared.asked.OutGroup.{OutGroup}
use Rattle.sp_requests.specs.declared.requests.Requests.{Requests}
use Rattle.sp_requests.specs.Asking.{calls_in, groups_in, last_call, last_sequence}
use Rattle.sp_requests.proofs.FrameLemmas.{fits}
use Rattle.sp_requests.proofs.GroupLemmas.{group-sent}
use Rattle.sp_requests.proofs.requests.Requests.tell_reserved.Goals as goal

pub returns-clause-sent : goal.returns-clause-sent
returns-clause-sent c = λ conn rows sent peer a above.
    let e = c.count_frame.ensures in
    let old = c.args.self.now in
    group-sent conn c.args.sequence c.args.call c.args.group rows sent peer old _ (ap (λ (t : Requests). t.waiting) e) (ap (λ (t : Requests). t.calls) e)
    (ap (λ (t : Requests). t.frames) e ∙ ap (λ n. min (n + 1) (2 ^ 128 - 1)) a.frames ∙ fits (length sent) (length (calls_in sent rows)) (last_call sent) (last_sequence sent) a.few a.call_fits a.sequence_fits)
    c.ranges.sequence.fits above
    (λ below. subst (λ (m : RisingMap OutGroup). AreRows (groups_in rows ++ (c.args.sequence, record { call = c.args.call; group = c.args.group }) ∷ []) m) (sym (ap (λ (t : Requests). t.groups) e)) (c.push_reserved.ensures.pushed (groups_in rows) a.groups below)) a
