use Rattle.std.proofs.Common.{◌≡◌, List, sym, ap, subst, ◌∙◌}
use Rattle.std.specs.Prelude.{filter}
use Rattle.std.specs.List.{flat_map}
use Rattle.std.proofs.lemmas.Result.{on_ok_weaker}
use Rattle.sp_rules.specs.Endings.{end_request, is_group}
use Rattle.sp_rules.specs.Lists.{each}
use Rattle.sp_rules.specs.State.{State, Request}
use Rattle.sp_requests.specs.Ends.{ended_group}
use Rattle.sp_requests.specs.declared.asked.OutGroup.{OutGroup}
use Rattle.sp_requests.specs.declared.ended.EndedCall.{EndedCall}
use Rattle.sp_transport.specs.Answers.{ended_as}
use Rattle.sp_endings.specs.Ends.{end_call, fail_out}
use Rattle.sp_living.specs.Livings.{IsLiving}
use Rattle.sp_endings.proofs.EndLemmas.{calls-end, groups-fail}
use Rattle.sp_tasks.proofs.LentLemmas.{lent-then}
use Rattle.sp_endings.proofs.ends.end_all.Goals as goal

pub returns-clause-ended : goal.returns-clause-ended
returns-clause-ended w c = on_ok_weaker c.fail_groups.result (λ failed. λ g s why unsent requests a tells ended thrown.
    let calls : c.deref.result.now ≡ flat_map (ended_as unsent) requests = c.deref.ensures.value ∙ ended.calls in
    let groups : c.deref-2.result.now ≡ flat_map ended_group requests = c.deref-2.ensures.value ∙ ended.groups in
    let after = each (end_call g c.args.thrown) (flat_map (ended_as unsent) requests) s in
    let now = subst (λ (l : List EndedCall). IsLiving g (each (end_call g c.args.thrown) l s) c.end_calls.new.living) calls (c.in_ok-end_calls.ensures.ended g s a) in
    let failed-all = subst (λ (l : List OutGroup). IsLiving g (each (fail_out g) l after) c.fail_groups.new.living) groups (failed g after now tells) in
    subst (λ (u : State). IsLiving g u c.fail_groups.new.living)
    (sym (ap (each (end_request g why) (filter (λ (r : Request). is_group r.asked) requests)) (calls-end g why unsent c.args.thrown thrown requests s) ∙ groups-fail g why requests after))
    failed-all) c.fail_groups.ensures.failed

pub returns-clause-lent : goal.returns-clause-lent
returns-clause-lent w c = on_ok_weaker c.fail_groups.result (λ failed. lent-then c.in_ok-end_calls.ensures.lent failed) c.fail_groups.ensures.lent
