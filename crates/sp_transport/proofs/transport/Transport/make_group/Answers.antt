use Rattle.std.proofs.Common.{◌≡◌, ℕ, ◌+◌, ap, subst, sym, ◌∙◌}
use Rattle.sp_rules.specs.Requests.{ask}
use Rattle.sp_rules.specs.State.{State}
use Rattle.sp_transport.specs.Asking.{make_calls}
use Rattle.sp_transport.specs.Transports.{IsTransport}
use Rattle.sp_transport.proofs.GoingLemmas.{on-ok}
use Rattle.sp_transport.proofs.MakingLemmas.{no-next-out, no-next-waiting}
use Rattle.sp_transport.proofs.SettleLemmas.{group-asked, request_of}
use Rattle.sp_transport.proofs.transport.Transport.make_group.Goals as goal

pub returns : goal.returns
returns c = on-ok c.ask.result _ _
    (λ asks s stands may.
    let group = c.args.group in
    let made : State = make_calls group s in
    let now = c.make_calls.new.self in
    let stands_now : IsTransport made now = (c.in_ok-call.ensures).made s stands in
    let number : c.in_ok-call.call ≡ s.groups_made + 1 = (c.in_ok-call.ensures).number s stands in
    subst (λ (t : State). IsTransport t c.ask.new.self) (ap (λ (n : ℕ). ask made (request_of group n)) number ∙ sym (group-asked s group))
    (asks made stands_now tt (no-next-out made now group.peer stands_now) (no-next-waiting made now stands_now) may))
    c.ask.ensures
