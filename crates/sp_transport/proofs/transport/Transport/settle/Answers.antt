use Rattle.std.proofs.Common.{◌≡◌, ◌∷◌, [], List, subst, sym}
use Rattle.sp_rules.specs.Laws.{AllOf}
use Rattle.sp_rules.specs.Requests.{make_due}
use Rattle.sp_rules.specs.State.{State, Request, Waits}
use Rattle.sp_requests.specs.Asking.{IsNamed, asked_of}
use Rattle.sp_transport.specs.Asking.{AreNextOut, AreNextWaiting, take_fresh}
use Rattle.sp_transport.specs.Transports.{IsTransport, call_number}
use Rattle.sp_transport.proofs.GoingLemmas.{on-ok}
use Rattle.sp_transport.proofs.SettleLemmas.{fresh-may-go, settle-none, settle-one}
use Rattle.sp_transport.proofs.transport.Transport.settle.Goals as goal

pub returns-in-Some : goal.returns-in-Some
returns-in-Some c = on-ok c.ask.result _ _
    (λ asks s stands may.
    let due : State = make_due s in
    let stands_due : IsTransport due c.make_due.new.self = (c.in_ok-make_due.ensures) s stands may.due in
    let r : Request = record { peer = c.in-Some.fresh.peer; asked = asked_of c.in-Some.fresh.asked; stage = Waits } in
    let fresh : due.fresh ≡ r ∷ [] = sym (c.in-Some.ensures.call due stands_due) in
    let named : AllOf (λ (q : Request). IsNamed q.asked) (r ∷ []) = subst (λ (rs : List Request). AllOf (λ (q : Request). IsNamed q.asked) rs) fresh (c.in-Some.ensures.named due stands_due) in
    let out : AllOf (λ (q : Request). AreNextOut (take_fresh due) q.peer (call_number q.asked)) (r ∷ []) = subst (λ (rs : List Request). AllOf (λ (q : Request). AreNextOut (take_fresh due) q.peer (call_number q.asked)) rs) fresh (c.in-Some.ensures.out due stands_due) in
    let waits : AllOf (λ (q : Request). AreNextWaiting (take_fresh due) (call_number q.asked)) (r ∷ []) = subst (λ (rs : List Request). AllOf (λ (q : Request). AreNextWaiting (take_fresh due) (call_number q.asked)) rs) fresh (c.in-Some.ensures.waits due stands_due) in
    subst (λ (t : State). IsTransport t c.ask.new.self) (sym (settle-one s r fresh))
    (asks (take_fresh due) (c.in-Some.ensures.taken due stands_due) named.0 out.0 waits.0 (fresh-may-go s c.make_due.new.self r fresh may stands_due)))
    c.ask.ensures

pub returns-in-None : goal.returns-in-None
returns-in-None c = λ s stands may.
    let due : State = make_due s in
    let stands_due : IsTransport due c.make_due.new.self = (c.in_ok-make_due.ensures) s stands may.due in
    subst (λ (t : State). IsTransport t c.take_fresh.new.self) (sym (settle-none s (sym (c.in-None.ensures.call due stands_due)))) (c.in-None.ensures.taken due stands_due)
