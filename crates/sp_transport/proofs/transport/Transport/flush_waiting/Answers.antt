use Rattle.std.proofs.Common.{◌≡◌, ◌∷◌, [], List, ap, rules, subst, sym, ◌∙◌}
use Rattle.std.proofs.lemmas.List.{nil_from_length}
use Rattle.std.specs.Prelude.{map}
use Rattle.std.specs.List.{flat_map}
use Rattle.sp_rules.specs.Laws.{AllOf}
use Rattle.sp_requests.specs.Asking.{IsNamed, asked_of}
use Rattle.sp_requests.specs.declared.asked.Asked.{Asked}
use Rattle.sp_transport.specs.Asking.{AreNextOut, welcome}
use Rattle.sp_transport.specs.Transports.{call_number}
use Rattle.sp_transport.proofs.FlushLemmas.{flushing-all, flushing-start, flushing-step}
use Rattle.sp_transport.proofs.transport.Transport.flush_waiting.Goals as goal

pub loop-asked-init : goal.loop-asked-init
loop-asked-init c = λ s k stands none at its quiet.
    let given : c.into_iter-asked-iterator.result.rest.items ≡ c.welcome-waiting.result.items = search rules in
    let w = c.welcome-waiting.ensures in
    flushing-start c.args.conn c.args.peer.now s c.into_iter-asked-iterator.result.rest.items c.welcome-waiting.new.self none (w.welcomed s k stands none at its) (w.hello s k stands at its)
    (subst (λ (l : List Asked). AreNextOut (welcome c.args.peer.now c.args.conn s) c.args.peer.now (flat_map call_number (map asked_of l))) (sym given) (w.out s k stands none at its quiet))
    (subst (λ (l : List Asked). AllOf IsNamed (map asked_of l)) (sym given) (w.named s k stands at its)) (ap (λ (l : List Asked). map asked_of l) given ∙ w.waited s k stands at its)

pub loop-asked-preserved : goal.loop-asked-preserved
loop-asked-preserved c = λ s k stands none at its quiet.
    let next : c.loop-asked.asked-iterator.rest.items ≡ c.in-Some.asked ∷ c.next.new.self.rest.items = search rules in
    flushing-step c.args.conn c.args.peer.now s c.loop-asked.yielded c.in-Some.asked c.loop-asked.asked-iterator.rest.items c.next.new.self.rest.items c.loop-asked.self c.go_out.new.self next (c.loop-asked.invariant s k stands none at its quiet)
    (λ v a came named out may. (c.in_ok-go_out.ensures) v a came named out may)

pub returns : goal.returns
returns c = λ s k stands none at its quiet.
    let empty : c.loop-asked.asked-iterator.rest.items ≡ [] = nil_from_length _ (sym c.loop-asked.asked-iterator.rest.ok.0 ∙ (c.in-None.ensures).steps.0) in
    flushing-all c.args.conn c.args.peer.now s c.loop-asked.yielded c.loop-asked.asked-iterator.rest.items c.loop-asked.self empty (c.loop-asked.invariant s k stands none at its quiet)
