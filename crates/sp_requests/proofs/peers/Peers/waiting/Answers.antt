use Rattle.std.proofs.Common.{map, sym, ap, subst, ◌∙◌}
use Rattle.std.specs.Prelude.{Option}
use Rattle.sp_rules.specs.Lines.{dialled_to}
use Rattle.sp_rules.specs.State.{Request}
use Rattle.sp_requests.specs.Asking.{asked_of}
use Rattle.sp_requests.specs.Ends.{waiting_among}
use Rattle.sp_requests.specs.Peers.{of_peer}
use Rattle.sp_requests.specs.declared.requests.Requests.{Requests}
use Rattle.sp_requests.specs.AllAsked.{IsAsked}
use Rattle.sp_requests.proofs.AskedLemmas.{none-waits, row-waiting, waits-mine}
use Rattle.sp_requests.proofs.peers.Peers.waiting.Goals as goal

pub returns-in-Some : goal.returns-in-Some
returns-in-Some c = λ connections requests a.
    row-waiting (dialled_to connections c.args.peer.now) (of_peer c.args.peer.now requests) c.in-Some.row.now (λ rows. map (λ (r : Request). r.asked) (waiting_among rows)) (map asked_of c.waiting.result.now) (λ conn sent is. c.waiting.ensures conn (of_peer c.args.peer.now requests) sent is)
    (subst (λ (o : Option Requests). IsAsked (dialled_to connections c.args.peer.now) (of_peer c.args.peer.now requests) o) (sym c.in-Some.ensures.value) (a.asked c.args.peer.now)) ∙ sym (ap (map (λ (r : Request). r.asked)) (waits-mine c.args.peer.now requests))

pub returns-in-None : goal.returns-in-None
returns-in-None c = λ connections requests a. sym (ap (map (λ (r : Request). r.asked)) (none-waits c.args.peer.now (sym c.in-None.ensures.value) a))
