-- The calls that an event makes: what becomes of a transport, and which numbers may go on.
use Rattle.std.proofs.Common.{◌≡◌, ℕ, ◌+◌, ◌≤◌, List, [], ◌∷◌, ◌++◌, Option, None, Some, refl, sym, ap, subst, ◌∙◌, arith}
use Rattle.dgc_client.specs.declared.groups.Group.{Group}
use Rattle.dgc_client.specs.declared.table.Clients.{Clients}
use Rattle.dgc_client.specs.Table as client
use Rattle.uuid.specs.declared.Uuid.{Uuid}
use Rattle.sp_rules.specs.Laws.{AllOf, RisesWithin}
use Rattle.sp_rules.specs.State.{State, Request, Waits}
use Rattle.sp_requests.specs.Asking.{IsNamed, asked_of, last_call}
use Rattle.sp_requests.specs.declared.asked.Asked.{Asked}
use Rattle.sp_transport.specs.Asking.{AreNextOut, AreNextWaiting, make_call, make_calls, take_fresh}
use Rattle.sp_transport.specs.Transports.{IsFresh, IsTransport, asked_up_to, call_number, fresh_of, line_parts, waiting_numbers}
use Rattle.sp_transport.specs.declared.transport.Fresh.{Fresh}
use Rattle.sp_transport.specs.declared.transport.Transport.{Transport}
use Rattle.sp_transport.proofs.LinesLemmas.{lines-make, lines-taken, rises-last}
use Rattle.sp_transport.proofs.OrderLemmas.{append-none}
use Rattle.sp_transport.proofs.StepLemmas.{told-numbers, with-leases}

-- a call or lookup is made
pub now-made : (s : State) (t : Transport) (peer : Uuid) (asked : Asked) (made : ℕ) → made ≡ s.calls_made + 1 → call_number (asked_of asked) ≡ (s.calls_made + 1) ∷ [] → IsNamed (asked_of asked) → IsTransport s t
    → IsTransport (make_call peer (asked_of asked) s) (record t { calls_made = made; fresh = Some (record { peer = peer; asked = asked }) })
now-made s t peer asked made is number named a = record {
  leases = a.leases;
  connections = a.connections;
  noted = a.noted;
  asked = a.asked;
  calls_made = is;
  groups_made = a.groups_made;
  fresh = refl;
  notes = a.notes;
  lines = lines-make (line_parts s) (record { peer = peer; asked = asked_of asked; stage = Waits }) a.lines number named;
}

-- it is taken, to be asked
pub now-taken : (s : State) (t : Transport) → IsTransport s t → IsTransport (take_fresh s) (record t { fresh = None })
now-taken s t a = record {
  leases = a.leases;
  connections = a.connections;
  noted = a.noted;
  asked = a.asked;
  calls_made = a.calls_made;
  groups_made = a.groups_made;
  fresh = refl;
  notes = a.notes;
  lines = lines-taken (line_parts s) a.lines;
}

-- the request of the event, as it is kept
fresh-is : (s : State) (f : Fresh) (kept : Option Fresh) → kept ≡ Some f → fresh_of kept ≡ s.fresh → s.fresh ≡ record { peer = f.peer; asked = asked_of f.asked; stage = Waits } ∷ []
fresh-is s f kept e is = sym is ∙ ap fresh_of e

-- what is said of it
fresh-facts : (s : State) (t : Transport) (f : Fresh) → t.fresh ≡ Some f → IsTransport s t → IsFresh s.calls_made (record { peer = f.peer; asked = asked_of f.asked; stage = Waits })
fresh-facts s t f e a = let all : AllOf (IsFresh s.calls_made) (record { peer = f.peer; asked = asked_of f.asked; stage = Waits } ∷ []) = subst (AllOf (IsFresh s.calls_made)) (fresh-is s f t.fresh e a.fresh) a.lines.fresh_is in all.0

pub fresh-named : (s : State) (t : Transport) (f : Fresh) → t.fresh ≡ Some f → IsTransport s t → IsNamed (asked_of f.asked)
fresh-named s t f e a = (fresh-facts s t f e a).1

-- all others were asked before
before-fresh : (s : State) (t : Transport) (f : Fresh) → t.fresh ≡ Some f → IsTransport s t → asked_up_to s.calls_made s.fresh + 1 ≡ s.calls_made
before-fresh s t f e a =
    let least : 1 ≤ s.calls_made = (fresh-facts s t f e a).2 in
    ap (λ (l : List Request). asked_up_to s.calls_made l + 1) (fresh-is s f t.fresh e a.fresh) ∙ omega (arith, least)

pub fresh-out : (s : State) (t : Transport) (f : Fresh) → t.fresh ≡ Some f → IsTransport s t → AreNextOut (take_fresh s) f.peer (call_number (asked_of f.asked))
fresh-out s t f e a = λ c there.
    let before = before-fresh s t f e a in
    let sent : last_call c.sent ≤ asked_up_to s.calls_made s.fresh = (a.lines.sent f.peer c there).called in
    let rises : RisesWithin (last_call c.sent) s.calls_made (s.calls_made ∷ []) = (omega (arith, before, sent), omega arith) in
    subst (RisesWithin (last_call c.sent) s.calls_made) (sym (fresh-facts s t f e a).0) rises

pub fresh-waits : (s : State) (t : Transport) (f : Fresh) → t.fresh ≡ Some f → IsTransport s t → AreNextWaiting (take_fresh s) (call_number (asked_of f.asked))
fresh-waits s t f e a =
    let before = before-fresh s t f e a in
    subst (λ (l : List ℕ). RisesWithin 0 s.calls_made (waiting_numbers s.requests ++ l)) (sym (fresh-facts s t f e a).0)
    (rises-last 0 (asked_up_to s.calls_made s.fresh) s.calls_made s.calls_made (waiting_numbers s.requests) (omega (arith, before)) (omega arith) a.lines.rising)

-- what holds of the call of the event, if it made one
fresh-all : (P : Request → Type 0) (kept : Option Fresh) → ((f : Fresh) → kept ≡ Some f → P (record { peer = f.peer; asked = asked_of f.asked; stage = Waits })) → AllOf P (fresh_of kept)
fresh-all P None each = tt
fresh-all P (Some f) each = (each f refl, tt)

pub all-named : (s : State) (t : Transport) → IsTransport s t → AllOf (λ (r : Request). IsNamed r.asked) s.fresh
all-named s t a = subst (AllOf (λ (r : Request). IsNamed r.asked)) a.fresh (fresh-all (λ (r : Request). IsNamed r.asked) t.fresh (λ f e. fresh-named s t f e a))

pub all-out : (s : State) (t : Transport) → IsTransport s t → AllOf (λ (r : Request). AreNextOut (take_fresh s) r.peer (call_number r.asked)) s.fresh
all-out s t a = subst (AllOf (λ (r : Request). AreNextOut (take_fresh s) r.peer (call_number r.asked))) a.fresh (fresh-all (λ (r : Request). AreNextOut (take_fresh s) r.peer (call_number r.asked)) t.fresh (λ f e. fresh-out s t f e a))

pub all-wait : (s : State) (t : Transport) → IsTransport s t → AllOf (λ (r : Request). AreNextWaiting (take_fresh s) (call_number r.asked)) s.fresh
all-wait s t a = subst (AllOf (λ (r : Request). AreNextWaiting (take_fresh s) (call_number r.asked))) a.fresh (fresh-all (λ (r : Request). AreNextWaiting (take_fresh s) (call_number r.asked)) t.fresh (λ f e. fresh-waits s t f e a))

-- dirty or clean calls are made
pub now-calls : (s : State) (t : Transport) (group : Group) (call : ℕ) (leases : Clients) → call ≡ s.groups_made + 1 → client.IsAfter (client.made group call s.leases) leases → IsTransport s t
    → IsTransport (make_calls group s) (record t { groups_made = call; leases = leases })
now-calls s t group call leases is after a =
    let b = with-leases s t (client.made group (s.groups_made + 1) s.leases) leases (told-numbers group (client.making group.kind (s.groups_made + 1)) s.leases) (subst (λ (n : ℕ). client.IsAfter (client.made group n s.leases) leases) is after) a in record {
      leases = b.leases;
      connections = a.connections;
      noted = a.noted;
      asked = a.asked;
      calls_made = a.calls_made;
      groups_made = is;
      fresh = a.fresh;
      notes = a.notes;
      lines = b.lines;
    }

-- a group asks under no number of a call
pub no-next-out : (s : State) (t : Transport) (peer : Uuid) → IsTransport s t → AreNextOut s peer []
no-next-out s t peer a = λ c there. (a.lines.sent peer c there).called

pub no-next-waiting : (s : State) (t : Transport) → IsTransport s t → AreNextWaiting s []
no-next-waiting s t a = subst (RisesWithin 0 (asked_up_to s.calls_made s.fresh)) (sym (append-none (waiting_numbers s.requests))) a.lines.rising
