-- Answers to dirty and clean calls, and connections, as the calls on the transport tell them.
use Rattle.std.proofs.Common.{◌≡◌, ℕ, Bool, List, Option, None, Some, sym, ap, ◌∙◌}
use Rattle.std.specs.Prelude.{find, option_map}
use Rattle.dgc_client.specs.History as lease_events
use Rattle.sp_requests.specs.Tables.{seen}
use Rattle.sp_requests.specs.declared.connection.Connection.{Connection as Shown}
use Rattle.sp_rules.specs.Frames.{group_told, tells_on}
use Rattle.sp_rules.specs.Lists.{with_some}
use Rattle.sp_rules.specs.ParkedFrames.{remove_requests}
use Rattle.sp_rules.specs.State.{State, Connection, Request}
use Rattle.sp_requests.specs.declared.asked.OutGroup.{OutGroup}
use Rattle.sp_transport.specs.Answers.{tell_leases}
use Rattle.sp_living.specs.Telling.{answered}
use Rattle.sp_living.proofs.FoundLemmas.{IsTold, none-found}

-- ---- answers

-- There are such calls, and this is told of them.
pub some-answered : (s : State) (dirty : Bool) (conn sequence : ℕ) (event : ℕ → lease_events.Event) (out : OutGroup) → IsTold out (find (tells_on dirty conn sequence) s.requests)
    → answered dirty conn sequence event s ≡ tell_leases out.group (event out.call) (remove_requests (tells_on dirty conn sequence) s)
some-answered s dirty conn sequence event out is =
    ap (λ (o : Option Request). with_some o s (λ (r : Request). group_told event r.asked (remove_requests (tells_on dirty conn sequence) s))) is.there
    ∙ is.tells event (remove_requests (tells_on dirty conn sequence) s)

-- There are none.
pub none-answered : (s : State) (dirty : Bool) (conn sequence : ℕ) (event : ℕ → lease_events.Event) → find (tells_on dirty conn sequence) s.requests ≡ None
    → answered dirty conn sequence event s ≡ remove_requests (tells_on dirty conn sequence) s
none-answered s dirty conn sequence event none =
    ap (λ (o : Option Request). with_some o s (λ (r : Request). group_told event r.asked (remove_requests (tells_on dirty conn sequence) s))) none
    ∙ sym (ap (λ (rs : List Request). record s { requests = rs }) (none-found (tells_on dirty conn sequence) s.requests none))

-- ---- connections

only : {A : Type 0} (x y : A) → Some x ≡ Some y → x ≡ y
only x y is = cc

-- the peer to which an open connection was dialled, as it is shown
pub dialled-as : (shown : Shown) (c : Connection) {o : Option Connection} → Some shown ≡ option_map seen o → o ≡ Some c → c.dialled ≡ shown.dialled
dialled-as shown c is there = sym (ap (λ (d : Shown). d.dialled) (only shown (seen c) (is ∙ ap (option_map seen) there)))
