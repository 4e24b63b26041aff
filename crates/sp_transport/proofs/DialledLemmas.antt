-- A connection that this space dialled, found by its number.
use Rattle.std.proofs.Common.{◌≡◌, ℕ, Option, None, Some, is_some, refl, sym, ap, subst, ◌∙◌}
use Rattle.std.specs.Prelude.{◌==◌, option_and_then, option_map}
use Rattle.std.proofs.lemmas.Bool.{eqb-true}
use Rattle.uuid.specs.declared.Uuid.{Uuid}
use Rattle.sp_rules.proofs.AllLemmas.{found-is}
use Rattle.sp_rules.specs.Lines.{dialled_to}
use Rattle.sp_rules.specs.Requests.{most_ids, most_of}
use Rattle.sp_rules.specs.State.{State, Connection, connection_at}
use Rattle.sp_requests.specs.Tables.{seen}
use Rattle.sp_requests.specs.declared.connection.Connection as kept
use Rattle.sp_requests.proofs.LineLemmas.{number-line}
use Rattle.sp_transport.specs.Answers.{IsDialled}
use Rattle.sp_transport.specs.Said.{said}
use Rattle.sp_transport.specs.Transports.{IsTransport}
use Rattle.sp_transport.specs.declared.transport.Transport.{Transport}
use Rattle.sp_transport.proofs.SaidLemmas.{AreSameFound, rows-dialled, rows-noted}

pub dialled-line : (s : State) (t : Transport) (conn : ℕ) (c : Connection) (peer : Uuid) → connection_at s conn ≡ Some c → c.dialled ≡ Some peer → IsTransport s t → IsDialled s peer conn
dialled-line s t conn c peer at its a = pick (dialled_to (said s) peer) refl (subst (λ (o : Option Connection). AreSameFound o (dialled_to (said s) peer)) base (rows-dialled s.connections (said s) peer (rows-noted s.notes s.connections)))
  where
    base : dialled_to s.connections peer ≡ Some c
    base = number-line s.connections conn c peer a.connections.dialled_once at its

    number : c.number ≡ conn
    number = eqb-true c.number conn (found-is (λ (d : Connection). d.number == conn) s.connections c at)

    pick : (o : Option Connection) → dialled_to (said s) peer ≡ o → AreSameFound (Some c) o → IsDialled s peer conn
    pick None e same = absurd same
    pick (Some d) e same = record { row = d; there = e; number = sym same.number ∙ number; stands = ap is_some at }

-- ---- as a table shows it

nothing : {A : Type 0} (x : A) → None ≡ Some x → ⊥
nothing x h = cc

only : {A : Type 0} (x y : A) → Some x ≡ Some y → x ≡ y
only x y h = cc

pub dialled-seen : (o : Option Connection) (x : kept.Connection) → Some x ≡ option_map seen o → x.dialled ≡ option_and_then (λ (c : Connection). c.dialled) o
dialled-seen None x e = absurd (nothing x (sym e))
dialled-seen (Some c) x e = ap (λ (y : kept.Connection). y.dialled) (only x (seen c) e)

pub dialled-unseen : (o : Option Connection) → None ≡ option_map seen o → None ≡ option_and_then (λ (c : Connection). c.dialled) o
dialled-unseen None e = refl
dialled-unseen (Some c) e = absurd (nothing (seen c) e)

-- a connection that was dialled has a peer
pub has-peer : (o : Option Connection) (c : Connection) (peer : Uuid) → o ≡ Some c → c.dialled ≡ Some peer → None ≡ option_and_then (λ (d : Connection). d.dialled) o → ⊥
has-peer o c peer at its e = nothing peer (e ∙ (ap (option_and_then (λ (d : Connection). d.dialled)) at ∙ its))

-- which is this one
pub peer-line : (s : State) (t : Transport) (conn : ℕ) (c : Connection) (peer : Uuid) → connection_at s conn ≡ Some c → Some peer ≡ option_and_then (λ (d : Connection). d.dialled) (connection_at s conn) → IsTransport s t → IsDialled s peer conn
peer-line s t conn c peer at e a = dialled-line s t conn c peer at (sym (e ∙ ap (option_and_then (λ (d : Connection). d.dialled)) at)) a

-- how many ids a frame names at most on a connection of which this is kept
pub most-seen : (o : Option Connection) (x : kept.Connection) → Some x ≡ option_map seen o → most_ids x.version ≡ most_of o
most-seen None x e = absurd (nothing x (sym e))
most-seen (Some c) x e = ap (λ (y : kept.Connection). most_ids y.version) (only x (seen c) e)

pub most-unseen : (o : Option Connection) → None ≡ option_map seen o → 1024 ≡ most_of o
most-unseen None e = refl
most-unseen (Some c) e = absurd (nothing (seen c) e)
