-- A peer is dialled again: results that are held leave that.
use Rattle.std.proofs.Common.{true, false, cond, List, ◌∷◌, ◌++◌, [], is_some}
use Rattle.std.specs.Prelude.{◌||◌}
use Rattle.uuid.specs.declared.Uuid.{Uuid}
use Rattle.sp_rules.specs.Events.{Dial}
use Rattle.sp_rules.specs.Requests.{dial}
use Rattle.sp_rules.specs.State.{State, KeptResult, connection_to, is_dialling, say}
use Rattle.sp_transport.specs.Transports.{IsTransport}
use Rattle.sp_transport.specs.declared.transport.Transport.{Transport}
use Rattle.sp_living.proofs.TableLemmas.{transport-beside}

pub dials-beside : (peer : Uuid) (s : State) (results : List KeptResult) (t : Transport) → IsTransport (dial peer s) t → IsTransport (dial peer (record s { results = results })) t
unfolding dial
dials-beside peer s results t =
    elim (is_some (connection_to s peer) || is_dialling s peer) as (λ b. IsTransport (cond b s (say (Dial peer) (record s { dialling = s.dialling ++ peer ∷ [] }))) t
    → IsTransport (cond b (record s { results = results }) (say (Dial peer) (record s { results = results; dialling = s.dialling ++ peer ∷ [] }))) t) [
      | true ↦ λ a. transport-beside s results s.parked t a
      | false ↦ λ a. transport-beside (say (Dial peer) (record s { dialling = s.dialling ++ peer ∷ [] })) results s.parked t a
    ]
