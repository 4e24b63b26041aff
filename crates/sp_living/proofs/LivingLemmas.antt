-- What lives in a space, as its parts change one by one.
use Rattle.std.proofs.Common.{◌≡◌, ℕ, true, false, cond, List, [], ◌∷◌, ◌++◌, Option, None, Some, refl, sym, subst, ◌∙◌}
use Rattle.std.specs.Prelude.{find}
use Rattle.space_ids.specs.declared.ids.ForeignId.{ForeignId}
use Rattle.net_message.specs.declared.message.Message.{Message}
use Rattle.net_message.specs.declared.message.Message.TheVariants as message
use Rattle.sp_rules.specs.Classes.{Setting}
use Rattle.sp_rules.specs.Events.{Acks, Output, Started, Ended, Withdrawn, Denied, Send, Dial, Close, Ready, Sends, Turn}
use Rattle.sp_rules.specs.Space.{conclude, record_sent}
use Rattle.sp_rules.specs.Holders.{drop_ids, hold_ids, holder_comes, holder_goes}
use Rattle.sp_rules.specs.Lists.{each, with_some}
use Rattle.sp_rules.specs.ParkedFrames.{is_call_on, remove_requests}
use Rattle.sp_rules.specs.State.{State, KeptResult, Request, is_open, send}
use Rattle.sp_rules.specs.State as rules
use Rattle.sp_transport.specs.Answers.{acknowledge}
use Rattle.sp_transport.specs.Transports.{IsTransport}
use Rattle.sp_transport.specs.declared.transport.Transport.{Transport}
use Rattle.sp_living.specs.Livings.{IsLiving}
use Rattle.sp_living.specs.Parts.{AreParkedIn, AreResults, AreTasks, IsMoment}
use Rattle.sp_living.specs.declared.living.Living.{Living}

-- ---- parts

-- the parts of a state that the transport does not have
pub record Own : Type 0 where
  pub moment : ℕ
  pub tasks_made : ℕ
  pub tasks : List rules.Living
  pub results : List KeptResult
  pub parked : List rules.ParkedFrame

abbrev pub own_of : State → Own
own_of s = record { moment = s.moment; tasks_made = s.tasks_made; tasks = s.tasks; results = s.results; parked = s.parked }

-- what happens to the transport alone
pub moved : (g : Setting) (s u : State) (l : Living) (t : Transport) → own_of u ≡ own_of s → (IsTransport s l.transport → IsTransport u t) → IsLiving g s l → IsLiving g u (record l { transport = t })
moved g s u l t same now is = record {
  id = is.id;
  moment = subst (λ (o : Own). IsMoment l.moment o.moment) (sym same) is.moment;
  transport = now is.transport;
  tasks = subst (λ (o : Own). AreTasks g o.tasks_made o.tasks l.tasks) (sym same) is.tasks;
  results = subst (λ (o : Own). AreResults o.moment o.results l.results l.call_results) (sym same) is.results;
  parked = subst (λ (o : Own). AreParkedIn o.parked l.parked) (sym same) is.parked;
}

-- what happens to the other parts leaves the transport
pub beside : (s : State) (made : ℕ) (tasks : List rules.Living) (results : List KeptResult) (parked : List rules.ParkedFrame) (retired : ℕ) (t : Transport) → IsTransport s t
    → IsTransport (record s { tasks_made = made; tasks = tasks; results = results; parked = parked; retired = retired }) t
beside s made tasks results parked retired t a = record {
  leases = a.leases;
  connections = a.connections;
  noted = a.noted;
  asked = a.asked;
  calls_made = a.calls_made;
  groups_made = a.groups_made;
  fresh = a.fresh;
  notes = a.notes;
  lines = a.lines;
}

-- ---- holders

pub held-own : (ids : List ForeignId) (s : State) → own_of (hold_ids ids s) ≡ own_of s
unfolding hold_ids each
held-own [] s = refl
held-own (x ∷ xs) s = held-own xs (holder_comes s x)

pub dropped-own : (ids : List ForeignId) (s : State) → own_of (drop_ids ids s) ≡ own_of s
unfolding drop_ids each
dropped-own [] s = refl
dropped-own (x ∷ xs) s = dropped-own xs (holder_goes s x)

-- holders of references one after the other
pub held-append : (xs ys : List ForeignId) (s : State) → hold_ids (xs ++ ys) s ≡ hold_ids ys (hold_ids xs s)
unfolding hold_ids each
held-append [] ys s = refl
held-append (x ∷ xs) ys s = held-append xs ys (holder_comes s x)

pub dropped-append : (xs ys : List ForeignId) (s : State) → drop_ids (xs ++ ys) s ≡ drop_ids ys (drop_ids xs s)
unfolding drop_ids each
dropped-append [] ys s = refl
dropped-append (x ∷ xs) ys s = dropped-append xs ys (holder_goes s x)

-- none
pub held-none : (s : State) → hold_ids [] s ≡ s
unfolding hold_ids each
held-none s = refl

pub dropped-none : (s : State) → drop_ids [] s ≡ s
unfolding drop_ids each
dropped-none s = refl

-- one
pub held-one : (r : ForeignId) (s : State) → hold_ids (r ∷ []) s ≡ holder_comes s r
unfolding hold_ids each
held-one r s = refl

pub dropped-one : (r : ForeignId) (s : State) → drop_ids (r ∷ []) s ≡ holder_goes s r
unfolding drop_ids each
dropped-one r s = refl

-- ---- frames

pub sent-own : (turn : Turn) (conn : ℕ) (m : Message) (s : State) → own_of (send turn conn m s) ≡ own_of s
unfolding send
sent-own turn conn m s = elim (is_open s conn) as (λ b. own_of (cond b (record s { notes = s.notes ++ Sends turn conn m ∷ [] }) s) ≡ own_of s) [ true ↦ refl | false ↦ refl ]

pub acked-own : (conn number : ℕ) (s : State) → own_of (acknowledge conn number s) ≡ own_of s
acked-own conn number s =
    elim (find (is_call_on conn number) s.requests) as (λ (o : Option Request). own_of (with_some o s (λ r. send Acks conn (message.Ack number) (remove_requests (is_call_on conn number) s))) ≡ own_of s) [
      | None ↦ refl
      | Some r ↦ sent-own Acks conn (message.Ack number) (remove_requests (is_call_on conn number) s)
    ]

-- ---- connections, and what was sent on them

recorded-own : (s : State) (o : Output) → own_of (record_sent s o) ≡ own_of s
recorded-own s (Send conn m) = refl
recorded-own s (Started task) = refl
recorded-own s (Ended task outcome) = refl
recorded-own s (Withdrawn ids) = refl
recorded-own s (Denied fault) = refl
recorded-own s (Dial peer) = refl
recorded-own s (Close conn) = refl
recorded-own s (Ready task) = refl

each-recorded : (outputs : List Output) (s : State) → own_of (each record_sent outputs s) ≡ own_of s
unfolding each
each-recorded [] s = refl
each-recorded (o ∷ os) s = each-recorded os (record_sent s o) ∙ recorded-own s o

pub concluded-own : (s : State) (outputs : List Output) → own_of (conclude s outputs).0 ≡ own_of s
concluded-own s outputs = each-recorded outputs (record s { notes = [] })
