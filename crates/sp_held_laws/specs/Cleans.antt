-- Clean calls of a reference that is granted: those that wait for an answer went out before the dirty call that was granted (Java RMI specification, 9.1: the calls of a client are ordered by their sequence numbers).
use Rattle.std.specs.Prelude.{◌≡◌, ℕ, ◌+◌, ◌≤◌, ◌&&◌, not, Bool, true, false, List, Some}
use Rattle.dgc_client.specs.Table.{references_at, is_among}
use Rattle.net_message.specs.declared.message.Message.TheVariants as message
use Rattle.space_ids.specs.declared.ids.ForeignId.{ForeignId}
use Rattle.sp_rules.specs.Classes.{Setting}
use Rattle.sp_rules.specs.Events.{Event, Opened}
use Rattle.sp_rules.specs.Frames.{is_dirty_kind}
use Rattle.sp_rules.specs.Laws.{AllOf}
use Rattle.sp_rules.specs.Origins.{IsTaken}
use Rattle.sp_rules.specs.Space.{state_of}
use Rattle.sp_rules.specs.State.{State, Request, Asked, Calls, LooksUp, Tells, Stage, Waits, Out, Answered}
use Rattle.sp_laws.specs.Inbound.{OpensOnce}
use Rattle.sp_order_laws.specs.Delivered.{came_on}
use Rattle.sp_order_laws.specs.Ends.{IsOneOf}
use Rattle.sp_held_laws.specs.Granted.{is_granted}

-- whether what is asked names the reference in clean calls
abbrev pub is_clean_of : ForeignId → Asked → Bool
is_clean_of r (Calls number task lent kind m) = false
is_clean_of r (LooksUp number task name) = false
is_clean_of r (Tells call group) = not (is_dirty_kind group.kind) && is_among r (references_at group.peer group.ids)

-- A call is out under a number below this one.
abbrev pub IsOutBelow : ℕ → Stage → Type 0
IsOutBelow number Waits = ⊥
IsOutBelow number (Out conn sequence) = sequence + 1 ≤ number
IsOutBelow number (Answered conn) = Unit {0}

-- A Lease came under this number on a connection that the space dialled to the owner of the reference, and each clean call of the reference among the requests is out under a number below it.
pub record IsUncleaned (r : ForeignId) (h : List Event) (s : State) : Type 0 where
  pub conn : ℕ
  pub number : ℕ
  pub period : ℕ
  pub lease : IsOneOf (message.Lease number period) (came_on conn h)
  pub opened : IsOneOf (Opened conn (Some r.space)) h
  pub below : AllOf (λ (q : Request). is_clean_of r q.asked ≡ true → IsOutBelow number q.stage) s.requests

-- So of each reference that is granted after a history that a space took, in which no number of a connection comes again.
abbrev pub GrantedReferencesAreUncleaned : Type 0
GrantedReferencesAreUncleaned = (g : Setting) (h : List Event) (r : ForeignId) → IsTaken g h → OpensOnce h → is_granted (state_of g h) r ≡ true → IsUncleaned r h (state_of g h)
