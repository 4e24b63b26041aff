-- What an event of a world is to one object: some events of the machine of the object and its clients, or none (Java RMI specification, 3.3 and 9.1; the machine is this project's own form of it).
use Rattle.std.specs.Prelude.{◌≡◌, ℕ, Bool, true, false, List, [], Some}
use Rattle.dgc_object.specs.AllClients as objects
use Rattle.dgc_object.specs.OneClient as pair
use Rattle.space_ids.specs.declared.ids.ObjId.{ObjId}
use Rattle.sp_rules.specs.Lists.{with_some}
use Rattle.sp_rules.specs.Refusals.{Refusal}
use Rattle.sp_rules.specs.Worlds.{World, Pipe, WorldEvent, Own, Step, Open, Refuse, Accept, Deliver, ReadFails, WriteFails, side, is_live, is_unopened, is_own, is_asked, is_queued, after}
use Rattle.std.specs.Prelude.{slice_get}
use Rattle.sp_held_laws.specs.OneObject.{object_in}

-- what counts of a client: all but whether the object stands, and whether it has another reason to
abbrev pub counts_of : pair.State → pair.State
counts_of s = record s { stands = false; other = false }

-- Two states of the machine are alike: what counts of each client is the same, whether the object stands, what holds it in its own space, and the frames that name it, in whatever order.
pub record IsLike (x y : objects.World) : Type 0 where
  pub clients : (client : ℕ) → counts_of (x.clients client) ≡ counts_of (y.clients client)
  pub stands : x.stands ≡ y.stands
  pub own : x.own ≡ y.own
  pub frames : (is : objects.Frame → Bool) → objects.count is x.frames ≡ objects.count is y.frames

-- From one world to another the object is seen to pass by these events of its machine, newest first, each of which fits as it comes.
pub record IsSeenAs (w v : World) (owner : ℕ) (id : ObjId) (events : List objects.Event) : Type 0 where
  pub fits : objects.AreFitting (object_in w owner id) events
  pub seen : IsLike (object_in v owner id) (objects.world_of (object_in w owner id) events)

-- What is seen so stays as the machine keeps it.
abbrev pub WhatIsSeenStaysWhole : Type 0
WhatIsSeenStaysWhole = (w v : World) (owner : ℕ) (id : ObjId) (events : List objects.Event) → IsSeenAs w v owner id events → objects.IsWhole (object_in w owner id) → objects.IsWhole (object_in v owner id)

-- To no object anything happens.
abbrev pub IsNone : World → World → Type 0
IsNone w v = (owner : ℕ) (id : ObjId) → IsSeenAs w v owner id []

-- So with an event that is refused.
abbrev pub RefusedEventsAreNone : Type 0
RefusedEventsAreNone = (w : World) (e : WorldEvent) (why : Refusal) → (after w e).refused ≡ Some why → IsNone w (after w e)

-- whether an event fits a world: what it would do is there to be done
abbrev pub fits_world : WorldEvent → World → Bool
fits_world (Own i e) w = is_own e
fits_world (Step i task) w = true
fits_world (Open a b) w = is_asked a b w
fits_world (Refuse a b) w = is_asked a b w
fits_world (Accept conn) w = with_some (slice_get w.pipes conn) false (λ (p : Pipe). is_unopened p.accepter.phase)
fits_world (Deliver conn to) w = is_queued conn to w
fits_world (ReadFails conn at) w = with_some (slice_get w.pipes conn) false (λ (p : Pipe). is_live (side at p).phase)
fits_world (WriteFails conn at unsent) w = with_some (slice_get w.pipes conn) false (λ (p : Pipe). is_live (side at p).phase)

-- So with an event that does not fit.
abbrev pub WhatDoesNotHappenIsNone : Type 0
WhatDoesNotHappenIsNone = (w : World) (e : WorldEvent) → fits_world e w ≡ false → IsNone w (after w e)
