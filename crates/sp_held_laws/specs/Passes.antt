-- A run of three spaces that meets the premises of these laws: time passes, a lease is renewed, and a reference
-- passes from one space through another to a third and is held there (Java RMI specification, 3.3: a live reference
-- may be passed on; 9.1: leases are renewed).
use Rattle.std.specs.Prelude.{◌≡◌, ◌&&◌, nat_lt, Bool, true, false, List, [], ◌∷◌, slice_get}
use Rattle.space_ids.specs.declared.ids.ForeignId.{ForeignId}
use Rattle.sp_rules.specs.Events.{Moment, Root, RootAck, Bind, Unbind, Lookup, Sweep}
use Rattle.sp_rules.specs.Lists.{with_some}
use Rattle.sp_rules.specs.Worlds.{World, Space, WorldEvent, Own, run, new_world}
use Rattle.sp_scripts.specs.Names.{counter_make, user_make, user_pass, counter_class, user_class}
use Rattle.sp_order_laws.specs.Unbroken.{AreOfOneKind, NothingFails}
use Rattle.sp_held_laws.specs.Granted.{started_of}
use Rattle.sp_held_laws.specs.Quiet.{Part, Event, Settles, events_of, object_of, three_spaces, comes_to}
use Rattle.sp_held_laws.specs.Premises.{NothingExpires, HoldersAreFew}

-- Two spaces make an object each and bind it; the third looks both up, and renews its leases as its time passes, so
-- that more time passes at the owner than one lease lasts. Then it passes the one to the other, while its space lets
-- it go, and the owner unbinds it and sweeps.
abbrev pub renewing_parts : List Part
renewing_parts =
    Event (Own 0 (Root counter_make [] 8))
    ∷ Event (Own 1 (Root user_make [] 8))
    ∷ Settles
    ∷ Event (Own 0 (Bind (99 ∷ []) (object_of 1 counter_class)))
    ∷ Event (Own 1 (Bind (117 ∷ []) (object_of 2 user_class)))
    ∷ Event (Own 0 (RootAck 1))
    ∷ Event (Own 1 (RootAck 1))
    ∷ Event (Own 2 (Lookup (1 ∷ []) (99 ∷ [])))
    ∷ Event (Own 2 (Lookup (2 ∷ []) (117 ∷ [])))
    ∷ Settles
    ∷ Event (Own 0 (Moment 400000))
    ∷ Event (Own 2 (Moment 400000))
    ∷ Settles
    ∷ Event (Own 0 (Moment 800000))
    ∷ Event (Own 2 (Root user_pass (object_of 2 user_class ∷ object_of 1 counter_class ∷ []) 15))
    ∷ Event (Own 2 (RootAck 1))
    ∷ Event (Own 0 (Unbind (99 ∷ [])))
    ∷ Event (Own 0 Sweep)
    ∷ Settles
    ∷ []

abbrev pub renewing_events : List WorldEvent
renewing_events = events_of renewing_parts (new_world three_spaces)

-- the first object of the first space
abbrev pub passed : ForeignId
passed = record { space = 1 ∷ []; id = record { 0 = 1 } }

-- whether more time passed at the first space than a lease lasts, and a task that has started, a field or a held
-- result of the second space has the reference
abbrev pub is_held_late : World → Bool
is_held_late w = with_some (slice_get w.spaces 0) false (λ (o : Space). nat_lt 600000 o.state.moment) && with_some
    (slice_get w.spaces 1) false (λ (s : Space). nat_lt 0 (started_of s.setting s.state passed))

-- The spaces are of one kind, nothing fails, no entry for the object expires, a holder came few times, and on the way
-- the second space holds the reference.
pub record PassesUnlost : Type 0 where
  pub kind : AreOfOneKind three_spaces
  pub fine : NothingFails renewing_events
  pub lets : NothingExpires passed (new_world three_spaces) renewing_events
  pub few : HoldersAreFew passed (run (new_world three_spaces) renewing_events)
  pub held : comes_to is_held_late (new_world three_spaces) renewing_events ≡ true
