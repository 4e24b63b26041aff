-- A run of spaces of one kind in which nothing fails: a reference passes from one space through another to a third (Java RMI specification, 3.3: a live reference may be passed on).
use Rattle.std.specs.Prelude.{◌≡◌, ℕ, zero, suc, ◌||◌, Bool, true, List, [], ◌∷◌, ◌++◌, None, Some}
use Rattle.space_ids.specs.declared.value.Value.{Value}
use Rattle.space_ids.specs.declared.value.Value.TheVariants as values
use Rattle.sp_rules.specs.Classes.{Setting}
use Rattle.sp_rules.specs.Events.{Root, RootAck, Bind, Unbind, Lookup, Sweep}
use Rattle.sp_rules.specs.Worlds.{World, WorldEvent, Own, after, run, new_world}
use Rattle.sp_scripts.specs.Names.{counter_make, user_make, user_pass, counter_class, user_class}
use Rattle.sp_scripts.specs.Scripts.{possible}
use Rattle.sp_scripts.specs.VersionsScripts.{settings_as}
use Rattle.sp_order_laws.specs.Unbroken.{AreOfOneKind, NothingFails}
use Rattle.sp_held_laws.specs.Runs.{has_passed, is_passing}

-- the events by which a world settles: at each time the first that is possible, at most this number of them
unfoldable pub settling : ℕ → World → List WorldEvent
settling zero w = []
settling (suc n) w = elim (possible w) [ None ↦ [] | Some e ↦ e ∷ settling n (after w e) ]

-- one event, or all by which the world settles
pub data Part : Type 0 where
  Event : (event : WorldEvent) → Part
  Settles : Part

unfoldable pub events_of : List Part → World → List WorldEvent
events_of [] w = []
events_of (Event e ∷ parts) w = e ∷ events_of parts (after w e)
events_of (Settles ∷ parts) w = settling 100000 w ++ events_of parts (run w (settling 100000 w))

abbrev pub object_of : ℕ → ℕ → Value
object_of space class = values.Ref (record { space = space ∷ []; id = record { 0 = 1 }; class = record { 0 = class } })

-- Two spaces make an object each and bind it; the third looks both up, and passes the one to the other, while its space lets it go.
abbrev pub passing_parts : List Part
passing_parts =
    Event (Own 0 (Root counter_make [] 8))
    ∷ Event (Own 1 (Root user_make [] 8))
    ∷ Settles
    ∷ Event (Own 0 (Bind (99 ∷ []) (object_of 1 counter_class)))
    ∷ Event (Own 1 (Bind (117 ∷ []) (object_of 2 user_class)))
    ∷ Event (Own 0 (RootAck 1))
    ∷ Event (Own 1 (RootAck 1))
    ∷ Event (Own 2 (Lookup (1 ∷ []) (99 ∷ [])))
    ∷ Event (Own 2 (Lookup (2 ∷ []) (117 ∷ [])))
    ∷ Settles
    ∷ Event (Own 2 (Root user_pass (object_of 2 user_class ∷ object_of 1 counter_class ∷ []) 15))
    ∷ Event (Own 2 (RootAck 1))
    ∷ Event (Own 0 (Unbind (99 ∷ [])))
    ∷ Event (Own 0 Sweep)
    ∷ Settles
    ∷ []

-- three spaces of version 1 of the frames; and three of which the first alone is, so that the others try version 2 with it in vain
abbrev pub three_spaces : List Setting
three_spaces = settings_as 1 (1 ∷ 1 ∷ 1 ∷ [])

abbrev pub mixed_spaces : List Setting
mixed_spaces = settings_as 1 (1 ∷ 2 ∷ 2 ∷ [])

abbrev pub passing_events : List Setting → List WorldEvent
passing_events settings = events_of passing_parts (new_world settings)

-- whether some world on the way is so
unfoldable pub comes_to : (World → Bool) → World → List WorldEvent → Bool
comes_to is w [] = is w
comes_to is w (e ∷ es) = is w || comes_to is (after w e) es

-- The spaces are of one kind, nothing fails, and on the way a frame that names the first one's object is parked at the second space; and then the second space holds it, by a lease and an entry, and nothing of the first space holds it.
pub record PassesQuietlyIn (settings : List Setting) : Type 0 where
  pub kind : AreOfOneKind settings
  pub fine : NothingFails (passing_events settings)
  pub passing : comes_to is_passing (new_world settings) (passing_events settings) ≡ true
  pub passes : comes_to has_passed (new_world settings) (passing_events settings) ≡ true

-- So among spaces of one version, and among spaces of both.
abbrev pub PassesQuietly : Type 0
PassesQuietly = PassesQuietlyIn three_spaces × PassesQuietlyIn mixed_spaces
