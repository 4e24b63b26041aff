-- What is asked of a run beside that nothing fails: no entry for an object expires, and its holders are counted (Java
-- RMI specification, 9.1: an entry that is not renewed expires).
use Rattle.std.specs.Prelude.{◌≡◌, nat_lt, true, false, List, [], ◌∷◌, Some, slice_get}
use Rattle.dgc_list.specs.History as owner
use Rattle.space_ids.specs.declared.ids.ForeignId.{ForeignId}
use Rattle.uuid.specs.declared.Uuid.{Uuid}
use Rattle.sp_rules.specs.Classes.{Setting}
use Rattle.sp_rules.specs.Laws.{AllOf}
use Rattle.sp_rules.specs.Worlds.{World, Space, WorldEvent, Own, after, run, new_world}
use Rattle.sp_laws.specs.Counted.{times_held}
use Rattle.sp_order_laws.specs.Unbroken.{AreOfOneKind, NothingFails}
use Rattle.sp_held_laws.specs.Steps.{has_entry_for, expires_with}

-- An event of a world lets no entry for the object of a reference expire, at its owner.
abbrev pub LetsNoneExpire : ForeignId → World → WorldEvent → Type 0
LetsNoneExpire r w (Own i e) = (b : Space) (client : Uuid) → slice_get w.spaces i ≡ Some b
    → r.space ≡ b.setting.id → has_entry_for b.state client r.id ≡ true
    → expires_with e (owner.remembered_of b.state.owner.entries client r.id).expires ≡ false
LetsNoneExpire r w _ = Unit {0}

-- So does each of these events of a world, the oldest first.
abbrev pub NothingExpires : ForeignId → World → List WorldEvent → Type 0
NothingExpires r w [] = Unit {0}
NothingExpires r w (e ∷ es) = LetsNoneExpire r w e × NothingExpires r (after w e) es

-- In each space of a world a holder of the reference came fewer than 2^64 - 1 times.
abbrev pub HoldersAreFew : ForeignId → World → Type 0
HoldersAreFew r w = AllOf (λ (s : Space). nat_lt (times_held r s.state.leases) 18446744073709551615 ≡ true) w.spaces

-- This holds of a reference and the world in every run of every world of spaces of one kind in which nothing fails, no
-- entry for the object of the reference expires, and a holder of it came fewer than 2^64 - 1 times in each space.
abbrev pub InQuietRuns : (ForeignId → World → Type 0) → Type 0
InQuietRuns Holds = (settings : List Setting) (events : List WorldEvent) (r : ForeignId)
    → AreOfOneKind settings → NothingFails events
    → NothingExpires r (new_world settings) events → HoldersAreFew r (run (new_world settings) events)
    → Holds r (run (new_world settings) events)
