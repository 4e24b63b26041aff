-- Dirty and clean calls come in time: where nothing fails, none comes after a later one of its client (Java RMI specification, 9.1: a call whose sequence number is not above the last is late).
use Rattle.std.specs.Prelude.{◌≡◌, ℕ, false, List}
use Rattle.dgc_list.specs.History as owner
use Rattle.dgc_list.specs.Remembered.{is_late}
use Rattle.space_ids.specs.declared.ids.ObjId.{ObjId}
use Rattle.sp_rules.specs.Classes.{Setting}
use Rattle.sp_rules.specs.Worlds.{World, Space, Pipe, WorldEvent, run, new_world}
use Rattle.sp_order_laws.specs.Ends.{IsOneOf}
use Rattle.sp_order_laws.specs.Places.{IsBetween}
use Rattle.sp_order_laws.specs.Rising.{sequence_numbers}
use Rattle.sp_order_laws.specs.Unbroken.{AreOfOneKind, NothingFails}

-- A dirty or clean call that is on its way is late for no object.
abbrev pub ComeInTimeIn : World → Type 0
ComeInTimeIn w = (conn k : ℕ) (p : Pipe) (a b : Space) (o : ObjId) → IsBetween w conn p a b → IsOneOf k (sequence_numbers p.accepter.queue) → is_late (owner.remembered_of b.state.owner.entries a.setting.id o) k ≡ false

-- So in every run of every world of spaces of one kind in which nothing fails.
abbrev pub CallsComeInTime : Type 0
CallsComeInTime = (settings : List Setting) (events : List WorldEvent) → AreOfOneKind settings → NothingFails events → ComeInTimeIn (run (new_world settings) events)
