-- Where nothing fails no clean call of a reference that is granted is on its way (Java RMI specification, 9.1: the calls of a client are ordered by their sequence numbers).
use Rattle.std.specs.Prelude.{◌≡◌, ℕ, ◌≤◌, nat_lt, Bool, true, false, List}
use Rattle.net_message.specs.declared.message.Message.TheVariants as message
use Rattle.space_ids.specs.declared.ids.ForeignId.{ForeignId}
use Rattle.space_ids.specs.declared.ids.ObjId.{ObjId}
use Rattle.sp_rules.specs.Classes.{Setting}
use Rattle.sp_rules.specs.References.{is_id_in}
use Rattle.sp_rules.specs.Worlds.{World, Space, Pipe, WorldEvent, run, new_world}
use Rattle.sp_laws.specs.Counted.{times_held}
use Rattle.sp_order_laws.specs.Ends.{IsOneOf}
use Rattle.sp_order_laws.specs.Places.{IsBetween}
use Rattle.sp_order_laws.specs.Unbroken.{AreOfOneKind, NothingFails}
use Rattle.sp_held_laws.specs.Granted.{is_granted, started_of}

-- A clean call on its way to an owner names no object of a reference that is granted.
abbrev pub NoCleanOnItsWay : World → Type 0
NoCleanOnItsWay w = (conn number : ℕ) (strong : Bool) (ids : List ObjId) (p : Pipe) (a b : Space) (r : ForeignId) → IsBetween w conn p a b → r.space ≡ b.setting.id → is_granted a.state r ≡ true
    → IsOneOf (message.Clean number strong ids) p.accepter.queue → is_id_in ids r.id ≡ false

-- So in every run of every world of spaces of one kind in which nothing fails.
abbrev pub GrantedReferencesStaySecure : Type 0
GrantedReferencesStaySecure = (settings : List Setting) (events : List WorldEvent) → AreOfOneKind settings → NothingFails events → NoCleanOnItsWay (run (new_world settings) events)

-- A clean call on its way to an owner names no object of a reference that a task that has started, a field of a standing object or a held result of the client has, as long as a holder of it came fewer than 2^64 - 1 times.
abbrev pub NoCleanOfWhatIsHeld : World → Type 0
NoCleanOfWhatIsHeld w = (conn number : ℕ) (strong : Bool) (ids : List ObjId) (p : Pipe) (a b : Space) (r : ForeignId) → IsBetween w conn p a b → r.space ≡ b.setting.id → nat_lt (times_held r a.state.leases) 18446744073709551615 ≡ true → 1 ≤ started_of a.setting a.state r
    → IsOneOf (message.Clean number strong ids) p.accepter.queue → is_id_in ids r.id ≡ false

-- So in every run of every world of spaces of one kind in which nothing fails.
abbrev pub WhatIsHeldIsNotCleaned : Type 0
WhatIsHeldIsNotCleaned = (settings : List Setting) (events : List WorldEvent) → AreOfOneKind settings → NothingFails events → NoCleanOfWhatIsHeld (run (new_world settings) events)
