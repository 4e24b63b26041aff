-- What holds after every history of a space holds of each space of every world (this project's own rule: a world's spaces take no event that they refuse).
use Rattle.std.specs.Prelude.{◌≡◌, true, List, nat_lt}
use Rattle.space_ids.specs.declared.ids.ForeignId.{ForeignId}
use Rattle.sp_rules.specs.Classes.{Setting}
use Rattle.sp_rules.specs.Holders.{lease_now, holders_of}
use Rattle.sp_rules.specs.Laws.{AllOf}
use Rattle.sp_rules.specs.Lines.{HasLines}
use Rattle.sp_rules.specs.Origins.{OwnStand}
use Rattle.sp_rules.specs.State.{Request, task_at}
use Rattle.sp_rules.specs.Worlds.{Space, WorldEvent, run, new_world}
use Rattle.sp_laws.specs.Answered.{AreInPlace}
use Rattle.sp_laws.specs.CallsHeld.{IsAskedFor}
use Rattle.sp_laws.specs.Counted.{times_held}
use Rattle.sp_laws.specs.Owing.{OwesItsEnd}
use Rattle.sp_laws.specs.Waiting.{CallsWait}

-- A space's own references stand, and its lines wait for Hellos. Each waiting task of it has one call, and holds what the call names. Its
-- requests and parked frames stand with their connections. Its leases count the holders that there are, and owe their ends.
pub record IsInOrder (s : Space) : Type 0 where
  pub own : OwnStand s.setting s.state
  pub lines : HasLines s.state
  pub calls : CallsWait s.state
  pub held : AllOf (λ (q : Request). IsAskedFor (task_at s.state) q.peer q.asked) s.state.requests
  pub places : AreInPlace s.state
  pub counted : (r : ForeignId) → nat_lt (times_held r s.state.leases) 18446744073709551615 ≡ true → (lease_now s.state r).holders ≡ holders_of s.setting s.state r
  pub owing : (r : ForeignId) → OwesItsEnd (lease_now s.state r)

-- This holds of each space of every world, whatever is lost or fails.
abbrev pub SpacesAreInOrder : Type 0
SpacesAreInOrder = (settings : List Setting) (events : List WorldEvent) → AllOf IsInOrder (run (new_world settings) events).spaces
