-- A remote object as a store keeps it, and how holders are counted. (This project's own rules; the Java RMI specification, 3.3, has that an object which is held stays.)
use Rattle.std.specs.Prelude.{ℕ, ◌+◌, ◌-◌, ◌^◌, nat_lt, List, if◌then◌else◌}
use Rattle.space_ids.specs.declared.ids.ClassId.{ClassId}
use Rattle.space_ids.specs.declared.value.Value.{Value}

-- its class, what its fields hold, by slot, and by how many it is held
pub record Remote : Type 0 where
  pub class : ClassId
  pub fields : List Value
  pub holds : ℕ

-- One more holds it. Above 2^64 - 1 holders are not counted: the object is then held for good, so that it is never taken for one that nobody holds.
abbrev pub after_hold : ℕ → ℕ
after_hold holds = if nat_lt holds (2 ^ 64 - 1) then holds + 1 else holds

-- One less holds it, if they were all counted.
abbrev pub after_release : ℕ → ℕ
after_release holds = if nat_lt holds (2 ^ 64 - 1) then holds - 1 else holds
