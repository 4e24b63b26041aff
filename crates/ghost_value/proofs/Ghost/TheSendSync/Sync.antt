-- A shared token shows nothing but that it is there.
use denote.RattleType.{RattleType}
use denote.Param.Send.{IsSync, part_keyless}
use Rattle.ghost_value.specs.contracts.Ghost.{the_row}
use Rattle.ghost_value.proofs.Ghost.TheSendSync.Send.{send}

pub sync : (T : RattleType) → IsSync (the_row T)
sync T = record { shared = λ d b o κ q. part_keyless (the_row T) (send T) q d b o }
