-- Parked frames wait for the leases of their foreign references.
use Rattle.std.proofs.Common.{arith}
use Rattle.std.proofs.lemmas.Bool.{true≢false}
use Rattle.std.specs.Prelude.{◌≡◌, ◌≤◌, false, List, [], ◌∷◌, length}
use Rattle.space_ids.specs.declared.ids.ForeignId.{ForeignId}
use Rattle.sp_rules.specs.Classes.{Setting}
use Rattle.sp_rules.specs.Space
use Rattle.sp_rules.specs.State.{Frame, CallFrame, ReturnedFrame}
use Rattle.sp_rules.proofs.AllLemmas.{all-weaken}
use Rattle.sp_rules.proofs.OriginsOfFrames.{Waits, Matches, is_none_of}
use Rattle.sp_rules.proofs.OwnLemmas.{own-only}
use Rattle.sp_laws.specs.Awaited.{awaited, WaitsForLeases, ParkedFramesWaitForLeases}

matches-awaited : (g : Setting) (frame : Frame) (references : List ForeignId) → Matches g frame references → references ≡ awaited g frame
matches-awaited g (CallFrame target method fuel arguments) references e = e
matches-awaited g (ReturnedFrame value fuel) references e = e

some-of : (references : List ForeignId) → is_none_of references ≡ false → 1 ≤ length references
some-of [] e = absurd (true≢false e)
some-of (r ∷ references) e = omega arith

pub parked_frames_wait_for_leases : ParkedFramesWaitForLeases
parked_frames_wait_for_leases g h t = all-weaken (Waits g) (WaitsForLeases g) (Space.state_of g h).parked (λ p w. record { references = matches-awaited g p.frame p.references w.0; some = some-of p.references w.1 }) (own-only g h t).parts.kept
