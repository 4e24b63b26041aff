-- Dirty and clean calls that fail.
use Rattle.std.proofs.Common.{◌≡◌, ℕ, Bool, cond, List, [], ◌∷◌, refl, sym}
use Rattle.std.specs.Prelude.{filter}
use Rattle.dgc_client.specs.History.Event.{CleanFailed}
use Rattle.dgc_client.specs.Table as client
use Rattle.dgc_client.specs.declared.groups.Group.{Group}
use Rattle.dgc_client.specs.declared.lease.Due.TheVariants as due
use Rattle.space_ids.specs.declared.ids.ForeignId.{ForeignId}
use Rattle.sp_rules.specs.Classes.{Setting}
use Rattle.sp_rules.specs.Endings.{fail_clean, fail_dirty, fail_group}
use Rattle.sp_rules.specs.Lists.{each}
use Rattle.sp_rules.specs.ParkedFrames.{fail_parked, names}
use Rattle.sp_rules.specs.State.{State}
use Rattle.sp_transport.specs.Answers.{tell_leases}
use Rattle.sp_living.specs.Telling.{dirty_failed, lacks_lease}

clean-each : (call : ℕ) (rs : List ForeignId) (s : State) → each (fail_clean call) rs s ≡ record s { leases = client.on_each rs (CleanFailed call) s.leases }
unfolding each
clean-each call [] s = refl
clean-each call (r ∷ rs) s = clean-each call rs (fail_clean call s r)

-- the clean calls of a group fail
pub cleans-fail : (g : Setting) (strong : Bool) (group : Group) (call : ℕ) (s : State) → fail_group g (due.Clean strong) group call s ≡ tell_leases group (CleanFailed call) s
cleans-fail g strong group call s = clean-each call (client.references_at group.peer group.ids) s

-- the dirty call of a reference fails, and it may have a lease or be overtaken
pub dirty-fails : (g : Setting) (call : ℕ) (s : State) (r : ForeignId) (lacks : Bool) → lacks ≡ lacks_lease call s r
    → fail_dirty g call s r ≡ cond lacks (each (fail_parked g) (filter (names r) s.parked) (dirty_failed call s r)) (dirty_failed call s r)
unfolding fail_dirty
dirty-fails g call s r lacks is = λ j. cond (sym is j) (each (fail_parked g) (filter (names r) s.parked) (dirty_failed call s r)) (dirty_failed call s r)
