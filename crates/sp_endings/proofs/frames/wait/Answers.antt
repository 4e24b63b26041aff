use Rattle.std.proofs.Common.{◌++◌, ◌∷◌, [], List, sym, subst}
use Rattle.std.proofs.lemmas.Result.{on_ok_weaker}
use Rattle.space_ids.specs.declared.ids.ForeignId.{ForeignId}
use Rattle.sp_parked.specs.Parkings.{parked_of}
use Rattle.sp_rules.specs.Holders.{hold_ids}
use Rattle.sp_rules.specs.ParkedFrames.{park_frame}
use Rattle.sp_rules.specs.State.{State, Stored}
use Rattle.sp_store.specs.Stores.{IsAfter}
use Rattle.sp_living.specs.Frames.{with_parked}
use Rattle.sp_living.specs.Livings.{IsLiving}
use Rattle.sp_endings.proofs.PassLemmas.{park-apart}
use Rattle.sp_endings.proofs.StoreLemmas.{hold-store}
use Rattle.sp_tasks.proofs.LentLemmas.{lent-next}
use Rattle.sp_endings.proofs.frames.wait.Goals as goal

pub returns-clause-parked : goal.returns-clause-parked
unfolding park_frame
returns-clause-parked w c = on_ok_weaker c.go_all.result (λ gone. λ g s a tells after.
    let frame = c.args.frame in
    let refs = frame.references in
    let held : IsLiving g (hold_ids refs s) c.hold_ids.new.self = subst (λ (ids : List ForeignId). IsLiving g (hold_ids ids s) c.hold_ids.new.self) c.as_slice.ensures (c.in_ok-hold_ids.ensures.held g s a) in
    let parked : State = with_parked (s.parked ++ parked_of frame ∷ []) s in
    let put = subst (λ (u : State). IsLiving g u c.put_frame.new.self) (park-apart refs (parked_of frame) s) (c.in_ok-put_frame.ensures.parked g (hold_ids refs s) held) in
    gone g (hold_ids refs parked) put tells (subst (λ (h : List Stored). IsAfter g h c.args.store.now) (sym (hold-store refs parked)) after)) c.go_all.ensures.gone

pub returns-clause-lent : goal.returns-clause-lent
returns-clause-lent w c = on_ok_weaker c.go_all.result (λ gone. lent-next c.hold_ids.ensures.tasks (lent-next c.put_frame.ensures.tasks gone)) c.go_all.ensures.lent
