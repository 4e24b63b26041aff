use Rattle.std.proofs.Common.{◌≡◌, List, refl, subst, ◌∙◌, ap}
use Rattle.std.specs.Prelude.{◌==◌, filter, find}
use Rattle.std.proofs.lemmas.Result.{on_ok_weaker}
use Rattle.sp_rules.specs.Endings.{unpark}
use Rattle.sp_rules.specs.Lists.{each}
use Rattle.sp_rules.specs.State.{State, Connection, ParkedFrame}
use Rattle.sp_living.specs.Livings.{IsLiving}
use Rattle.sp_endings.proofs.RedialLemmas.{redial-parts, unparked-same}
use Rattle.sp_tasks.proofs.LentLemmas.{lent-still, on-any}
use Rattle.sp_endings.proofs.ends.redial.Goals as goal

pub returns-clause-redialled : goal.returns-clause-redialled
returns-clause-redialled c = on_ok_weaker c.redial.result (λ redialled. λ g s line a quiet there dialled none.
    let frames = filter (λ (p : ParkedFrame). p.conn == c.args.conn) s.parked in
    let t : State = each unpark frames s in
    let rows : t.connections ≡ s.connections = unparked-same (λ (u : State). u.connections) (λ u r. refl) (λ u p. refl) frames s in
    subst (λ (u : State). IsLiving g u c.redial.new.self) (redial-parts c.args.peer.now c.args.conn s)
    (redialled g t line (c.in_ok-unpark.ensures.dropped g s a) (unparked-same (λ (u : State). u.notes) (λ u r. refl) (λ u p. refl) frames s ∙ quiet)
    (ap (λ (cs : List Connection). find (λ (d : Connection). d.number == c.args.conn) cs) rows ∙ there) dialled none)) c.redial.ensures.redialled

pub returns-clause-lent : goal.returns-clause-lent
returns-clause-lent c = on-any c.redial.result (lent-still c.in_ok-unpark.ensures.lent c.redial.ensures.tasks)
