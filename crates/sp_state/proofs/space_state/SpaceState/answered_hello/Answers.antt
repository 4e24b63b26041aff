use Rattle.std.proofs.Common.{ℕ, refl, sym, subst}
use Rattle.std.proofs.lemmas.Result.{on_ok_weaker}
use Rattle.sp_rules.specs.Endings.{redial}
use Rattle.sp_rules.specs.Frames.{greeted}
use Rattle.sp_rules.specs.Requests.{flush_waiting}
use Rattle.sp_rules.specs.State.{State}
use Rattle.sp_owner.specs.Owners.{owner_parts}
use Rattle.sp_living.specs.Livings.{IsLiving}
use Rattle.sp_state.specs.Hellos.{take_answer}
use Rattle.sp_state.specs.Spaces.{IsSpace}
use Rattle.sp_state.specs.declared.hello.Answer.{Answer}
use Rattle.sp_state.proofs.FrameLemmas.{closed-at}
use Rattle.sp_state.proofs.QuietLemmas.{flush_keeps, parts-quiet, redial_keeps}
use Rattle.sp_state.proofs.SpaceLemmas.{quiet}
use Rattle.sp_tasks.proofs.LentLemmas.{lent-same, on-any}
use Rattle.sp_state.proofs.space_state.SpaceState.answered_hello.Goals as goal

pub returns-in-Agrees-clause-got : goal.returns-in-Agrees-clause-got
returns-in-Agrees-clause-got w c = on_ok_weaker c.flush_waiting.result (λ flushed. λ g s row is silent tells on dialled fresh.
    let peer = c.args.peer.now in
    let out : State = flush_waiting peer row.number (greeted peer row.number s) in
    let living = subst (λ (n : ℕ). IsLiving g (flush_waiting peer n (greeted peer n s)) c.flush_waiting.new.self) (sym on.number) (flushed g s row is.living silent on.there dialled fresh) in
    subst (λ (x : Answer). IsSpace g (take_answer g row peer peer x s) (record c.args.self.now { living = c.flush_waiting.new.self })) (sym c.in-Agrees.is)
    (quiet g s out c.args.self.now c.flush_waiting.new.self (flush_keeps (parts-quiet g (owner_parts s)) {s = greeted peer row.number s} peer row.number refl) living is)) c.flush_waiting.ensures.flushed

pub returns-in-OnlyVersion1-clause-got : goal.returns-in-OnlyVersion1-clause-got
returns-in-OnlyVersion1-clause-got w c = on_ok_weaker c.redial.result (λ redialled. λ g s row is silent tells on dialled fresh.
    let peer = c.args.peer.now in
    let living = subst (λ (n : ℕ). IsLiving g (redial peer n s) c.redial.new.living) (sym on.number) (redialled g s row is.living silent on.there dialled fresh) in
    subst (λ (x : Answer). IsSpace g (take_answer g row peer peer x s) (record c.args.self.now { living = c.redial.new.living })) (sym c.in-OnlyVersion1.is)
    (quiet g s (redial peer row.number s) c.args.self.now c.redial.new.living (redial_keeps (parts-quiet g (owner_parts s)) {s = s} peer row.number refl) living is)) c.redial.ensures.redialled

pub returns-in-Other-clause-got : goal.returns-in-Other-clause-got
returns-in-Other-clause-got w c = on_ok_weaker c.close.result (λ now. λ g s row is silent tells on dialled fresh.
    subst (λ (x : Answer). IsSpace g (take_answer g row c.args.peer.now c.args.peer.now x s) c.close.new.self) (sym c.in-Other.is)
    (closed-at g g.classes.unmarshal c.args.conn s row c.close.new.self on (now g s is silent tells))) c.close.ensures.closed

pub returns-in-Agrees-clause-lent : goal.returns-in-Agrees-clause-lent
returns-in-Agrees-clause-lent w c = on-any c.flush_waiting.result (lent-same c.flush_waiting.ensures.tasks)
