use Rattle.std.proofs.Common.{List, ℕ, true, sym, subst, ◌∙◌}
use Rattle.std.proofs.lemmas.Result.{on_ok_weaker}
use Rattle.dgc_client.specs.History.Event.{DirtyAnswered}
use Rattle.sp_rules.specs.State.{State, Stored}
use Rattle.sp_store.specs.Stores.{IsAfter}
use Rattle.sp_living.specs.Livings.{IsLiving}
use Rattle.sp_living.specs.Telling.{answered}
use Rattle.sp_living.proofs.FoundLemmas.{number-of}
use Rattle.sp_endings.proofs.ToldLemmas.{answered-store, told-closes, told-goes, untold}
use Rattle.sp_tasks.proofs.LentLemmas.{lent-next}
use Rattle.sp_endings.proofs.telling.lease.Goals as goal

pub returns-then-some-clause-told : goal.returns-then-some-clause-told
returns-then-some-clause-told w c = on_ok_weaker c.go_all.result (λ gone. λ g s line peer a quiet tells after there dialled.
    let conn = c.args.conn in
    let sequence = c.args.sequence in
    let some = sym (c.dirty_answered-some.ensures.some g s line peer a there dialled) ∙ c.if-some.true in
    subst (λ (u : State). IsLiving g u c.go_all.new.living) (sym (told-goes g s line conn true sequence (λ (call : ℕ). DirtyAnswered call c.args.period) (number-of s conn line there) some))
    (gone g (answered true conn sequence (λ (call : ℕ). DirtyAnswered call c.args.period) s) (c.dirty_answered-some.ensures.told g s line peer a there dialled) tells
    (subst (λ (h : List Stored). IsAfter g h c.args.store.now) (sym (answered-store s true conn sequence (λ (call : ℕ). DirtyAnswered call c.args.period))) after))) c.go_all.ensures.gone

pub returns-else-some-clause-told : goal.returns-else-some-clause-told
returns-else-some-clause-told w c = on_ok_weaker c.close.result (λ closed. λ g s line peer a quiet tells after there dialled.
    let conn = c.args.conn in
    let sequence = c.args.sequence in
    let none = sym (c.dirty_answered-some.ensures.some g s line peer a there dialled) ∙ c.if-some.false in
    let same = subst (λ (u : State). IsLiving g u c.dirty_answered-some.new.self) (untold s true conn sequence (λ (call : ℕ). DirtyAnswered call c.args.period) none) (c.dirty_answered-some.ensures.told g s line peer a there dialled) in
    subst (λ (u : State). IsLiving g u c.close.new.living) (sym (told-closes g s line conn true sequence (λ (call : ℕ). DirtyAnswered call c.args.period) (number-of s conn line there) none))
    (closed g s same quiet tells)) c.close.ensures.closed

pub returns-then-some-clause-lent : goal.returns-then-some-clause-lent
returns-then-some-clause-lent w c = on_ok_weaker c.go_all.result (λ gone. lent-next c.dirty_answered-some.ensures.tasks gone) c.go_all.ensures.lent

pub returns-else-some-clause-lent : goal.returns-else-some-clause-lent
returns-else-some-clause-lent w c = on_ok_weaker c.close.result (λ closed. lent-next c.dirty_answered-some.ensures.tasks closed) c.close.ensures.lent
