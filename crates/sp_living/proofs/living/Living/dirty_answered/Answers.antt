use Rattle.std.proofs.Common.{true, ℕ, refl, sym, ap, subst, ◌∙◌, Option}
use Rattle.std.specs.Prelude.{find, is_some}
use Rattle.dgc_client.specs.History.Event.{DirtyAnswered}
use Rattle.sp_rules.specs.Frames.{tells_on}
use Rattle.sp_rules.specs.ParkedFrames.{remove_requests}
use Rattle.sp_rules.specs.State.{State, Request}
use Rattle.sp_transport.specs.Answers.{tell_leases}
use Rattle.sp_living.specs.Livings.{IsLiving}
use Rattle.sp_living.proofs.FoundLemmas.{none-tells, told-so}
use Rattle.sp_living.proofs.LivingLemmas.{moved}
use Rattle.sp_living.proofs.ToldLemmas.{none-answered, some-answered}
use Rattle.sp_living.proofs.living.Living.dirty_answered.Goals as goal

pub returns-in-Some-clause-some : goal.returns-in-Some-clause-some
returns-in-Some-clause-some c = λ g s row peer a there dialled.
    let told = told-so c.in-Some.told (find (tells_on true c.args.conn c.args.sequence) s.requests) (sym c.in-Some.is ∙ c.take_group.ensures.group s row peer a.transport there dialled) in
    sym (ap (λ (o : Option Request). is_some o) told.there)

pub returns-in-Some-clause-told : goal.returns-in-Some-clause-told
returns-in-Some-clause-told c = λ g s row peer a there dialled.
    let conn = c.args.conn in
    let sequence = c.args.sequence in
    let out = c.in-Some.told in
    let left = remove_requests (tells_on true conn sequence) s in
    let taken = c.take_group.ensures.taken s row peer a.transport there dialled in
    let told = told-so out (find (tells_on true conn sequence) s.requests) (sym c.in-Some.is ∙ c.take_group.ensures.group s row peer a.transport there dialled) in
    let now = tell_leases out.group (DirtyAnswered out.call c.args.period) left in
    let living = moved g s now c.args.self.now c.dirty_answered.new.self refl (λ t. c.dirty_answered.ensures.told left taken) a in
    subst (λ (u : State). IsLiving g u (record c.args.self.now { transport = c.dirty_answered.new.self })) (sym (some-answered s true conn sequence (λ (call : ℕ). DirtyAnswered call c.args.period) out told)) living

pub returns-in-None-clause-some : goal.returns-in-None-clause-some
returns-in-None-clause-some c = λ g s row peer a there dialled.
    let none = none-tells true c.args.conn c.args.sequence s.requests (sym c.in-None.is ∙ c.take_group.ensures.group s row peer a.transport there dialled) in
    sym (ap (λ (o : Option Request). is_some o) none)

pub returns-in-None-clause-told : goal.returns-in-None-clause-told
returns-in-None-clause-told c = λ g s row peer a there dialled.
    let conn = c.args.conn in
    let sequence = c.args.sequence in
    let none = none-tells true conn sequence s.requests (sym c.in-None.is ∙ c.take_group.ensures.group s row peer a.transport there dialled) in
    let left = remove_requests (tells_on true conn sequence) s in
    let living = moved g s left c.args.self.now c.take_group.new.self refl (λ t. c.take_group.ensures.taken s row peer t there dialled) a in
    subst (λ (u : State). IsLiving g u (record c.args.self.now { transport = c.take_group.new.self })) (sym (none-answered s true conn sequence (λ (call : ℕ). DirtyAnswered call c.args.period) none)) living
