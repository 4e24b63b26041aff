use Rattle.std.proofs.Common.{◌≡◌, true, false, refl, sym, ap, subst, ◌∙◌}
use Rattle.std.specs.Str.{bytes_eq}
use Rattle.sp_rules.specs.Holders.{holder_comes}
use Rattle.sp_rules.specs.State.{State}
use Rattle.sp_living.specs.Livings.{IsLiving}
use Rattle.sp_living.proofs.HolderLemmas.{hold-foreign, hold-own}
use Rattle.sp_living.proofs.LivingLemmas.{moved}
use Rattle.sp_living.proofs.living.Living.hold_one.Goals as goal

pub returns-then-eq-clause-held : goal.returns-then-eq-clause-held
returns-then-eq-clause-held c = λ g s a.
    let r = c.args.reference.now in
    let own : bytes_eq r.space g.id ≡ true = ap (bytes_eq r.space) (sym a.id) ∙ sym c.eq.ensures ∙ c.if-eq.true in
    subst (λ (u : State). IsLiving g u c.args.self.now) (sym (hold-own g.id r s own)) a

pub returns-clause-held : goal.returns-clause-held
returns-clause-held c = λ g s a.
    let r = c.args.reference.now in
    let foreign : bytes_eq r.space g.id ≡ false = ap (bytes_eq r.space) (sym a.id) ∙ sym c.eq.ensures ∙ c.if-eq.false in
    subst (λ (u : State). IsLiving g u (record c.args.self.now { transport = c.hold_reserved.new.self })) (sym (hold-foreign g.id r s foreign))
    (moved g s (holder_comes s (record { space = r.space; id = r.id })) c.args.self.now c.hold_reserved.new.self refl (λ t. c.hold_reserved.ensures.held s (c.in_ok-reserve_holders.ensures.same s t)) a)
