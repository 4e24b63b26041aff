use Rattle.std.proofs.Common.{◌∷◌, cond, None, Some, refl, sym, ap, subst, Option, ◌∙◌}
use Rattle.std.specs.Prelude.{IfSome}
use Rattle.sp_rules.specs.LivingTasks.{give_back}
use Rattle.sp_rules.specs.Refusals.{NotLent}
use Rattle.sp_rules.specs.Space.{on, state_of}
use Rattle.sp_rules.proofs.OwnLemmas.{own_references_stand}
use Rattle.sp_state.specs.declared.space_state.SpaceState.{SpaceState}
use Rattle.sp_core.specs.Cores.{lent_as}
use Rattle.sp_core.specs.declared.space_core.SpaceCore.{SpaceCore}
use Rattle.sp_core.specs.Hands.{IsSecond, fits, given_back}
use Rattle.sp_core.proofs.EventLemmas.{space-is}
use Rattle.sp_core.proofs.HandLemmas.{back-refusal}
use Rattle.sp_core.proofs.LentLemmas.{lent-same}
use Rattle.sp_core.proofs.OpLemmas.{back-outputs, on-back}
use Rattle.sp_core.proofs.RestLemmas.{given-rest}
use Rattle.sp_core.proofs.TwinLemmas.{core-is, if-some, own-fits, own-main, second-is, with-states}
use Rattle.sp_core.proofs.space_core.SpaceCore.take_back.Goals as goal

pub take_twin_back-spare-requires : goal.take_twin_back-spare-requires
take_twin_back-spare-requires c = ap (λ (o : Option SpaceState). fits o c.args.task.task c.args.task.twin) c.take.ensures.value ∙ own-fits c.args.self.now c.args.task c.requires

pub returns-clause-accepted : goal.returns-clause-accepted
returns-clause-accepted c = λ g s lent is lends.
    back-refusal g s c.args.self.now c.args.task.task lent _ is lends refl ∙ ap (λ b. cond b None (Some NotLent)) (own-main c.args.self.now c.args.task c.requires)

pub returns-clause-outputs : goal.returns-clause-outputs
returns-clause-outputs c = λ g s. back-outputs g s c.args.task.task.id c.args.task.task.made

pub returns-clause-state : goal.returns-clause-state
returns-clause-state c = λ g s is.
    let hand = c.args.task.task in
    let first = c.args.self.now.state in
    let now = c.give_back.new.self in
    let back = on-back g s hand.id hand.made in
    core-is g (on g (given_back hand) s).0 (record c.args.self.now { state = now; spare = c.take_twin_back-spare.result }) c.put_spare.new.self c.put_spare.ensures
    (with-states g s (on g (given_back hand) s).0 c.args.self.now now c.take_twin_back-spare.result is
    (space-is g (give_back hand.id hand.made s) (on g (given_back hand) s).0 now back (c.give_back.ensures.back g s is.state))
    (if-some c.take_twin_back-spare.result _ _ (λ x told. second-is g (give_back hand.id hand.made s) (on g (given_back hand) s).0 now x back
    (told g s first now (subst (λ (o : Option SpaceState). IfSome o (IsSecond g s first)) (sym c.take.ensures.value) is.spare) c.give_back.ensures.lent)) c.take_twin_back-spare.ensures)
    (given-rest g hand.id hand.made s is.rest))

pub returns-clause-others : goal.returns-clause-others
returns-clause-others c = λ other.
    lent-same (record c.args.self.now { state = c.give_back.new.self }) c.put_spare.new.self (ap (λ (core : SpaceCore). core.state) c.put_spare.ensures) other ∙ c.give_back.ensures.lent.lent other

pub returns-clause-standing : goal.returns-clause-standing
returns-clause-standing c = λ g h lent is lends taken.
    own_references_stand g (given_back c.args.task.task ∷ h)
    ((lent_as (state_of g h) c.args.task.task lent, back-refusal g (state_of g h) c.args.self.now c.args.task.task lent _ is lends refl ∙ ap (λ b. cond b None (Some NotLent)) (own-main c.args.self.now c.args.task c.requires)), taken)
