use Rattle.std.proofs.Common.{◌∙◌, ◌∷◌, ◌++◌, [], ap, sym, subst, length}
use Rattle.sp_world.specs.Steps.{state_after, step_at, step_refusal}
use Rattle.sp_world.proofs.ResidentLemmas.{stays, takes}
use Rattle.std.proofs.lemmas.Result.{err_from_is_err_and}
use Rattle.sp_world.proofs.WiringLemmas.{all-err}
use Rattle.sp_world.proofs.resident.Resident.step.Goals as goal

pub returns-clause-taken : goal.returns-clause-taken
returns-clause-taken g c = λ s r. takes g.S.WorldSpace.is_space s c.args.self.now c.keep_reserved.new.self (step_at s.state c.args.task) (step_refusal s.setting s.state c.args.task) c.in_ok-outputs.outputs c.keep_reserved.result
    r
    (c.in_ok-outputs.ensures.accepted s.setting s.state r.space)
    (c.keep_reserved.ensures.answers ∙ ap (λ l. l ++ c.in_ok-outputs.outputs ∷ []) c.reserve.ensures.items)
    (c.keep_reserved.ensures.row ∙ ap length c.reserve.ensures.items)
    (c.in_ok-outputs.ensures.outputs s.setting s.state r.space)
    (subst (g.S.WorldSpace.is_space s.setting (state_after s.setting s.state (step_at s.state c.args.task))) (sym c.keep_reserved.ensures.space) (c.in_ok-outputs.ensures.state s.setting s.state r.space))

pub returns-in_err-outputs-clause-refused : goal.returns-in_err-outputs-clause-refused
returns-in_err-outputs-clause-refused g c = let p = err_from_is_err_and c.from_residual.result c.from_residual.ensures.1 in rw (p.1, p.2) (λ s r. c.in_err-outputs.ensures.refused s.setting s.state r.space)

pub returns-in_err-outputs-clause-same : goal.returns-in_err-outputs-clause-same
returns-in_err-outputs-clause-same g c = all-err c.from_residual.result (λ s r. stays g.S.WorldSpace.is_space s c.args.self.now _ (c.in_err-outputs.ensures.unchanged s.setting s.state r.space) c.reserve.ensures.items r)
