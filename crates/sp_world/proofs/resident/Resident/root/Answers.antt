use Rattle.std.proofs.Common.{◌∙◌, ◌∷◌, ◌++◌, [], ap, sym, subst, refl, length}
use Rattle.std.specs.Prelude.{Option}
use Rattle.sp_rules.specs.Events.{Root}
use Rattle.sp_rules.specs.Refusals.{Refusal}
use Rattle.sp_rules.specs.Space.{on as after_event}
use Rattle.sp_events.specs.FaultNames.{RefusesOrLacks}
use Rattle.sp_world.specs.Residents.{refused_event}
use Rattle.sp_world.proofs.ResidentLemmas.{one-answer, one-refusal, stays, takes}
use Rattle.std.proofs.lemmas.Result.{err_from_is_err_and}
use Rattle.sp_world.proofs.WiringLemmas.{all-err}
use Rattle.sp_world.proofs.resident.Resident.root.Goals as goal

pub returns-clause-taken : goal.returns-clause-taken
returns-clause-taken g c = λ s r. takes g.S.WorldSpace.is_space s c.args.self.now c.keep_reserved.new.self (Root c.args.method c.args.arguments.now c.args.fuel ∷ []) (refused_event (Root c.args.method c.args.arguments.now c.args.fuel) s) c.in_ok-outputs.outputs c.keep_reserved.result
    r
    (one-refusal s.setting s.state (Root c.args.method c.args.arguments.now c.args.fuel) (refl) ∙ c.in_ok-outputs.ensures.accepted s.setting s.state r.space)
    (c.keep_reserved.ensures.answers ∙ ap (λ l. l ++ c.in_ok-outputs.outputs ∷ []) c.reserve.ensures.items)
    (c.keep_reserved.ensures.row ∙ ap length c.reserve.ensures.items)
    (c.in_ok-outputs.ensures.outputs s.setting s.state r.space ∙ sym (one-answer s.setting s.state (Root c.args.method c.args.arguments.now c.args.fuel)))
    (subst (g.S.WorldSpace.is_space s.setting (after_event s.setting (Root c.args.method c.args.arguments.now c.args.fuel) s.state).0) (sym c.keep_reserved.ensures.space) (c.in_ok-outputs.ensures.state s.setting s.state r.space))

pub returns-in_err-outputs-clause-refused : goal.returns-in_err-outputs-clause-refused
returns-in_err-outputs-clause-refused g c = let p = err_from_is_err_and c.from_residual.result c.from_residual.ensures.1 in rw (p.1, p.2) (λ s r.
    subst (λ (x : Option Refusal). RefusesOrLacks x c.in_err-outputs.field-0.0) (sym (one-refusal s.setting s.state (Root c.args.method c.args.arguments.now c.args.fuel) refl)) (c.in_err-outputs.ensures.refused s.setting s.state r.space))

pub returns-in_err-outputs-clause-same : goal.returns-in_err-outputs-clause-same
returns-in_err-outputs-clause-same g c = all-err c.from_residual.result (λ s r. stays g.S.WorldSpace.is_space s c.args.self.now _ (c.in_err-outputs.ensures.unchanged s.setting s.state r.space) c.reserve.ensures.items r)
