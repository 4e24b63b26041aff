use Rattle.std.proofs.Common.{ℕ, Option, sym, subst}
use Rattle.std.proofs.lemmas.Result.{on_ok_weaker}
use Rattle.space_ids.specs.declared.ids.ClassId.{ClassId}
use Rattle.sp_rules.specs.ParkedFrames.{answer_threw, start_selected}
use Rattle.sp_living.specs.Livings.{IsLiving}
use Rattle.sp_endings.proofs.passing.start_selected.Goals as goal

pub returns-in-None-clause-started : goal.returns-in-None-clause-started
returns-in-None-clause-started w c = on_ok_weaker c.answer_threw.result (λ told. λ g s receiver others a tells args.
    subst (λ (o : Option ℕ). IsLiving g (start_selected g c.args.conn c.args.number receiver o c.args.fuel others s) c.answer_threw.new.living) (sym c.in-None.is)
    (subst (λ (class : ClassId). IsLiving g (answer_threw c.args.conn c.args.number class s) c.answer_threw.new.living) (c.thrown.ensures g.classes tells) (told g s a))) c.answer_threw.ensures.answered
