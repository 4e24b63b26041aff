use Rattle.std.proofs.Common.{Option, refl, subst}
use Rattle.cls_link.specs.declared.linked_code.MethodId.{MethodId}
use Rattle.sp_files.proofs.Spelled.{known_error}
use Rattle.sp_files.specs.Names.{NamesMethod}
use Rattle.sp_files.specs.declared.refusal.Refusal.TheVariants.{Memory}
use Rattle.sp_runs.specs.OfProgram.{IsNotFound}
use Rattle.sp_runs.proofs.running.method_named.Goals as goal

pub returns-in_err-found-clause-refused : goal.returns-in_err-found-clause-refused
returns-in_err-found-clause-refused c =
    known_error c.from_residual.result Memory (IsNotFound c.args.program.now c.args.class.now c.args.text.now) c.from_residual.ensures.1 tt

pub returns-in-Some-clause-found : goal.returns-in-Some-clause-found
returns-in-Some-clause-found c = subst (λ (o : Option MethodId). NamesMethod c.args.program.now c.args.class.now c.args.text.now o) c.in-Some.is c.in_ok-found.ensures

pub returns-in-None-clause-refused : goal.returns-in-None-clause-refused
returns-in-None-clause-refused c = (refl, subst (λ (o : Option MethodId). NamesMethod c.args.program.now c.args.class.now c.args.text.now o) c.in-None.is c.in_ok-found.ensures)
