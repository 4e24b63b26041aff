use Rattle.std.proofs.Common.{◌∙◌, subst, sym}
use Rattle.sp_behaviours.proofs.CrossingLemmas.{remote_rules_are_kept}
use Rattle.sp_files.specs.Programs.{IsProgram}
use Rattle.sp_texts.specs.RefusalTexts.{IsRefusalOf}
use Rattle.sp_main.proofs.Refused.{no_program_file, without_program}
use Rattle.sp_serve_command.proofs.command.over_folder.Goals as goal

pub over_program-requires-clause-made : goal.over_program-requires-clause-made
over_program-requires-clause-made g c κs within = subst (λ files. IsProgram files c.in-Ok.program) ((c.deref.ensures).value ∙ sym (c.deref-in-Ok.ensures).value) (c.in-Ok.ensures).program

-- a program that files make keeps the rules on its remote classes
pub over_program-requires-clause-rules : goal.over_program-requires-clause-rules
over_program-requires-clause-rules g c κs within = let p = (c.in-Ok.ensures).program in remote_rules_are_kept p.classes _ p.set p.linked.set p.makes_a_set

pub refusal_report-requires : goal.refusal_report-requires
refusal_report-requires g c = record {
  file = subst (λ files. IsRefusalOf files c.in-Err-program_of.refusal) ((c.deref.ensures).value ∙ sym (c.deref-in-Err-program_of.ensures).value)
      (no_program_file _ c.in-Err-program_of.refusal (without_program _ _ (c.in-Err-program_of.ensures).refused));
}
