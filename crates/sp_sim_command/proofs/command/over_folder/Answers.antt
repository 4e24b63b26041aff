use Rattle.std.proofs.Common.{◌∙◌, subst, sym}
use Rattle.sp_behaviours.proofs.CrossingLemmas.{remote_rules_are_kept}
use Rattle.sp_files.specs.Programs.{IsProgram}
use Rattle.sp_texts.specs.RefusalTexts.{IsRefusalOf}
use Rattle.sp_main.proofs.Refused.{no_program_file, without_program}
use Rattle.sp_sim_command.proofs.command.over_folder.Goals as goal

-- a program that files make keeps the rules on its remote classes
pub over_program-requires : goal.over_program-requires
over_program-requires g c = record {
  made = subst (λ files. IsProgram files c.in-Ok-program_of.program) ((c.deref.ensures).value ∙ sym (c.deref-in-Ok-program_of.ensures).value) (c.in-Ok-program_of.ensures).program;
  rules = let p = (c.in-Ok-program_of.ensures).program in remote_rules_are_kept p.classes _ p.set p.linked.set p.makes_a_set;
}

pub refusal_report-requires : goal.refusal_report-requires
refusal_report-requires g c = record {
  file = subst (λ files. IsRefusalOf files c.in-Err-program_of.refusal) ((c.deref.ensures).value ∙ sym (c.deref-in-Err-program_of.ensures).value)
      (no_program_file _ c.in-Err-program_of.refusal (without_program _ _ (c.in-Err-program_of.ensures).refused));
}
