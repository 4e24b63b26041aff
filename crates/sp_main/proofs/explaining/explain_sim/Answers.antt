use Rattle.std.proofs.Common.{◌∙◌, subst, sym}
use Rattle.sp_behaviours.proofs.CrossingLemmas.{remote_rules_are_kept}
use Rattle.sp_files.specs.Programs.{IsProgram}
use Rattle.sp_main.proofs.explaining.explain_sim.Goals as goal

-- a program that files make keeps the rules on its remote classes
pub explain_script-requires : goal.explain_script-requires
explain_script-requires g c = let p = (c.in-Ok-program_of.ensures).program in record {
  made = subst (λ files. IsProgram files c.in-Ok-program_of.program) ((c.deref.ensures).value ∙ sym (c.deref-in-Ok-program_of.ensures).value) p;
  rules = remote_rules_are_kept p.classes _ p.set p.linked.set p.makes_a_set;
}
