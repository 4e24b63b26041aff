use Rattle.std.proofs.Common.{◌∙◌, subst, sym}
use Rattle.std.proofs.lemmas.Result.{IfOk-at_ok}
use Rattle.sp_behaviours.proofs.CrossingLemmas.{remote_rules_are_kept}
use Rattle.sp_main.specs.Folders.{AreFilesOf, told_by}
use Rattle.sp_files.specs.Programs.{IsProgram}
use Rattle.sp_texts.specs.RefusalTexts.{IsRefusalOf}
use Rattle.sp_words.specs.Requests.{sim_words}
use Rattle.sp_main.proofs.Refused.{no_program_file, without_program}
use Rattle.sp_main.proofs.Replied.{played_simulated, refusal_simulated, unreadable_simulated}
use Rattle.sp_main.proofs.entry.sim_report.Goals as goal

pub returns-in-Err : goal.returns-in-Err
returns-in-Err g c =
    unreadable_simulated (told_by (g.F.Folder.lists c.args.folder.now) (g.F.Folder.gives c.args.folder.now)) (sim_words c.args.request.now) c.folder_report.result
    (c.folder_report.ensures).status (c.folder_report.ensures).text

-- a program that files make keeps the rules on its remote classes
pub program_report-requires : goal.program_report-requires
program_report-requires g c = let p = (c.in-Ok-program_of.ensures).program in record {
  made = subst (λ files. IsProgram files c.in-Ok-program_of.program) ((c.deref.ensures).value ∙ sym (c.deref-in-Ok-program_of.ensures).value) p;
  rules = remote_rules_are_kept p.classes _ p.set p.linked.set p.makes_a_set;
}

pub returns-in-Ok-program_of : goal.returns-in-Ok-program_of
returns-in-Ok-program_of g c =
    played_simulated (told_by (g.F.Folder.lists c.args.folder.now) (g.F.Folder.gives c.args.folder.now)) (sim_words c.args.request.now) _ c.in-Ok.files.items
    (IfOk-at_ok (λ files. AreFilesOf (told_by (g.F.Folder.lists c.args.folder.now) (g.F.Folder.gives c.args.folder.now)) c.args.request.now.folder.now files.items) c.in-Ok.is c.in_ok-files.ensures)
    (c.deref.ensures).value _ c.program_report.result (c.in-Ok-program_of.ensures).program c.program_report.ensures

pub refusal_report-requires : goal.refusal_report-requires
refusal_report-requires g c = record {
  file = subst (λ files. IsRefusalOf files c.in-Err-program_of.refusal) ((c.deref.ensures).value ∙ sym (c.deref-in-Err-program_of.ensures).value)
      (no_program_file _ c.in-Err-program_of.refusal (without_program _ _ (c.in-Err-program_of.ensures).refused));
}

pub returns : goal.returns
returns g c =
    refusal_simulated (told_by (g.F.Folder.lists c.args.folder.now) (g.F.Folder.gives c.args.folder.now)) (sim_words c.args.request.now) _ c.in-Ok.files.items
    (IfOk-at_ok (λ files. AreFilesOf (told_by (g.F.Folder.lists c.args.folder.now) (g.F.Folder.gives c.args.folder.now)) c.args.request.now.folder.now files.items) c.in-Ok.is c.in_ok-files.ensures)
    (c.deref.ensures).value c.in-Err-program_of.refusal c.refusal_report.result (without_program _ _ (c.in-Err-program_of.ensures).refused)
    (c.refusal_report.ensures).status (rw (sym (c.deref-in-Err-program_of.ensures).value) (c.refusal_report.ensures).text)
