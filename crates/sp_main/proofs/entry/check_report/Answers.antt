use Rattle.std.proofs.Common.{◌∙◌, subst, sym}
use Rattle.std.proofs.lemmas.Result.{IfOk-at_ok}
use Rattle.sp_main.specs.Folders.{AreFilesOf, told_by}
use Rattle.sp_texts.specs.RefusalTexts.{IsRefusalOf}
use Rattle.sp_main.proofs.Refused.{no_program_file}
use Rattle.sp_main.proofs.Replied.{accepted_checked, refusal_checked, unreadable_checked}
use Rattle.sp_main.proofs.entry.check_report.Goals as goal

pub returns-in-Err : goal.returns-in-Err
returns-in-Err g c =
    unreadable_checked (told_by (g.F.Folder.lists c.args.folder.now) (g.F.Folder.gives c.args.folder.now)) c.args.path.now c.folder_report.result
    (c.folder_report.ensures).status (c.folder_report.ensures).text

pub returns-in-Ok-check_classes : goal.returns-in-Ok-check_classes
returns-in-Ok-check_classes g c =
    accepted_checked (told_by (g.F.Folder.lists c.args.folder.now) (g.F.Folder.gives c.args.folder.now)) c.args.path.now _ c.in-Ok.files.items c.in-Ok-check_classes.count c.accepted_report.result
    (IfOk-at_ok (λ files. AreFilesOf (told_by (g.F.Folder.lists c.args.folder.now) (g.F.Folder.gives c.args.folder.now)) c.args.path.now files.items) c.in-Ok.is c.in_ok-files.ensures)
    (c.deref.ensures).value (c.in-Ok-check_classes.ensures).accepted (c.in-Ok-check_classes.ensures).program
    (c.accepted_report.ensures).status (c.accepted_report.ensures).text

pub refusal_report-requires : goal.refusal_report-requires
refusal_report-requires g c = record {
  file = subst (λ files. IsRefusalOf files c.in-Err-check_classes.refusal) ((c.deref.ensures).value ∙ sym (c.deref-in-Err-check_classes.ensures).value)
      (no_program_file _ c.in-Err-check_classes.refusal (c.in-Err-check_classes.ensures).refused);
}

pub returns : goal.returns
returns g c =
    refusal_checked (told_by (g.F.Folder.lists c.args.folder.now) (g.F.Folder.gives c.args.folder.now)) c.args.path.now _ c.in-Ok.files.items c.in-Err-check_classes.refusal c.refusal_report.result
    (IfOk-at_ok (λ files. AreFilesOf (told_by (g.F.Folder.lists c.args.folder.now) (g.F.Folder.gives c.args.folder.now)) c.args.path.now files.items) c.in-Ok.is c.in_ok-files.ensures)
    (c.deref.ensures).value (c.in-Err-check_classes.ensures).refused
    (c.refusal_report.ensures).status (rw (sym (c.deref-in-Err-check_classes.ensures).value) (c.refusal_report.ensures).text)
