use Rattle.std.proofs.Common.{◌≡◌, ◌∙◌, rules, subst, sym}
use Rattle.std.proofs.lemmas.Result.{IfOk-at_ok}
use Rattle.sp_main.specs.Folders.{AreFilesOf, told_by}
use Rattle.sp_texts.specs.RefusalTexts.{IsRefusalOf}
use Rattle.sp_main.specs.Replies.{limits_of}
use Rattle.sp_words.specs.Requests.{run_words}
use Rattle.sp_main.proofs.Refused.{refused_file}
use Rattle.sp_main.proofs.Replied.{refusal_replied, run_replied, unreadable_replied}
use Rattle.sp_main.proofs.entry.run_report.Goals as goal

pub returns-in-Err : goal.returns-in-Err
returns-in-Err g c =
    unreadable_replied (told_by (g.F.Folder.lists c.args.folder.now) (g.F.Folder.gives c.args.folder.now)) (run_words c.args.request) c.folder_report.result
    (c.folder_report.ensures).status (c.folder_report.ensures).text

pub returns-in-Ok-run_classes : goal.returns-in-Ok-run_classes
returns-in-Ok-run_classes g c =
    let read : AreFilesOf (told_by (g.F.Folder.lists c.args.folder.now) (g.F.Folder.gives c.args.folder.now)) c.args.request.folder.now c.in-Ok.files.items =
    IfOk-at_ok (λ files. AreFilesOf (told_by (g.F.Folder.lists c.args.folder.now) (g.F.Folder.gives c.args.folder.now)) c.args.request.folder.now files.items) c.in-Ok.is c.in_ok-files.ensures in
    let limits : record c.default-limits.result { fuel = c.unwrap_or.result } ≡ limits_of c.args.request.fuel = search rules in
    run_replied (told_by (g.F.Folder.lists c.args.folder.now) (g.F.Folder.gives c.args.folder.now)) (run_words c.args.request) _ c.in-Ok.files.items _ _ _ c.in-Ok-run_classes.outcome c.outcome_report.result read
    (c.deref.ensures).value (c.as_bytes-class.ensures).value (c.as_bytes-method.ensures).value limits (c.in-Ok-run_classes.ensures).run
    (c.outcome_report.ensures).status (c.outcome_report.ensures).text

pub refusal_report-requires : goal.refusal_report-requires
refusal_report-requires g c = record {
  file = subst (λ files. IsRefusalOf files c.in-Err-run_classes.refusal) ((c.deref.ensures).value ∙ sym (c.deref-in-Err-run_classes.ensures).value)
      (refused_file _ _ _ _ _ c.in-Err-run_classes.refusal (c.in-Err-run_classes.ensures).refused);
}

pub returns : goal.returns
returns g c =
    let read : AreFilesOf (told_by (g.F.Folder.lists c.args.folder.now) (g.F.Folder.gives c.args.folder.now)) c.args.request.folder.now c.in-Ok.files.items =
    IfOk-at_ok (λ files. AreFilesOf (told_by (g.F.Folder.lists c.args.folder.now) (g.F.Folder.gives c.args.folder.now)) c.args.request.folder.now files.items) c.in-Ok.is c.in_ok-files.ensures in
    let limits : record c.default-limits.result { fuel = c.unwrap_or.result } ≡ limits_of c.args.request.fuel = search rules in
    refusal_replied (told_by (g.F.Folder.lists c.args.folder.now) (g.F.Folder.gives c.args.folder.now)) (run_words c.args.request) _ c.in-Ok.files.items _ _ _ c.in-Err-run_classes.refusal c.refusal_report.result read
    (c.deref.ensures).value (c.as_bytes-class.ensures).value (c.as_bytes-method.ensures).value limits (c.in-Err-run_classes.ensures).refused
    (c.refusal_report.ensures).status (rw (sym (c.deref-in-Err-run_classes.ensures).value) (c.refusal_report.ensures).text)
