use Rattle.std.proofs.Common.{map, string_bytes}
use Rattle.sp_main.specs.Folders.{told_by}
use Rattle.sp_main.proofs.Replied.{written_failed, written_replied}
use Rattle.sp_main.proofs.entry.command.Goals as goal

pub returns-in-Ok-clause-replied : goal.returns-in-Ok-clause-replied
returns-in-Ok-clause-replied g c =
    written_replied (told_by (g.F.Folder.lists c.args.folder.now) (g.F.Folder.gives c.args.folder.now)) (map string_bytes c.args.words.now) c.in-Ok.report c.write.result c.code.result _ _ _ _ c.in-Ok.ensures c.code.ensures
    (c.write.ensures).other (c.write.ensures).told

pub returns-in-Ok-clause-failed : goal.returns-in-Ok-clause-failed
returns-in-Ok-clause-failed g c =
    written_failed (told_by (g.F.Folder.lists c.args.folder.now) (g.F.Folder.gives c.args.folder.now)) (map string_bytes c.args.words.now) c.in-Ok.report c.write.result c.code.result _ _ _ _ c.in-Ok.ensures c.code.ensures
    (c.write.ensures).other (c.write.ensures).told
