use Rattle.std.proofs.Common.{map, string_bytes}
use Rattle.sp_main.specs.Folders.{told_by}
use Rattle.sp_main.proofs.Replied.{asked_replied, check_replied, mistaken_replied, sim_replied, told_replied}
use Rattle.sp_main.proofs.entry.report_of.Goals as goal

pub returns-in-Tell : goal.returns-in-Tell
returns-in-Tell g c =
    told_replied (told_by (g.F.Folder.lists c.args.folder.now) (g.F.Folder.gives c.args.folder.now)) (map string_bytes c.args.words.now) c.in_ok-text.field-0 c.text_report.result c.in-Tell.text _ c.in_ok-text.ensures c.in-Tell.is
    (c.text_report.ensures).status (c.text_report.ensures).text

pub returns-in-Refuse : goal.returns-in-Refuse
returns-in-Refuse g c =
    mistaken_replied (told_by (g.F.Folder.lists c.args.folder.now) (g.F.Folder.gives c.args.folder.now)) (map string_bytes c.args.words.now) c.in_ok-text.field-0 c.text_report-in-Refuse.result c.in-Refuse.text _ c.in_ok-text.ensures c.in-Refuse.is
    (c.text_report-in-Refuse.ensures).status (c.text_report-in-Refuse.ensures).text

pub returns-in-Run : goal.returns-in-Run
returns-in-Run g c =
    asked_replied (told_by (g.F.Folder.lists c.args.folder.now) (g.F.Folder.gives c.args.folder.now)) (map string_bytes c.args.words.now) c.in_ok-text.field-0 c.run_report.result c.in-Run.request c.in_ok-text.ensures c.in-Run.is c.run_report.ensures

pub returns-in-Check : goal.returns-in-Check
returns-in-Check g c =
    check_replied (told_by (g.F.Folder.lists c.args.folder.now) (g.F.Folder.gives c.args.folder.now)) (map string_bytes c.args.words.now) c.in_ok-text.field-0 c.check_report.result c.in-Check.path c.in_ok-text.ensures c.in-Check.is c.check_report.ensures

pub returns-in-Sim : goal.returns-in-Sim
returns-in-Sim g c =
    sim_replied (told_by (g.F.Folder.lists c.args.folder.now) (g.F.Folder.gives c.args.folder.now)) (map string_bytes c.args.words.now) c.in_ok-text.field-0 c.sim_report.result c.in-Sim.request c.in_ok-text.ensures c.in-Sim.is c.sim_report.ensures
