use Rattle.std.proofs.Common.{◌≡◌, List, sym, subst, ◌∙◌}
use Rattle.cf_reader.specs.declared.class_file.ClassFile.{ClassFile}
use Rattle.cls_link.specs.Links.{AreLinks, Links}
use Rattle.cls_set.specs.declared.class.Class.{Class}
use Rattle.sp_files.specs.declared.files.ClassBytes.{ClassBytes}
use Rattle.cls_laws.proofs.Links.{one_linking}
use Rattle.cls_link.specs.LinkFaults.{AreSound}
use Rattle.cls_set.specs.Sets.{HasClasses}
use Rattle.sp_files.specs.Files.{AreSpelled}
use Rattle.sp_files.specs.Programs.{IsNoProgram, IsProgram, unread, no_set, not_linked, not_safe}
use Rattle.sp_files.specs.declared.refusal.Refusal.TheVariants.{Set, Link, Check}
use Rattle.cls_set.specs.Faults.{MakeASet}
use Rattle.sp_files.proofs.Spelled.{known_error}
use Rattle.sp_files.proofs.Only.{one_list, safe_out, same_set}
use Rattle.sp_files.specs.Only.{IsOutOfMemory}
use Rattle.ver_check.specs.Acceptance.{AreSafe}
use Rattle.sp_files.proofs.programs.accepted_of.Goals as goal

made : (files : List ClassBytes) (classes : List ClassFile) (set : List Class) (linked accepted : Links) → AreSpelled files classes → MakeASet classes → HasClasses classes set
    → AreSound set → linked.classes ≡ set → AreLinks linked → accepted ≡ linked → AreSafe linked → IsProgram files accepted
made files classes set linked accepted spelled makes has sound same links is safe =
    subst (IsProgram files) (sym is) (record {
      classes = classes;
      spelled = spelled;
      makes_a_set = makes;
      set = subst (HasClasses classes) (sym same) has;
      sound = subst AreSound (sym same) sound;
      linked = links;
      safe = safe;
    })

pub returns-clause-program : goal.returns-clause-program
returns-clause-program c =
    made c.args.files.now c.in_ok-classes.classes.items c.in_ok-set.set c.in_ok-linked.linked c.in_ok-accept.field-0 (c.in_ok-classes.ensures).read (c.in_ok-set.ensures).found (c.in_ok-set.ensures).classes
    (c.in_ok-linked.ensures).found (c.in_ok-linked.ensures).classes (c.in_ok-linked.ensures).links ((c.in_ok-accept.ensures).exact).0 ((c.in_ok-accept.ensures).exact).1

pub returns-in_err-classes-clause-refused : goal.returns-in_err-classes-clause-refused
returns-in_err-classes-clause-refused c =
    known_error c.from_residual.result c.in_err-classes.field-0.0 (IsNoProgram c.args.files.now) c.from_residual.ensures.1
    (unread c.in_err-classes.field-0.0 (c.in_err-classes.ensures).refused)

pub returns-in_err-set-clause-refused : goal.returns-in_err-set-clause-refused
returns-in_err-set-clause-refused c =
    known_error c.from_residual-in_err-set.result (Set c.in_err-set.field-0.0) (IsNoProgram c.args.files.now) c.from_residual-in_err-set.ensures.1
    (no_set c.in_ok-classes.classes.items c.in_err-set.field-0.0 (c.in_ok-classes.ensures).read (c.in_err-set.ensures).fault)

pub returns-in_err-linked-clause-refused : goal.returns-in_err-linked-clause-refused
returns-in_err-linked-clause-refused c =
    known_error c.from_residual-in_err-linked.result (Link c.in_err-linked.field-0.0) (IsNoProgram c.args.files.now) c.from_residual-in_err-linked.ensures.1
    (not_linked c.in_ok-classes.classes.items c.in_ok-set.set c.in_err-linked.field-0.0 (c.in_ok-classes.ensures).read (c.in_ok-set.ensures).classes (c.in_ok-set.ensures).set (c.in_err-linked.ensures).fault)

pub returns-in_err-accept-clause-refused : goal.returns-in_err-accept-clause-refused
returns-in_err-accept-clause-refused c =
    let has = subst (HasClasses c.in_ok-classes.classes.items) (sym (c.in_ok-linked.ensures).classes) (c.in_ok-set.ensures).classes in
    known_error c.from_residual-in_err-accept.result (Check c.in_err-accept.field-0.0) (IsNoProgram c.args.files.now) c.from_residual-in_err-accept.ensures.1
    (not_safe c.in_ok-classes.classes.items c.in_ok-linked.linked c.in_err-accept.field-0.0 (c.in_ok-classes.ensures).read has (c.in_ok-linked.ensures).links (c.in_err-accept.ensures).fault)

pub returns-in_err-classes-clause-only : goal.returns-in_err-classes-clause-only
returns-in_err-classes-clause-only c = λ program is.
    known_error c.from_residual.result c.in_err-classes.field-0.0 IsOutOfMemory c.from_residual.ensures.1 ((c.in_err-classes.ensures).only is.classes is.spelled)

pub returns-in_err-set-clause-only : goal.returns-in_err-set-clause-only
returns-in_err-set-clause-only c = λ program is.
    let same = one_list c.args.files.now is.classes c.in_ok-classes.classes.items is.spelled (c.in_ok-classes.ensures).read in
    known_error c.from_residual-in_err-set.result (Set c.in_err-set.field-0.0) IsOutOfMemory c.from_residual-in_err-set.ensures.1
    ((c.in_err-set.ensures).only (subst MakeASet same is.makes_a_set))

pub returns-in_err-linked-clause-only : goal.returns-in_err-linked-clause-only
returns-in_err-linked-clause-only c = λ program is.
    let set = same_set c.args.files.now c.in_ok-classes.classes.items c.in_ok-set.set program (c.in_ok-classes.ensures).read (c.in_ok-set.ensures).classes (c.in_ok-set.ensures).set is in
    known_error c.from_residual-in_err-linked.result (Link c.in_err-linked.field-0.0) IsOutOfMemory c.from_residual-in_err-linked.ensures.1
    ((c.in_err-linked.ensures).only (subst AreSound (sym set) is.sound))

pub returns-in_err-accept-clause-only : goal.returns-in_err-accept-clause-only
returns-in_err-accept-clause-only c = λ program is.
    let set = same_set c.args.files.now c.in_ok-classes.classes.items c.in_ok-set.set program (c.in_ok-classes.ensures).read (c.in_ok-set.ensures).classes (c.in_ok-set.ensures).set is in
    let same = one_linking c.in_ok-linked.linked program (c.in_ok-linked.ensures).links is.linked ((c.in_ok-linked.ensures).classes ∙ set) in
    known_error c.from_residual-in_err-accept.result (Check c.in_err-accept.field-0.0) IsOutOfMemory c.from_residual-in_err-accept.ensures.1
    (safe_out _ (AreSafe c.in_ok-linked.linked) c.in_err-accept.field-0.0 (c.in_err-accept.ensures).exact (subst AreSafe (sym same) is.safe))
