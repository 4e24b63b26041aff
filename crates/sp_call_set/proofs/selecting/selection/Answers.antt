use Rattle.std.proofs.Common.{subst, sym}
use Rattle.cls_link.specs.Links.{Links}
use Rattle.cls_set.specs.Sets.{IsClassSet}
use Rattle.cls_tables.specs.Choices.{IsSelected}
use Rattle.vm_code.proofs.Selections.{selection_is}
use Rattle.sp_call_set.proofs.selecting.selection.Goals as goal

pub returns-clause-found : goal.returns-clause-found
returns-clause-found c =
    let set = subst IsClassSet c.set.ensures c.len-classes.ensures.set in
    let is = subst (λ (links : Links). IsSelected links.classes c.args.class c.args.named c.selected.result) c.requires.tables c.selected.ensures.selected in
    sym (selection_is c.args.linked.now.classes set c.args.class c.args.named c.selected.result is)
