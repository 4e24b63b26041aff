use Rattle.std.proofs.Common.{◌≡◌, None, subst, ◌∙◌, arith}
use Rattle.cls_link.specs.Links.{Links}
use Rattle.sp_behaviours.specs.Remote.{selected_by}
use Rattle.sp_call_set.proofs.Declared.{declared_by, none_declared}
use Rattle.sp_call_set.proofs.Selected.{none_selected, selected_as_declared}
use Rattle.sp_call_set.proofs.selecting.selected.Goals as goal

pub returns-then-method-len : goal.returns-then-method-len
returns-then-method-len c =
    let linked = c.linked-linked.result.now in
    subst (λ (links : Links). None ≡ selected_by links.classes c.args.class c.args.method) c.linked-linked.ensures.linked
    (none_selected linked.classes c.args.class c.args.method (none_declared linked c.len.ensures.links c.args.method (omega arith)))

pub returns : goal.returns
returns c =
    let linked = c.linked-linked.result.now in
    let declared = c.declaration-declared.result.now in
    let entry = c.linked_method.result.now in
    subst (λ (links : Links). c.selected_on.result ≡ selected_by links.classes c.args.class c.args.method) c.linked-linked.ensures.linked
    (c.selected_on.ensures
    ∙ selected_as_declared linked.classes c.args.class c.args.method entry.class declared
    (declared_by linked c.len.ensures.links c.args.method entry declared c.linked_method.ensures c.declaration-declared.ensures.declared))
