use Rattle.std.proofs.Common.{◌≡◌, List, true, false, subst, ◌∙◌, arith}
use Rattle.cls_link.specs.Links.{Links}
use Rattle.cls_search.specs.MethodSearches.{is_interface}
use Rattle.cls_set.specs.declared.class.Class.{Class}
use Rattle.sp_behaviours.specs.Remote.{may_call}
use Rattle.sp_call_set.proofs.Called.{called_as_given, inherited_alone, interfaces_alone, none_called}
use Rattle.sp_call_set.proofs.Declared.{declared_by, none_declared}
use Rattle.sp_call_set.proofs.calls.may_call.Goals as goal
use Rattle.sp_call_set.specs.Calls.{is_given}

pub returns-then-method-len : goal.returns-then-method-len
returns-then-method-len c =
    let linked = c.linked-linked.result.now in
    subst (λ (links : Links). false ≡ may_call links.classes c.args.class c.args.method) c.linked-linked.ensures.linked
    (none_called linked.classes c.args.class c.args.method (none_declared linked c.len.ensures.links c.args.method (omega arith)))

pub returns-then-not-is_inherited : goal.returns-then-not-is_inherited
returns-then-not-is_inherited c =
    let linked = c.linked-linked.result.now in
    let declared = c.declaration-declared.result.now in
    let entry = c.linked_method.result.now in
    let by_entry = declared_by linked c.len.ensures.links c.args.method entry declared c.linked_method.ensures c.declaration-declared.ensures.declared in
    subst (λ (links : Links). false ≡ may_call links.classes c.args.class c.args.method) c.linked-linked.ensures.linked
    (inherited_alone linked.classes c.args.class c.args.method entry.class declared by_entry c.if-not-is_inherited.ensures)

pub returns-then-not-is_interface : goal.returns-then-not-is_interface
returns-then-not-is_interface c =
    let linked = c.linked-linked.result.now in
    let declared = c.declaration-declared.result.now in
    let entry = c.linked_method.result.now in
    let by_entry = declared_by linked c.len.ensures.links c.args.method entry declared c.linked_method.ensures c.declaration-declared.ensures.declared in
    let none = subst (λ (cs : List Class). false ≡ is_interface cs entry.class) c.set.ensures c.if-not-is_interface.ensures in
    subst (λ (links : Links). false ≡ may_call links.classes c.args.class c.args.method) c.linked-linked.ensures.linked
    (interfaces_alone linked.classes c.args.class c.args.method entry.class declared by_entry none)

pub returns : goal.returns
returns c =
    let linked = c.linked-linked.result.now in
    let declared = c.declaration-declared.result.now in
    let entry = c.linked_method.result.now in
    let by_entry = declared_by linked c.len.ensures.links c.args.method entry declared c.linked_method.ensures c.declaration-declared.ensures.declared in
    let interface = subst (λ (cs : List Class). true ≡ is_interface cs entry.class) c.set.ensures c.if-not-is_interface.ensures in
    let given = subst (λ (cs : List Class). c.is_given.result ≡ is_given cs c.args.class entry.class) c.set-2.ensures c.is_given.ensures in
    subst (λ (links : Links). c.is_given.result ≡ may_call links.classes c.args.class c.args.method) c.linked-linked.ensures.linked
    (given ∙ called_as_given linked.classes c.args.class c.args.method entry.class declared by_entry c.if-not-is_inherited.ensures interface)
