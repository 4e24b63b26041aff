use Rattle.std.proofs.Common.{◌≡◌, List, true, false, subst, sym, ◌∙◌}
use Rattle.cls_set.specs.declared.class.Class.{Class}
use Rattle.vm_code.proofs.Subtypes.{subtype_sound}
use Rattle.vm_code.specs.Classes.{is_subtype}
use Rattle.sp_call_set.proofs.Selected.{not_implemented, nothing_selected, runs_selected}
use Rattle.sp_call_set.proofs.selecting.selected_on.Goals as goal

pub returns-then-not-is_subtype : goal.returns-then-not-is_subtype
returns-then-not-is_subtype c =
    not_implemented c.args.linked.now.classes c.args.class c.args.interface c.args.named
    (subst (λ (cs : List Class). false ≡ is_subtype cs c.args.class c.args.interface) c.set.ensures c.if-not-is_subtype.ensures)

pub selection-requires-clause-class : goal.selection-requires-clause-class
selection-requires-clause-class c =
    let below = subst (λ (cs : List Class). true ≡ is_subtype cs c.args.class c.args.interface) c.set.ensures c.if-not-is_subtype.ensures in
    (subtype_sound c.args.linked.now.classes c.args.class c.args.interface (sym below)).0

pub returns-in-Some : goal.returns-in-Some
returns-in-Some c =
    let below = subst (λ (cs : List Class). true ≡ is_subtype cs c.args.class c.args.interface) c.set.ensures c.if-not-is_subtype.ensures in
    c.run_by.ensures ∙ runs_selected c.args.linked.now.classes c.args.class c.args.interface c.args.named c.in-Some.found below c.in-Some.ensures.found

pub returns-in-None : goal.returns-in-None
returns-in-None c =
    let below = subst (λ (cs : List Class). true ≡ is_subtype cs c.args.class c.args.interface) c.set.ensures c.if-not-is_subtype.ensures in
    nothing_selected c.args.linked.now.classes c.args.class c.args.interface c.args.named below c.in-None.ensures.found
