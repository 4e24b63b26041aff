use Rattle.std.proofs.Common.{◌∙◌, sym, subst}
use Rattle.cls_search.specs.MethodSearches as selections
use Rattle.cls_search.proofs.Interfaces.{not_true, interface_true, interface_false}
use Rattle.cls_search.proofs.methods.find_method.Goals as goal

pub returns-then-is_initializer-clause-found : goal.returns-then-is_initializer-clause-found
returns-then-is_initializer-clause-found c =
    subst (selections.Resolves c.args.set.now c.args.class c.args.name.now (selections.own_method c.args.set.now c.args.name.now c.args.descriptor.now)) (sym c.own_method.ensures.found)
    (selections.Resolves.of_class_alone (sym c.is_initializer.ensures ∙ c.if-is_initializer.true))

pub returns-then-is_interface-clause-found : goal.returns-then-is_interface-clause-found
returns-then-is_interface-clause-found c =
    selections.Resolves.in_interfaces c.in_all_interfaces.result (not_true _ (sym c.is_initializer.ensures ∙ c.if-is_initializer.false))
    (interface_true c.args.set.now c.args.class c.class.result.now c.class.ensures (c.is_interface.ensures.0 c.if-is_interface.true)) c.in_all_interfaces.ensures.found

pub returns-in-Some-clause-found : goal.returns-in-Some-clause-found
returns-in-Some-clause-found c =
    selections.Resolves.in_superclasses c.in-Some.method (not_true _ (sym c.is_initializer.ensures ∙ c.if-is_initializer.false))
    (interface_false c.args.set.now c.args.class c.class.result.now c.class.ensures (λ is. not_true _ c.if-is_interface.false (c.is_interface.ensures.1 is))) c.in-Some.ensures.found

pub returns-in-None-clause-found : goal.returns-in-None-clause-found
returns-in-None-clause-found c =
    selections.Resolves.in_superinterfaces c.in_all_interfaces-in-None.result (not_true _ (sym c.is_initializer.ensures ∙ c.if-is_initializer.false))
    (interface_false c.args.set.now c.args.class c.class.result.now c.class.ensures (λ is. not_true _ c.if-is_interface.false (c.is_interface.ensures.1 is))) c.in-None.ensures.found c.in_all_interfaces-in-None.ensures.found
