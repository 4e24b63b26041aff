use Rattle.std.proofs.Common.{◌≡◌, ◌<◌, List, Some, length, sym, subst, ap, ◌∙◌}
use Rattle.std.specs.Prelude.{option_map}
use Rattle.cls_set.specs.declared.class.Class.{Class}
use Rattle.cls_link.specs.Links.{Links}
use Rattle.cls_link.specs.Numbers.{number_in}
use Rattle.cls_search.specs.MethodSearches.{own_method}
use Rattle.cls_link.proofs.MethodNumbers.{number_found}
use Rattle.cls_link.proofs.linked.Linked.declared_method.Goals as goal

pub own_method-requires : goal.own_method-requires
own_method-requires c =
    let same : c.self.inside.set ≡ c.args.self.now.classes = ap (λ (l : Links). l.classes) c.self.view_is in
    record { in_set = subst (λ (cs : List Class). c.args.class.0 < length cs) (sym same) c.requires }

pub returns-in-Some-clause-number : goal.returns-in-Some-clause-number
returns-in-Some-clause-number c =
    let classes = c.args.self.now.classes in
    let same : c.self.inside.set ≡ classes = ap (λ (l : Links). l.classes) c.self.view_is in
    ap (λ id. Some id) c.number.ensures.number
    ∙ (ap (option_map (number_in classes)) (c.in-Some.ensures.found ∙ ap (λ (cs : List Class). own_method cs c.args.name.now c.args.descriptor.now c.args.class) same)
    ∙ sym (number_found classes c.args.class c.args.name.now c.args.descriptor.now))

pub returns-in-None-clause-number : goal.returns-in-None-clause-number
returns-in-None-clause-number c =
    let classes = c.args.self.now.classes in
    let same : c.self.inside.set ≡ classes = ap (λ (l : Links). l.classes) c.self.view_is in
    ap (option_map (number_in classes)) (c.in-None.ensures.found ∙ ap (λ (cs : List Class). own_method cs c.args.name.now c.args.descriptor.now c.args.class) same)
    ∙ sym (number_found classes c.args.class c.args.name.now c.args.descriptor.now)
