use Rattle.std.proofs.Common.{◌≡◌, List, Some, None, sym, subst, ap}
use Rattle.space_ids.specs.declared.ids.ClassId.{ClassId}
use Rattle.cls_set.specs.declared.class.Class.{Class}
use Rattle.cls_link.specs.Links.{Links, number_of}
use Rattle.cls_link.specs.Numbers.{number_in}
use Rattle.cls_link.specs.Selections.{ResolvesMethod}
use Rattle.cls_search.specs.MethodSearches.{own_method, Resolves}
use Rattle.cls_link.proofs.ByNumber.{resolved}
use Rattle.cls_link.proofs.MethodNumbers.{number_found}
use Rattle.cls_link.proofs.linked.Linked.method.Goals as goal

pub returns-in-Some-clause-resolved : goal.returns-in-Some-clause-resolved
returns-in-Some-clause-resolved c =
    let classes = c.args.self.now.classes in
    let name = c.args.name.now in
    let descriptor = c.args.descriptor.now in
    let same : c.self.inside.set ≡ classes = ap (λ (l : Links). l.classes) c.self.view_is in
    let found = subst (λ (cs : List Class). Resolves cs c.args.class name (own_method cs name descriptor) (Some c.in-Some.method)) same c.in-Some.ensures.found in
    subst (λ id. ResolvesMethod classes c.args.class name descriptor (Some id)) (sym c.number.ensures.number)
    (resolved (number_in classes) classes c.args.class name (own_method classes name descriptor) (λ (x : ClassId). number_of classes x name descriptor) (λ (x : ClassId). number_found classes x name descriptor) found)

pub returns-in-None-clause-resolved : goal.returns-in-None-clause-resolved
returns-in-None-clause-resolved c =
    let classes = c.args.self.now.classes in
    let name = c.args.name.now in
    let descriptor = c.args.descriptor.now in
    let same : c.self.inside.set ≡ classes = ap (λ (l : Links). l.classes) c.self.view_is in
    let found = subst (λ (cs : List Class). Resolves cs c.args.class name (own_method cs name descriptor) None) same c.in-None.ensures.found in
    resolved (number_in classes) classes c.args.class name (own_method classes name descriptor) (λ (x : ClassId). number_of classes x name descriptor) (λ (x : ClassId). number_found classes x name descriptor) found
