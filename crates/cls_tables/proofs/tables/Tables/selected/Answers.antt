use Rattle.std.proofs.Common.{◌<◌, length, subst, sym}
use Rattle.std.specs.Prelude.{IfSome}
use Rattle.cls_link.specs.Links.{Links}
use Rattle.cls_tables.proofs.ClassTrees.{read}
use Rattle.cls_tables.specs.Choices.{IsSelected}
use Rattle.cls_tables.proofs.tables.Tables.selected.Goals as goal

pub returns-clause-selected : goal.returns-clause-selected
returns-clause-selected c =
    let inside = c.self.inside in
    let choices = inside.choices in
    let kept = c.self.invariant in
    let low = subst (λ (links : Links). c.args.class.0 < length links.classes) (sym c.self.view_is) c.requires.class in
    let few = subst (λ (links : Links). c.args.resolved.0 < length links.methods) (sym c.self.view_is) c.requires.method in
    let is =
    read inside.links.value choices.keys.levels choices.keys.keys.items choices.nodes.items choices.roots.items c.args.class c.args.resolved c.chosen.result kept.2 kept.4 low few c.chosen.ensures in
    subst (λ (links : Links). IsSelected links.classes c.args.class c.args.resolved c.chosen.result) c.self.view_is is.selected

pub returns-clause-within : goal.returns-clause-within
returns-clause-within c =
    let inside = c.self.inside in
    let choices = inside.choices in
    let kept = c.self.invariant in
    let low = subst (λ (links : Links). c.args.class.0 < length links.classes) (sym c.self.view_is) c.requires.class in
    let few = subst (λ (links : Links). c.args.resolved.0 < length links.methods) (sym c.self.view_is) c.requires.method in
    let is =
    read inside.links.value choices.keys.levels choices.keys.keys.items choices.nodes.items choices.roots.items c.args.class c.args.resolved c.chosen.result kept.2 kept.4 low few c.chosen.ensures in
    subst (λ (links : Links). IfSome c.chosen.result (λ id. id.0 < length links.methods)) c.self.view_is is.within
