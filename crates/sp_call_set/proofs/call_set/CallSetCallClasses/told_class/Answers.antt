use Rattle.std.proofs.Common.{◌≡◌, List, subst, ap, ◌∙◌}
use Rattle.cls_link.specs.Links.{Links}
use Rattle.cls_set.specs.declared.class.Class.{Class}
use Rattle.sp_rules.specs.Classes.{Classes, told_class}
use Rattle.sp_call_set.proofs.Told.{told_is, told_of}
use Rattle.sp_call_set.proofs.call_set.CallSetCallClasses.told_class.Goals as goal
use Rattle.sp_call_set.specs.Named.{told_in}

pub returns : goal.returns
returns c = λ classes same.
    let inside = c.self.inside in
    let set : c.set.result.now ≡ inside.program.now.classes = c.set.ensures ∙ ap (λ (l : Links). l.classes) c.linked.ensures.linked in
    let is = subst (λ (cs : List Class). c.told_class.result ≡ told_in cs inside.named c.args.class) set c.told_class.ensures in
    told_of (λ (asked : Classes). told_class asked c.args.class) inside.program.now c.args.self.now classes c.told_class.result
    (is ∙ told_is inside.program.now inside.named c.self.invariant.named c.args.class) c.self.view_is same
