use Rattle.std.proofs.Common.{◌≡◌, List, subst, ap, ◌∙◌}
use Rattle.std.specs.Prelude.{codes}
use Rattle.cls_link.specs.Links.{Links}
use Rattle.cls_set.specs.declared.class.Class.{Class}
use Rattle.sp_rules.specs.Classes.{Classes}
use Rattle.vm_code.specs.Classes.{is_subtype}
use Rattle.sp_call_set.proofs.Told.{below_named, told_of}
use Rattle.sp_call_set.proofs.call_set.CallSetCallClasses.is_throwable.Goals as goal

pub returns : goal.returns
returns c = λ classes same.
    let inside = c.self.inside in
    let set : c.set.result.now ≡ inside.program.now.classes = c.set.ensures ∙ ap (λ (l : Links). l.classes) c.linked.ensures.linked in
    let is = subst (λ (cs : List Class). c.is_subtype.result ≡ is_subtype cs c.args.class inside.named.throwable) set c.is_subtype.ensures in
    told_of (λ (asked : Classes). asked.is_throwable c.args.class) inside.program.now c.args.self.now classes c.is_subtype.result
    (is ∙ below_named inside.program.now.classes (codes "java/lang/Throwable") inside.named.throwable c.args.class c.self.invariant.named.throwable) c.self.view_is same
