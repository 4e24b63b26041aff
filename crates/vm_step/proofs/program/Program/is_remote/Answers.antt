use Rattle.std.proofs.Common.{◌≡◌, ◌<◌, ◌↔◌, IsTrue, List, length, sym, ap, subst, ◌∙◌, arith}
use Rattle.cls_link.specs.Links.{Links}
use Rattle.cls_set.specs.Sets.{IsClassSet}
use Rattle.cls_set.specs.Subtypes.{IsRemote}
use Rattle.cls_set.specs.declared.class.Class.{Class}
use Rattle.vm_code.proofs.Remotes.{remote_test}
use Rattle.vm_step.proofs.program.Program.is_remote.Goals as goal

pub returns : goal.returns
returns c =
    let same : c.set.result.now ≡ c.args.self.now.classes = c.set.ensures ∙ ap (λ (l : Links). l.classes) c.linked.ensures.linked in
    let inside : c.args.class.0 < length c.set.result.now = omega arith in
    sym (remote_test c.args.self.now.classes (subst IsClassSet same c.len.ensures.set) c.args.class c.is_remote.result
    (subst (λ (cs : List Class). c.args.class.0 < length cs) same inside)
    (subst (λ (l : Links). IsTrue c.is_remote.result ↔ IsRemote l.classes c.args.class) c.tables.ensures c.is_remote.ensures))
