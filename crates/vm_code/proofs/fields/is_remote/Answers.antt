use Rattle.std.proofs.Common.{◌↔◌, IsTrue, List, subst}
use Rattle.cls_link.specs.Links.{Links}
use Rattle.cls_set.specs.Sets.{IsClassSet}
use Rattle.cls_set.specs.Subtypes.{IsRemote}
use Rattle.cls_set.specs.declared.class.Class.{Class}
use Rattle.vm_code.proofs.HeldKinds.{in_set}
use Rattle.vm_code.proofs.Remotes.{remote_test}
use Rattle.vm_code.proofs.fields.is_remote.Goals as goal

pub returns : goal.returns
returns c =
    remote_test c.args.linked.now.classes (subst (λ (classes : List Class). IsClassSet classes) c.set.ensures c.len-classes.ensures.set) c.args.class c.is_remote.result
    (in_set c.args.linked.now.classes c.args.class c.requires.declared)
    (subst (λ (links : Links). IsTrue c.is_remote.result ↔ IsRemote links.classes c.args.class) c.requires.tables c.is_remote.ensures)
