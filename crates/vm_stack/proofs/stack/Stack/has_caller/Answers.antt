use Rattle.std.proofs.Common.{◌≡◌, length, take, reverse, ◌∙◌, ap, sym, arith, refl}
use Rattle.std.specs.Prelude.{nat_lt, vec_len}
use Rattle.std.proofs.lemmas.List.{length-reverse}
use Rattle.vm_stack.specs.Layout.{callers_of}
use Rattle.vm_stack.proofs.Calls.{length-callers}
use Rattle.vm_stack.proofs.stack.Stack.has_caller.Goals as goal

pub returns : goal.returns
returns c =
    let len : c.len.result ≡ length c.self.inside.links.items = omega (arith, c.len.ensures) in
    rw (
      len,
      ← c.self.view_is,
      length-callers (take c.self.inside.link.bottom c.self.inside.words.values) (reverse c.self.inside.links.items),
      length-reverse c.self.inside.links.items,
    ) refl
