use Rattle.std.specs.Str.{bytes_eq}
use Rattle.std.proofs.lemmas.Map.{keys-set_value}
use Rattle.dgc_list.proofs.ClientsLemmas.{sets-put}
use Rattle.dgc_list.proofs.many.Many.put.Goals as goal

pub invariant_of-self : goal.invariant_of-self
invariant_of-self c = (rw (keys-set_value (bytes_eq c.args.client.now) c.self.inside.remembered.entries c.args.remembered) c.self.invariant.0, c.self.invariant.1)

pub returns : goal.returns
returns c =
    let known = rw (← c.self.view_is) at c.requires.known in
    let kept = rw (← c.self.view_is) at c.requires.kept in
    rw (← c.self.view_is) (sets-put c.args.client.now c.args.remembered c.self.inside.remembered.entries c.self.invariant.0 known kept)
