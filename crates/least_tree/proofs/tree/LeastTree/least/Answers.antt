use Rattle.std.proofs.Common.{ℕ, List, ap, ◌∙◌}
use Rattle.least_tree.specs.Least.{number_at}
use Rattle.least_tree.proofs.LeastLemmas.{tree-least}
use Rattle.least_tree.proofs.tree.LeastTree.least.Goals as goal

pub returns : goal.returns
returns c =
    rw (← c.self.view_is) (c.at_index.ensures ∙ ap (λ (l : List ℕ). number_at l 0) c.deref.ensures.value ∙ tree-least c.self.inside.numbers.items c.self.inside.lows.items c.self.invariant)
