use Rattle.std.proofs.Common.{ℕ}
use Rattle.std.proofs.lemmas.List.Sorted.{IsNonDecreasingBy-from_sort, Contains-permutation}
use Rattle.dgc_index.proofs.touched.sorted.Goals as goal

pub returns-clause-rising : goal.returns-clause-rising
returns-clause-rising c = λ i j le below. IsNonDecreasingBy-from_sort (λ (n : ℕ). n) c.sort_unstable.new.self.items c.sort_unstable.ensures.sorted i j 0 le below

pub returns-clause-there : goal.returns-clause-there
returns-clause-there c = λ at is. Contains-permutation c.args.indexes.items c.sort_unstable.new.self.items at c.sort_unstable.ensures.permutation is
