use Rattle.std.proofs.Common.{◌≡◌, ℕ, List, Contains, sym, subst, rules}
use Rattle.std.proofs.lemmas.List.Elements.{Contains-append_left, Contains-append_right}
use Rattle.dgc_index.proofs.touched.Touched.rising.Goals as goal

pub returns-clause-rising : goal.returns-clause-rising
returns-clause-rising c = c.sorted.ensures.rising

pub returns-clause-there : goal.returns-clause-there
returns-clause-there c = λ at below touched.
    let same : c.in_ok-indexes.indexes.items ≡ c.args.self.now.indexes.items = search rules in
    c.sorted.ensures.there at (subst (λ (xs : List ℕ). Contains xs at) (sym c.in_ok-append.ensures.items)
    (Contains-append_left c.in_ok-indexes.indexes.items c.args.more.items at (subst (λ (xs : List ℕ). Contains xs at) (sym same) (touched c.if-self.false))))

pub returns-clause-more : goal.returns-clause-more
returns-clause-more c = λ at below is.
    c.sorted.ensures.there at (subst (λ (xs : List ℕ). Contains xs at) (sym c.in_ok-append.ensures.items) (Contains-append_right c.in_ok-indexes.indexes.items c.args.more.items at is))
