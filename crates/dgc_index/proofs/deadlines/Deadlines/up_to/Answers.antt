use Rattle.std.proofs.Common.{ℕ, ◌≤◌, List, Contains, sym, subst, arith}
use Rattle.std.proofs.lemmas.Result.{IfOk-weaker}
use Rattle.dgc_index.proofs.DeadlinesLemmas.{found-up_to}
use Rattle.dgc_index.proofs.deadlines.Deadlines.up_to.Goals as goal

pub returns : goal.returns
returns c = IfOk-weaker c.indexes_up_to.result _ _
    (λ indexes is other early below planned.
    let small : other.index ≤ 18446744073709551615 = omega arith in
    subst (λ (xs : List ℕ). Contains xs other.index) (sym is) (found-up_to c.args.moment c.args.self.now.row other early small (planned c.if-self.false))) c.indexes_up_to.ensures
