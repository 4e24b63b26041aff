use Rattle.std.proofs.Common.{ℕ, ◌<◌, List, Contains, sym, subst}
use Rattle.std.proofs.lemmas.Result.{IfOk-weaker}
use Rattle.dgc_client.specs.Table.{leases_of, IsSound}
use Rattle.dgc_client.specs.Touched.{reference_of, HasAllOf}
use Rattle.dgc_client.proofs.TouchedLemmas.{due-within}
use Rattle.dgc_client.proofs.table.Clients.picked.Goals as goal

pub returns-clause-references : goal.returns-clause-references
returns-clause-references c =
    let leases = leases_of c.args.self.now.leases in
    let all : IsSound c.args.self.now → HasAllOf (reference_of c.args.question) leases c.as_slice.result.now = λ s at holds.
    subst (λ (xs : List ℕ). Contains xs at) (sym c.as_slice.ensures.value) (c.sorted-candidates.ensures.there at (c.in_ok-questioned.ensures s at (subst (λ (n : ℕ). at < n) (sym c.len-count.ensures.len) (due-within (reference_of c.args.question) leases at holds)) holds)) in
    IfOk-weaker c.picked.result _ _ (λ references is s. is (all s)) c.picked.ensures
