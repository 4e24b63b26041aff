use Rattle.std.proofs.Common.{◌≡◌, ℕ, List, [], Contains, sym, subst, ◌∙◌, inl, inr, true≢false, vec_len, arith}
use Rattle.std.proofs.lemmas.Bool.{eqb-true}
use Rattle.std.proofs.lemmas.List.{nil_from_length}
use Rattle.dgc_client.specs.Table.{leases_of}
use Rattle.dgc_client.specs.Touched.{call_of_entry, HasAll}
use Rattle.dgc_client.proofs.TouchedLemmas.{calls-all}
use Rattle.dgc_client.proofs.table.Clients.rests.Goals as goal

pub returns-then-moved-clause-none : goal.returns-then-moved-clause-none
returns-then-moved-clause-none c = λ none s. absurd (true≢false (sym none))

pub returns-then-all-clause-none : goal.returns-then-all-clause-none
returns-then-all-clause-none c = λ none s. absurd (true≢false (sym none))

pub returns-clause-none : goal.returns-clause-none
returns-clause-none c = λ empty s.
    let leases = leases_of c.args.self.now.leases in
    let indexes = c.args.self.now.touched.indexes in
    let none : indexes.items ≡ [] = nil_from_length indexes.items (sym indexes.ok.0 ∙ eqb-true (vec_len indexes) 0 (sym c.is_empty.ensures ∙ empty)) in
    let all : HasAll leases [] = λ at due. elim (s.covered at due) [
      | inl touched ↦ subst (λ (xs : List ℕ). Contains xs at) none (touched c.if-all.false)
      | inr half ↦ absurd (true≢false (sym half.0 ∙ c.if-moved.false))
    ] in
    sym (calls-all call_of_entry leases [] (λ i j a b. absurd (omega (arith, b))) 0 0 (λ j a b. absurd (omega (arith, a))) all (omega arith) (omega arith))
