use Rattle.std.proofs.Common.{ℕ, ◌<◌, sym, subst, inl, inr}
use Rattle.dgc_client.specs.Table.{leases_of}
use Rattle.dgc_client.specs.Touched.{call_of_entry}
use Rattle.dgc_client.proofs.TouchedLemmas.{due-within}
use Rattle.dgc_client.proofs.table.Clients.candidates.Goals as goal

pub returns-clause-there : goal.returns-clause-there
returns-clause-there c = λ s at due.
    let within = subst (λ (n : ℕ). at < n) (sym c.len-count.ensures.len) (due-within call_of_entry (leases_of c.args.self.now.leases) at due) in
    elim (s.covered at due) [
      | inl touched ↦ c.in_ok-found.ensures.there at within touched
      | inr half ↦ c.in_ok-found.ensures.more at within (c.in_ok-halves.ensures half.0 (record { moment = half.1.0; index = at }) half.1.1 within half.1.2)
    ]
