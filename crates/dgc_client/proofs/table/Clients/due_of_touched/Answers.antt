use Rattle.std.proofs.Common.{ℕ, inl, List, Contains, sym, ap, subst, ◌∙◌, refl}
use Rattle.dgc_client.specs.Groups.{grouped, in_order}
use Rattle.dgc_client.specs.Table.{leases_of}
use Rattle.dgc_client.specs.Touched.{HasAll}
use Rattle.dgc_client.proofs.TableLemmas.{due-calls, after-touched}
use Rattle.dgc_client.proofs.table.Clients.due_of_touched.Goals as goal

pub returns-clause-groups : goal.returns-clause-groups
returns-clause-groups c = λ h was.
    let leases = leases_of c.args.self.now.leases in
    let all : HasAll leases c.as_slice.result.now = λ at due. subst (λ (xs : List ℕ). Contains xs at) (sym c.as_slice.ensures.value) (c.in_ok-candidates.ensures.there was.sound at due) in
    c.in_ok-groups.ensures ∙ ap grouped (c.as_slice-2.ensures ∙ c.put_in_order.ensures.calls
    ∙ ap in_order (due-calls h c.args.self.now c.due_now.new.calls.items c.in_ok-candidates.ensures.unique (c.due_now.ensures.calls all) was))

pub returns-clause-same : goal.returns-clause-same
returns-clause-same c = λ h was.
    let leases = leases_of c.args.self.now.leases in
    let all : HasAll leases c.as_slice.result.now = λ at due. subst (λ (xs : List ℕ). Contains xs at) (sym c.as_slice.ensures.value) (c.in_ok-candidates.ensures.there was.sound at due) in
    after-touched h c.args.self.now _ refl refl refl
    (record { covered = λ at due. inl (c.due_now.ensures.again all at due); planned = was.sound.planned; waiting = was.sound.waiting }) was
