use Rattle.std.proofs.Common.{◌≡◌, Option, sym, ap, ◌∙◌}
use Rattle.std.specs.Prelude.{unwrap_or, option_map}
use Rattle.dgc_client.specs.declared.lease.ClientLease.{ClientLease}
use Rattle.dgc_client.specs.declared.leases.Kept.{Kept}
use Rattle.dgc_client.specs.Lease.{fresh}
use Rattle.dgc_client.specs.Kept.{is_same, lease_now}
use Rattle.dgc_client.specs.Table.{lease_in}
use Rattle.dgc_client.proofs.KeptLemmas.{lookup-now, moment-found}
use Rattle.dgc_client.proofs.leases.Leases.get.Goals as goal

pub returns-in-Some-clause-lease : goal.returns-in-Some-clause-lease
returns-in-Some-clause-lease c =
    c.lease_now.ensures
    ∙ ap (λ (o : Option Kept). unwrap_or (option_map (lease_now c.args.self.now.moment c.args.self.now.moments) o) (fresh c.args.self.now.moment)) c.in-Some.ensures.value
    ∙ ap (λ (o : Option ClientLease). unwrap_or o (fresh c.args.self.now.moment)) (sym (lookup-now c.args.self.now.moment c.args.self.now.moments (is_same c.args.reference.now) c.args.self.now.references.entries))

pub returns-in-Some-clause-moment : goal.returns-in-Some-clause-moment
returns-in-Some-clause-moment c =
    let lease : c.lease_now.result ≡ lease_in c.args.self.now c.args.reference.now =
    c.lease_now.ensures
    ∙ ap (λ (o : Option Kept). unwrap_or (option_map (lease_now c.args.self.now.moment c.args.self.now.moments) o) (fresh c.args.self.now.moment)) c.in-Some.ensures.value
    ∙ ap (λ (o : Option ClientLease). unwrap_or o (fresh c.args.self.now.moment)) (sym (lookup-now c.args.self.now.moment c.args.self.now.moments (is_same c.args.reference.now) c.args.self.now.references.entries)) in
    ap (λ (l : ClientLease). l.moment) lease
    ∙ moment-found c.args.self.now.moment c.args.self.now.moments (is_same c.args.reference.now) c.args.self.now.references.entries c.args.self.now.timely

pub returns-in-None-clause-lease : goal.returns-in-None-clause-lease
returns-in-None-clause-lease c =
    c.new.ensures
    ∙ ap (λ (o : Option Kept). unwrap_or (option_map (lease_now c.args.self.now.moment c.args.self.now.moments) o) (fresh c.args.self.now.moment)) c.in-None.ensures.value
    ∙ ap (λ (o : Option ClientLease). unwrap_or o (fresh c.args.self.now.moment)) (sym (lookup-now c.args.self.now.moment c.args.self.now.moments (is_same c.args.reference.now) c.args.self.now.references.entries))
