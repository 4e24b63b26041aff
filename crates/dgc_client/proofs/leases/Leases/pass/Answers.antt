use Rattle.std.proofs.Common.{List, ap, ◌∙◌, arith}
use Rattle.std.specs.Prelude.{map}
use Rattle.space_ids.specs.declared.ids.ForeignId.{ForeignId}
use Rattle.dgc_client.specs.declared.lease.ClientLease.{ClientLease}
use Rattle.dgc_client.specs.declared.leases.Leases.{Leases}
use Rattle.dgc_client.specs.Lease.{after_moment}
use Rattle.dgc_client.proofs.KeptLemmas.{early-pass, leases-pass, timely-pass}
use Rattle.dgc_client.proofs.leases.Leases.pass.Goals as goal

pub returns-then-moment-self-clause-leases : goal.returns-then-moment-self-clause-leases
returns-then-moment-self-clause-leases c =
    early-pass c.args.self.now.moment c.args.self.now.moments c.args.moment c.if-moment-self.true c.args.self.now.references.entries c.args.self.now.timely

pub invariant_of-self : goal.invariant_of-self
invariant_of-self c =
    let anew : Leases = c.count_anew.new.self in
    record { timely = timely-pass anew.moment anew.moments c.args.moment (omega (arith, c.count_anew.ensures.moment)) anew.references.entries anew.timely }

pub returns-clause-leases : goal.returns-clause-leases
returns-clause-leases c =
    let anew : Leases = c.count_anew.new.self in
    leases-pass anew.moment anew.moments c.args.moment (omega (arith, c.count_anew.ensures.moment)) anew.references.entries anew.timely
    ∙ ap (λ (es : List (ForeignId × ClientLease)). map (λ (e : ForeignId × ClientLease). (e.0, after_moment c.args.moment e.1)) es) c.count_anew.ensures.leases
