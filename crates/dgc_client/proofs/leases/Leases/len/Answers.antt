use Rattle.std.proofs.Common.{List, sym, subst}
use Rattle.std.specs.List.{IsDistinct}
use Rattle.space_ids.specs.declared.ids.ForeignId.{ForeignId}
use Rattle.dgc_client.specs.Kept.{is_same}
use Rattle.dgc_client.proofs.KeptLemmas.{keys-now}
use Rattle.dgc_client.proofs.leases.Leases.len.Goals as goal

pub returns-clause-unique : goal.returns-clause-unique
returns-clause-unique c = subst (λ (ks : List ForeignId). IsDistinct is_same ks) (sym (keys-now c.args.self.now.moment c.args.self.now.moments c.args.self.now.references.entries)) c.len.ensures.unique
