use Rattle.std.proofs.Common.{refl}
use Rattle.dgc_list.specs.Objects.{clients_at}
use Rattle.dgc_list.proofs.ReleaseLemmas.{alike-refl, after-alike}
use Rattle.dgc_list.proofs.list.RefList.reserve_dirty.Goals as goal

pub returns-in-Err-clause-same : goal.returns-in-Err-clause-same
returns-in-Err-clause-same c = λ h was.
    let made = c.reserve_clean.new.self in
    c.release.ensures.same h (after-alike h made _ refl (λ o. alike-refl (clients_at made.objects o)) c.add_expiries-added.ensures.kept (c.reserve_clean.ensures.same h was))
