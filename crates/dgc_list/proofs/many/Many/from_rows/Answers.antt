use Rattle.std.proofs.Common.{◌≡◌, ℕ, List, false, take, sym, subst}
use Rattle.dgc_list.specs.declared.remembered.Remembered.{Remembered}
use Rattle.dgc_list.specs.Clients.{is_known}
use Rattle.dgc_list.proofs.FewLemmas.{new-at}
use Rattle.dgc_list.proofs.many.Many.from_rows.Goals as goal

pub push-requires : goal.push-requires
push-requires c =
    let rows = c.args.rows.now in
    let index = c.loop-row.row-index in
    rw c.loop-row.invariant (subst (λ (e : List ℕ × Remembered). is_known (take index rows) e.0 ≡ false) (sym c.row-item.is)
    (new-at rows index c.row-item.result c.requires c.loop-row-test.true))
