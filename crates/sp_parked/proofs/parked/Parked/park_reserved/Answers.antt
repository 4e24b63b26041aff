use Rattle.std.proofs.Common.{◌+◌, List, refl, subst}
use Rattle.space_ids.specs.declared.ids.ForeignId.{ForeignId}
use Rattle.sp_parked.specs.ByReferences.{AreTickets, with_tickets}
use Rattle.sp_parked.specs.Parkings.{naming, on_connection}
use Rattle.sp_parked.proofs.ParkingLemmas.{park}
use Rattle.sp_parked.proofs.parked.Parked.park_reserved.Goals as goal

pub returns-clause-parked : goal.returns-clause-parked
returns-clause-parked c = λ frames a.
    let t = c.args.self.now.last + 1 in
    park frames c.args.frame c.args.self.now _ refl (λ below. c.push_reserved.ensures.pushed frames a.rows below)
    (λ below. subst (λ (names : List ForeignId). AreTickets (with_tickets names t (naming frames)) c.add_all_reserved.new.self) c.as_slice.ensures (c.add_all_reserved.ensures (naming frames) a.named below))
    (λ below. c.add_reserved.ensures.added (on_connection frames) a.came below) a
