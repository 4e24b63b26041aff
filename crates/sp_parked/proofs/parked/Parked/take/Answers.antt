use Rattle.std.proofs.Common.{List, refl, subst, sym}
use Rattle.space_ids.specs.declared.ids.ForeignId.{ForeignId}
use Rattle.sp_parked.specs.ByReferences.{AreTickets, without_tickets}
use Rattle.sp_parked.specs.Parkings.{naming, on_connection}
use Rattle.sp_parked.proofs.ParkingLemmas.{leave, take}
use Rattle.sp_parked.proofs.parked.Parked.take.Goals as goal

pub returns-in_err-frame-clause-taken : goal.returns-in_err-frame-clause-taken
returns-in_err-frame-clause-taken c = λ frames a. leave frames c.args.ticket c.args.self.now _ refl (sym (c.in_err-frame.ensures.row frames a.rows)) (c.in_err-frame.ensures.taken frames a.rows) a

pub returns-clause-taken : goal.returns-clause-taken
returns-clause-taken c = λ frames a.
    take frames c.args.ticket c.in_ok-frame.frame c.args.self.now _ refl (sym (c.in_ok-frame.ensures.row frames a.rows)) (c.in_ok-frame.ensures.taken frames a.rows)
    (subst (λ (names : List ForeignId). AreTickets (without_tickets names c.args.ticket (naming frames)) c.remove_all.new.self) c.as_slice.ensures (c.remove_all.ensures (naming frames) a.named))
    (c.remove.ensures.removed (on_connection frames) a.came) a
