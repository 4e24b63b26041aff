use Rattle.std.proofs.Common.{◌<◌, length, subst, arith}
use Rattle.space_ids.specs.declared.ids.ForeignId.{ForeignId}
use Rattle.sp_parked.specs.ByReferences.{room_at}
use Rattle.sp_parked.proofs.TicketLemmas.{so-far}
use Rattle.sp_parked.proofs.by_reference.ByReference.reserve_all.Goals as goal

pub loop-reference-preserved : goal.loop-reference-preserved
loop-reference-preserved c =
    let refs = c.args.references.now in
    let i = c.loop-reference.reference-index in
    let r = c.reference-item.result in
    let within : i < length refs = omega (arith, c.loop-reference-test.true) in (
      λ q e. so-far refs i r q (room_at c.loop-reference.self q) (room_at c.reserve.new.self q) (λ same. subst (λ (p : ForeignId). 0 < room_at c.reserve.new.self p) same c.in_ok-reserve.ensures.ok) c.reference-item.is within (c.in_ok-reserve.ensures.room q) (c.loop-reference.invariant.0 q) e,
      λ holds a. c.in_ok-reserve.ensures.same holds (c.loop-reference.invariant.1 holds a),
    )
