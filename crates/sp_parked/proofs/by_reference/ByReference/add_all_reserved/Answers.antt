use Rattle.std.proofs.Common.{◌≡◌, ◌+◌, ◌<◌, ◌++◌, ◌∷◌, [], cond, List, ℕ, length, take, sym, ap, subst, ◌∙◌, arith}
use Rattle.rising_map.specs.Rows.{AreBelow}
use Rattle.sp_parked.specs.ByReferences.{room_at, with_ticket, with_tickets}
use Rattle.sp_parked.proofs.TicketLemmas.{agree, among-here, among-later, earlier-apart, later-apart, step-take, with-more}
use Rattle.sp_parked.proofs.by_reference.ByReference.add_all_reserved.Goals as goal

pub add_reserved-requires : goal.add_reserved-requires
add_reserved-requires c =
    let within : c.loop-reference.reference-index < length c.args.references.now = omega (arith, c.loop-reference-test.true) in
    c.loop-reference.invariant.0 c.reference-item.result (among-here c.args.references.now c.loop-reference.reference-index c.reference-item.result c.reference-item.is within)

pub loop-reference-preserved : goal.loop-reference-preserved
loop-reference-preserved c =
    let refs = c.args.references.now in
    let i = c.loop-reference.reference-index in
    let r = c.reference-item.result in
    let t = c.args.ticket in
    let within : i < length refs = omega (arith, c.loop-reference-test.true) in
    let alone = earlier-apart refs i r c.reference-item.is within c.requires.once in (
      λ q e. (
          let before = c.loop-reference.invariant.0 q (among-later refs i r q c.reference-item.is within e) in
          let same : room_at c.add_reserved.new.self q ≡ room_at c.loop-reference.self q = c.add_reserved.ensures.room q (later-apart refs i r q c.reference-item.is within c.requires.once e) in
          omega (arith, before, same)
          ),
      λ holds a below. (
          let mine : with_tickets (take i refs) t holds r ≡ holds r = ap (λ b. cond b (holds r ++ t ∷ []) (holds r)) alone in
          let low : AreBelow t (with_tickets (take i refs) t holds r) = subst (λ (l : List ℕ). AreBelow t l) (sym mine) (below r) in
          agree (with_ticket r t (with_tickets (take i refs) t holds)) (with_tickets (take (i + 1) refs) t holds) c.add_reserved.new.self
          (λ q. with-more (λ (l : List ℕ). l ++ t ∷ []) holds r q (take i refs) alone ∙ ap (λ l. with_tickets l t holds q) (sym (step-take refs i r c.reference-item.is within)))
          (c.add_reserved.ensures.added (with_tickets (take i refs) t holds) (c.loop-reference.invariant.1 holds a below) low)
          ),
    )
