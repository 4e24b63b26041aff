use Rattle.std.proofs.Common.{◌≡◌, ◌<◌, ◌∙◌, inl, inr, false, true, [], ◌∷◌, length, refl, sym, subst, ap, arith}
use Rattle.std.specs.Prelude.{All}
use Rattle.std.proofs.lemmas.List.{length-set}
use Rattle.std.proofs.lemmas.List.Elements.{All-append, All-cons, All-nil}
use Rattle.cls_order.specs.Entries.{classes_of}
use Rattle.cls_order.specs.Marks.{IsMarked}
use Rattle.cls_order.specs.Walks.{AreWithin}
use Rattle.cls_order.proofs.Heights.{long_classes}
use Rattle.cls_order.proofs.Hierarchy.{same_read}
use Rattle.cls_order.proofs.Passes.{all_ranked, moves}
use Rattle.cls_order.proofs.Walks.{before}
use Rattle.cls_order.proofs.ranking.go_through.Goals as goal
use Rattle.cls_order.proofs.ranking.go_through.Goals.{in-Some+in_ok-go_on+else-not-branch, in_default+else-next-count+then-index, in_default+else-next-count+else-index+in_ok-push}

pub returns-then-next-count-clause-ranks : goal.returns-then-next-count-clause-ranks
returns-then-next-count-clause-ranks c = λ _.
    let start = c.args.entries.now.items in
    let entries = c.loop-rank.entries.items in
    let inv = c.loop-rank.invariant in
    let long = sym (long_classes entries) ∙ (ap length inv.0 ∙ long_classes start) in
    let within : AreWithin (length entries) (classes_of entries) = subst (AreWithin (length entries)) (sym inv.0) (subst (λ n. AreWithin n (classes_of start)) (sym long) c.requires.within) in
    all_ranked entries c.loop-rank.rank c.loop-rank.pass inv.1 within (λ k h. inv.3 k (omega (arith, h, long, c.if-next-count.true)))

pub loop-rank-preserved : goal.loop-rank-preserved
loop-rank-preserved c =
    let start = c.args.entries.now.items in
    let entries = c.loop-rank.entries.items in
    let pass = c.loop-rank.pass in
    let next = c.loop-rank.next in
    let inv = c.loop-rank.invariant in
    let long = sym (long_classes entries) ∙ (ap length inv.0 ∙ long_classes start) in
    let ranked = inv.1.ranked in
    let few = inv.2 in
    elim c.match-end.branch [
      | in-Some+in_ok-go_on+else-not-branch w ↦
          rw (w.entries-is, w.pass-is, w.next-is)
          (w.go_on.ensures.classes ∙ inv.0, w.in_ok-go_on.ensures.pass, inv.2, λ k h. w.in_ok-go_on.ensures.kept k (inv.3 k h))
      | in_default+else-next-count+then-index w ↦
          let inside : next < length start = omega (arith, few, w.if-next-count.false) in
          let here : IsMarked pass.ranked.items next = same_read pass.ranked.items next false w.index.result.now (omega (arith, inside, long, ranked)) ∙ (sym w.index.ensures ∙ w.if-index.true) in
          rw (w.entries-is, w.pass-is, w.next-is) (
            inv.0,
            moves entries c.loop-rank.rank pass pass inv.1 refl refl refl inv.1.path,
            omega (arith, inside),
            λ k h.
                elim (before k next) [
                  | inl low ↦ inv.3 k low
                  | inr high ↦ let same : next ≡ k = omega (arith, h, high) in subst (IsMarked pass.ranked.items) same here
                ],
          )
      | in_default+else-next-count+else-index+in_ok-push w ↦
          let inside : next < length start = omega (arith, few, w.if-next-count.false) in
          let path = subst (All (λ k. k < length entries)) (sym w.in_ok-push.ensures.items)
          (All-append (λ k. k < length entries) pass.path.items (next ∷ []) inv.1.path (All-cons (λ k. k < length entries) next [] (omega (arith, inside, long)) (All-nil (λ k. k < length entries)))) in
          rw (w.entries-is, w.pass-is, w.next-is) (inv.0, moves entries c.loop-rank.rank pass _ inv.1 (length-set pass.met.items next true) refl refl path, inv.2, inv.3)
    ]
