use Rattle.std.proofs.Common.{◌≡◌, length, subst, arith}
use Rattle.std.proofs.lemmas.Option.{slice_get_within}
use Rattle.cls_order.specs.Entries.{classes_of}
use Rattle.cls_order.proofs.Heights.{long_classes}
use Rattle.cls_set.proofs.Unfit.{unfit_told, AreUnfitBelow}
use Rattle.cls_set.proofs.remote.find_unfit.Goals as goal

pub returns : goal.returns
returns c =
    let entries = c.args.entries.now in
    let marks = c.loop-index.unfit.items in
    let long = long_classes entries in
    let high = c.loop-index-test.false in
    let end = c.loop-index.auto.index-end in
    let all : c.loop-index.index ≡ length entries = omega (arith, high, end) in
    let below = subst (λ n. AreUnfitBelow c.args.kind entries n marks) all c.loop-index.invariant in
    record {
      each = λ k d is.
          let low = slice_get_within (classes_of entries) k d is in
          unfit_told entries c.requires.known.arranged k d is c.args.kind marks c.spread.new.marks.items below (c.spread.ensures k (omega (arith, low, long)));
    }
