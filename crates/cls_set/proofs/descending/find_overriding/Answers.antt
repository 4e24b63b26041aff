use Rattle.std.proofs.Common.{sym, subst, arith}
use Rattle.std.specs.Prelude.{Contains}
use Rattle.std.proofs.lemmas.List.{take_all}
use Rattle.std.proofs.lemmas.Option.{slice_get_within}
use Rattle.cls_order.specs.Entries.{classes_of}
use Rattle.cls_order.proofs.Heights.{long_classes}
use Rattle.cls_set.proofs.descending.find_overriding.Goals as goal

pub returns : goal.returns
returns c =
    let entries = c.args.entries.now in
    let order = c.args.order.now in
    let long = long_classes entries in
    record {
      each = λ k d is.
          let low = slice_get_within (classes_of entries) k d is in
          c.loop-step.invariant.told k d (subst (λ xs. Contains xs k) (sym (take_all c.loop-step.step order c.loop-step-test.false)) (c.requires.order.each k (omega (arith, low, long)))) is;
    }
