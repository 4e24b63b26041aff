use Rattle.std.proofs.Common.{◌≡◌, ◌<◌, Some, length, get_or, refl, sym, ap, ◌∙◌, arith}
use Rattle.std.specs.Prelude.{slice_get}
use Rattle.cls_order.specs.Classes.{names, number_of}
use Rattle.cls_order.specs.Entries.{classes_of}
use Rattle.cls_order.proofs.Heights.{long_classes}
use Rattle.cls_order.proofs.Hierarchy.{class_read, true_false}
use Rattle.cls_set.proofs.Unfit.{no_remote_of_name, remote_named, remote_of_name}
use Rattle.cls_set.proofs.remote.names_remote_interface.Goals as goal

pub returns-then-is_interface : goal.returns-then-is_interface
returns-then-is_interface c =
    let entries = c.args.entries.now in
    let r = c.get-index.result in
    let same : r ≡ c.in-Some.id.0 = c.get-index.ensures in
    let long = long_classes entries in
    let inside : r < length entries = let h = c.in-Some.ensures.in_set in omega (arith, h, same, long) in
    let k = (get_or entries r c.index-entries-index.result).class in
    let read = class_read entries c.index-entries-index.result r r refl inside in
    let called : slice_get (names (classes_of entries)) r ≡ Some c.args.name.now = ap (slice_get (names (classes_of entries))) same ∙ (c.in-Some.ensures.named ∙ ap (λ n. Some n) c.as_bytes.ensures) in (
      λ e. remote_named entries c.requires.arranged r k c.args.name.now read called (c.is_interface.ensures.0 c.if-is_interface.true) ((c.requires.remote.below r k read).0 (sym c.is_in.ensures ∙ e)),
      λ x. c.is_in.ensures ∙ (c.requires.remote.below r k read).1 (remote_of_name entries c.requires.arranged r k c.args.name.now read called x).1,
    )

pub returns-else-is_interface : goal.returns-else-is_interface
returns-else-is_interface c =
    let entries = c.args.entries.now in
    let r = c.get-index.result in
    let same : r ≡ c.in-Some.id.0 = c.get-index.ensures in
    let long = long_classes entries in
    let inside : r < length entries = let h = c.in-Some.ensures.in_set in omega (arith, h, same, long) in
    let k = (get_or entries r c.index-entries-index.result).class in
    let read = class_read entries c.index-entries-index.result r r refl inside in
    let called : slice_get (names (classes_of entries)) r ≡ Some c.args.name.now = ap (slice_get (names (classes_of entries))) same ∙ (c.in-Some.ensures.named ∙ ap (λ n. Some n) c.as_bytes.ensures) in (
      λ e. absurd (true_false (sym e ∙ c.if-is_interface.false)),
      λ x. c.is_interface.ensures.1 (remote_of_name entries c.requires.arranged r k c.args.name.now read called x).0,
    )

pub returns-in-None : goal.returns-in-None
returns-in-None c = (
  λ e. absurd (true_false (sym e)),
  λ x.
      absurd (no_remote_of_name c.args.entries.now c.requires.arranged c.args.name.now
      (ap (number_of (classes_of c.args.entries.now)) (sym c.as_bytes.ensures) ∙ sym c.in-None.ensures.number) x),
)
