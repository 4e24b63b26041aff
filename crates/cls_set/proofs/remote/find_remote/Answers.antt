use Rattle.std.proofs.Common.{◌≡◌, ℕ, ◌<◌, false, true, List, Bool, length, get_or, replicate, sym, subst, ap, ◌∙◌, arith}
use Rattle.std.specs.Prelude.{set}
use Rattle.std.proofs.lemmas.List.{get_or-set_other, get_or-set_same}
use Rattle.std.proofs.lemmas.Option.{slice_get_within}
use Rattle.space_ids.specs.declared.ids.ClassId.{ClassId}
use Rattle.cls_order.specs.Entries.{classes_of}
use Rattle.cls_order.specs.Marks.{IsMarked}
use Rattle.cls_order.proofs.Heights.{long_classes, long_none, none_met}
use Rattle.cls_set.proofs.Remotes.{remote_none, remote_told}
use Rattle.cls_order.proofs.Walks.{same_or_other_index}
use Rattle.cls_set.proofs.remote.find_remote.Goals as goal

pub returns-in-Some : goal.returns-in-Some
returns-in-Some c =
    let entries = c.args.entries.now in
    let start = c.in_ok-remote.remote.items in
    let table : start ≡ replicate (length c.args.entries.now) false = c.in_ok-remote.ensures.items_if_clones_equal (λ y e. e) in
    let r : ClassId = c.in-Some.id in
    let at = c.get.result in
    let same : at ≡ r.0 = c.get.ensures in
    let marks = set start at true in
    let inside = c.in-Some.ensures.in_set in
    let long = long_classes entries in
    let count = ap (λ (xs : List Bool). length xs) table ∙ long_none (length c.args.entries.now) in
    let within : at < length start = omega (arith, inside, long, count, same) in
    let only : (i : ℕ) → IsMarked marks i → i ≡ r.0 = λ i m.
    same_or_other_index (i ≡ r.0) i at (λ e. e ∙ same)
    (λ ne. absurd (none_met (length c.args.entries.now) i (subst (λ (xs : List Bool). get_or xs i false ≡ true) table (sym (get_or-set_other start at i true false ne) ∙ m))))
    in
    let here : IsMarked marks r.0 = subst (IsMarked marks) same (get_or-set_same start at true false within) in
    record {
      below = λ k d is.
          let low = slice_get_within (classes_of entries) k d is in
          remote_told entries c.requires.arranged k d is r c.in-Some.ensures.named marks c.spread.new.marks.items only here (c.spread.ensures k (omega (arith, low, long)));
    }

pub returns-in-None : goal.returns-in-None
returns-in-None c =
    let entries = c.args.entries.now in
    let start = c.in_ok-remote.remote.items in
    let table : start ≡ replicate (length c.args.entries.now) false = c.in_ok-remote.ensures.items_if_clones_equal (λ y e. e) in
    record {
      below = λ k d is. (
        λ m. absurd (none_met (length c.args.entries.now) k (subst (λ (xs : List Bool). get_or xs k false ≡ true) table m)),
        λ b. absurd (remote_none entries c.requires.arranged k d is (sym c.in-None.ensures.number) b),
      );
    }
