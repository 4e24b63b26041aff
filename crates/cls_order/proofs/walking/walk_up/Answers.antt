use Rattle.std.proofs.Common.{◌+◌, [], length, sym, subst, arith}
use Rattle.cls_order.specs.Entries.{classes_of}
use Rattle.cls_order.specs.Walks.{met_by, AreWithin}
use Rattle.cls_order.proofs.Heights.{long_classes, next_in_set, underway, walked}
use Rattle.cls_order.proofs.Walks.{IsUnderway, IsWalking, walk_starts, walk_goes_on}
use Rattle.cls_order.proofs.walking.walk_up.Goals as goal

pub up-init : goal.up-init
up-init c =
    let entries = c.args.entries.now in
    let classes = classes_of entries in
    let n = length entries in
    let within = subst (λ n. AreWithin n classes) (sym (long_classes entries)) c.requires.within in
    let table = c.in_ok-vec.ensures.items_if_clones_equal (λ y e. e) in
    let start = subst (λ ys. IsUnderway classes c.args.from (c.in_ok-vec.field-0.items, ys)) (sym c.new.ensures.items)
    (subst (λ xs. IsUnderway classes c.args.from (xs, [])) (sym table) (underway classes c.args.from n (sym (long_classes entries)))) in
    subst (IsWalking classes c.args.from 0) (sym c.in_ok-meet_supertypes.ensures) (walk_starts classes c.args.from (c.in_ok-vec.field-0.items, c.new.result.items) start within)

pub meet_supertypes-requires-in-up-clause-in_set : goal.meet_supertypes-requires-in-up-clause-in_set
meet_supertypes-requires-in-up-clause-in_set c =
    next_in_set c.args.entries.now c.args.from c.up.next (met_by c.up.walk) c.index-class.result.now c.up.invariant (omega arith) c.index-class.ensures

pub up-preserved : goal.up-preserved
up-preserved c =
    let entries = c.args.entries.now in
    let classes = classes_of entries in
    let within = subst (λ n. AreWithin n classes) (sym (long_classes entries)) c.requires.within in
    subst (IsWalking classes c.args.from (c.up.next + 1)) (sym c.in_ok-meet_supertypes-2.ensures)
    (walk_goes_on classes c.args.from c.up.next (met_by c.up.walk) c.index-class.result.now c.up.invariant (omega arith) c.index-class.ensures within)

pub returns : goal.returns
returns c = walked (classes_of c.args.entries.now) c.args.from c.up.walk c.up.next c.up.invariant (omega arith)
