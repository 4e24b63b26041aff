use Rattle.std.proofs.Common.{◌≡◌, ◌<◌, ◌+◌, ◌∙◌, false, true, Some, None, [], ◌∷◌, length, get_or, refl, sym, subst, ap, arith}
use Rattle.std.specs.Prelude.{All, slice_get}
use Rattle.std.proofs.Math.Seq.{map-set_same}
use Rattle.std.proofs.lemmas.List.{length-set}
use Rattle.std.proofs.lemmas.List.Elements.{All-append, All-cons, All-nil}
use Rattle.cls_order.specs.declared.entries.Entry.{Entry}
use Rattle.cls_order.specs.Entries.{classes_of}
use Rattle.cls_order.specs.Marks.{IsMarked}
use Rattle.cls_order.specs.Walks.{ups, ups_at, ups_of}
use Rattle.cls_order.proofs.Hierarchy.{class_of_read, same_read}
use Rattle.cls_order.proofs.Passes.{moves, passes, ranks_one, up_within}
use Rattle.cls_order.proofs.ranking.go_on.Goals as goal

pub returns-in_default-clause-classes : goal.returns-in_default-clause-classes
returns-in_default-clause-classes c =
    map-set_same (λ (m : Entry). m.class) c.args.entries.now.items c.args.index (record { class = c.index_mut.result.now.class; rank = c.args.rank }) c.index_mut.result.now (ap (λ (m : Entry). m.class) c.index_mut.ensures.value)

pub returns-in_default-clause-pass : goal.returns-in_default-clause-pass
returns-in_default-clause-pass c =
    let entries = c.args.entries.now.items in
    let p = c.args.pass.now in
    let k = c.args.index in
    let y : Entry = record { class = c.index_mut.result.now.class; rank = c.args.rank } in
    let ranked = c.requires.pass.ranked in
    let passed = c.requires.pass.passed in
    let m = c.index-2.result.now in
    let here : slice_get (classes_of entries) k ≡ Some m.class = class_of_read entries m k k refl c.requires.in_set c.index-2.ensures in
    let supertype : c.index-supertype.result.now ≡ get_or p.passed.items k 0 = c.index-supertype.ensures ∙ same_read p.passed.items k c.index-supertype.result.now 0 (omega (arith, c.requires.in_set, passed)) in
    let end : slice_get (ups_at (classes_of entries) (record { 0 = k })) (get_or p.passed.items k 0) ≡ None =
    ap (λ o. slice_get (ups_of o) (get_or p.passed.items k 0)) here ∙ (ap (slice_get (ups m.class)) (sym supertype) ∙ (sym c.up.ensures ∙ c.in_default.is)) in
    let unranked : get_or p.ranked.items k false ≡ false = same_read p.ranked.items k false c.index.result.now (omega (arith, c.requires.in_set, ranked)) ∙ (sym c.index.ensures ∙ c.if-index.false) in
    ranks_one entries c.args.rank p _ k y c.requires.pass c.requires.in_set refl
    (map-set_same (λ (m : Entry). m.class) entries k y c.index_mut.result.now (ap (λ (m : Entry). m.class) c.index_mut.ensures.value))
    unranked end refl refl refl refl

pub index-requires-3 : goal.index-requires-3
index-requires-3 c =
    let entries = c.args.entries.now.items in
    let m = c.index-2.result.now in
    let here : slice_get (classes_of entries) c.args.index ≡ Some m.class = class_of_read entries m c.args.index c.args.index refl c.requires.in_set c.index-2.ensures in
    let at = ap (λ o. slice_get (ups_of o) c.index-supertype.result.now) here ∙ (sym c.up.ensures ∙ c.in-Some.is) in
    let low = up_within entries c.args.index c.index-supertype.result.now c.in-Some.class c.requires.within at in
    let long = c.requires.pass.ranked in
    omega (arith, low, long, c.get.ensures)

pub returns-then-index-2-clause-pass : goal.returns-then-index-2-clause-pass
returns-then-index-2-clause-pass c =
    let entries = c.args.entries.now.items in
    let p = c.args.pass.now in
    let k = c.args.index in
    let m = c.index-2.result.now in
    let here : slice_get (classes_of entries) k ≡ Some m.class = class_of_read entries m k k refl c.requires.in_set c.index-2.ensures in
    let at = ap (λ o. slice_get (ups_of o) c.index-supertype.result.now) here ∙ (sym c.up.ensures ∙ c.in-Some.is) in
    let passed = c.requires.pass.passed in
    let ranked = c.requires.pass.ranked in
    let low = up_within entries k c.index-supertype.result.now c.in-Some.class c.requires.within at in
    let supertype : c.index-supertype.result.now ≡ get_or p.passed.items k 0 = c.index-supertype.ensures ∙ same_read p.passed.items k c.index-supertype.result.now 0 (omega (arith, c.requires.in_set, passed)) in
    let marked : IsMarked p.ranked.items c.in-Some.class.0 =
    same_read p.ranked.items c.in-Some.class.0 false c.index-3.result.now (omega (arith, low, ranked)) ∙ (ap (λ i. get_or p.ranked.items i c.index-3.result.now) (sym c.get.ensures) ∙ (sym c.index-3.ensures ∙ c.if-index-2.true)) in
    passes entries c.args.rank p _ c.requires.pass k c.index-supertype.result.now (c.index-supertype.result.now + 1) c.in-Some.class c.requires.in_set supertype (omega arith) at marked refl refl refl refl

pub index-requires-4 : goal.index-requires-4
index-requires-4 c =
    let entries = c.args.entries.now.items in
    let m = c.index-2.result.now in
    let here : slice_get (classes_of entries) c.args.index ≡ Some m.class = class_of_read entries m c.args.index c.args.index refl c.requires.in_set c.index-2.ensures in
    let at = ap (λ o. slice_get (ups_of o) c.index-supertype.result.now) here ∙ (sym c.up.ensures ∙ c.in-Some.is) in
    let low = up_within entries c.args.index c.index-supertype.result.now c.in-Some.class c.requires.within at in
    let long = c.requires.pass.met in
    omega (arith, low, long, c.get-2.ensures)

pub index_mut-requires-2 : goal.index_mut-requires-2
index_mut-requires-2 c =
    let entries = c.args.entries.now.items in
    let m = c.index-2.result.now in
    let here : slice_get (classes_of entries) c.args.index ≡ Some m.class = class_of_read entries m c.args.index c.args.index refl c.requires.in_set c.index-2.ensures in
    let at = ap (λ o. slice_get (ups_of o) c.index-supertype.result.now) here ∙ (sym c.up.ensures ∙ c.in-Some.is) in
    let low = up_within entries c.args.index c.index-supertype.result.now c.in-Some.class c.requires.within at in
    let long = c.requires.pass.met in
    omega (arith, low, long, c.get-3.ensures)

pub returns-clause-pass : goal.returns-clause-pass
returns-clause-pass c =
    let entries = c.args.entries.now.items in
    let p = c.args.pass.now in
    let k = c.args.index in
    let m = c.index-2.result.now in
    let here : slice_get (classes_of entries) k ≡ Some m.class = class_of_read entries m k k refl c.requires.in_set c.index-2.ensures in
    let at = ap (λ o. slice_get (ups_of o) c.index-supertype.result.now) here ∙ (sym c.up.ensures ∙ c.in-Some.is) in
    let low = up_within entries k c.index-supertype.result.now c.in-Some.class c.requires.within at in
    moves entries c.args.rank p _ c.requires.pass (length-set p.met.items c.get-3.result true) refl refl
    (subst (All (λ k. k < length entries)) (sym c.in_ok-push.ensures.items)
    (All-append (λ k. k < length entries) p.path.items (c.get-4.result ∷ []) c.requires.pass.path (All-cons (λ k. k < length entries) c.get-4.result [] (omega (arith, low, c.get-4.ensures)) (All-nil (λ k. k < length entries)))))
