use Rattle.std.proofs.Common.{◌≡◌, ◌∙◌, ◌*◌, ◌/◌, ◌%◌, ◌^◌, ◌<◌, true, get_or, length, ap, sym, subst, arith}
use Rattle.std.specs.Prelude.{bit_or, set}
use Rattle.std.proofs.Math.Nat.{mod-eq_of_lt}
use Rattle.std.proofs.Math.Pow.{pow-lt}
use Rattle.cls_order.specs.Bits.{marks_of}
use Rattle.cls_order.proofs.Bits.{marks_long, one_more}
use Rattle.cls_order.proofs.Hierarchy.{same_read}
use Rattle.cls_order.proofs.class_marks.ClassMarks.set.Goals as goal

pub index_mut-requires : goal.index_mut-requires
index_mut-requires c =
    let n = c.self.inside.count in
    let low : c.args.index < n = subst (λ l. c.args.index < l) (ap length (sym c.self.view_is) ∙ marks_long c.self.inside.words.items n) c.requires in
    let long = c.self.invariant in
    omega (arith, low, long)

pub returns : goal.returns
returns c =
    let words = c.self.inside.words.items in
    let n = c.self.inside.count in
    let i = c.args.index in
    let low : i < n = subst (λ l. i < l) (ap length (sym c.self.view_is) ∙ marks_long words n) c.requires in
    let long = c.self.invariant in
    let j = i % 64 in
    let small : j < 64 = omega (arith) in
    let once : 1 * 2 ^ j ≡ 2 ^ j = omega (arith) in
    let shifted : 1 * 2 ^ j % 18446744073709551616 ≡ 2 ^ j = ap (λ x. x % 18446744073709551616) once ∙ mod-eq_of_lt (pow-lt small) in
    let read = c.index_mut.ensures.value ∙ same_read words (i / 64) c.index_mut.result.now 0 (omega (arith, low, long)) in
    ap (λ w. marks_of (set words (i / 64) (bit_or w (1 * 2 ^ j % 18446744073709551616))) n) read
    ∙ (ap (λ b. marks_of (set words (i / 64) (bit_or (get_or words (i / 64) 0) b)) n) shifted ∙ (one_more words n i long low ∙ ap (λ xs. set xs i true) c.self.view_is))
