use Rattle.std.proofs.Common.{◌≡◌, ◌∙◌, ◌/◌, ◌%◌, nat_eq, get_or, false, ap, sym, arith}
use Rattle.std.specs.Int.{bit_at}
use Rattle.std.proofs.lemmas.Nat.Bits.{shr_and_one}
use Rattle.cls_order.proofs.Bits.{mark_read, past_end}
use Rattle.cls_order.proofs.Hierarchy.{same_read}
use Rattle.cls_order.proofs.class_marks.ClassMarks.has.Goals as goal

pub returns-then-index-self : goal.returns-then-index-self
returns-then-index-self c =
    let words = c.self.inside.words.items in
    let n = c.self.inside.count in
    let i = c.args.index in
    let low = c.if-index-self.true in
    let long = c.self.invariant in
    let read : c.index.result.now ≡ get_or words (i / 64) 0 = c.index.ensures ∙ same_read words (i / 64) c.index.result.now 0 (omega (arith, low, long)) in
    ap (λ b. nat_eq b 1) (shr_and_one c.index.result.now (i % 64))
    ∙ (ap (λ w. nat_eq (bit_at w (i % 64)) 1) read ∙ (sym (mark_read words n i low) ∙ ap (λ xs. get_or xs i false) c.self.view_is))

pub returns-else-index-self : goal.returns-else-index-self
returns-else-index-self c =
    past_end c.self.inside.words.items c.self.inside.count c.args.index c.if-index-self.false ∙ ap (λ xs. get_or xs c.args.index false) c.self.view_is
