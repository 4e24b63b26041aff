use Rattle.std.proofs.Common.{◌≡◌, ◌∙◌, get_or, length, ap, sym}
use Rattle.std.specs.Prelude.{bit_or}
use Rattle.cls_order.specs.Bits.{words_for}
use Rattle.cls_order.proofs.Bits.{joined_views, marks_long}
use Rattle.cls_order.proofs.class_marks.ClassMarks.join.Goals as goal

pub join_words-requires : goal.join_words-requires
join_words-requires c =
    let a = c.self.inside.words.items in
    let b = c.others.inside.words.items in
    let n = c.self.inside.count in
    let m = c.others.inside.count in
    let same : n ≡ m = sym (marks_long a n) ∙ (ap length c.self.view_is ∙ (c.requires ∙ (sym (ap length c.others.view_is) ∙ marks_long b m))) in
    c.self.invariant ∙ (ap words_for same ∙ (sym c.others.invariant ∙ ap length (sym c.deref.ensures.value)))

pub returns-clause-marked : goal.returns-clause-marked
returns-clause-marked c =
    joined_views c.self.inside.words.items c.others.inside.words.items c.join_words.new.words.items c.self.inside.count c.others.inside.count c.args.self.now c.args.others.now c.self.view_is c.others.view_is c.requires
    (λ j. c.join_words.ensures.joined j ∙ ap (λ xs. bit_or (get_or c.self.inside.words.items j 0) (get_or xs j 0)) c.deref.ensures.value)
