use Rattle.std.proofs.Common.{◌++◌, ◌∷◌, [], Some, None, lit<, rules, subst, sym, ap, ◌∙◌}
use Rattle.std.proofs.lemmas.Str.Pattern.{split_once_first}
use Rattle.sp_arguments.specs.Arguments.{IsList, AreNumbers}
use Rattle.sp_arguments.proofs.Commas.{first_word, last_word, word_done, more_numbers, no_list, whole_list, nonempty, pushed}
use Rattle.sp_arguments.proofs.argument.ints_of.Goals as goal

pub returns-in-None : goal.returns-in-None
returns-in-None c =
    let kept = c.loop-item.invariant.1 in
    let cut = split_once_first 44 c.loop-item.rest.now (Some (c.in-Some.item, c.in-Some.following)) c.in-Some.ensures.cases (lit< tt) in
    let first = first_word _ c.in-Some.item.now c.in-Some.following.now cut.0 cut.1 cut.2 in
    no_list c.args.items.now kept.0 _ _ (nonempty _ _ c.is_empty.ensures c.if-is_empty.false) (kept.1 ∙ ap (λ l. kept.0 ++ l) first) c.in-None.ensures

pub loop-item-preserved : goal.loop-item-preserved
loop-item-preserved c =
    let kept = c.loop-item.invariant.1 in
    let cut = split_once_first 44 c.loop-item.rest.now (Some (c.in-Some.item, c.in-Some.following)) c.in-Some.ensures.cases (lit< tt) in
    let first = first_word _ c.in-Some.item.now c.in-Some.following.now cut.0 cut.1 cut.2 in
    let number = c.in-Some-number_of.ensures in
    let now = pushed _ _ c.in-Some.item.now _ number c.in_ok-push-in-Some-number_of.ensures.items in
    let are = more_numbers kept.0 _ c.in-Some.item.now _ kept.2 number in (
      search rules,
      (
        kept.0 ++ (c.in-Some.item.now ∷ []),
        word_done _ kept.0 _ _ _ kept.1 first,
        subst (λ l. AreNumbers (kept.0 ++ (c.in-Some.item.now ∷ [])) l) (sym now) are,
      ),
    )

pub returns-in-None-number_of : goal.returns-in-None-number_of
returns-in-None-number_of c =
    let kept = c.loop-item.invariant.1 in
    let none = split_once_first 44 c.loop-item.rest.now None c.in_default.ensures.cases (lit< tt) in
    no_list c.args.items.now kept.0 [] c.loop-item.rest.now (nonempty _ _ c.is_empty.ensures c.if-is_empty.false)
    (kept.1 ∙ ap (λ l. kept.0 ++ l) (last_word _ none)) c.in-None-number_of.ensures

pub returns : goal.returns
returns c =
    let kept = c.loop-item.invariant.1 in
    let none = split_once_first 44 c.loop-item.rest.now None c.in_default.ensures.cases (lit< tt) in
    let number = c.in-Some-number_of-2.ensures in
    let now = pushed _ _ c.loop-item.rest.now _ number (c.in_ok-push-in-Some-number_of-2).ensures.items in
    let whole = whole_list c.args.items.now kept.0 c.loop-item.rest.now _ _ (nonempty _ _ c.is_empty.ensures c.if-is_empty.false)
    (kept.1 ∙ ap (λ l. kept.0 ++ l) (last_word _ none)) kept.2 number in
    subst (λ l. IsList c.args.items.now l) (sym (c.new-2.ensures ∙ now)) whole
