use Rattle.std.proofs.Common.{cond, [], ◌∷◌, ◌++◌, ap, sym, ◌∙◌}
use Rattle.std.proofs.lemmas.List.{append-nil}
use Rattle.sp_owner.proofs.owner.Owner.push_if_it_stands.Goals as goal

pub returns-in_ok-push : goal.returns-in_ok-push
returns-in_ok-push c = λ g s is.
    c.in_ok-push.ensures.items ∙ ap (λ b. c.args.others.now.items ++ cond b (c.args.id ∷ []) []) (sym c.if-stands.true ∙ c.stands.ensures g s is)

pub returns-else-stands : goal.returns-else-stands
returns-else-stands c = λ g s is.
    sym (append-nil c.args.others.now.items) ∙ ap (λ b. c.args.others.now.items ++ cond b (c.args.id ∷ []) []) (sym c.if-stands.false ∙ c.stands.ensures g s is)
