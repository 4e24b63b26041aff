use Rattle.std.proofs.Common.{arith}
use Rattle.std.proofs.lemmas.Result.{on_ok_weaker}
use Rattle.sp_owner.proofs.OwnerLemmas.{if-ok, made-from, made-id}
use Rattle.sp_owner.proofs.owner.Owner.create.Goals as goal

-- no id is left
pub returns-then-made-clause-id : goal.returns-then-made-clause-id
returns-then-made-clause-id g c = λ g' s is few.
    let last = is.objects_made in
    absurd (omega (arith, last, few, c.made.ensures.made))

pub returns-then-made-clause-made : goal.returns-then-made-clause-made
returns-then-made-clause-made g c = λ g' s is tells few.
    let last = is.objects_made in
    absurd (omega (arith, last, few, c.made.ensures.made))

pub returns-clause-id : goal.returns-clause-id
returns-clause-id g c = if-ok c.create.result _ _ (λ id is-id. λ g' s is few. made-id g' s c.args.self.now id is (is-id g' s.store is.store)) c.create.ensures.id

pub returns-clause-made : goal.returns-clause-made
returns-clause-made g c = on_ok_weaker c.create.result (λ made. λ g' s is tells few. made g' s is tells)
    (made-from g.C.ClassSet.tells c.args.classes.now c.args.self.now c.create.new.self c.args.class c.in_ok-fields.fields.items c.create.result
    c.create.ensures.id c.create.ensures.made c.create.ensures.full c.create.ensures.holds c.in_ok-fields.ensures)
