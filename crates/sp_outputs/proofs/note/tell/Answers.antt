use Rattle.std.proofs.Common.{◌≡◌, ◌+◌, ◌++◌, Option, length, sym, ap, ◌∙◌, vec_len, append-nil, arith}
use Rattle.std.proofs.Math.Nat.{add-zero}
use Rattle.std.specs.Prelude.{option_to_list}
use Rattle.sp_outputs.specs.declared.output.Output.{Output}
use Rattle.sp_outputs.proofs.note.tell.Goals as goal

pub push_reserved-requires : goal.push_reserved-requires
push_reserved-requires c =
    let one : length (option_to_list c.args.output) ≡ 1 = ap (λ (o : Option Output). length (option_to_list o)) c.in-Some.is in
    omega (arith, one, c.requires)

pub returns-in-Some-clause-items : goal.returns-in-Some-clause-items
returns-in-Some-clause-items c = c.push_reserved.ensures.items ∙ ap (λ (o : Option Output). c.args.told.now.items ++ option_to_list o) (sym c.in-Some.is)

pub returns-in-Some-clause-len : goal.returns-in-Some-clause-len
returns-in-Some-clause-len c = c.push_reserved.ensures.len ∙ ap (λ (o : Option Output). vec_len c.args.told.now + length (option_to_list o)) (sym c.in-Some.is)

pub returns-in-None-clause-items : goal.returns-in-None-clause-items
returns-in-None-clause-items c = sym (append-nil c.args.told.now.items) ∙ ap (λ (o : Option Output). c.args.told.now.items ++ option_to_list o) (sym c.in-None.is)

pub returns-in-None-clause-len : goal.returns-in-None-clause-len
returns-in-None-clause-len c = sym (add-zero (vec_len c.args.told.now)) ∙ ap (λ (o : Option Output). vec_len c.args.told.now + length (option_to_list o)) (sym c.in-None.is)
