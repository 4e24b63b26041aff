use Rattle.std.proofs.Common.{◌≡◌, ◌<◌, rules, subst, sym}
use Rattle.std.proofs.lemmas.Fn.{always_returns_same}
use Rattle.std.proofs.lemmas.List.{length-map}
use Rattle.cls_order.specs.declared.entries.Entry.{Entry}
use Rattle.cls_order.specs.Entries.{classes_of}
use Rattle.cls_order.proofs.Names.{order_to, searchable, find_found, find_absent, name_at_number}
use Rattle.cls_set.proofs.members.find_number.Goals as goal

pub returns-in-Ok-clause-number : goal.returns-in-Ok-clause-number
returns-in-Ok-clause-number c =
    let name = c.args.name.now in
    sym (find_found c.args.members.now name c.in-Ok.index c.requires.ordered c.in-Ok.ensures.bound
    (c.in-Ok.ensures.position (order_to name) (always_returns_same _ (λ a r. r ≡ order_to name a.0.now) _ (λ a r q k. (search rules, search rules)))))

pub returns-in-Ok-clause-in_set : goal.returns-in-Ok-clause-in_set
returns-in-Ok-clause-in_set c =
    subst (λ n. c.in-Ok.index < n) (sym (length-map c.args.members.now (λ (m : Entry). m.class))) c.in-Ok.ensures.bound

pub returns-in-Ok-clause-named : goal.returns-in-Ok-clause-named
returns-in-Ok-clause-named c =
    let name = c.args.name.now in
    name_at_number (classes_of c.args.members.now) name (record { 0 = c.in-Ok.index })
    (find_found c.args.members.now name c.in-Ok.index c.requires.ordered c.in-Ok.ensures.bound
    (c.in-Ok.ensures.position (order_to name) (always_returns_same _ (λ a r. r ≡ order_to name a.0.now) _ (λ a r q k. (search rules, search rules)))))

pub returns-in-Err-clause-number : goal.returns-in-Err-clause-number
returns-in-Err-clause-number c =
    let name = c.args.name.now in
    sym (find_absent c.args.members.now name c.in-Err.field-0
    (c.in-Err.ensures.position (order_to name) (always_returns_same _ (λ a r. r ≡ order_to name a.0.now) _ (λ a r q k. (search rules, search rules))) (searchable c.args.members.now name c.requires.ordered)))
