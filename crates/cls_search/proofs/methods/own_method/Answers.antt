use Rattle.std.proofs.Common.{ap, sym, ◌∙◌}
use Rattle.std.specs.Prelude.{option_map}
use Rattle.cls_search.proofs.Named.{method_within, own_method_is}
use Rattle.cls_search.proofs.methods.own_method.Goals as goal

pub returns-in-Some-clause-found : goal.returns-in-Some-clause-found
returns-in-Some-clause-found c =
    let a = c.args in
    let found = c.first_method in
    let is = own_method_is a.set.now a.class a.name.now a.descriptor.now found.result c.requires.in_set found.ensures in
    sym (is ∙ ap (option_map (λ index. record { class = a.class; index = index })) c.in-Some.is)

pub returns-in-Some-clause-within : goal.returns-in-Some-clause-within
returns-in-Some-clause-within c =
    let a = c.args in
    let found = c.first_method in
    method_within a.set.now a.class a.name.now a.descriptor.now found.result c.requires.in_set found.ensures c.in-Some.index
    c.in-Some.is

pub returns-in-None-clause-found : goal.returns-in-None-clause-found
returns-in-None-clause-found c =
    let a = c.args in
    let found = c.first_method in
    let is = own_method_is a.set.now a.class a.name.now a.descriptor.now found.result c.requires.in_set found.ensures in
    sym (is ∙ ap (option_map (λ index. record { class = a.class; index = index })) c.in-None.is)
