use Rattle.std.proofs.Common.{◌≡◌, List, Option, None, Some, rules, ap, ◌∙◌}
use Rattle.std.specs.Prelude.{option_map}
use Rattle.std.specs.Borrow.{Bor}
use Rattle.space_ids.specs.declared.value.Value.{Value}
use Rattle.sp_store.specs.Instances.{Remote}
use Rattle.sp_store.proofs.StoreLemmas.{fields-at}
use Rattle.sp_store.proofs.store.Store.fields_of.Goals as goal

pub returns-in_err-get : goal.returns-in_err-get
returns-in_err-get c = λ g h after.
    let none : c.from_residual.result ≡ None = search rules in
    ap (λ (o : Option (Bor (List Value))). option_map (λ (fields : Bor (List Value)). fields.now) o) none
    ∙ ap (λ (o : Option Remote). option_map (λ (x : Remote). x.fields) o) c.in_err-get.ensures.value ∙ fields-at g h _ _ after.stored c.args.id

pub returns : goal.returns
returns c = λ g h after.
    ap Some c.fields.ensures ∙ ap (λ (o : Option Remote). option_map (λ (x : Remote). x.fields) o) c.in_ok-get.ensures.value ∙ fields-at g h _ _ after.stored c.args.id
