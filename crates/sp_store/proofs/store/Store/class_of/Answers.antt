use Rattle.std.proofs.Common.{◌≡◌, Option, None, Some, rules, ap, ◌∙◌}
use Rattle.std.specs.Prelude.{option_map}
use Rattle.sp_store.specs.Instances.{Remote}
use Rattle.sp_store.proofs.StoreLemmas.{class-at}
use Rattle.sp_store.proofs.store.Store.class_of.Goals as goal

pub returns-in_err-get : goal.returns-in_err-get
returns-in_err-get c = λ g h after.
    let none : c.from_residual.result ≡ None = search rules in
    none ∙ ap (λ (o : Option Remote). option_map (λ (x : Remote). x.class) o) c.in_err-get.ensures.value ∙ class-at g h _ _ after.stored c.args.id

pub returns : goal.returns
returns c = λ g h after.
    ap Some c.class.ensures ∙ ap (λ (o : Option Remote). option_map (λ (x : Remote). x.class) o) c.in_ok-get.ensures.value ∙ class-at g h _ _ after.stored c.args.id
