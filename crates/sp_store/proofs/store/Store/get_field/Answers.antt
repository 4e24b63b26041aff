use Rattle.std.proofs.Common.{◌≡◌, List, Option, None, slice_get, rules, ap, ◌∙◌}
use Rattle.std.specs.Prelude.{option_and_then, option_copied}
use Rattle.space_ids.specs.declared.value.Value.{Value}
use Rattle.sp_store.proofs.StoreLemmas.{copied-get, slot-of}
use Rattle.sp_store.specs.Stores.{fields_after, object_after}
use Rattle.sp_store.proofs.store.Store.get_field.Goals as goal

pub returns-in_err-fields_of : goal.returns-in_err-fields_of
returns-in_err-fields_of c = λ g h after.
    let none : c.from_residual.result ≡ None = search rules in
    ap option_copied none
    ∙ ap (λ (o : Option (List Value)). option_and_then (λ (fields : List Value). slice_get fields c.args.slot) o) (c.in_err-fields_of.ensures g h after)
    ∙ slot-of c.args.slot (fields_after g h) (object_after h c.args.id)

pub returns : goal.returns
returns c = λ g h after.
    copied-get c.get.result c.in_ok-fields_of.field-0.now c.args.slot _ c.get.ensures.lookup.1 c.get.ensures.lookup.3
    ∙ ap (λ (o : Option (List Value)). option_and_then (λ (fields : List Value). slice_get fields c.args.slot) o) (c.in_ok-fields_of.ensures g h after)
    ∙ slot-of c.args.slot (fields_after g h) (object_after h c.args.id)
