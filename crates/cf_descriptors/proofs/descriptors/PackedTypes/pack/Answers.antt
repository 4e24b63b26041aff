use Rattle.std.proofs.Common.{rules, subst, sym, ◌∙◌}
use Rattle.cf_text.proofs.DescriptorLaws.{method_descriptor_again}
use Rattle.cf_text.specs.Descriptors.{IsMethodType}
use Rattle.cf_descriptors.proofs.DescriptorsKept.{kept_any_more}
use Rattle.cf_descriptors.proofs.descriptors.PackedTypes.pack.Goals as goal

pub returns-in-Some-clause-value : goal.returns-in-Some-clause-value
returns-in-Some-clause-value c pool text known packed named =
    method_descriptor_again c.args.item.at text c.in_ok-share.field-0 (packed c.args.item.value c.in_ok-share.field-0 (search rules) text named)

pub returns-clause-value : goal.returns-clause-value
returns-clause-value c pool text known packed named =
    let same = c.in_ok-packed.ensures ∙ c.in_ok-pack.ensures in
    method_descriptor_again c.args.item.at text c.in_ok-packed.packed (subst (IsMethodType text) (sym same) (c.in-Some-get.ensures.types pool text known named))

pub returns-clause-packed : goal.returns-clause-packed
returns-clause-packed c pool known packed =
    let same = c.in_ok-share-2.ensures ∙ (c.in_ok-packed.ensures ∙ c.in_ok-pack.ensures) in
    kept_any_more IsMethodType pool c.args.self.now.by_index c.insert.new.self c.args.item.value c.in_ok-share-2.field-0 c.in_ok-insert.ensures.updates
    (λ text named. subst (IsMethodType text) (sym same) (c.in-Some-get.ensures.types pool text known named)) packed
