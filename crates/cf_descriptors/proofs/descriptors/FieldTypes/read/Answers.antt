use Rattle.cf_text.proofs.DescriptorLaws.{field_descriptor_again, field_descriptor_takes}
use Rattle.cf_text.specs.Descriptors.{IsFieldType}
use Rattle.std.proofs.Common.{rules}
use Rattle.cf_descriptors.proofs.DescriptorsKept.{kept_more}
use Rattle.cf_descriptors.proofs.descriptors.FieldTypes.read.Goals as goal

pub returns-in-Some-clause-value : goal.returns-in-Some-clause-value
returns-in-Some-clause-value c =
    let at = c.args.item in
    field_descriptor_again at.at c.args.text.now c.in_ok-share.field-0 (c.requires.known at.value c.in_ok-share.field-0 (search rules) c.args.text.now c.requires.named)

pub returns-clause-known : goal.returns-clause-known
returns-clause-known c =
    let at = c.args.item in
    kept_more IsFieldType c.args.pool.now c.args.self.now.by_index c.insert.new.self at.value c.in_ok-share-2.field-0 c.args.text.now c.in_ok-insert.ensures.updates c.requires.named
    (field_descriptor_takes at.at c.args.text.now c.in_ok-share-2.field-0 (search rules)) c.requires.known
