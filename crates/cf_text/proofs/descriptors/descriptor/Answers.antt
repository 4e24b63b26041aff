use Rattle.cf_text.proofs.DescriptorLaws.{descriptor_exactly}
use Rattle.cf_text.proofs.descriptors.descriptor.Goals as goal

pub returns-clause-exactly : goal.returns-clause-exactly
returns-clause-exactly c = descriptor_exactly c.args.text.now c.descriptor_in.result c.descriptor_in.ensures
