use Rattle.std.proofs.Common.{rules}
use Rattle.cf_descriptors.proofs.DescriptorsKept.{known_if_right}
use Rattle.cf_descriptors.proofs.descriptors.MethodTypes.note.Goals as goal

pub returns-clause-more : goal.returns-clause-more
returns-clause-more c =
    known_if_right c.args.pool.now c.args.item c.in-Some.text.now c.read-read.new.self c.read-read.result c.unless_out_of_memory.result (search rules) c.read-read.ensures.value c.read-read.ensures.more c.unless_out_of_memory.ensures
