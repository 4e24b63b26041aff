use Rattle.std.proofs.Common.{Ok, rules}
use Rattle.cf_reader.specs.Builds.{reading_of}
use Rattle.cf_reader.proofs.WellFormedLaws.{class_well_formed}
use Rattle.cf_reader.proofs.read.reading_of.Goals as goal

pub new-requires : goal.new-requires
unfolding reading_of
new-requires c = class_well_formed c.args.bytes.now (Ok c.in_ok-file.file) (search rules)
