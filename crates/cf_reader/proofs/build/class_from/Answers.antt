use Rattle.std.proofs.Common.{rules}
use Rattle.cf_reader.proofs.Parts.{class_in_parts}
use Rattle.cf_reader.proofs.build.class_from.Goals as goal

pub returns-in_err-fields : goal.returns-in_err-fields
returns-in_err-fields c = rw (class_in_parts c.args.bytes.now c.args.layout) (search rules)

pub returns : goal.returns
returns c = rw (class_in_parts c.args.bytes.now c.args.layout) (search rules)
