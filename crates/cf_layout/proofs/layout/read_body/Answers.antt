use Rattle.std.proofs.Common.{rules}
use Rattle.cf_layout.proofs.BodyParts.{body_in_parts}
use Rattle.cf_layout.proofs.layout.read_body.Goals as goal

pub returns-in_err-pool : goal.returns-in_err-pool
returns-in_err-pool c = rw (body_in_parts c.args.bytes.now c.args.at) (search rules)

pub returns-in_err-rest : goal.returns-in_err-rest
returns-in_err-rest c = rw (body_in_parts c.args.bytes.now c.args.at) (search rules)

pub returns : goal.returns
returns c = rw (body_in_parts c.args.bytes.now c.args.at) (search rules)
