use Rattle.std.proofs.Common.{arith}
use Rattle.ver_frames.proofs.Starts.{not_fitting, not_found}
use Rattle.ver_frames.proofs.stack_map.find_offset.Goals as goal

pub returns-then-at-from : goal.returns-then-at-from
returns-then-at-from c = rw (not_fitting c.args.offsets.now c.args.at c.type_inv.offsets (omega arith))

pub returns-in-Err : goal.returns-in-Err
returns-in-Err c = rw (not_found c.args.offsets.now c.args.at c.in-Err.field-0 c.requires c.in-Err.ensures.position)
