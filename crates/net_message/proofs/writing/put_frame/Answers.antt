use Rattle.std.proofs.Common.{arith}
use Rattle.net_message.proofs.Lengths.{length-body}
use Rattle.net_message.proofs.writing.put_frame.Goals as goal

pub put_body-requires-clause-room : goal.put_body-requires-clause-room
put_body-requires-clause-room c = omega (arith, length-body c.args.message.now c.requires.fits)

pub returns-clause-spare : goal.returns-clause-spare
returns-clause-spare c = omega (arith, length-body c.args.message.now c.requires.fits)
