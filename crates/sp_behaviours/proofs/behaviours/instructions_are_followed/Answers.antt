use Rattle.sp_behaviours.proofs.Following.{asks-stay, ends-made, steps-follow, steps-made}
use Rattle.sp_behaviours.proofs.behaviours.instructions_are_followed.Goals as goal

pub returns : goal.returns
returns c = record { follows = steps-follow; ends = ends-made; asks = asks-stay; held = λ links g t op m fuel f. f.held.1; counted = steps-made }
