use Rattle.std.proofs.Common.{refl}
use Rattle.ver_frames.proofs.Chains.{none_stand, none_types}
use Rattle.ver_frames.proofs.chain.TypeNodes.append_all.Goals as goal

pub loop-kind-init : goal.loop-kind-init
loop-kind-init c = record { types = none_types c.args.self.now 0; stands = none_stand c.args.self.now 0; count = refl }
