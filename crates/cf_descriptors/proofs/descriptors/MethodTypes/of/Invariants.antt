use Rattle.std.proofs.Common.{take}
use Rattle.std.specs.Prelude.{All}
use Rattle.cf_layout.specs.declared.items.Member.{Member}
use Rattle.cf_descriptors.specs.Descriptors.{AreMethodTypes, IsKnownIfRight}
use Rattle.cf_descriptors.proofs.descriptors.MethodTypes.of.Given as goal

-- what was read so far is what the texts say, and the descriptors of the methods so far were read
abbrev pub invariant-loop-method : goal.invariant-loop-method
invariant-loop-method l = AreMethodTypes l.pool l.types × All (λ (m : Member). IsKnownIfRight l.pool l.types m.descriptor.value) (take l.method-index l.methods)
