use Rattle.std.proofs.Common.{◌≡◌, drop, take}
use Rattle.cf_text.specs.Demands.{of_each, verdict}
use Rattle.cf_layout.specs.ReadInsides.{insides_of}
use Rattle.cf_reader.specs.Checks.{method_demands}
use Rattle.cf_descriptors.specs.Descriptors.{AreMethodTypes}
use Rattle.cf_reader.specs.MemberNames.{AreMethodNames}
use Rattle.cf_descriptors.specs.MemberKeys.{AreSeen}
use Rattle.cf_reader.proofs.members.check_each_method.Given as goal

-- what is left to judge decides, and those so far are in the table, and the descriptors and names that are kept are those of the pool
abbrev pub invariant-loop-method : goal.invariant-loop-method
invariant-loop-method l =
    let demands = method_demands (insides_of l.bytes) l.pool l.class.bits l.methods in
    record {
      judged : verdict (of_each demands l.method-index (drop l.method-index l.methods)) ≡ verdict (of_each demands 0 l.methods);
      seen : AreSeen l.pool l.seen (take l.method-index l.methods);
      known : AreMethodTypes l.pool l.known;
      names : AreMethodNames l.pool l.names;
    }
