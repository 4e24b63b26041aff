use Rattle.std.proofs.Common.{◌≡◌, drop, take}
use Rattle.cf_text.specs.Demands.{of_each, verdict}
use Rattle.cf_layout.specs.ReadInsides.{insides_of}
use Rattle.cf_reader.specs.Checks.{field_demands}
use Rattle.cf_descriptors.specs.Descriptors.{AreFieldTypes}
use Rattle.cf_reader.specs.MemberNames.{AreFieldNames}
use Rattle.cf_descriptors.specs.MemberKeys.{AreSeen}
use Rattle.cf_reader.proofs.members.check_each_field.Given as goal

-- what is left to judge decides, and those so far are in the table, and the descriptors and names that are kept are those of the pool
abbrev pub invariant-loop-field : goal.invariant-loop-field
invariant-loop-field l =
    let demands = field_demands (insides_of l.bytes) l.pool l.class.bits l.fields in
    record {
      judged : verdict (of_each demands l.field-index (drop l.field-index l.fields)) ≡ verdict (of_each demands 0 l.fields);
      seen : AreSeen l.pool l.seen (take l.field-index l.fields);
      known : AreFieldTypes l.pool l.known;
      names : AreFieldNames l.pool l.names;
    }
