use Rattle.std.proofs.Common.{◌≡◌, drop, false}
use Rattle.cf_text.specs.Demands.{verdict}
use Rattle.cf_layout.specs.ReadInsides.{insides_of}
use Rattle.cf_reader.specs.Checks.{is_known, known_demands, attribute_demands}
use Rattle.cf_reader.proofs.attributes.Known.check_all.Given as goal

-- what is left to judge decides
abbrev pub invariant-loop-attribute : goal.invariant-loop-attribute
invariant-loop-attribute l =
    let is_known = is_known l.pool l.self in
    let inside = known_demands (insides_of l.bytes) l.pool l.self in
    verdict (attribute_demands l.pool is_known inside l.seen (drop l.attribute-index l.attributes)) ≡ verdict (attribute_demands l.pool is_known inside false l.attributes)
