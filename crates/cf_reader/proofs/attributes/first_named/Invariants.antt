use Rattle.std.proofs.Common.{◌≡◌, drop}
use Rattle.cf_reader.specs.Checks.{first_named}
use Rattle.cf_reader.proofs.attributes.first_named.Given as goal

-- none of the attributes so far has the name
abbrev pub invariant-loop-attribute : goal.invariant-loop-attribute
invariant-loop-attribute l = first_named l.pool l.name (drop l.attribute-index l.attributes) ≡ first_named l.pool l.name l.attributes
