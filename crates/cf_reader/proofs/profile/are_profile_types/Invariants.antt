use Rattle.std.proofs.Common.{◌≡◌, drop}
use Rattle.std.specs.List.{list_all}
use Rattle.cf_reader.specs.Profile.{is_profile_type}
use Rattle.cf_reader.proofs.profile.are_profile_types.Given as goal

-- the types so far pass
abbrev pub invariant-loop-kind : goal.invariant-loop-kind
invariant-loop-kind l = list_all is_profile_type (drop l.kind-index l.kinds) ≡ list_all is_profile_type l.kinds
