-- What the look-ups of a pool lend of a NameAndType and of a member, apart from where it lies in memory. (This project's own.)
use Rattle.cf_pool.specs.declared.pool.NameAndTypeRef.{NameAndTypeRef}
use Rattle.cf_pool.specs.declared.pool.MemberRef.{MemberRef}
use Rattle.cf_pool.specs.Pools.{NamedMember, NamedType}

abbrev pub named_type : NameAndTypeRef → NamedType
named_type r = record { name = r.name.now; descriptor = r.descriptor.now }

abbrev pub named_member : MemberRef → NamedMember
named_member r = record { kind = r.kind; class = r.class.now; name = r.name.now; descriptor = r.descriptor.now }
