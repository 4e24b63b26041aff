-- No two fields and no two methods of a class have the same name and descriptor (JVMS 4.5, 4.6): whether one stood before, and the table
-- by which it is found.
use Rattle.std.specs.Prelude.{◌≡◌, ℕ, Bool, false, ◌&&◌, List, Option, Some, None, bytes_eq, if◌then◌else◌, length, nat_le}
use Rattle.std.specs.List.{list_any}
use Rattle.std.specs.declared.cmp.Ordering.{Ordering}
use Rattle.std.specs.Ordering.{bool_cmp, nat_cmp, ordering_then}
use Rattle.std.specs.Cmp.Lexicographic.{slice_cmp}
use Rattle.std.specs.BTreeSet.{contains}
use denote.Ref.{Bor}
use Rattle.cf_pool.specs.declared.pool.Entry.{Entry}
use Rattle.cf_pool.specs.Pools.{utf8_at}
use Rattle.cf_layout.specs.declared.items.Member.{Member}
use Rattle.cf_descriptors.specs.declared.member_keys.MemberKeys.{MemberKeys}

-- two texts that were found are one
abbrev pub same_text : Option (List ℕ) → Option (List ℕ) → Bool
same_text (Some a) (Some b) = bytes_eq a b
same_text (Some a) None = false
same_text None other = false

-- two members of one name and descriptor
unfoldable pub same_member : List Entry → Member → Member → Bool
same_member pool a b =
    same_text (utf8_at pool a.name.value) (utf8_at pool b.name.value)
    && same_text (utf8_at pool a.descriptor.value) (utf8_at pool b.descriptor.value)

-- a member's name and descriptor stood before
unfoldable pub occurs : List Entry → List Member → Member → Bool
occurs pool earlier member = list_any (same_member pool member) earlier

-- a key: two texts, and whether the first one is the name and the second one the descriptor, or the other way round
abbrev pub Key : Type 0
Key = (Bor (List ℕ) × Bor (List ℕ)) × Bool

abbrev pub key_cmp : Key → Key → Ordering
key_cmp a b = ordering_then (ordering_then (slice_cmp nat_cmp a.0.0.now b.0.0.now) (slice_cmp nat_cmp a.0.1.now b.0.1.now)) (bool_cmp a.1 b.1)

abbrev pub name_of : Key → List ℕ
name_of key = if key.1 then key.0.0.now else key.0.1.now

abbrev pub descriptor_of : Key → List ℕ
descriptor_of key = if key.1 then key.0.1.now else key.0.0.now

-- the first text is the shorter one: the name, if both are as long
abbrev pub IsKey : Key → Type 0
IsKey key = key.1 ≡ nat_le (length (name_of key)) (length (descriptor_of key))

-- a member has a key's name and descriptor
abbrev pub is_keyed : List Entry → Key → Member → Bool
is_keyed pool key member =
    same_text (Some (name_of key)) (utf8_at pool member.name.value) && same_text (Some (descriptor_of key)) (utf8_at pool member.descriptor.value)

-- the table has the keys of these members, and no others
abbrev pub AreSeen : List Entry → MemberKeys → List Member → Type 0
AreSeen pool seen members = (key : Key) → IsKey key → contains key_cmp seen.keys key ≡ list_any (is_keyed pool key) members
