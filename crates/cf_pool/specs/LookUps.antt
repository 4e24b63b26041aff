-- What the indices of a constant pool name (JVMS 4.4), apart from how it is looked up.
use Rattle.std.specs.Prelude.{◌≡◌, ℕ, ℤ, List, Some, slice_get}
use Rattle.cf_pool.specs.declared.pool.Entry.{Entry}
use Rattle.cf_pool.specs.declared.pool.Entry.TheVariants.{Utf8, Integer, Class, Member, NameAndType}
use Rattle.cf_pool.specs.Pools.{NamedMember, NamedType}

-- the text of a Utf8 entry
abbrev pub NamesText : List Entry → ℕ → List ℕ → Type 0
NamesText pool index text = slice_get pool index ≡ Some (Utf8 text)

-- the value of an Integer entry
abbrev pub NamesInteger : List Entry → ℕ → ℤ → Type 0
NamesInteger pool index value = slice_get pool index ≡ Some (Integer value)

-- the text that a Class entry's index names
abbrev pub NamesClass : List Entry → ℕ → List ℕ → Type 0
NamesClass pool index text = (name : ℕ) × (slice_get pool index ≡ Some (Class name)) × NamesText pool name text

-- the two texts that a NameAndType entry's indices name
abbrev pub NamesNameAndType : List Entry → ℕ → NamedType → Type 0
NamesNameAndType pool index named =
    (name : ℕ) × (descriptor : ℕ) × (slice_get pool index ≡ Some (NameAndType name descriptor)) × NamesText pool name named.name
    × NamesText pool descriptor named.descriptor

-- the class, the name and the descriptor that a member entry's indices name, and its kind
abbrev pub NamesMember : List Entry → ℕ → NamedMember → Type 0
NamesMember pool index member =
    (class : ℕ) × (named : ℕ) × (slice_get pool index ≡ Some (Member member.kind class named)) × NamesClass pool class member.class
    × NamesNameAndType pool named (record { name = member.name; descriptor = member.descriptor })
