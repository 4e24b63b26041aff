-- What descriptors of a constant pool say (JVMS 4.3), of those that were read so far.
use Rattle.std.specs.Prelude.{◌≡◌, ℕ, Some, List, IsSome}
use Rattle.std.specs.Ordering.{nat_cmp}
use Rattle.std.specs.BTreeMap.{get}
use Rattle.cf_text.specs.declared.types.FieldType.{FieldType}
use Rattle.cf_text.specs.declared.types.MethodDescriptor.{MethodDescriptor}
use Rattle.cf_text.specs.Descriptors.{IsFieldType, IsMethodType}
use Rattle.cf_pool.specs.declared.pool.Entry.{Entry}
use Rattle.cf_pool.specs.Pools.{utf8_at}
use Rattle.cf_descriptors.specs.declared.descriptors.FieldTypes.{FieldTypes}
use Rattle.cf_descriptors.specs.declared.descriptors.MethodTypes.{MethodTypes}
use Rattle.cf_descriptors.specs.declared.descriptors.PackedTypes.{PackedTypes}

-- what is kept of an index is what the text of this index says
abbrev pub AreFieldTypes : List Entry → FieldTypes → Type 0
AreFieldTypes pool types =
    (index : ℕ) (type : FieldType) → get nat_cmp types.by_index index ≡ Some type
    → (text : List ℕ) → utf8_at pool index ≡ Some text → IsFieldType text type

abbrev pub AreMethodTypes : List Entry → MethodTypes → Type 0
AreMethodTypes pool types =
    (index : ℕ) (type : MethodDescriptor) → get nat_cmp types.by_index index ≡ Some type
    → (text : List ℕ) → utf8_at pool index ≡ Some text → IsMethodType text type

-- the descriptor of an index was read
abbrev pub IsKnown : MethodTypes → ℕ → Type 0
IsKnown types index = IsSome (get nat_cmp types.by_index index)

-- the descriptor of an index was read, if it spells the types of a method
abbrev pub IsKnownIfRight : List Entry → MethodTypes → ℕ → Type 0
IsKnownIfRight pool types index =
    (text : List ℕ) (type : MethodDescriptor) → utf8_at pool index ≡ Some text → IsMethodType text type → IsKnown types index

abbrev pub ArePackedTypes : List Entry → PackedTypes → Type 0
ArePackedTypes pool types =
    (index : ℕ) (type : MethodDescriptor) → get nat_cmp types.by_index index ≡ Some type
    → (text : List ℕ) → utf8_at pool index ≡ Some text → IsMethodType text type
