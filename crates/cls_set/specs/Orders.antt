-- An order of the members of a class by their names and descriptors, in which they are searched. Of a name and a descriptor the shorter
-- one is compared first: so a long text that many members share is compared only where the other one is the same too. (This project's own.)
use Rattle.std.specs.Prelude.{◌≡◌, ◌<◌, ◌&&◌, ℕ, Bool, true, false, Option, Some, None, List, [], All, Contains}
use Rattle.std.specs.Prelude.{bytes_eq, codes, if◌then◌else◌, length, map, nat_le, slice_get, slice_index_or}
use Rattle.std.specs.List.{position}
use Rattle.std.specs.List.Sorted.{IsPartitionPoint, IsSortedBy}
use Rattle.std.specs.Ordering.{bool_cmp, is_lt, nat_cmp, on, then_cmp}
use Rattle.std.specs.declared.cmp.Ordering.{Ordering}
use Rattle.cf_reader.specs.declared.class_file.ClassFile.{ClassFile}
use Rattle.cf_reader.specs.declared.class_file.Field.{Field}
use Rattle.cf_reader.specs.declared.class_file.Method.{Method}
use Rattle.cls_order.specs.declared.class.Class.{Class}
use Rattle.cls_order.specs.Classes.{name_cmp, number_of}
use Rattle.cls_order.specs.declared.entries.Entry.{Entry}
use Rattle.cls_order.specs.Entries.{classes_of, HaveTables, IsRanked}
use Rattle.cls_order.specs.Sets.{IsClassSet}
use Rattle.cls_set.specs.declared.remote.MemberKind.{MemberKind}
use Rattle.space_ids.specs.declared.ids.ClassId.{ClassId}
use Rattle.cls_set.specs.declared.remote.MemberKind.TheVariants.{Fields, Methods}

-- a name and a descriptor
abbrev pub Key : Type 0
Key = List ℕ × List ℕ

-- the name is at most as long as the descriptor; the shorter one of both, and the longer one
abbrev pub is_short_name : Key → Bool
is_short_name key = nat_le (length key.0) (length key.1)

abbrev pub shorter : Key → List ℕ
shorter key = if is_short_name key then key.0 else key.1

abbrev pub longer : Key → List ℕ
longer key = if is_short_name key then key.1 else key.0

-- by the shorter one, then the longer one, then by which one is the name: only the same name and descriptor tie
abbrev pub key_cmp : Key → Key → Ordering
key_cmp = then_cmp (on shorter name_cmp) (then_cmp (on longer name_cmp) (on is_short_name bool_cmp))

abbrev pub is_key : Key → Key → Bool
is_key wanted key = bytes_eq key.0 wanted.0 && bytes_eq key.1 wanted.1

-- the names and descriptors of the methods, of the fields, and of the members of a kind, as declared
abbrev pub method_key : Method → Key
method_key method = (method.name, method.descriptor)

abbrev pub field_key : Field → Key
field_key field = (field.name, field.descriptor)

abbrev pub keys_of : MemberKind → ClassFile → List Key
keys_of Methods file = map method_key file.methods
keys_of Fields file = map field_key file.fields

abbrev pub key_in : Option Key → Key
key_in None = ([], [])
key_in (Some key) = key

abbrev pub key_at : List Key → ℕ → Key
key_at keys index = key_in (slice_get keys index)

-- members of one name and descriptor by index: no two members tie
abbrev pub index_cmp : List Key → ℕ → ℕ → Ordering
index_cmp keys = then_cmp (on (key_at keys) key_cmp) nat_cmp

-- the indices of the members, each of them, in that order
pub record IsOrder (keys : List Key) (order : List ℕ) : Type 0 where
  pub only : All (λ k. k < length keys) order
  pub each : (k : ℕ) → k < length keys → Contains order k
  pub sorted : IsSortedBy (λ i j. is_lt (index_cmp keys i j)) order

-- where in an order those members begin that do not come before a name and a descriptor
abbrev pub is_below : List Key → Key → ℕ → Bool
is_below keys wanted index = is_lt (key_cmp (key_at keys index) wanted)

abbrev pub IsLowerBound : List Key → List ℕ → Key → ℕ → Type 0
IsLowerBound keys order wanted start =
    IsPartitionPoint (λ k. is_below keys wanted k ≡ true) (λ k. is_below keys wanted k ≡ false) order start

-- the index of the first method, and of the first field, of a class with this name and descriptor
abbrev pub first_method : ClassFile → List ℕ → List ℕ → Option ℕ
first_method file name descriptor = position (is_key (name, descriptor)) (keys_of Methods file)

abbrev pub first_field : ClassFile → List ℕ → List ℕ → Option ℕ
first_field file name descriptor = position (is_key (name, descriptor)) (keys_of Fields file)

-- there is such an order of the members of a kind for each class
pub record HaveOrders (kind : MemberKind) (classes : List Class) (orders : List (List ℕ)) : Type 0 where
  pub one_each : length orders ≡ length classes
  pub order : (k : ℕ) (c : Class) → slice_get classes k ≡ Some c → IsOrder (keys_of kind c.file) (slice_index_or orders k [])

-- what a set keeps: its entries, for each class a table of its supertypes and the orders of its methods and fields, and the number of java/rmi/Remote
pub record AreKept (entries : List Entry) (told : List (List Bool)) (method_orders field_orders : List (List ℕ)) (remote_number : Option ClassId) : Type 0 where
  pub set : IsClassSet (classes_of entries)
  pub ranked : All (IsRanked entries) entries
  pub tables : HaveTables (classes_of entries) told
  pub methods : HaveOrders Methods (classes_of entries) method_orders
  pub fields : HaveOrders Fields (classes_of entries) field_orders
  pub remote : remote_number ≡ number_of (classes_of entries) (codes "java/rmi/Remote")
