-- Numbers of names with descriptors: two methods have the same one exactly where both their names and their descriptors are the same.
-- (This project's own.)
use Rattle.std.specs.Prelude.{◌≡◌, ◌&&◌, ◌-◌, ◌/◌, ◌<◌, ◌≤◌, ℕ, zero, suc, Bool, Some, List, bytes_eq, length, slice_index_or}
use Rattle.std.specs.Borrow.{Bor}
use Rattle.std.specs.List.{position_or_len}
use Rattle.cf_reader.specs.declared.class_file.Method.{Method}
use Rattle.cls_set.specs.declared.class.Class.{Class}
use Rattle.cls_link.specs.declared.linked_code.MethodId.{MethodId}
use Rattle.cls_link.specs.Links.{method_at}

-- a name and a descriptor as they stand in class files
abbrev pub Key : Type 0
Key = Bor (List ℕ) × Bor (List ℕ)

-- whether this name and this descriptor are a key's
abbrev pub is_key : List ℕ → List ℕ → Key → Bool
is_key name descriptor key = bytes_eq name key.0.now && bytes_eq descriptor key.1.now

-- the number of a name and a descriptor: the index of their first key
pub record IsNumber (keys : List Key) (name descriptor : List ℕ) (number : ℕ) : Type 0 where
  pub first : number ≡ position_or_len (is_key name descriptor) keys
  pub within : number < length keys

-- whether two methods have the same name and descriptor
abbrev pub is_same : Method → Method → Bool
is_same a b = bytes_eq b.name a.name && bytes_eq b.descriptor a.descriptor

-- each of the first n methods has the number of its name and descriptor, which is below their number
pub record AreNumbered (classes : List Class) (count : ℕ) (numbers : List ℕ) : Type 0 where
  pub one_each : length numbers ≡ count
  pub keys : List Key
  pub few : length keys ≤ count
  pub number : (id : MethodId) (m : Method) → id.0 < count → method_at classes id ≡ Some m → IsNumber keys m.name m.descriptor (slice_index_or numbers id.0 0)

-- numbers below this one that agree in this many of their lowest bits are the same
abbrev pub Covers : ℕ → ℕ → Type 0
Covers zero count = count ≤ 1
Covers (suc levels) count = Covers levels (count - count / 2)
