-- What the class set of the rows tells. (This project's own, for rows of a peer that lies.)
use Rattle.std.specs.Prelude.{◌≡◌, ◌==◌, ◌||◌, ◌&&◌, ℕ, nat_le, nat_lt, Bool, List, [], ◌∷◌, Option, Some, None, map, if◌then◌else◌}
use Rattle.space_ids.specs.declared.ids.ClassId.{ClassId}
use Rattle.sp_requests.specs.ClassSets.{kind_of}
use Rattle.sp_requests.specs.declared.class_set.FieldKind.{FieldKind}
use Rattle.sp_rules.specs.Classes.{Classes, Kind, IntKind, IntArrayKind, ReferenceKind, VoidKind}

-- what a method takes and gives
abbrev pub kinds_taken : ℕ → List Kind
kinds_taken method =
    if method == 2 then ReferenceKind ∷ []
    else (if method == 4 then IntKind ∷ [] else [])

abbrev pub kind_given : ℕ → Kind
kind_given method =
    if method == 1 then IntKind
    else (if method == 3 then ReferenceKind
    else (if method == 5 then IntArrayKind else VoidKind))

-- Two classes are remote and have these fields, and methods of the first may be called.
pub record AreRowClasses (kinds : List FieldKind) (c : Classes) : Type 0 where
  pub remote : (class : ClassId) → c.is_remote class ≡ (class.0 == 7 || class.0 == 8)
  pub fields : (class : ClassId) → map kind_of kinds ≡ c.fields class
  pub called : (class : ClassId) (method : ℕ) → c.may_call class method ≡ (class.0 == 7 && (nat_le 1 method && nat_le method 6))
  pub parameters : (method : ℕ) → c.parameters method ≡ kinds_taken method
  pub result : (method : ℕ) → c.result method ≡ kind_given method
  pub selected : (class : ClassId) (method : ℕ) → c.selected class method ≡ (if nat_lt method 6 then Some method else None)
  pub throwable : (class : ClassId) → c.is_throwable class ≡ (nat_le 9 class.0 && nat_le class.0 26)
  pub error : (class : ClassId) → c.is_error class ≡ (class.0 == 9)
  pub remote_exception : (class : ClassId) → c.is_remote_exception class ≡ (nat_le 20 class.0 && nat_le class.0 25)
  pub out_of_memory : c.out_of_memory ≡ record { 0 = 9 }
  pub no_such_object : c.no_such_object ≡ record { 0 = 20 }
  pub unmarshal : c.unmarshal ≡ record { 0 = 21 }
  pub marshal : c.marshal ≡ record { 0 = 22 }
  pub connect : c.connect ≡ record { 0 = 23 }
  pub server_error : c.server_error ≡ record { 0 = 24 }
  pub server_exception : c.server_exception ≡ record { 0 = 25 }
  pub not_bound : c.not_bound ≡ record { 0 = 26 }
