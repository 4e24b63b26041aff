-- Which classes and members a class may use (JVMS 5.4.4).
use Rattle.std.specs.Prelude.{◌≡◌, ◌==◌, ℕ, List, [], ◌∷◌, if◌then◌else◌, slice_get}
use Rattle.std.specs.List.{list_any}
use Rattle.std.specs.Option.{option_map_or}
use Rattle.cf_reader.specs.declared.flags.TheConstants.Flags.{PUBLIC, PRIVATE}
use Rattle.cls_set.specs.declared.class.Class.{Class}
use Rattle.space_ids.specs.declared.ids.ClassId.{ClassId}
use Rattle.cls_set.specs.Rules.{Has}

-- the name of a class
abbrev pub name_of : List Class → ClassId → List ℕ
name_of classes class = option_map_or (λ (c : Class). c.file.name) (slice_get classes class.0) []

-- the flags of a class
abbrev pub flags_of : List Class → ClassId → ℕ
flags_of classes class = option_map_or (λ (c : Class). c.file.flags.bits) (slice_get classes class.0) 0

-- the package of a class: its name up to and with its last '/' (JVMS 4.2.1), nothing for a class of the unnamed package
abbrev pub package_name : List ℕ → List ℕ
package_name [] = []
package_name (b ∷ bs) = if list_any (λ c. c == 47) (b ∷ bs) then b ∷ package_name bs else []

-- a class may use another: one that is public, or of its own package
pub data IsAccessible (classes : List Class) (user class : ClassId) : Type 0 where
  public : Has (flags_of classes class) PUBLIC → IsAccessible classes user class
  of_same_package : package_name (name_of classes user) ≡ package_name (name_of classes class) → IsAccessible classes user class

-- a class may use a member that another declares: its own; and one that is not private, if it is public or of the same package
pub data IsMemberAccessible (classes : List Class) (user owner : ClassId) (flags : ℕ) : Type 0 where
  own : user ≡ owner → IsMemberAccessible classes user owner flags
  public : ¬ Has flags PRIVATE → Has flags PUBLIC → IsMemberAccessible classes user owner flags
  of_same_package : ¬ Has flags PRIVATE → package_name (name_of classes user) ≡ package_name (name_of classes owner) → IsMemberAccessible classes user owner flags
