-- How a set is built: its entries while they are sorted and resolved, and the fault that each step names. (This project's own.)
use Rattle.std.specs.Prelude.{◌≡◌, ◌⊎◌, ℕ, suc, None, Contains, List, [], ◌∷◌, map}
use Rattle.std.specs.List.{Any}
use Rattle.std.specs.List.Sorted.{IsSortedBy}
use Rattle.std.specs.Ordering.{is_lt}
use Rattle.cls_order.specs.declared.class.Class.{Class}
use Rattle.cls_order.specs.declared.fault.SetFault.{SetFault}
use Rattle.cls_order.specs.declared.fault.SetFault.TheVariants.{Broken, Memory}
use Rattle.cls_order.specs.declared.fault.SetRule.{SetRule}
use Rattle.cls_order.specs.declared.fault.SetRule.TheVariants.{Duplicate, AbsentClass, Cycle}
use Rattle.cls_order.specs.declared.entries.Entry.{Entry}
use Rattle.cls_order.specs.Classes.{name_cmp}
use Rattle.cls_order.specs.Sets.{Origin, origin, DescriptorNames, HasAbsent, IsFirstAbsent, IsFirstCycle, IsFirstDuplicate, IsResolved, TypeNames}
use Rattle.cf_text.specs.declared.types.FieldType.{FieldType}
use Rattle.cf_text.specs.declared.types.MethodDescriptor.{MethodDescriptor}
use Rattle.cf_reader.specs.declared.class_file.ClassFile.{ClassFile}
use Rattle.cf_reader.specs.declared.class_file.Field.{Field}
use Rattle.cf_reader.specs.declared.class_file.Method.{Method}

-- a class whose supertypes are not resolved yet
abbrev pub unresolved : Origin → Class
unresolved o = record { file = o.0; superclass = None; interfaces = []; is_built_in = o.1 }

-- classes ranked in the order in which they come, from k on
abbrev pub ranked_from : ℕ → List Origin → List Entry
ranked_from k [] = []
ranked_from k (o ∷ os) = record { class = unresolved o; rank = k } ∷ ranked_from (suc k) os

-- the names ascend, and may repeat
abbrev pub AscendByName : List Entry → Type 0
AscendByName entries = IsSortedBy (λ a b. is_lt (name_cmp a.class.file.name b.class.file.name)) entries

-- what resolving leaves of an entry
abbrev pub kept : Entry → Origin × ℕ
kept m = (origin m.class, m.rank)

-- a fault by this rule at this name, unless memory ran out
abbrev pub IsFaultOf : SetRule → List ℕ → SetFault → Type 0
IsFaultOf rule name (Broken r n) = (r ≡ rule) × (n ≡ name)
IsFaultOf rule name Memory = Unit {0}

abbrev pub IsDuplicateFault : List (List ℕ) → SetFault → Type 0
IsDuplicateFault names (Broken Duplicate name) = IsFirstDuplicate names name
IsDuplicateFault names (Broken rule name) = ⊥
IsDuplicateFault names Memory = Unit {0}

-- the classes of the entries, as they come
abbrev pub origins_of : List Entry → List Origin
origins_of entries = map (λ m. origin m.class) entries

-- a class of this name names a supertype that is not there, unless memory ran out
abbrev pub IsMissing : List (List ℕ) → List ℕ → List ℕ → SetFault → Type 0
IsMissing names super name (Broken AbsentClass n) = (n ≡ name) × (Contains names super → ⊥)
IsMissing names super name (Broken rule n) = ⊥
IsMissing names super name Memory = Unit {0}

-- a class mentions an absent class, unless memory ran out
abbrev pub IsClassFault : List (List ℕ) → ClassFile → SetFault → Type 0
IsClassFault names file (Broken AbsentClass n) = (n ≡ file.name) × HasAbsent names file
IsClassFault names file (Broken rule n) = ⊥
IsClassFault names file Memory = Unit {0}

-- the first class by name that mentions an absent class, unless memory ran out
abbrev pub IsAbsentFault : List (List ℕ) → List Origin → SetFault → Type 0
IsAbsentFault names classes (Broken AbsentClass n) = IsFirstAbsent names classes n
IsAbsentFault names classes (Broken rule n) = ⊥
IsAbsentFault names classes Memory = Unit {0}

-- the first of the classes by name that is its own supertype, unless memory ran out
abbrev pub IsCycleFault : List Origin → SetFault → Type 0
IsCycleFault classes (Broken Cycle n) = IsFirstCycle classes n
IsCycleFault classes (Broken rule n) = ⊥
IsCycleFault classes Memory = Unit {0}

-- a type names a class of none of these names
abbrev pub NamesAbsent : List (List ℕ) → FieldType → Type 0
NamesAbsent names type = (name : List ℕ) × TypeNames type name × (Contains names name → ⊥)

-- a method descriptor names a class of none of these names
pub record DescriptorNamesAbsent (names : List (List ℕ)) (types : MethodDescriptor) : Type 0 where
  pub name : List ℕ
  pub named : DescriptorNames types name
  pub absent : Contains names name → ⊥

-- the descriptor of a field or of a method names a class of none of these names
abbrev pub MembersNameAbsent : List (List ℕ) → ClassFile → Type 0
MembersNameAbsent names file =
    Any (λ (field : Field). NamesAbsent names field.kind) file.fields ⊎ Any (λ (method : Method). DescriptorNamesAbsent names method.types) file.methods

-- a class with its supertypes known by number, which mentions no absent class
pub record IsWhole (names : List (List ℕ)) (c : Class) : Type 0 where
  pub resolved : IsResolved names c
  pub present : HasAbsent names c.file → ⊥
