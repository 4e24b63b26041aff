-- What a class set is, and what its classes are by name (JVMS 5.3.5): a class names its direct supertypes, and no class is among its own.
use Rattle.std.specs.Prelude.{◌≡◌, ◌≤◌, ◌<◌, ℕ, Bool, true, false, Some, None, List, ◌++◌, codes, map, option_map, option_to_list, length, All, Contains, IsSome, IsSomeAnd, IsPermutation, bytes_eq, count_by, slice_get}
use Rattle.std.specs.declared.cmp.Ordering.TheVariants.{Less}
use Rattle.std.specs.List.Sorted.{IsStrictlySortedBy}
use Rattle.cf_text.specs.declared.types.FieldType.{FieldType}
use Rattle.cf_text.specs.declared.types.ElementType.TheVariants as elements
use Rattle.cf_text.specs.declared.types.MethodDescriptor.{MethodDescriptor}
use Rattle.cf_reader.specs.declared.class_file.ClassFile.{ClassFile}
use Rattle.cf_reader.specs.declared.class_file.Field.{Field}
use Rattle.cf_reader.specs.declared.class_file.Method.{Method}
use Rattle.cf_reader.specs.WellFormed.{IsWellFormed}
use Rattle.cls_order.specs.declared.class.Class.{Class}
use Rattle.space_ids.specs.declared.ids.ClassId.{ClassId}
use Rattle.cls_order.specs.Classes.{name_cmp, names, number_of, IsInterface}
use Rattle.cls_order.specs.Subtypes.{Declares, Extends, IsDirectSupertype}
use Rattle.cls_order.specs.BuiltIn.{BuiltIn, built_ins, built_in_files, file_of}

-- the supertypes of a class, by number among these names, are those that its file names
pub record IsResolved (names : List (List ℕ)) (c : Class) : Type 0 where
  pub superclass : option_map (λ id. slice_get names id.0) c.superclass ≡ option_map (λ name. Some name) c.file.superclass
  pub interfaces : map (λ id. slice_get names id.0) c.interfaces ≡ map (λ name. Some name) c.file.interfaces

-- the origin of a class: what its file says, and whether it stands in every set
abbrev pub Origin : Type 0
Origin = ClassFile × Bool

abbrev pub origin : Class → Origin
origin c = (c.file, c.is_built_in)

-- the built-in classes and those of the files
abbrev pub origins : List ClassFile → List Origin
origins files = map (λ file. (file, true)) built_in_files ++ map (λ file. (file, false)) files

-- each of them stands in the set, once, and no other class does
abbrev pub HasClasses : List ClassFile → List Class → Type 0
HasClasses files classes = IsPermutation (origins files) (map origin classes)

-- their names
abbrev pub origin_names : List ClassFile → List (List ℕ)
origin_names files = map (λ o. o.0.name) (origins files)

-- a name stands more than once among others
abbrev pub IsTwice : List (List ℕ) → List ℕ → Type 0
IsTwice names name = 1 < count_by (λ n. bytes_eq n name) names

-- a name stands more than once, and no name before it does
pub record IsFirstDuplicate (names : List (List ℕ)) (name : List ℕ) : Type 0 where
  pub twice : IsTwice names name
  pub first : (other : List ℕ) → name_cmp other name ≡ Less → ¬ IsTwice names other

-- no name stands more than once
abbrev pub IsWithoutDuplicates : List (List ℕ) → Type 0
IsWithoutDuplicates names = (name : List ℕ) → ¬ IsTwice names name

-- the names of the direct supertypes of a class
abbrev pub super_names : ClassFile → List (List ℕ)
super_names file = option_to_list file.superclass ++ file.interfaces

-- a field type names a class: it is the class, or an array of it (JVMS 4.3.2)
abbrev pub TypeNames : FieldType → List ℕ → Type 0
TypeNames type name = type.element ≡ elements.Class name

-- a method descriptor names a class: as the type of a parameter, or of the result (JVMS 4.3.3)
pub data DescriptorNames (types : MethodDescriptor) (name : List ℕ) : Type 0 where
  by_parameter : (type : FieldType) → Contains types.parameters type → TypeNames type name → DescriptorNames types name
  by_result : (type : FieldType) → types.result ≡ Some type → TypeNames type name → DescriptorNames types name

-- a class file mentions a class: as a direct supertype, or in the descriptor of a field or a method
pub data Mentions (file : ClassFile) (name : List ℕ) : Type 0 where
  as_supertype : Contains (super_names file) name → Mentions file name
  by_field : (field : Field) → Contains file.fields field → TypeNames field.kind name → Mentions file name
  by_method : (method : Method) → Contains file.methods method → DescriptorNames method.types name → Mentions file name

-- what is true of the classes of every set
pub record IsClassSet (classes : List Class) : Type 0 where
  -- they stand in the order of their names, each name once
  pub ordered : IsStrictlySortedBy name_cmp (names classes)
  pub few : length classes ≤ 4096
  pub resolved : All (IsResolved (names classes)) classes
  -- each class that stands in every set stands in it, and a class of its name is that one
  pub built_in : All (λ (b : BuiltIn). IsSome (number_of classes b.name)) built_ins
  pub as_built_in : All (λ (b : BuiltIn). All (λ c. c.file.name ≡ b.name → c.file ≡ file_of b) classes) built_ins
  -- each class is well formed, as a class file in profile is (JVMS 4.3, 4.5, 4.6)
  pub well_formed : All (λ c. IsWellFormed c.file) classes
  -- each class that a class mentions stands in it
  pub complete : All (λ c. (name : List ℕ) → Mentions c.file name → IsSome (number_of classes name)) classes
  -- only java/lang/Object has no superclass (JVMS 4.1)
  pub rooted : All (λ c. c.superclass ≡ None → c.file.name ≡ codes "java/lang/Object") classes
  -- the superclass of an interface is java/lang/Object (JVMS 4.1)
  pub below_object : All (λ c. IsInterface c → c.file.superclass ≡ Some (codes "java/lang/Object")) classes
  -- no superclass is an interface (JVMS 5.3.5)
  pub extended : (sub sup : ClassId) → Extends classes sub sup → IsSomeAnd (slice_get classes sup.0) (λ c. ¬ IsInterface c)
  -- each superinterface is an interface (JVMS 4.1)
  pub implemented : (sub sup : ClassId) → Declares classes sub sup → IsSomeAnd (slice_get classes sup.0) IsInterface
  -- no class is its own supertype (JVMS 5.3.5): they can be ranked, each above its direct supertypes
  pub rank : ClassId → ℕ
  pub ranked : (sub sup : ClassId) → IsDirectSupertype classes sub sup → rank sup < rank sub

-- a class mentions a class of none of these names
pub record HasAbsent (names : List (List ℕ)) (file : ClassFile) : Type 0 where
  pub name : List ℕ
  pub mentioned : Mentions file name
  pub absent : ¬ Contains names name

-- a class of this name mentions a class of none of these names, and no class before it by name does
pub record IsFirstAbsent (names : List (List ℕ)) (classes : List Origin) (name : List ℕ) : Type 0 where
  pub class : Origin
  pub stands : Contains classes class
  pub named : name ≡ class.0.name
  pub absent : HasAbsent names class.0
  pub first : (other : Origin) → Contains classes other → name_cmp other.0.name name ≡ Less → ¬ HasAbsent names other.0

-- no class mentions a class of none of these names
abbrev pub IsWithoutAbsent : List (List ℕ) → List Origin → Type 0
IsWithoutAbsent names classes = (class : Origin) → Contains classes class → ¬ HasAbsent names class.0

-- a class of the name sub names sup as a direct supertype
pub record NamesSupertype (classes : List Origin) (sub sup : List ℕ) : Type 0 where
  pub class : Origin
  pub stands : Contains classes class
  pub named : class.0.name ≡ sub
  pub declared : Contains (super_names class.0) sup

-- sup is a supertype of sub by name: the least transitive relation that holds the direct supertypes that classes name
pub data IsSupertypeByName (classes : List Origin) : List ℕ → List ℕ → Type 0 where
  direct : (sub sup : List ℕ) → NamesSupertype classes sub sup → IsSupertypeByName classes sub sup
  through : (sub mid sup : List ℕ) → IsSupertypeByName classes sub mid → IsSupertypeByName classes mid sup → IsSupertypeByName classes sub sup

-- the class of this name is its own supertype (JVMS 5.3.5), and no class before it by name is
pub record IsFirstCycle (classes : List Origin) (name : List ℕ) : Type 0 where
  pub cycle : IsSupertypeByName classes name name
  pub first : (other : List ℕ) → name_cmp other name ≡ Less → ¬ IsSupertypeByName classes other other

-- no class is its own supertype
abbrev pub IsWithoutCycles : List Origin → Type 0
IsWithoutCycles classes = (name : List ℕ) → ¬ IsSupertypeByName classes name name
