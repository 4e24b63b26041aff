-- The grammar of descriptors (JVMS 4.3), by cases, apart from how they are read.
use Rattle.std.specs.Prelude.{◌≡◌, ◌≤◌, ℕ, true, List, [], ◌∷◌, ◌++◌, replicate, Option, Some, None}
use Rattle.cf_text.specs.declared.fault.Rule.TheVariants as rules
use Rattle.cf_text.specs.declared.types.FieldType.{FieldType}
use Rattle.cf_text.specs.declared.types.ElementType.{ElementType}
use Rattle.cf_text.specs.declared.types.ElementType.TheVariants.{Byte, Char, Double, Float, Int, Long, Short, Boolean, Class}
use Rattle.cf_text.specs.declared.types.MethodDescriptor.{MethodDescriptor}
use Rattle.cf_text.specs.declared.types.Descriptor.{Descriptor}
use Rattle.cf_text.specs.declared.types.Descriptor.TheVariants.{Field, Method}
use Rattle.cf_text.specs.Names.{is_class_name}
use Rattle.cf_text.specs.Looks.{Look}

-- B C D F I J S Z, or L, a class's name and a semicolon
abbrev pub IsElementType : List ℕ → ElementType → Type 0
IsElementType text Byte = text ≡ 66 ∷ []
IsElementType text Char = text ≡ 67 ∷ []
IsElementType text Double = text ≡ 68 ∷ []
IsElementType text Float = text ≡ 70 ∷ []
IsElementType text Int = text ≡ 73 ∷ []
IsElementType text Long = text ≡ 74 ∷ []
IsElementType text Short = text ≡ 83 ∷ []
IsElementType text Boolean = text ≡ 90 ∷ []
IsElementType text (Class name) = (is_class_name name ≡ true) × (text ≡ 76 ∷ name ++ 59 ∷ [])

-- a bracket a dimension, 255 at most, and an element
pub record IsFieldType (text : List ℕ) (type : FieldType) : Type 0 where
  pub element : List ℕ
  pub spelled : text ≡ replicate type.dimensions 91 ++ element
  pub few : type.dimensions ≤ 255
  pub is : IsElementType element type.element

-- field types, one after the other
abbrev pub AreFieldTypes : List ℕ → List FieldType → Type 0
AreFieldTypes text [] = text ≡ []
AreFieldTypes text (type ∷ types) = (front : List ℕ) × (rest : List ℕ) × (text ≡ front ++ rest) × IsFieldType front type × AreFieldTypes rest types

-- V, or a field type
abbrev pub IsResultType : List ℕ → Option FieldType → Type 0
IsResultType text None = text ≡ 86 ∷ []
IsResultType text (Some type) = IsFieldType text type

-- parameters in parentheses, and a result
pub record IsMethodType (text : List ℕ) (type : MethodDescriptor) : Type 0 where
  pub parameters : List ℕ
  pub result : List ℕ
  pub spelled : text ≡ 40 ∷ (parameters ++ (41 ∷ result))
  pub are : AreFieldTypes parameters type.parameters
  pub is : IsResultType result type.result

-- a text is a descriptor
abbrev pub IsDescriptor : List ℕ → Descriptor → Type 0
IsDescriptor text (Field type) = IsFieldType text type
IsDescriptor text (Method type) = IsMethodType text type

-- what a text spells; if it spells nothing, the fault is at the position at which the text is used
abbrev pub spelling : {A : Type 0} → (List ℕ → A → Type 0) → ℕ → List ℕ → Look A
spelling {A} IsSpelled at text = record {
  Is = IsSpelled text;
  Fails = λ rule position. (rule ≡ rules.Descriptor) × (position ≡ at) × ((x : A) → IsSpelled text x → ⊥);
}
