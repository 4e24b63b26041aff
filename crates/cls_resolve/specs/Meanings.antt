-- What an index of the constant pool of a class means in its set (JVMS 5.4.3), for the instructions that name it.
use Rattle.std.specs.Prelude.{◌≡◌, ℕ, ℤ, pos, Some, List, codes}
use Rattle.std.specs.Option.{unwrap_or}
use Rattle.cf_pool.specs.declared.pool.MemberKind.{MemberKind}
use Rattle.cf_pool.specs.declared.pool.MemberKind.TheVariants as kind
use Rattle.cf_pool.specs.Pools.{NamedMember, class_at, member_at}
use Rattle.cf_reader.specs.declared.class_file.Field.{Field}
use Rattle.cf_reader.specs.declared.class_file.Method.{Method}
use Rattle.cls_set.specs.declared.class.Class.{Class}
use Rattle.cls_set.specs.Classes.{number_of}
use Rattle.space_ids.specs.declared.ids.ClassId.{ClassId}
use Rattle.cls_search.specs.declared.fields.FieldIndex.{FieldIndex}
use Rattle.cls_search.specs.declared.methods.MethodIndex.{MethodIndex}
use Rattle.cls_search.specs.FieldSearches.{field_at, ResolvesField}
use Rattle.cls_search.specs.MethodSearches.{method_in, own_method, Resolves}
use Rattle.cls_resolve.specs.declared.named.CastType.{CastType}
use Rattle.cls_resolve.specs.declared.named.CastType.TheVariants as cast
use Rattle.cls_resolve.specs.declared.named.MemberIndex.{MemberIndex}
use Rattle.cls_resolve.specs.LinkRules.{pool_of, IsArray}

-- the field, and the method, of an index
abbrev pub field_of : MemberIndex → FieldIndex
field_of member = record { class = member.class; index = member.index }

abbrev pub method_of : MemberIndex → MethodIndex
method_of member = record { class = member.class; index = member.index }

-- a Class entry, whose text is the name of this class of the set (JVMS 5.4.3.1)
pub record IsClassAt (classes : List Class) (user : ClassId) (index : ℕ) (class : ClassId) : Type 0 where
  pub text : List ℕ
  pub entry : class_at (pool_of classes user) index ≡ Some text
  pub number : number_of classes text ≡ Some class

-- a Class entry, whose text is the name of a class of the set and of no array, or the descriptor `[I`
pub data IsTypeAt (classes : List Class) (user : ClassId) (index : ℕ) : CastType → Type 0 where
  class : (class : ClassId) (at : IsClassAt classes user index class) → ¬ IsArray at.text → IsTypeAt classes user index (cast.Class class)
  int_array : class_at (pool_of classes user) index ≡ Some (codes "[I") → IsTypeAt classes user index cast.IntArray

-- a Fieldref entry of this class of the set, whose name and descriptor mean this field there (JVMS 5.4.3.2)
pub record IsFieldAt (classes : List Class) (user : ClassId) (index : ℕ) (class : ClassId) (member : MemberIndex) (field : Field) : Type 0 where
  pub named : NamedMember
  pub entry : member_at (pool_of classes user) index ≡ Some named
  pub of_field : named.kind ≡ kind.Field
  pub number : number_of classes named.class ≡ Some class
  pub resolved : ResolvesField classes class named.name named.descriptor (Some (field_of member))
  pub declared : field_at classes (field_of member) ≡ Some field

-- a Methodref or InterfaceMethodref entry of this class of the set, whose name and descriptor mean this method there (JVMS 5.4.3.3, 5.4.3.4)
pub record IsMethodAt (classes : List Class) (user : ClassId) (index : ℕ) (kind : MemberKind) (class : ClassId) (member : MemberIndex) (method : Method) : Type 0 where
  pub named : NamedMember
  pub entry : member_at (pool_of classes user) index ≡ Some named
  pub of_kind : named.kind ≡ kind
  pub number : number_of classes named.class ≡ Some class
  pub resolved : Resolves classes class named.name (own_method classes named.name named.descriptor) (Some (method_of member))
  pub declared : method_in classes (method_of member) ≡ Some method

-- The value of a static field, which no instruction of the profile writes: that of its ConstantValue attribute, or else 0, the default value of an
-- int and of a boolean (JVMS 2.3, 4.7.2).
abbrev pub static_value : Field → ℤ
static_value field = unwrap_or field.constant (pos 0)
