-- What is kept of an entry of the constant pool of a class, for all the instructions that name it: an entry is resolved once
-- (JVMS 5.4.3).
use Rattle.std.specs.Prelude.{◌≡◌, ◌≢◌, ◌↔◌, ◌<◌, ℕ, Option, Some, None, List, Bool, IsTrue, MatchOption, codes, length, slice_get}
use Rattle.cf_pool.specs.declared.pool.MemberKind.TheVariants as kind
use Rattle.cf_pool.specs.Pools.{NamedMember, class_at, member_at}
use Rattle.cf_reader.specs.declared.class_file.Field.{Field}
use Rattle.cf_reader.specs.declared.class_file.Method.{Method}
use Rattle.cls_set.specs.declared.class.Class.{Class}
use Rattle.cls_set.specs.Classes.{number_of}
use Rattle.space_ids.specs.declared.ids.ClassId.{ClassId}
use Rattle.cls_search.specs.FieldSearches.{field_at, ResolvesField}
use Rattle.cls_search.specs.MethodSearches.{is_initializer, method_in, own_method, Resolves}
use Rattle.cls_resolve.specs.declared.known.EntryMeaning.{EntryMeaning}
use Rattle.cls_resolve.specs.declared.known.EntryMeaning.TheVariants as entries
use Rattle.cls_resolve.specs.declared.known.KnownEntry.{KnownEntry}
use Rattle.cls_resolve.specs.declared.named.MemberIndex.{MemberIndex}
use Rattle.cls_resolve.specs.declared.meanings.ClassMeaning.{ClassMeaning}
use Rattle.cls_resolve.specs.declared.meanings.ClassMeaning.TheVariants as meaning
use Rattle.cls_resolve.specs.declared.meanings.Member.{Member}
use Rattle.cls_resolve.specs.declared.meanings.MemberEntry.{MemberEntry}
use Rattle.cls_resolve.specs.declared.meanings.MemberMeaning.{MemberMeaning}
use Rattle.cls_resolve.specs.declared.meanings.MemberMeaning.TheVariants as members
use Rattle.cls_resolve.specs.declared.meanings.UsedMember.{UsedMember}
use Rattle.cls_resolve.specs.declared.references.MemberOperation.{MemberOperation}
use Rattle.cls_resolve.specs.References.{kind_taken}
use Rattle.cls_resolve.specs.Access.{IsAccessible, IsMemberAccessible}
use Rattle.cls_resolve.specs.LinkRules.{pool_of, IsArray}
use Rattle.cls_resolve.specs.Meanings.{field_of, method_of}

-- ---- classes

-- a Class entry of an array, which may be `[I`
pub record IsArrayAt (classes : List Class) (user : ClassId) (index : ℕ) (is_of_ints : Bool) : Type 0 where
  pub text : List ℕ
  pub entry : class_at (pool_of classes user) index ≡ Some text
  pub array : IsArray text
  pub of_ints : IsTrue is_of_ints ↔ (text ≡ codes "[I")

-- a Class entry of a class that is not in the set
pub record IsAbsentAt (classes : List Class) (user : ClassId) (index : ℕ) : Type 0 where
  pub text : List ℕ
  pub entry : class_at (pool_of classes user) index ≡ Some text
  pub plain : ¬ IsArray text
  pub absent : number_of classes text ≡ None

-- a Class entry of a class of the set, and whether the user may use it
pub record IsPresentAt (classes : List Class) (user : ClassId) (index : ℕ) (class : ClassId) (is_accessible : Bool) : Type 0 where
  pub text : List ℕ
  pub entry : class_at (pool_of classes user) index ≡ Some text
  pub plain : ¬ IsArray text
  pub number : number_of classes text ≡ Some class
  pub in_set : class.0 < length classes
  pub accessible : IsTrue is_accessible ↔ IsAccessible classes user class

-- what an index means to an instruction that names a class or an array type
abbrev pub IsClassMeaning : List Class → ClassId → ℕ → ClassMeaning → Type 0
IsClassMeaning classes user index meaning.NoEntry = class_at (pool_of classes user) index ≡ None
IsClassMeaning classes user index (meaning.Array is_of_ints) = IsArrayAt classes user index is_of_ints
IsClassMeaning classes user index meaning.Absent = IsAbsentAt classes user index
IsClassMeaning classes user index (meaning.Class class is_accessible) = IsPresentAt classes user index class is_accessible

-- ---- members

-- a name and a descriptor mean this member in a class
pub data IsMeant (classes : List Class) (named : NamedMember) (class : ClassId) (member : MemberIndex) (flags : ℕ) : Type 0 where
  field : (f : Field) → named.kind ≡ kind.Field → ResolvesField classes class named.name named.descriptor (Some (field_of member))
      → field_at classes (field_of member) ≡ Some f → f.flags.bits ≡ flags → IsMeant classes named class member flags
  method : (m : Method) → named.kind ≢ kind.Field → Resolves classes class named.name (own_method classes named.name named.descriptor) (Some (method_of member))
      → method_in classes (method_of member) ≡ Some m → m.flags.bits ≡ flags → IsMeant classes named class member flags

-- they mean nothing there
pub record MeansNothing (classes : List Class) (named : NamedMember) (class : ClassId) : Type 0 where
  pub no_field : named.kind ≡ kind.Field → ResolvesField classes class named.name named.descriptor None
  pub no_method : named.kind ≢ kind.Field → Resolves classes class named.name (own_method classes named.name named.descriptor) None

-- the member that is meant, its flags, and whether the user may use it
pub record IsMember (classes : List Class) (user : ClassId) (named : NamedMember) (class : ClassId) (member : Member) : Type 0 where
  pub meant : IsMeant classes named class member.index member.flags.bits
  pub in_set : member.index.class.0 < length classes
  pub accessible : IsTrue member.is_accessible ↔ IsMemberAccessible classes user member.index.class member.flags.bits

-- a member entry of an array
pub record IsOfArray (classes : List Class) (user : ClassId) (index : ℕ) : Type 0 where
  pub named : NamedMember
  pub entry : member_at (pool_of classes user) index ≡ Some named
  pub array : IsArray named.class

-- a member entry of a class that is not in the set
pub record IsOfAbsent (classes : List Class) (user : ClassId) (index : ℕ) : Type 0 where
  pub named : NamedMember
  pub entry : member_at (pool_of classes user) index ≡ Some named
  pub plain : ¬ IsArray named.class
  pub absent : number_of classes named.class ≡ None

-- a member entry of a class of the set: whether the user may use it, and the member that is meant
pub record IsMemberEntry (classes : List Class) (user : ClassId) (index : ℕ) (e : MemberEntry) : Type 0 where
  pub named : NamedMember
  pub entry : member_at (pool_of classes user) index ≡ Some named
  pub plain : ¬ IsArray named.class
  pub of_kind : e.kind ≡ named.kind
  pub of_name : e.is_initializer ≡ is_initializer named.name
  pub number : number_of classes named.class ≡ Some e.class
  pub in_set : e.class.0 < length classes
  pub accessible : IsTrue e.is_accessible ↔ IsAccessible classes user e.class
  pub member : MatchOption e.member (MeansNothing classes named e.class) (IsMember classes user named e.class)

-- what an index means to an instruction that names a member
abbrev pub IsMemberMeaning : List Class → ClassId → ℕ → MemberMeaning → Type 0
IsMemberMeaning classes user index members.NoEntry = member_at (pool_of classes user) index ≡ None
IsMemberMeaning classes user index members.OfArray = IsOfArray classes user index
IsMemberMeaning classes user index members.OfAbsent = IsOfAbsent classes user index
IsMemberMeaning classes user index (members.Entry e) = IsMemberEntry classes user index e

-- what an entry means to the instructions that name it
abbrev pub IsEntryMeaning : List Class → ClassId → ℕ → EntryMeaning → Type 0
IsEntryMeaning classes user index (entries.Class m) = IsClassMeaning classes user index m
IsEntryMeaning classes user index (entries.Member e) = IsMemberEntry classes user index e

-- what is kept of entries is what they mean to instructions of the class with which they are kept
pub record AreKnown (classes : List Class) (kept : List (Option KnownEntry)) : Type 0 where
  pub known : (index : ℕ) (k : KnownEntry) → slice_get kept index ≡ Some (Some k) → IsEntryMeaning classes k.user index k.meaning

-- ---- what is used

-- an instruction of this operation names this class of the set and this member
pub record IsUsed (classes : List Class) (user : ClassId) (operation : MemberOperation) (index : ℕ) (used : UsedMember) : Type 0 where
  pub named : NamedMember
  pub flags : ℕ
  pub entry : member_at (pool_of classes user) index ≡ Some named
  pub of_kind : named.kind ≡ kind_taken operation
  pub number : number_of classes named.class ≡ Some used.class
  pub meant : IsMeant classes named used.class used.member flags
