-- The rules on what an instruction names (JVMS 4.9.1, 5.4.3, 5.4.4, 6.5), apart from how they are looked for: a type for each rule, with a
-- constructor for each way to break it.
use Rattle.std.specs.Prelude.{◌≡◌, ◌≢◌, ℕ, true, false, Option, Some, None, List, [], ◌∷◌, IsTrue, codes, slice_get}
use Rattle.std.specs.Option.{option_map_or}
use Rattle.cf_text.specs.Types.{begins_with}
use Rattle.cf_pool.specs.declared.pool.Entry.{Entry}
use Rattle.cf_pool.specs.declared.pool.MemberKind.TheVariants as kind
use Rattle.cf_pool.specs.Pools.{NamedMember, class_at, integer_at, member_at}
use Rattle.cf_insns.specs.declared.insn.ClassOperation.{ClassOperation}
use Rattle.cf_insns.specs.declared.insn.ClassOperation.TheVariants.{New}
use Rattle.cf_reader.specs.declared.class_file.Field.{Field}
use Rattle.cf_reader.specs.declared.class_file.Method.{Method}
use Rattle.cf_reader.specs.declared.flags.TheConstants.Flags.{ABSTRACT, FINAL, INTERFACE, PRIVATE, STATIC}
use Rattle.cls_set.specs.declared.class.Class.{Class}
use Rattle.cls_set.specs.Classes.{number_of}
use Rattle.cls_set.specs.Rules.{Has}
use Rattle.space_ids.specs.declared.ids.ClassId.{ClassId}
use Rattle.cls_resolve.specs.declared.rule.LinkRule.{LinkRule}
use Rattle.cls_resolve.specs.declared.rule.LinkRule.TheVariants as rule
use Rattle.cls_search.specs.declared.fields.FieldIndex.{FieldIndex}
use Rattle.cls_search.specs.declared.methods.MethodIndex.{MethodIndex}
use Rattle.cls_resolve.specs.declared.references.Asked.{Asked}
use Rattle.cls_resolve.specs.declared.references.Asked.TheVariants as asked
use Rattle.cls_resolve.specs.declared.references.MemberOperation.{MemberOperation}
use Rattle.cls_resolve.specs.declared.references.MemberOperation.TheVariants.{InvokeSpecial, InvokeVirtual, PutField}
use Rattle.cls_resolve.specs.Access.{flags_of, IsAccessible, IsMemberAccessible}
use Rattle.cls_search.specs.FieldSearches.{field_at, ResolvesField}
use Rattle.cls_resolve.specs.References.{kind_taken, takes_static}
use Rattle.cls_search.specs.MethodSearches.{is_initializer, method_in, own_method, Resolves}

-- ---- the site of an instruction, and what it names

-- an instruction that names something: the class and the method whose code has it, what it asks, and of which index of the constant pool
pub record Site : Type 0 where
  pub class : ClassId
  pub method : Method
  pub asked : Asked
  pub index : ℕ

-- the constant pool of a class
abbrev pub pool_of : List Class → ClassId → List Entry
pool_of classes class = option_map_or (λ (c : Class). c.file.pool) (slice_get classes class.0) []

-- the text of a Class entry is the descriptor of an array
abbrev pub IsArray : List ℕ → Type 0
IsArray text = IsTrue (begins_with 91 text)

-- it asks for a class, and its index names an entry of this text
pub record NamesText (classes : List Class) (site : Site) (operation : ClassOperation) (text : List ℕ) : Type 0 where
  pub asks : site.asked ≡ asked.Class operation
  pub names : class_at (pool_of classes site.class) site.index ≡ Some text

-- the entry is that of a class of the set
pub record NamesClass (classes : List Class) (site : Site) (operation : ClassOperation) (class : ClassId) : Type 0 where
  pub text : List ℕ
  pub names : NamesText classes site operation text
  pub plain : ¬ IsArray text
  pub number : number_of classes text ≡ Some class

-- it asks for a member, and its index names a member entry
pub record NamesMember (classes : List Class) (site : Site) (operation : MemberOperation) (named : NamedMember) : Type 0 where
  pub asks : site.asked ≡ asked.Member operation
  pub names : member_at (pool_of classes site.class) site.index ≡ Some named

-- the class of the entry is one of the set
pub record NamesMemberOf (classes : List Class) (site : Site) (operation : MemberOperation) (named : NamedMember) (class : ClassId) : Type 0 where
  pub names : NamesMember classes site operation named
  pub number : number_of classes named.class ≡ Some class

-- the entry means a field, or a method, that this class declares with these flags
pub data Means (classes : List Class) (named : NamedMember) (class owner : ClassId) (flags : ℕ) : Type 0 where
  field : (index : FieldIndex) (f : Field) → named.kind ≡ kind.Field → ResolvesField classes class named.name named.descriptor (Some index)
      → field_at classes index ≡ Some f → index.class ≡ owner → f.flags.bits ≡ flags → Means classes named class owner flags
  method : (index : MethodIndex) (m : Method) → named.kind ≢ kind.Field
      → Resolves classes class named.name (own_method classes named.name named.descriptor) (Some index)
      → method_in classes index ≡ Some m → index.class ≡ owner → m.flags.bits ≡ flags → Means classes named class owner flags

-- what it names means a member, which this class declares with these flags
pub record MeansMember (classes : List Class) (site : Site) (operation : MemberOperation) (owner : ClassId) (flags : ℕ) : Type 0 where
  pub named : NamedMember
  pub class : ClassId
  pub names : NamesMemberOf classes site operation named class
  pub means : Means classes named class owner flags

-- ---- the rules

-- 'AbsentClass': the named class is not in the set (JVMS 5.4.3.1)
pub data NamesAbsentClass (classes : List Class) (site : Site) : Type 0 where
  class : (operation : ClassOperation) (text : List ℕ) → NamesText classes site operation text → ¬ IsArray text → number_of classes text ≡ None → NamesAbsentClass classes site
  owner : (operation : MemberOperation) (named : NamedMember) → NamesMember classes site operation named → ¬ IsArray named.class → number_of classes named.class ≡ None
      → NamesAbsentClass classes site

-- 'WrongRefKind': the index names no entry of a kind that the instruction takes (JVMS 4.9.1, 6.5)
pub data NamesWrongKind (classes : List Class) (site : Site) : Type 0 where
  no_int : site.asked ≡ asked.Constant → integer_at (pool_of classes site.class) site.index ≡ None → NamesWrongKind classes site
  no_class : (operation : ClassOperation) → site.asked ≡ asked.Class operation → class_at (pool_of classes site.class) site.index ≡ None → NamesWrongKind classes site
  no_member : (operation : MemberOperation) → site.asked ≡ asked.Member operation → member_at (pool_of classes site.class) site.index ≡ None → NamesWrongKind classes site
  other_member : (operation : MemberOperation) (named : NamedMember) → NamesMember classes site operation named → named.kind ≢ kind_taken operation → NamesWrongKind classes site
  -- arrays: there are those of int alone, and they have no members that code names (a rule of this project)
  new_array : (text : List ℕ) → NamesText classes site New text → IsArray text → NamesWrongKind classes site
  other_array : (operation : ClassOperation) (text : List ℕ) → NamesText classes site operation text → IsArray text → text ≢ codes "[I" → NamesWrongKind classes site
  array_owner : (operation : MemberOperation) (named : NamedMember) → NamesMember classes site operation named → IsArray named.class → NamesWrongKind classes site
  -- an interface's method is named by an InterfaceMethodref, and a class's by a Methodref (JVMS 4.4.2)
  method_of_interface : (operation : MemberOperation) (named : NamedMember) (class : ClassId) → NamesMemberOf classes site operation named class → named.kind ≡ kind.Method
      → Has (flags_of classes class) INTERFACE → NamesWrongKind classes site
  interface_method_of_class : (operation : MemberOperation) (named : NamedMember) (class : ClassId) → NamesMemberOf classes site operation named class
      → named.kind ≡ kind.InterfaceMethod → ¬ Has (flags_of classes class) INTERFACE → NamesWrongKind classes site
  -- only invokespecial calls `<init>` (JVMS 4.9.2)
  called_initializer : (operation : MemberOperation) (named : NamedMember) → NamesMember classes site operation named → named.kind ≢ kind.Field
      → IsTrue (is_initializer named.name) → operation ≢ InvokeSpecial → NamesWrongKind classes site

-- 'Access': the named class may not be used (JVMS 5.4.4)
pub data NamesHiddenClass (classes : List Class) (site : Site) : Type 0 where
  class : (operation : ClassOperation) (class : ClassId) → NamesClass classes site operation class → ¬ IsAccessible classes site.class class → NamesHiddenClass classes site
  owner : (operation : MemberOperation) (named : NamedMember) (class : ClassId) → NamesMemberOf classes site operation named class → ¬ IsAccessible classes site.class class
      → NamesHiddenClass classes site

-- 'Abstract': `new` of an abstract class or of an interface (JVMS 6.5)
pub data MakesAbstract (classes : List Class) (site : Site) : Type 0 where
  abstract_class : (class : ClassId) → NamesClass classes site New class → Has (flags_of classes class) ABSTRACT → MakesAbstract classes site
  interface : (class : ClassId) → NamesClass classes site New class → Has (flags_of classes class) INTERFACE → MakesAbstract classes site

-- 'AbsentField': no field is meant (JVMS 5.4.3.2)
pub data MeansNoField (classes : List Class) (site : Site) : Type 0 where
  absent : (operation : MemberOperation) (named : NamedMember) (class : ClassId) → NamesMemberOf classes site operation named class → named.kind ≡ kind.Field
      → ResolvesField classes class named.name named.descriptor None → MeansNoField classes site

-- 'AbsentMethod': no method is meant (JVMS 5.4.3.3, 5.4.3.4)
pub data MeansNoMethod (classes : List Class) (site : Site) : Type 0 where
  absent : (operation : MemberOperation) (named : NamedMember) (class : ClassId) → NamesMemberOf classes site operation named class → named.kind ≢ kind.Field
      → Resolves classes class named.name (own_method classes named.name named.descriptor) None → MeansNoMethod classes site

-- 'Access': the member that is meant may not be used (JVMS 5.4.4)
pub data MeansHidden (classes : List Class) (site : Site) : Type 0 where
  hidden : (operation : MemberOperation) (owner : ClassId) (flags : ℕ) → MeansMember classes site operation owner flags
      → ¬ IsMemberAccessible classes site.class owner flags → MeansHidden classes site

-- 'StaticMismatch': a static member where one of instances is taken, or the other way round (JVMS 6.5)
pub data MeansMismatch (classes : List Class) (site : Site) : Type 0 where
  of_instances : (operation : MemberOperation) (owner : ClassId) (flags : ℕ) → MeansMember classes site operation owner flags → takes_static operation ≡ true
      → ¬ Has flags STATIC → MeansMismatch classes site
  static : (operation : MemberOperation) (owner : ClassId) (flags : ℕ) → MeansMember classes site operation owner flags → takes_static operation ≡ false
      → Has flags STATIC → MeansMismatch classes site

-- 'FinalField': a final field is written in another class, or outside an `<init>` (JVMS 6.5)
pub data WritesFinal (classes : List Class) (site : Site) : Type 0 where
  of_other : (owner : ClassId) (flags : ℕ) → MeansMember classes site PutField owner flags → Has flags FINAL → site.class ≢ owner → WritesFinal classes site
  outside : (owner : ClassId) (flags : ℕ) → MeansMember classes site PutField owner flags → Has flags FINAL → ¬ IsTrue (is_initializer site.method.name) → WritesFinal classes site

-- 'PrivateVirtual': invokevirtual of a private method (a rule of this project)
pub data CallsPrivate (classes : List Class) (site : Site) : Type 0 where
  private : (owner : ClassId) (flags : ℕ) → MeansMember classes site InvokeVirtual owner flags → Has flags PRIVATE → CallsPrivate classes site

-- ---- which rule counts

-- the rules in turn: that on access counts twice
pub data Check : Type 0 where
  absent_class : Check
  wrong_kind : Check
  hidden_class : Check
  abstract : Check
  absent_field : Check
  absent_method : Check
  hidden_member : Check
  static_mismatch : Check
  final_field : Check
  private_virtual : Check

-- the order in which they are looked for at one instruction (a rule of this project)
abbrev pub order : List Check
order =
    Check.absent_class ∷ Check.wrong_kind ∷ Check.hidden_class ∷ Check.abstract ∷ Check.absent_field ∷ Check.absent_method ∷ Check.hidden_member ∷ Check.static_mismatch
    ∷ Check.final_field ∷ Check.private_virtual ∷ []

-- the rule that a check is of
abbrev pub rule_of : Check → LinkRule
rule_of Check.absent_class = rule.AbsentClass
rule_of Check.wrong_kind = rule.WrongRefKind
rule_of Check.hidden_class = rule.Access
rule_of Check.abstract = rule.Abstract
rule_of Check.absent_field = rule.AbsentField
rule_of Check.absent_method = rule.AbsentMethod
rule_of Check.hidden_member = rule.Access
rule_of Check.static_mismatch = rule.StaticMismatch
rule_of Check.final_field = rule.FinalField
rule_of Check.private_virtual = rule.PrivateVirtual

-- an instruction breaks the rule of a check
abbrev pub Breaks : List Class → Site → Check → Type 0
Breaks classes site Check.absent_class = NamesAbsentClass classes site
Breaks classes site Check.wrong_kind = NamesWrongKind classes site
Breaks classes site Check.hidden_class = NamesHiddenClass classes site
Breaks classes site Check.abstract = MakesAbstract classes site
Breaks classes site Check.absent_field = MeansNoField classes site
Breaks classes site Check.absent_method = MeansNoMethod classes site
Breaks classes site Check.hidden_member = MeansHidden classes site
Breaks classes site Check.static_mismatch = MeansMismatch classes site
Breaks classes site Check.final_field = WritesFinal classes site
Breaks classes site Check.private_virtual = CallsPrivate classes site

-- an instruction breaks no rule
abbrev pub IsSound : List Class → Site → Type 0
IsSound classes site = (check : Check) → ¬ Breaks classes site check

-- the rule of the first of these checks that an instruction breaks, and none if it breaks none
pub data IsFirstBroken (classes : List Class) (site : Site) : List Check → Option LinkRule → Type 0 where
  nothing : IsFirstBroken classes site [] None
  here : (check : Check) (rest : List Check) → Breaks classes site check → IsFirstBroken classes site (check ∷ rest) (Some (rule_of check))
  further : (check : Check) (rest : List Check) (answer : Option LinkRule) → ¬ Breaks classes site check → IsFirstBroken classes site rest answer
      → IsFirstBroken classes site (check ∷ rest) answer
