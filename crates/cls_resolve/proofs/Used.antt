-- What entries of a constant pool mean, and the instructions that use it.
use Rattle.std.proofs.Common.{◌≡◌, ◌≢◌, ◌<◌, ℕ, Bool, true, false, not, Option, Some, None, List, length, refl, sym, subst, ap, ◌∙◌}
use Rattle.std.specs.Prelude.{◌↔◌, IfNone, IfSome, IsTrue, MatchOption}
use Rattle.cf_insns.specs.declared.insn.FieldOperation.{FieldOperation}
use Rattle.cf_insns.specs.declared.insn.FieldOperation.TheVariants as field
use Rattle.cf_insns.specs.declared.insn.InvokeKind.{InvokeKind}
use Rattle.cf_insns.specs.declared.insn.InvokeKind.TheVariants as invoke
use Rattle.cf_pool.specs.declared.pool.MemberKind.{MemberKind}
use Rattle.cf_pool.specs.declared.pool.MemberKind.TheVariants as kind
use Rattle.cf_pool.specs.Pools.{NamedMember}
use Rattle.cf_reader.specs.declared.class_file.Field.{Field}
use Rattle.cf_reader.specs.declared.class_file.Method.{Method}
use Rattle.cls_set.specs.declared.class.Class.{Class}
use Rattle.space_ids.specs.declared.ids.ClassId.{ClassId}
use Rattle.cls_search.specs.declared.fields.FieldIndex.{FieldIndex}
use Rattle.cls_search.specs.declared.methods.MethodIndex.{MethodIndex}
use Rattle.cls_search.specs.FieldSearches.{field_at, ResolvesField}
use Rattle.cls_search.specs.MethodSearches.{method_in, own_method, Resolves}
use Rattle.cls_resolve.specs.declared.named.CastType.{CastType}
use Rattle.cls_resolve.specs.declared.named.CastType.TheVariants as cast
use Rattle.cls_resolve.specs.declared.named.MemberIndex.{MemberIndex}
use Rattle.cls_resolve.specs.declared.meanings.Member.{Member}
use Rattle.cls_resolve.specs.declared.meanings.UsedMember.{UsedMember}
use Rattle.cls_resolve.specs.declared.references.MemberOperation.{MemberOperation}
use Rattle.cls_resolve.specs.Access.{IsMemberAccessible}
use Rattle.cls_resolve.specs.Entries as entries
use Rattle.cls_resolve.specs.Entries.{IsMeant, IsMember, IsUsed, MeansNothing}
use Rattle.cls_resolve.specs.LinkRules as rules
use Rattle.cls_resolve.specs.LinkRules.{Means}
use Rattle.cls_resolve.specs.Meanings as meanings
use Rattle.cls_resolve.specs.Meanings.{field_of, method_of, IsClassAt, IsFieldAt, IsMethodAt, IsTypeAt}
use Rattle.cls_resolve.specs.References.{field_operation, invoke_operation, kind_taken}

false_true : false ≡ true → ⊥
false_true e = cc

true_false : true ≡ false → ⊥
true_false e = cc

-- a flag that is tested the other way round
pub granted : (b : Bool) → not b ≡ false → b ≡ true
granted true e = refl
granted false e = absurd (true_false e)

pub refused : (b : Bool) → not b ≡ true → b ≡ true → ⊥
refused true e h = false_true e
refused false e h = false_true h

-- ---- members that are found

module _ (classes : List Class) (user class : ClassId) (k : MemberKind) (name descriptor : List ℕ) where
  abbrev entry_of : List ℕ → NamedMember
  entry_of text = record { kind = k; class = text; name = name; descriptor = descriptor }

  pub field_member : (id : FieldIndex) (f : Field) (m : Member) → k ≡ kind.Field → ResolvesField classes class name descriptor (Some id) → field_at classes id ≡ Some f → id.class.0 < length classes → m.index ≡ record { class = id.class; index = id.index } → m.flags ≡ f.flags → IsTrue m.is_accessible ↔ IsMemberAccessible classes user id.class f.flags.bits → (text : List ℕ) → IsMember classes user (entry_of text) class m
  field_member id f m of_field found declared in_set at flags may text =
      let e : field_of m.index ≡ id = ap field_of at in
      record {
        meant = entries.IsMeant.field f of_field (subst (λ p. ResolvesField classes class name descriptor (Some p)) (sym e) found) (ap (field_at classes) e ∙ declared) (ap (λ x. x.bits) (sym flags));
        in_set = subst (λ (i : MemberIndex). i.class.0 < length classes) (sym at) in_set;
        accessible =
            subst (λ (i : MemberIndex). IsTrue m.is_accessible ↔ IsMemberAccessible classes user i.class m.flags.bits) (sym at)
            (subst (λ x. IsTrue m.is_accessible ↔ IsMemberAccessible classes user id.class x.bits) (sym flags) may);
      }

  pub method_member : (id : MethodIndex) (d : Method) (m : Member) → k ≢ kind.Field → Resolves classes class name (own_method classes name descriptor) (Some id) → method_in classes id ≡ Some d → id.class.0 < length classes → m.index ≡ record { class = id.class; index = id.index } → m.flags ≡ d.flags → IsTrue m.is_accessible ↔ IsMemberAccessible classes user id.class d.flags.bits → (text : List ℕ) → IsMember classes user (entry_of text) class m
  method_member id d m no_field found declared in_set at flags may text =
      let e : method_of m.index ≡ id = ap method_of at in
      record {
        meant = entries.IsMeant.method d no_field (subst (λ p. Resolves classes class name (own_method classes name descriptor) (Some p)) (sym e) found) (ap (method_in classes) e ∙ declared) (ap (λ x. x.bits) (sym flags));
        in_set = subst (λ (i : MemberIndex). i.class.0 < length classes) (sym at) in_set;
        accessible =
            subst (λ (i : MemberIndex). IsTrue m.is_accessible ↔ IsMemberAccessible classes user i.class m.flags.bits) (sym at)
            (subst (λ x. IsTrue m.is_accessible ↔ IsMemberAccessible classes user id.class x.bits) (sym flags) may);
      }

  found_or_not : (o : Option Member) → IfSome o (λ m. (text : List ℕ) → IsMember classes user (entry_of text) class m) → IfNone o ((text : List ℕ) → MeansNothing classes (entry_of text) class) → (text : List ℕ) → MatchOption o (MeansNothing classes (entry_of text) class) (IsMember classes user (entry_of text) class)
  found_or_not None found absent text = absent text
  found_or_not (Some m) found absent text = found text

-- the same, if the name and the descriptor are read from the entry
pub member_of_entry : (classes : List Class) (user class : ClassId) (named : NamedMember) (n d : List ℕ) → n ≡ named.name → d ≡ named.descriptor → (o : Option Member) → IfSome o (λ m. (text : List ℕ) → IsMember classes user (record { kind = named.kind; class = text; name = n; descriptor = d }) class m) → IfNone o ((text : List ℕ) → MeansNothing classes (record { kind = named.kind; class = text; name = n; descriptor = d }) class) → MatchOption o (MeansNothing classes named class) (IsMember classes user named class)
member_of_entry classes user class named n d e f o found absent =
    subst (λ x. MatchOption o (MeansNothing classes (record { kind = named.kind; class = named.class; name = x; descriptor = named.descriptor }) class) (IsMember classes user (record { kind = named.kind; class = named.class; name = x; descriptor = named.descriptor }) class)) e
    (subst (λ y. MatchOption o (MeansNothing classes (record { kind = named.kind; class = named.class; name = n; descriptor = y }) class) (IsMember classes user (record { kind = named.kind; class = named.class; name = n; descriptor = y }) class)) f
    (found_or_not classes user class named.kind n d o found absent named.class))

pub means_of : (classes : List Class) (named : NamedMember) (class : ClassId) (member : MemberIndex) (flags : ℕ) → IsMeant classes named class member flags → Means classes named class member.class flags
means_of classes named class member flags (entries.IsMeant.field f k r d fl) = rules.Means.field (field_of member) f k r d refl fl
means_of classes named class member flags (entries.IsMeant.method m k r d fl) = rules.Means.method (method_of member) m k r d refl fl

-- ---- what is used

field_kind : (o : FieldOperation) → kind_taken (field_operation o) ≡ kind.Field
field_kind field.GetStatic = refl
field_kind field.GetField = refl
field_kind field.PutField = refl

invoke_kind : (how : InvokeKind) → kind_taken (invoke_operation how) ≡ kind.Method
invoke_kind invoke.Virtual = refl
invoke_kind invoke.Special = refl
invoke_kind invoke.Static = refl

method_field : kind.Method ≡ kind.Field → ⊥
method_field e = cc

interface_field : kind.InterfaceMethod ≡ kind.Field → ⊥
interface_field e = cc

module _ (classes : List Class) (user : ClassId) (index : ℕ) where
  field_in : (used : UsedMember) (named : NamedMember) (flags : ℕ) → IsMeant classes named used.class used.member flags → named.kind ≡ kind.Field → (f : Field) × (ResolvesField classes used.class named.name named.descriptor (Some (field_of used.member)) × (field_at classes (field_of used.member) ≡ Some f))
  field_in used named flags (entries.IsMeant.field f k r d fl) e = (f, (r, d))
  field_in used named flags (entries.IsMeant.method m k r d fl) e = absurd (k e)

  method_used_in : (used : UsedMember) (named : NamedMember) (flags : ℕ) → IsMeant classes named used.class used.member flags → named.kind ≢ kind.Field → (m : Method) × (Resolves classes used.class named.name (own_method classes named.name named.descriptor) (Some (method_of used.member)) × (method_in classes (method_of used.member) ≡ Some m))
  method_used_in used named flags (entries.IsMeant.field f k r d fl) e = absurd (e k)
  method_used_in used named flags (entries.IsMeant.method m k r d fl) e = (m, (r, d))

  -- the field that an instruction on a field uses
  pub field_used : (o : FieldOperation) (used : UsedMember) → IsUsed classes user (field_operation o) index used → (f : Field) × IsFieldAt classes user index used.class used.member f
  field_used o used u =
      let k = u.of_kind ∙ field_kind o in
      let found = field_in used u.named u.flags u.meant k in
      (found.0, record { named = u.named; entry = u.entry; of_field = k; number = u.number; resolved = found.1.0; declared = found.1.1 })

  -- the method that a call uses
  pub method_used : (operation : MemberOperation) (k : MemberKind) (used : UsedMember) → kind_taken operation ≡ k → (k ≡ kind.Field → ⊥) → IsUsed classes user operation index used → (m : Method) × IsMethodAt classes user index k used.class used.member m
  method_used operation k used taken no_field u =
      let e = u.of_kind ∙ taken in
      let found = method_used_in used u.named u.flags u.meant (λ f. no_field (sym e ∙ f)) in
      (found.0, record { named = u.named; entry = u.entry; of_kind = e; number = u.number; resolved = found.1.0; declared = found.1.1 })

  pub invoked : (how : InvokeKind) (used : UsedMember) → IsUsed classes user (invoke_operation how) index used → (m : Method) × IsMethodAt classes user index kind.Method used.class used.member m
  invoked how used u = method_used (invoke_operation how) kind.Method used (invoke_kind how) method_field u

  pub invoked_interface : (operation : MemberOperation) (used : UsedMember) → kind_taken operation ≡ kind.InterfaceMethod → IsUsed classes user operation index used → (m : Method) × IsMethodAt classes user index kind.InterfaceMethod used.class used.member m
  invoked_interface operation used taken u = method_used operation kind.InterfaceMethod used taken interface_field u

  same_class : {c d : ClassId} → cast.Class c ≡ cast.Class d → c ≡ d
  same_class e = cc

  no_class : {c : ClassId} → cast.IntArray ≡ cast.Class c → ⊥
  no_class e = cc

  -- the class that an instruction names
  pub class_named : (type : CastType) (class : ClassId) → IsTypeAt classes user index type → type ≡ cast.Class class → IsClassAt classes user index class
  class_named type class (meanings.IsTypeAt.class c at plain) e = subst (IsClassAt classes user index) (same_class e) at
  class_named type class (meanings.IsTypeAt.int_array at) e = absurd (no_class e)
