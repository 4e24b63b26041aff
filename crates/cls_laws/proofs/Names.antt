-- What an instruction names is one.
use Rattle.std.proofs.Common.{◌≡◌, ℕ, ℤ, Some, None, List, refl, sym, subst, ap, ◌∙◌}
use Rattle.std.specs.Prelude.{codes}
use Rattle.cf_insns.specs.declared.insn.ClassOperation.TheVariants as operation
use Rattle.cf_insns.specs.declared.insn.FieldOperation.TheVariants as field
use Rattle.cf_insns.specs.declared.insn.Insn.{Insn}
use Rattle.cf_insns.specs.declared.insn.Insn.TheVariants as read
use Rattle.cf_pool.specs.declared.pool.MemberKind.{MemberKind}
use Rattle.cf_pool.specs.declared.pool.MemberKind.TheVariants as kind
use Rattle.cf_pool.specs.Pools.{NamedMember, class_at, integer_at}
use Rattle.cf_reader.specs.declared.class_file.Field.{Field}
use Rattle.cf_reader.specs.declared.class_file.Method.{Method}
use Rattle.cls_set.specs.declared.class.Class.{Class}
use Rattle.cls_set.specs.Classes.{number_of}
use Rattle.space_ids.specs.declared.ids.ClassId.{ClassId}
use Rattle.cls_search.specs.declared.fields.FieldIndex.{FieldIndex}
use Rattle.cls_search.specs.declared.methods.MethodIndex.{MethodIndex}
use Rattle.cls_search.specs.FieldSearches.{ResolvesField, field_at, own_field}
use Rattle.cls_search.specs.MethodSearches.{Resolves, method_in, own_method}
use Rattle.cls_search.specs.Searches.{supertypes_of}
use Rattle.cls_resolve.specs.declared.named.CastType.{CastType}
use Rattle.cls_resolve.specs.declared.named.CastType.TheVariants as cast
use Rattle.cls_resolve.specs.declared.named.MemberIndex.{MemberIndex}
use Rattle.cls_resolve.specs.LinkRules.{IsArray, pool_of}
use Rattle.cls_resolve.specs.Meanings as meanings
use Rattle.cls_resolve.specs.Meanings.{field_of, method_of, static_value, IsClassAt, IsFieldAt, IsMethodAt, IsTypeAt}
use Rattle.cls_resolve.proofs.Unique.{one_found, one_resolved}
use Rattle.cls_link.specs.declared.linked_code.LinkedInsn.{LinkedInsn}
use Rattle.cls_link.specs.declared.linked_code.LinkedInsn.TheVariants as linked
use Rattle.cls_link.specs.LinkedForms as forms
use Rattle.cls_link.specs.LinkedForms.{IsLinkedName}
use Rattle.cls_link.specs.Targets.{linked_insn}

same_some : {X : Type 0} {x y : X} → Some x ≡ Some y → x ≡ y
same_some e = cc

abbrev made : ClassId → ℕ → MemberIndex
made class index = record { class = class; index = index }

same_field : (m n : MemberIndex) → field_of m ≡ field_of n → m ≡ n
same_field m n e = ap (λ (f : FieldIndex). made f.class f.index) e

same_method : (m n : MemberIndex) → method_of m ≡ method_of n → m ≡ n
same_method m n e = ap (λ (f : MethodIndex). made f.class f.index) e

int_array : IsArray (codes "[I")
int_array = refl

module _ (classes : List Class) (user : ClassId) where
  one_class : (index : ℕ) (c d : ClassId) → IsClassAt classes user index c → IsClassAt classes user index d → c ≡ d
  one_class index c d a b =
      let text : a.text ≡ b.text = same_some (sym a.entry ∙ b.entry) in
      same_some (sym a.number ∙ (ap (number_of classes) text ∙ b.number))

  no_array : (index : ℕ) (c : ClassId) (a : IsClassAt classes user index c) → ¬ IsArray a.text → class_at (pool_of classes user) index ≡ Some (codes "[I") → ⊥
  no_array index c a plain e = plain (subst IsArray (same_some (sym e ∙ a.entry)) int_array)

  one_type : (index : ℕ) (t u : CastType) → IsTypeAt classes user index t → IsTypeAt classes user index u → t ≡ u
  one_type index t u (meanings.IsTypeAt.class c a p) (meanings.IsTypeAt.class d b q) = ap (λ x. cast.Class x) (one_class index c d a b)
  one_type index t u (meanings.IsTypeAt.class c a p) (meanings.IsTypeAt.int_array e) = absurd (no_array index c a p e)
  one_type index t u (meanings.IsTypeAt.int_array e) (meanings.IsTypeAt.class d b q) = absurd (no_array index d b q e)
  one_type index t u (meanings.IsTypeAt.int_array e) (meanings.IsTypeAt.int_array f) = refl

  -- the named class, the member and its declaration
  pub record AreSame {A : Type 0} (c d : ClassId) (m n : MemberIndex) (x y : A) : Type 0 where
    pub class : c ≡ d
    pub member : m ≡ n
    pub declared : x ≡ y

  one_field : (index : ℕ) (c d : ClassId) (m n : MemberIndex) (x y : Field) → IsFieldAt classes user index c m x → IsFieldAt classes user index d n y → AreSame c d m n x y
  one_field index c d m n x y a b =
      let named : a.named ≡ b.named = same_some (sym a.entry ∙ b.entry) in
      let class : c ≡ d = same_some (sym a.number ∙ (ap (λ (k : NamedMember). number_of classes k.class) named ∙ b.number)) in
      let resolved =
      subst (λ (k : ClassId). ResolvesField classes k b.named.name b.named.descriptor (Some (field_of m))) class
      (subst (λ (k : NamedMember). ResolvesField classes c k.name k.descriptor (Some (field_of m))) named a.resolved)
      in
      let member : m ≡ n = same_field m n (same_some (one_found (supertypes_of classes) (own_field classes b.named.name b.named.descriptor) resolved b.resolved)) in
      record { class = class; member = member; declared = same_some (sym a.declared ∙ (ap (λ (k : MemberIndex). field_at classes (field_of k)) member ∙ b.declared)) }

  one_method : (kind : MemberKind) (index : ℕ) (c d : ClassId) (m n : MemberIndex) (x y : Method) → IsMethodAt classes user index kind c m x → IsMethodAt classes user index kind d n y → AreSame c d m n x y
  one_method kind index c d m n x y a b =
      let named : a.named ≡ b.named = same_some (sym a.entry ∙ b.entry) in
      let class : c ≡ d = same_some (sym a.number ∙ (ap (λ (k : NamedMember). number_of classes k.class) named ∙ b.number)) in
      let resolved =
      subst (λ (k : ClassId). Resolves classes k b.named.name (own_method classes b.named.name b.named.descriptor) (Some (method_of m))) class
      (subst (λ (k : NamedMember). Resolves classes c k.name (own_method classes k.name k.descriptor) (Some (method_of m))) named a.resolved)
      in
      let member : m ≡ n = same_method m n (same_some (one_resolved classes d b.named.name (own_method classes b.named.name b.named.descriptor) resolved b.resolved)) in
      record { class = class; member = member; declared = same_some (sym a.declared ∙ (ap (λ (k : MemberIndex). method_in classes (method_of k)) member ∙ b.declared)) }

  -- what an instruction names, and what it is linked to
  abbrev pub Names : Insn → LinkedInsn → Type 0
  Names (read.LoadConstant index) l = (value : ℤ) × (integer_at (pool_of classes user) index ≡ Some value) × (l ≡ linked.Constant value)
  Names (read.Field field.GetStatic index) l = (c : ClassId) × (m : MemberIndex) × (f : Field) × IsFieldAt classes user index c m f × (l ≡ linked.Constant (static_value f))
  Names (read.Field field.GetField index) l = (c : ClassId) × (m : MemberIndex) × (f : Field) × IsFieldAt classes user index c m f × (l ≡ linked.GetField c m)
  Names (read.Field field.PutField index) l = (c : ClassId) × (m : MemberIndex) × (f : Field) × IsFieldAt classes user index c m f × (l ≡ linked.PutField c m)
  Names (read.Invoke how index) l = (c : ClassId) × (m : MemberIndex) × (x : Method) × IsMethodAt classes user index kind.Method c m x × (l ≡ linked.Invoke how c m)
  Names (read.InvokeInterface index count) l =
      (c : ClassId) × (m : MemberIndex) × (x : Method) × IsMethodAt classes user index kind.InterfaceMethod c m x × (l ≡ linked.InvokeInterface count c m)
  Names (read.Class operation.New index) l = (c : ClassId) × IsClassAt classes user index c × (l ≡ linked.New c)
  Names (read.Class operation.CheckCast index) l = (t : CastType) × IsTypeAt classes user index t × (l ≡ linked.CheckCast t)
  Names (read.Class operation.InstanceOf index) l = (t : CastType) × IsTypeAt classes user index t × (l ≡ linked.InstanceOf t)
  Names _ l = ⊥

  pub names : (i : Insn) (l : LinkedInsn) → IsLinkedName classes user i l → Names i l
  names i l (forms.IsLinkedName.load_constant index value is) = (value, is, refl)
  names i l (forms.IsLinkedName.get_static index c m f is) = (c, m, f, is, refl)
  names i l (forms.IsLinkedName.get_field index c m f is) = (c, m, f, is, refl)
  names i l (forms.IsLinkedName.put_field index c m f is) = (c, m, f, is, refl)
  names i l (forms.IsLinkedName.invoke how index c m x is) = (c, m, x, is, refl)
  names i l (forms.IsLinkedName.invoke_interface index count c m x is) = (c, m, x, is, refl)
  names i l (forms.IsLinkedName.new index c is) = (c, is, refl)
  names i l (forms.IsLinkedName.check_cast index t is) = (t, is, refl)
  names i l (forms.IsLinkedName.instance_of index t is) = (t, is, refl)

  -- it has no other form
  pub names_nothing_else : (offsets : List ℕ) (at : ℕ) (i : Insn) (l : LinkedInsn) → IsLinkedName classes user i l → linked_insn offsets at i ≡ None
  names_nothing_else offsets at i l (forms.IsLinkedName.load_constant index value is) = refl
  names_nothing_else offsets at i l (forms.IsLinkedName.get_static index c m f is) = refl
  names_nothing_else offsets at i l (forms.IsLinkedName.get_field index c m f is) = refl
  names_nothing_else offsets at i l (forms.IsLinkedName.put_field index c m f is) = refl
  names_nothing_else offsets at i l (forms.IsLinkedName.invoke how index c m x is) = refl
  names_nothing_else offsets at i l (forms.IsLinkedName.invoke_interface index count c m x is) = refl
  names_nothing_else offsets at i l (forms.IsLinkedName.new index c is) = refl
  names_nothing_else offsets at i l (forms.IsLinkedName.check_cast index t is) = refl
  names_nothing_else offsets at i l (forms.IsLinkedName.instance_of index t is) = refl

  pub one_name : (i : Insn) (l k : LinkedInsn) → Names i l → Names i k → l ≡ k
  one_name (read.LoadConstant index) l k (v, a, e) (w, b, f) = e ∙ (ap (λ x. linked.Constant x) (same_some (sym a ∙ b)) ∙ sym f)
  one_name (read.Field field.GetStatic index) l k (c, m, x, a, e) (d, n, y, b, f) =
      let same = one_field index c d m n x y a b in e ∙ (ap (λ z. linked.Constant (static_value z)) same.declared ∙ sym f)
  one_name (read.Field field.GetField index) l k (c, m, x, a, e) (d, n, y, b, f) =
      let same = one_field index c d m n x y a b in e ∙ (ap (λ z. linked.GetField z m) same.class ∙ (ap (λ z. linked.GetField d z) same.member ∙ sym f))
  one_name (read.Field field.PutField index) l k (c, m, x, a, e) (d, n, y, b, f) =
      let same = one_field index c d m n x y a b in e ∙ (ap (λ z. linked.PutField z m) same.class ∙ (ap (λ z. linked.PutField d z) same.member ∙ sym f))
  one_name (read.Invoke how index) l k (c, m, x, a, e) (d, n, y, b, f) =
      let same = one_method kind.Method index c d m n x y a b in e ∙ (ap (λ z. linked.Invoke how z m) same.class ∙ (ap (λ z. linked.Invoke how d z) same.member ∙ sym f))
  one_name (read.InvokeInterface index count) l k (c, m, x, a, e) (d, n, y, b, f) =
      let same = one_method kind.InterfaceMethod index c d m n x y a b in
      e ∙ (ap (λ z. linked.InvokeInterface count z m) same.class ∙ (ap (λ z. linked.InvokeInterface count d z) same.member ∙ sym f))
  one_name (read.Class operation.New index) l k (c, a, e) (d, b, f) = e ∙ (ap (λ z. linked.New z) (one_class index c d a b) ∙ sym f)
  one_name (read.Class operation.CheckCast index) l k (t, a, e) (u, b, f) = e ∙ (ap (λ z. linked.CheckCast z) (one_type index t u a b) ∙ sym f)
  one_name (read.Class operation.InstanceOf index) l k (t, a, e) (u, b, f) = e ∙ (ap (λ z. linked.InstanceOf z) (one_type index t u a b) ∙ sym f)
  one_name _ l k a b = absurd a
