-- What the method that an instruction names is: declared by a class, static or not, and an `<init>` or none.
use Rattle.std.proofs.Common.{◌≡◌, ◌≢◌, ℕ, Bool, true, false, not, List, refl, sym, ap, ◌∙◌, Option, Some}
use Rattle.std.specs.Prelude.{◌==◌, bit_and, bytes_eq, codes, slice_get}
use Rattle.std.proofs.lemmas.Bool.{eqb-true}
use Rattle.cf_pool.specs.declared.pool.MemberKind.{MemberKind}
use Rattle.cf_pool.specs.declared.pool.MemberKind.TheVariants as kind
use Rattle.cf_reader.specs.declared.class_file.Method.{Method}
use Rattle.cls_resolve.specs.LinkRules as rules
use Rattle.cls_resolve.specs.LinkRules.{Check, IsSound}
use Rattle.cls_resolve.specs.Meanings.{IsMethodAt, method_of}
use Rattle.cls_resolve.specs.References.{takes_static}
use Rattle.cls_resolve.specs.declared.named.MemberIndex.{MemberIndex}
use Rattle.cls_resolve.specs.declared.references.Asked.TheVariants as asked
use Rattle.cls_resolve.specs.declared.references.MemberOperation.{MemberOperation}
use Rattle.cls_resolve.specs.declared.references.MemberOperation.TheVariants as operations
use Rattle.cls_search.specs.MethodSearches.{is_initializer, own_method}
use Rattle.cls_search.specs.declared.methods.MethodIndex.{MethodIndex}
use Rattle.cls_set.proofs.Hierarchy.{by_contradiction, by_contradiction_false, same_some, true_false}
use Rattle.cls_set.specs.declared.class.Class.{Class}
use Rattle.space_ids.specs.declared.ids.ClassId.{ClassId}
use Rattle.ver_frames.specs.Method.{is_static}
use Rattle.vm_code.specs.Methods.{is_init}
use Rattle.vm_laws.proofs.Subjects.{passes_both}
use Rattle.vm_laws.proofs.Declared.{own_is}
use Rattle.vm_laws.proofs.Searches.{init_own, resolved_own}

zero_is : (n : ℕ) → not (n == 0) ≡ false → n ≡ 0
zero_is n e = on (n == 0) refl e
  where
    on : (b : Bool) → (n == 0) ≡ b → not b ≡ false → n ≡ 0
    on true is e = eqb-true n 0 is
    on false is e = absurd (true_false e)

module _ (classes : List Class) (user : ClassId) (method : Method) (operation : MemberOperation) (index : ℕ) (k : MemberKind) (class : ClassId) (member : MemberIndex) (m : Method)
    (of_method : k ≢ kind.Field) (sound : IsSound classes (record { class = user; method = method; asked = asked.Member operation; index = index }))
    (at : IsMethodAt classes user index k class member m) where
  abbrev own : ClassId → Option MethodIndex
  own = own_method classes at.named.name at.named.descriptor

  not_field : at.named.kind ≢ kind.Field
  not_field e = of_method (sym at.of_kind ∙ e)

  -- it has the name that the instruction gives
  same_name : m.name ≡ at.named.name
  same_name =
      let found = resolved_own classes class at.named.name own at.resolved (method_of member) refl in
      let o = own_is classes found.0 at.named.name at.named.descriptor (method_of member) found.1 in
      let c = passes_both (slice_get classes member.class.0) _ m at.declared in
      let there : slice_get classes member.class.0 ≡ Some o.c = ap (λ (c : ClassId). slice_get classes c.0) o.same ∙ o.at in
      let one : c.0 ≡ o.c = same_some (sym c.1.0 ∙ there) in
      let same : m ≡ o.method = same_some (sym c.1.1 ∙ (ap (λ (c : Class). slice_get c.file.methods member.index) one ∙ o.there)) in
      ap (λ (m : Method). m.name) same ∙ o.name

  init_named : is_init m ≡ is_initializer at.named.name
  init_named = ap (λ (name : List ℕ). bytes_eq name (codes "<init>")) same_name

  names : rules.NamesMemberOf classes (record { class = user; method = method; asked = asked.Member operation; index = index }) operation at.named class
  names = record { names = record { asks = refl; names = at.entry }; number = at.number }

  means : rules.MeansMember classes (record { class = user; method = method; asked = asked.Member operation; index = index }) operation member.class m.flags.bits
  means = record { named = at.named; class = class; names = names; means = rules.Means.method (method_of member) m not_field at.resolved at.declared refl refl }

  -- an `<init>` is called by invokespecial alone
  pub no_init : operation ≢ operations.InvokeSpecial → is_init m ≡ false
  no_init other =
      by_contradiction_false (is_init m) (λ init. sound Check.wrong_kind (rules.NamesWrongKind.called_initializer operation at.named names.names not_field (sym init_named ∙ init) other))

  -- the `<init>` that is named is the class's own
  pub init_class : is_init m ≡ true → member.class ≡ class
  init_class init =
      let same : Some (method_of member) ≡ own class = init_own classes class at.named.name own at.resolved (sym init_named ∙ init) in
      (own_is classes class at.named.name at.named.descriptor (method_of member) (sym same)).same

  pub static_named : takes_static operation ≡ true → is_static m ≡ true
  static_named of =
      by_contradiction (is_static m) (λ other. sound Check.static_mismatch (rules.MeansMismatch.of_instances operation member.class m.flags.bits means of (λ has. has (zero_is (bit_and m.flags.bits 8) other))))
