-- The rule that an instruction breaks, if it asks for a constant or a class.
use Rattle.std.proofs.Common.{◌≡◌, ◌≢◌, ◌⊎◌, inl, inr, ℕ, ℤ, Some, None, List, [], ◌∷◌, refl, sym, subst, ap, ◌∙◌}
use Rattle.std.specs.Prelude.{codes}
use Rattle.cf_pool.specs.Pools.{class_at, integer_at}
use Rattle.cf_insns.specs.declared.insn.ClassOperation.{ClassOperation}
use Rattle.cf_insns.specs.declared.insn.ClassOperation.TheVariants.{CheckCast, InstanceOf, New}
use Rattle.cf_reader.specs.declared.flags.TheConstants.Flags.{ABSTRACT, INTERFACE}
use Rattle.cls_set.specs.declared.class.Class.{Class}
use Rattle.cls_set.specs.Classes.{number_of}
use Rattle.cls_set.specs.Rules.{Has}
use Rattle.space_ids.specs.declared.ids.ClassId.{ClassId}
use Rattle.cls_resolve.specs.declared.rule.LinkRule.TheVariants as rule
use Rattle.cls_resolve.specs.declared.references.Asked.TheVariants as asked
use Rattle.cls_resolve.specs.declared.references.MemberOperation.{MemberOperation}
use Rattle.cls_resolve.specs.Access.{flags_of, IsAccessible}
use Rattle.cls_resolve.specs.LinkRules as rules
use Rattle.cls_resolve.specs.LinkRules.{Check, IsArray, IsFirstBroken, MakesAbstract, NamesAbsentClass, NamesClass, NamesHiddenClass, NamesMember, NamesText, NamesWrongKind, Site, order, pool_of}

abbrev AsksMember : Site → Type 0
AsksMember site = (o : MemberOperation) × (site.asked ≡ asked.Member o)

-- the checks of members
abbrev of_members : List Check
of_members = rules.Check.absent_field ∷ rules.Check.absent_method ∷ rules.Check.hidden_member ∷ rules.Check.static_mismatch ∷ rules.Check.final_field ∷ rules.Check.private_virtual ∷ []

-- an instruction that asks for no member breaks none of their rules
module _ (classes : List Class) (site : Site) (no : ¬ AsksMember site) where
  no_field : ¬ rules.MeansNoField classes site
  no_field (rules.MeansNoField.absent o named class names k r) = no (o, names.names.asks)

  no_method : ¬ rules.MeansNoMethod classes site
  no_method (rules.MeansNoMethod.absent o named class names k r) = no (o, names.names.asks)

  no_hidden : ¬ rules.MeansHidden classes site
  no_hidden (rules.MeansHidden.hidden o owner flags means h) = no (o, means.names.names.asks)

  no_mismatch : ¬ rules.MeansMismatch classes site
  no_mismatch (rules.MeansMismatch.of_instances o owner flags means t h) = no (o, means.names.names.asks)
  no_mismatch (rules.MeansMismatch.static o owner flags means t h) = no (o, means.names.names.asks)

  no_final : ¬ rules.WritesFinal classes site
  no_final (rules.WritesFinal.of_other owner flags means f h) = no (_, means.names.names.asks)
  no_final (rules.WritesFinal.outside owner flags means f h) = no (_, means.names.names.asks)

  no_private : ¬ rules.CallsPrivate classes site
  no_private (rules.CallsPrivate.private owner flags means h) = no (_, means.names.names.asks)

  members_kept : IsFirstBroken classes site of_members None
  members_kept =
      rules.IsFirstBroken.further rules.Check.absent_field _ None no_field
      (rules.IsFirstBroken.further rules.Check.absent_method _ None no_method
      (rules.IsFirstBroken.further rules.Check.hidden_member _ None no_hidden
      (rules.IsFirstBroken.further rules.Check.static_mismatch _ None no_mismatch
      (rules.IsFirstBroken.further rules.Check.final_field _ None no_final
      (rules.IsFirstBroken.further rules.Check.private_virtual _ None no_private rules.IsFirstBroken.nothing)))))

-- ---- constants

module _ (classes : List Class) (site : Site) (asks : site.asked ≡ asked.Constant) where
  constant_no_member : ¬ AsksMember site
  constant_no_member (o, e) = cc

  constant_no_class : (o : ClassOperation) → site.asked ≡ asked.Class o → ⊥
  constant_no_class o e = cc

  constant_absent : ¬ NamesAbsentClass classes site
  constant_absent (rules.NamesAbsentClass.class o text names plain absent) = constant_no_class o names.asks
  constant_absent (rules.NamesAbsentClass.owner o named names plain absent) = constant_no_member (o, names.asks)

  constant_kind : (n : ℤ) → integer_at (pool_of classes site.class) site.index ≡ Some n → ¬ NamesWrongKind classes site
  constant_kind n e (rules.NamesWrongKind.no_int a none) = cc
  constant_kind n e (rules.NamesWrongKind.no_class o a none) = constant_no_class o a
  constant_kind n e (rules.NamesWrongKind.no_member o a none) = constant_no_member (o, a)
  constant_kind n e (rules.NamesWrongKind.other_member o named names k) = constant_no_member (o, names.asks)
  constant_kind n e (rules.NamesWrongKind.new_array text names a) = constant_no_class New names.asks
  constant_kind n e (rules.NamesWrongKind.other_array o text names a ne) = constant_no_class o names.asks
  constant_kind n e (rules.NamesWrongKind.array_owner o named names a) = constant_no_member (o, names.asks)
  constant_kind n e (rules.NamesWrongKind.method_of_interface o named class names k i) = constant_no_member (o, names.names.asks)
  constant_kind n e (rules.NamesWrongKind.interface_method_of_class o named class names k i) = constant_no_member (o, names.names.asks)
  constant_kind n e (rules.NamesWrongKind.called_initializer o named names k i s) = constant_no_member (o, names.asks)

  constant_hidden : ¬ NamesHiddenClass classes site
  constant_hidden (rules.NamesHiddenClass.class o class names h) = constant_no_class o names.names.asks
  constant_hidden (rules.NamesHiddenClass.owner o named class names h) = constant_no_member (o, names.names.asks)

  constant_abstract : ¬ MakesAbstract classes site
  constant_abstract (rules.MakesAbstract.abstract_class class names h) = constant_no_class New names.names.asks
  constant_abstract (rules.MakesAbstract.interface class names h) = constant_no_class New names.names.asks

  pub int_kept : (n : ℤ) → integer_at (pool_of classes site.class) site.index ≡ Some n → IsFirstBroken classes site order None
  int_kept n e =
      rules.IsFirstBroken.further rules.Check.absent_class _ None constant_absent
      (rules.IsFirstBroken.further rules.Check.wrong_kind _ None (constant_kind n e)
      (rules.IsFirstBroken.further rules.Check.hidden_class _ None constant_hidden
      (rules.IsFirstBroken.further rules.Check.abstract _ None constant_abstract (members_kept classes site constant_no_member))))

  pub int_broken : integer_at (pool_of classes site.class) site.index ≡ None → IsFirstBroken classes site order (Some rule.WrongRefKind)
  int_broken e =
      rules.IsFirstBroken.further rules.Check.absent_class _ (Some rule.WrongRefKind) constant_absent
      (rules.IsFirstBroken.here rules.Check.wrong_kind _ (rules.NamesWrongKind.no_int asks e))

-- ---- classes

module _ (classes : List Class) (site : Site) (operation : ClassOperation) (asks : site.asked ≡ asked.Class operation) where
  class_no_member : ¬ AsksMember site
  class_no_member (o, e) = cc

  class_no_int : site.asked ≡ asked.Constant → ⊥
  class_no_int e = cc

  same_operation : (o : ClassOperation) → site.asked ≡ asked.Class o → o ≡ operation
  same_operation o e = cc

  entry_absent : class_at (pool_of classes site.class) site.index ≡ None → ¬ NamesAbsentClass classes site
  entry_absent e (rules.NamesAbsentClass.class o text names plain absent) = let is = names.names in cc
  entry_absent e (rules.NamesAbsentClass.owner o named names plain absent) = class_no_member (o, names.asks)

  pub no_entry : class_at (pool_of classes site.class) site.index ≡ None → IsFirstBroken classes site order (Some rule.WrongRefKind)
  no_entry e =
      rules.IsFirstBroken.further rules.Check.absent_class _ (Some rule.WrongRefKind) (entry_absent e)
      (rules.IsFirstBroken.here rules.Check.wrong_kind _ (rules.NamesWrongKind.no_class operation asks e))

  module _ (text : List ℕ) (is : class_at (pool_of classes site.class) site.index ≡ Some text) where
    same_text : (o : ClassOperation) (t : List ℕ) → NamesText classes site o t → t ≡ text
    same_text o t names = let too = names.names in cc

    named_so : NamesText classes site operation text
    named_so = record { asks = asks; names = is }

    -- an array's descriptor

    array_absent : IsArray text → ¬ NamesAbsentClass classes site
    array_absent a (rules.NamesAbsentClass.class o t names plain absent) = plain (subst IsArray (sym (same_text o t names)) a)
    array_absent a (rules.NamesAbsentClass.owner o named names plain absent) = class_no_member (o, names.asks)

    text_kind : (operation ≡ New → IsArray text → ⊥) → (IsArray text → text ≢ codes "[I" → ⊥) → ¬ NamesWrongKind classes site
    text_kind h k (rules.NamesWrongKind.no_int a none) = class_no_int a
    text_kind h k (rules.NamesWrongKind.no_class o a none) = cc
    text_kind h k (rules.NamesWrongKind.no_member o a none) = class_no_member (o, a)
    text_kind h k (rules.NamesWrongKind.other_member o named names l) = class_no_member (o, names.asks)
    text_kind h k (rules.NamesWrongKind.new_array t names a) = h (sym (same_operation New names.asks)) (subst IsArray (same_text New t names) a)
    text_kind h k (rules.NamesWrongKind.other_array o t names a ne) = k (subst IsArray (same_text o t names) a) (λ e. ne (same_text o t names ∙ e))
    text_kind h k (rules.NamesWrongKind.array_owner o named names a) = class_no_member (o, names.asks)
    text_kind h k (rules.NamesWrongKind.method_of_interface o named class names l i) = class_no_member (o, names.names.asks)
    text_kind h k (rules.NamesWrongKind.interface_method_of_class o named class names l i) = class_no_member (o, names.names.asks)
    text_kind h k (rules.NamesWrongKind.called_initializer o named names l i s) = class_no_member (o, names.asks)

    array_hidden : IsArray text → ¬ NamesHiddenClass classes site
    array_hidden a (rules.NamesHiddenClass.class o class names h) = names.plain (subst IsArray (sym (same_text o names.text names.names)) a)
    array_hidden a (rules.NamesHiddenClass.owner o named class names h) = class_no_member (o, names.names.asks)

    array_abstract : IsArray text → ¬ MakesAbstract classes site
    array_abstract a (rules.MakesAbstract.abstract_class class names h) = names.plain (subst IsArray (sym (same_text New names.text names.names)) a)
    array_abstract a (rules.MakesAbstract.interface class names h) = names.plain (subst IsArray (sym (same_text New names.text names.names)) a)

    pub array_kept : IsArray text → operation ≢ New → text ≡ codes "[I" → IsFirstBroken classes site order None
    array_kept a old of_ints =
        rules.IsFirstBroken.further rules.Check.absent_class _ None (array_absent a)
        (rules.IsFirstBroken.further rules.Check.wrong_kind _ None (text_kind (λ e b. old e) (λ b ne. ne of_ints))
        (rules.IsFirstBroken.further rules.Check.hidden_class _ None (array_hidden a)
        (rules.IsFirstBroken.further rules.Check.abstract _ None (array_abstract a) (members_kept classes site class_no_member))))

    pub array_made : IsArray text → operation ≡ New → IsFirstBroken classes site order (Some rule.WrongRefKind)
    array_made a e =
        rules.IsFirstBroken.further rules.Check.absent_class _ (Some rule.WrongRefKind) (array_absent a)
        (rules.IsFirstBroken.here rules.Check.wrong_kind _ (rules.NamesWrongKind.new_array text (record { asks = asks ∙ ap (λ o. asked.Class o) e; names = is }) a))

    pub array_other : IsArray text → text ≢ codes "[I" → IsFirstBroken classes site order (Some rule.WrongRefKind)
    array_other a ne =
        rules.IsFirstBroken.further rules.Check.absent_class _ (Some rule.WrongRefKind) (array_absent a)
        (rules.IsFirstBroken.here rules.Check.wrong_kind _ (rules.NamesWrongKind.other_array operation text named_so a ne))

    -- the name of a class

    pub class_absent : ¬ IsArray text → number_of classes text ≡ None → IsFirstBroken classes site order (Some rule.AbsentClass)
    class_absent plain none = rules.IsFirstBroken.here rules.Check.absent_class _ (rules.NamesAbsentClass.class operation text named_so plain none)

    module _ (plain : ¬ IsArray text) (class : ClassId) (number : number_of classes text ≡ Some class) where
      same_class : (o : ClassOperation) (c : ClassId) → NamesClass classes site o c → c ≡ class
      same_class o c names =
          let e = same_text o names.text names.names in
          let there : number_of classes text ≡ Some c = ap (number_of classes) (sym e) ∙ names.number in
          cc

      names_it : NamesClass classes site operation class
      names_it = record { text = text; names = named_so; plain = plain; number = number }

      found_absent : ¬ NamesAbsentClass classes site
      found_absent (rules.NamesAbsentClass.class o t names p absent) =
          let there : number_of classes text ≡ None = ap (number_of classes) (sym (same_text o t names)) ∙ absent in
          cc
      found_absent (rules.NamesAbsentClass.owner o named names p absent) = class_no_member (o, names.asks)

      found_kind : ¬ NamesWrongKind classes site
      found_kind = text_kind (λ e a. plain a) (λ a ne. plain a)

      pub class_hidden : ¬ IsAccessible classes site.class class → IsFirstBroken classes site order (Some rule.Access)
      class_hidden h =
          rules.IsFirstBroken.further rules.Check.absent_class _ (Some rule.Access) found_absent
          (rules.IsFirstBroken.further rules.Check.wrong_kind _ (Some rule.Access) found_kind
          (rules.IsFirstBroken.here rules.Check.hidden_class _ (rules.NamesHiddenClass.class operation class names_it h)))

      not_hidden : IsAccessible classes site.class class → ¬ NamesHiddenClass classes site
      not_hidden a (rules.NamesHiddenClass.class o c names h) = h (subst (IsAccessible classes site.class) (sym (same_class o c names)) a)
      not_hidden a (rules.NamesHiddenClass.owner o named c names h) = class_no_member (o, names.names.asks)

      names_new : operation ≡ New → NamesClass classes site New class
      names_new e = subst (λ o. NamesClass classes site o class) e names_it

      pub class_abstract : IsAccessible classes site.class class → operation ≡ New → Has (flags_of classes class) ABSTRACT ⊎ Has (flags_of classes class) INTERFACE → IsFirstBroken classes site order (Some rule.Abstract)
      class_abstract a e h =
          rules.IsFirstBroken.further rules.Check.absent_class _ (Some rule.Abstract) found_absent
          (rules.IsFirstBroken.further rules.Check.wrong_kind _ (Some rule.Abstract) found_kind
          (rules.IsFirstBroken.further rules.Check.hidden_class _ (Some rule.Abstract) (not_hidden a)
          (rules.IsFirstBroken.here rules.Check.abstract _ (elim h [ inl f ↦ rules.MakesAbstract.abstract_class class (names_new e) f | inr i ↦ rules.MakesAbstract.interface class (names_new e) i ]))))

      not_abstract : (operation ≡ New → Has (flags_of classes class) ABSTRACT ⊎ Has (flags_of classes class) INTERFACE → ⊥) → ¬ MakesAbstract classes site
      not_abstract k (rules.MakesAbstract.abstract_class c names h) =
          k (sym (same_operation New names.names.asks)) (inl (subst (λ x. Has (flags_of classes x) ABSTRACT) (same_class New c names) h))
      not_abstract k (rules.MakesAbstract.interface c names h) =
          k (sym (same_operation New names.names.asks)) (inr (subst (λ x. Has (flags_of classes x) INTERFACE) (same_class New c names) h))

      pub class_kept : IsAccessible classes site.class class → (operation ≡ New → Has (flags_of classes class) ABSTRACT ⊎ Has (flags_of classes class) INTERFACE → ⊥) → IsFirstBroken classes site order None
      class_kept a k =
          rules.IsFirstBroken.further rules.Check.absent_class _ None found_absent
          (rules.IsFirstBroken.further rules.Check.wrong_kind _ None found_kind
          (rules.IsFirstBroken.further rules.Check.hidden_class _ None (not_hidden a)
          (rules.IsFirstBroken.further rules.Check.abstract _ None (not_abstract k) (members_kept classes site class_no_member))))

-- an array that is not taken
pub array_broken : (classes : List Class) (site : Site) (operation : ClassOperation) → site.asked ≡ asked.Class operation → (text : List ℕ) → class_at (pool_of classes site.class) site.index ≡ Some text → IsArray text → ¬ ((operation ≢ New) × (text ≡ codes "[I")) → IsFirstBroken classes site order (Some rule.WrongRefKind)
array_broken classes site New asks text is a h = array_made classes site New asks text is a refl
array_broken classes site CheckCast asks text is a h = array_other classes site CheckCast asks text is a (λ e. h ((λ x. cc), e))
array_broken classes site InstanceOf asks text is a h = array_other classes site InstanceOf asks text is a (λ e. h ((λ x. cc), e))
