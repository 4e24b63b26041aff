-- The rule that an instruction breaks, if it asks for a member.
use Rattle.std.proofs.Common.{◌≡◌, ◌≢◌, inl, inr, ℕ, Option, Some, None, List, ◌∷◌, refl, sym, subst, ap, ◌∙◌}
use Rattle.cf_pool.specs.Pools.{NamedMember, member_at}
use Rattle.cf_pool.specs.declared.pool.MemberKind.{MemberKind}
use Rattle.cf_pool.specs.declared.pool.MemberKind.TheVariants as kind
use Rattle.cf_insns.specs.declared.insn.ClassOperation.{ClassOperation}
use Rattle.cf_insns.specs.declared.insn.ClassOperation.TheVariants.{New}
use Rattle.cf_reader.specs.declared.flags.TheConstants.Flags.{INTERFACE}
use Rattle.cls_set.specs.declared.class.Class.{Class}
use Rattle.cls_set.specs.Classes.{number_of}
use Rattle.cls_set.specs.Rules.{Has}
use Rattle.space_ids.specs.declared.ids.ClassId.{ClassId}
use Rattle.cls_resolve.specs.declared.rule.LinkRule.{LinkRule}
use Rattle.cls_resolve.specs.declared.rule.LinkRule.TheVariants as rule
use Rattle.cls_resolve.specs.declared.references.Asked.TheVariants as asked
use Rattle.cls_resolve.specs.declared.references.MemberOperation.{MemberOperation}
use Rattle.cls_resolve.specs.Access.{flags_of, IsAccessible}
use Rattle.cls_resolve.specs.Checks.{absent_rule, of_use, CallsInitializer, FitsClass, IsWrongEntry}
use Rattle.cls_search.specs.FieldSearches.{ResolvesField}
use Rattle.cls_resolve.specs.LinkRules as rules
use Rattle.cls_resolve.specs.LinkRules.{order, pool_of, Check, IsArray, IsFirstBroken, MakesAbstract, Means, MeansMember, MeansNoField, MeansNoMethod, NamesAbsentClass, NamesHiddenClass, NamesMember, NamesMemberOf, NamesWrongKind, Site}
use Rattle.cls_resolve.specs.References.{kind_taken}
use Rattle.cls_search.specs.MethodSearches.{own_method, Resolves}
use Rattle.cls_resolve.proofs.Unique.{some_field, some_method}
use Rattle.cls_resolve.proofs.UseChecks.{same_class, same_named, same_operation}

module _ (classes : List Class) (site : Site) (operation : MemberOperation) (asks : site.asked ≡ asked.Member operation) where
  no_int : site.asked ≡ asked.Constant → ⊥
  no_int e = cc

  no_class : (o : ClassOperation) → site.asked ≡ asked.Class o → ⊥
  no_class o e = cc

  entry_absent : member_at (pool_of classes site.class) site.index ≡ None → ¬ NamesAbsentClass classes site
  entry_absent e (rules.NamesAbsentClass.class o text names plain absent) = no_class o names.asks
  entry_absent e (rules.NamesAbsentClass.owner o named names plain absent) = let is = names.names in cc

  pub no_entry : member_at (pool_of classes site.class) site.index ≡ None → IsFirstBroken classes site order (Some rule.WrongRefKind)
  no_entry e =
      rules.IsFirstBroken.further rules.Check.absent_class _ (Some rule.WrongRefKind) (entry_absent e)
      (rules.IsFirstBroken.here rules.Check.wrong_kind _ (rules.NamesWrongKind.no_member operation asks e))

  module _ (named : NamedMember) (is : member_at (pool_of classes site.class) site.index ≡ Some named) where
    names_so : NamesMember classes site operation named
    names_so = record { asks = asks; names = is }

    same : {o : MemberOperation} {n : NamedMember} → NamesMember classes site o n → n ≡ named
    same names = same_named classes site names names_so

    array_absent : IsArray named.class → ¬ NamesAbsentClass classes site
    array_absent a (rules.NamesAbsentClass.class o text names plain absent) = no_class o names.asks
    array_absent a (rules.NamesAbsentClass.owner o n names plain absent) = plain (subst (λ (x : NamedMember). IsArray x.class) (sym (same names)) a)

    pub array_owner : IsArray named.class → IsFirstBroken classes site order (Some rule.WrongRefKind)
    array_owner a =
        rules.IsFirstBroken.further rules.Check.absent_class _ (Some rule.WrongRefKind) (array_absent a)
        (rules.IsFirstBroken.here rules.Check.wrong_kind _ (rules.NamesWrongKind.array_owner operation named names_so a))

    pub owner_absent : ¬ IsArray named.class → number_of classes named.class ≡ None → IsFirstBroken classes site order (Some rule.AbsentClass)
    owner_absent plain none = rules.IsFirstBroken.here rules.Check.absent_class _ (rules.NamesAbsentClass.owner operation named names_so plain none)

    module _ (plain : ¬ IsArray named.class) (class : ClassId) (number : number_of classes named.class ≡ Some class) where
      pub names_of : NamesMemberOf classes site operation named class
      names_of = record { names = names_so; number = number }

      same_owner : {o : MemberOperation} {n : NamedMember} {c : ClassId} → NamesMemberOf classes site o n c → c ≡ class
      same_owner names = same_class classes site names names_of

      found_absent : ¬ NamesAbsentClass classes site
      found_absent (rules.NamesAbsentClass.class o text names p absent) = no_class o names.asks
      found_absent (rules.NamesAbsentClass.owner o n names p absent) =
          let there : number_of classes named.class ≡ None = ap (λ (x : NamedMember). number_of classes x.class) (sym (same names)) ∙ absent in
          cc

      misfits : (k : MemberKind) → named.kind ≡ k → ¬ FitsClass k (flags_of classes class) → NamesWrongKind classes site
      misfits kind.Field e not_so = absurd (not_so tt)
      misfits kind.Method e not_so = rules.NamesWrongKind.method_of_interface operation named class names_of e (λ z. not_so (λ h. h z))
      misfits kind.InterfaceMethod e not_so = rules.NamesWrongKind.interface_method_of_class operation named class names_of e not_so

      wrong : IsWrongEntry operation named.kind named.name (flags_of classes class) → NamesWrongKind classes site
      wrong (inl ne) = rules.NamesWrongKind.other_member operation named names_so ne
      wrong (inr (inl not_so)) = misfits named.kind refl not_so
      wrong (inr (inr (ne, i, o))) = rules.NamesWrongKind.called_initializer operation named names_so ne i o

      right : ¬ IsWrongEntry operation named.kind named.name (flags_of classes class) → ¬ NamesWrongKind classes site
      right h (rules.NamesWrongKind.no_int a none) = no_int a
      right h (rules.NamesWrongKind.no_class o a none) = no_class o a
      right h (rules.NamesWrongKind.no_member o a none) = cc
      right h (rules.NamesWrongKind.other_member o n names ne) =
          h (inl (λ e. ne (ap (λ (x : NamedMember). x.kind) (same names) ∙ (e ∙ ap kind_taken (sym (same_operation classes site names names_so))))))
      right h (rules.NamesWrongKind.new_array text names a) = no_class New names.asks
      right h (rules.NamesWrongKind.other_array o text names a ne) = no_class o names.asks
      right h (rules.NamesWrongKind.array_owner o n names a) = plain (subst (λ (x : NamedMember). IsArray x.class) (same names) a)
      right h (rules.NamesWrongKind.method_of_interface o n c names k i) =
          h (inr (inl (subst (λ x. ¬ FitsClass x (flags_of classes class)) (sym k ∙ ap (λ (x : NamedMember). x.kind) (same names.names)) (λ not_so. not_so (subst (λ x. Has (flags_of classes x) INTERFACE) (same_owner names) i)))))
      right h (rules.NamesWrongKind.interface_method_of_class o n c names k i) =
          h (inr (inl (subst (λ x. ¬ FitsClass x (flags_of classes class)) (sym k ∙ ap (λ (x : NamedMember). x.kind) (same names.names)) (λ yes. i (subst (λ x. Has (flags_of classes x) INTERFACE) (sym (same_owner names)) yes)))))
      right h (rules.NamesWrongKind.called_initializer o n names k i ne) =
          h (inr (inr (subst (λ (x : NamedMember). CallsInitializer operation x.kind x.name) (same names) (k, i, λ e. ne (same_operation classes site names names_so ∙ e)))))

      pub wrong_entry : IsWrongEntry operation named.kind named.name (flags_of classes class) → IsFirstBroken classes site order (Some rule.WrongRefKind)
      wrong_entry w =
          rules.IsFirstBroken.further rules.Check.absent_class _ (Some rule.WrongRefKind) found_absent
          (rules.IsFirstBroken.here rules.Check.wrong_kind _ (wrong w))

      module _ (fits : ¬ IsWrongEntry operation named.kind named.name (flags_of classes class)) where
        pub hidden_owner : ¬ IsAccessible classes site.class class → IsFirstBroken classes site order (Some rule.Access)
        hidden_owner h =
            rules.IsFirstBroken.further rules.Check.absent_class _ (Some rule.Access) found_absent
            (rules.IsFirstBroken.further rules.Check.wrong_kind _ (Some rule.Access) (right fits)
            (rules.IsFirstBroken.here rules.Check.hidden_class _ (rules.NamesHiddenClass.owner operation named class names_of h)))

        module _ (may : IsAccessible classes site.class class) where
          not_hidden : ¬ NamesHiddenClass classes site
          not_hidden (rules.NamesHiddenClass.class o c names h) = no_class o names.names.asks
          not_hidden (rules.NamesHiddenClass.owner o n c names h) = h (subst (IsAccessible classes site.class) (sym (same_owner names)) may)

          not_made : ¬ MakesAbstract classes site
          not_made (rules.MakesAbstract.abstract_class c names h) = no_class New names.names.asks
          not_made (rules.MakesAbstract.interface c names h) = no_class New names.names.asks

          -- the checks of the entry are passed
          passed : (rest : List Check) (answer : Option LinkRule) → IsFirstBroken classes site rest answer → IsFirstBroken classes site (rules.Check.absent_class ∷ rules.Check.wrong_kind ∷ rules.Check.hidden_class ∷ rules.Check.abstract ∷ rest) answer
          passed rest answer f =
              rules.IsFirstBroken.further rules.Check.absent_class _ answer found_absent
              (rules.IsFirstBroken.further rules.Check.wrong_kind _ answer (right fits)
              (rules.IsFirstBroken.further rules.Check.hidden_class _ answer not_hidden
              (rules.IsFirstBroken.further rules.Check.abstract _ answer not_made f)))

          pub field_absent : named.kind ≡ kind.Field → ResolvesField classes class named.name named.descriptor None → IsFirstBroken classes site order (Some rule.AbsentField)
          field_absent k none = passed _ (Some rule.AbsentField) (rules.IsFirstBroken.here rules.Check.absent_field _ (rules.MeansNoField.absent operation named class names_of k none))

          no_field_asked : named.kind ≢ kind.Field → ¬ MeansNoField classes site
          no_field_asked ne (rules.MeansNoField.absent o n c names k r) = ne (ap (λ (x : NamedMember). x.kind) (sym (same names.names)) ∙ k)

          pub method_absent : named.kind ≢ kind.Field → Resolves classes class named.name (own_method classes named.name named.descriptor) None → IsFirstBroken classes site order (Some rule.AbsentMethod)
          method_absent ne none =
              passed _ (Some rule.AbsentMethod)
              (rules.IsFirstBroken.further rules.Check.absent_field _ (Some rule.AbsentMethod) (no_field_asked ne)
              (rules.IsFirstBroken.here rules.Check.absent_method _ (rules.MeansNoMethod.absent operation named class names_of ne none)))

          pub member_absent : (k : MemberKind) → named.kind ≡ k → (named.kind ≡ kind.Field → ResolvesField classes class named.name named.descriptor None) → (named.kind ≢ kind.Field → Resolves classes class named.name (own_method classes named.name named.descriptor) None) → IsFirstBroken classes site order (Some (absent_rule k))
          member_absent kind.Field e f m = field_absent e (f e)
          member_absent kind.Method e f m = let ne : named.kind ≢ kind.Field = λ x. cc in method_absent ne (m ne)
          member_absent kind.InterfaceMethod e f m = let ne : named.kind ≢ kind.Field = λ x. cc in method_absent ne (m ne)

          module _ (owner : ClassId) (flags : ℕ) (means : Means classes named class owner flags) where
            pub means_member : MeansMember classes site operation owner flags
            means_member = record { named = named; class = class; names = names_of; means = means }

            field_found : ¬ MeansNoField classes site
            field_found (rules.MeansNoField.absent o n c names k r) =
                let e = same names.names in
                some_field classes named class means
                (subst (λ x. ResolvesField classes x named.name named.descriptor None) (same_owner names) (subst (λ (x : NamedMember). ResolvesField classes c x.name x.descriptor None) e r))
                (ap (λ (x : NamedMember). x.kind) (sym e) ∙ k)

            method_found : ¬ MeansNoMethod classes site
            method_found (rules.MeansNoMethod.absent o n c names k r) =
                let e = same names.names in
                some_method classes named class means
                (subst (λ x. Resolves classes x named.name (own_method classes named.name named.descriptor) None) (same_owner names)
                (subst (λ (x : NamedMember). Resolves classes c x.name (own_method classes x.name x.descriptor) None) e r))
                (λ f. k (ap (λ (x : NamedMember). x.kind) e ∙ f))

            pub member_found : (answer : Option LinkRule) → IsFirstBroken classes site of_use answer → IsFirstBroken classes site order answer
            member_found answer f =
                passed _ answer
                (rules.IsFirstBroken.further rules.Check.absent_field _ answer field_found
                (rules.IsFirstBroken.further rules.Check.absent_method _ answer method_found f))
