-- The rule that an instruction breaks on a member that is found.
use Rattle.std.proofs.Common.{◌≡◌, inl, inr, ℕ, true, false, Some, List, sym, subst, ap, ◌∙◌}
use Rattle.cf_pool.specs.Pools.{NamedMember}
use Rattle.cf_reader.specs.declared.flags.TheConstants.Flags.{FINAL, PRIVATE, STATIC}
use Rattle.cls_set.specs.declared.class.Class.{Class}
use Rattle.cls_set.specs.Classes.{number_of}
use Rattle.cls_set.specs.Rules.{Has}
use Rattle.space_ids.specs.declared.ids.ClassId.{ClassId}
use Rattle.cls_resolve.specs.declared.references.MemberOperation.{MemberOperation}
use Rattle.cls_resolve.specs.declared.references.MemberOperation.TheVariants.{PutField}
use Rattle.cls_resolve.specs.Access.{IsMemberAccessible}
use Rattle.cls_resolve.specs.Checks.{IsFinalWrite, IsMismatch, IsPrivateCall}
use Rattle.cls_resolve.specs.LinkRules as rules
use Rattle.cls_resolve.specs.LinkRules.{CallsPrivate, Means, MeansHidden, MeansMember, MeansMismatch, NamesMember, NamesMemberOf, Site, WritesFinal}
use Rattle.cls_resolve.specs.References.{takes_static}
use Rattle.cls_resolve.proofs.Unique.{IsSameMember, one_meant}

true_false : true ≡ false → ⊥
true_false e = cc

-- a member entry of a site is one
pub same_operation : (classes : List Class) (site : Site) {o p : MemberOperation} {m n : NamedMember} → NamesMember classes site o m → NamesMember classes site p n → o ≡ p
same_operation classes site one other = let a = one.asks in let b = other.asks in cc

pub same_named : (classes : List Class) (site : Site) {o p : MemberOperation} {m n : NamedMember} → NamesMember classes site o m → NamesMember classes site p n → m ≡ n
same_named classes site one other = let a = one.names in let b = other.names in cc

pub same_class : (classes : List Class) (site : Site) {o p : MemberOperation} {m n : NamedMember} {c d : ClassId} → NamesMemberOf classes site o m c → NamesMemberOf classes site p n d → c ≡ d
same_class classes site {o} {p} {m} {n} {c} {d} one other =
    let e = same_named classes site one.names other.names in
    let a : number_of classes n.class ≡ Some c = ap (λ (x : NamedMember). number_of classes x.class) (sym e) ∙ one.number in
    let b = other.number in
    cc

module _ (classes : List Class) (site : Site) (operation : MemberOperation) (owner : ClassId) (flags : ℕ) (means : MeansMember classes site operation owner flags) where
  same_member : {o : MemberOperation} {w : ClassId} {f : ℕ} → MeansMember classes site o w f → IsSameMember w owner f flags
  same_member {o} {w} {f} other =
      let e = same_named classes site other.names.names means.names.names in
      let d = same_class classes site other.names means.names in
      one_meant classes means.named means.class (subst (λ c. Means classes means.named c w f) d (subst (λ n. Means classes n other.class w f) e other.means)) means.means

  asks_same : {o : MemberOperation} {w : ClassId} {f : ℕ} → MeansMember classes site o w f → o ≡ operation
  asks_same other = same_operation classes site other.names.names means.names.names

  pub hidden : ¬ IsMemberAccessible classes site.class owner flags → MeansHidden classes site
  hidden h = rules.MeansHidden.hidden operation owner flags means h

  pub not_hidden : IsMemberAccessible classes site.class owner flags → ¬ MeansHidden classes site
  not_hidden a (rules.MeansHidden.hidden o w f m h) =
      let s = same_member m in
      h (subst (λ x. IsMemberAccessible classes site.class x f) (sym s.owners) (subst (IsMemberAccessible classes site.class owner) (sym s.flags_of) a))

  pub mismatch : IsMismatch operation flags → MeansMismatch classes site
  mismatch (inl (t, h)) = rules.MeansMismatch.of_instances operation owner flags means t h
  mismatch (inr (t, h)) = rules.MeansMismatch.static operation owner flags means t h

  pub not_mismatch : ¬ IsMismatch operation flags → ¬ MeansMismatch classes site
  not_mismatch not_so (rules.MeansMismatch.of_instances o w f m t h) =
      not_so (inl (subst (λ x. takes_static x ≡ true) (asks_same m) t, λ is. h (subst (λ x. Has x STATIC) (sym (same_member m).flags_of) is)))
  not_mismatch not_so (rules.MeansMismatch.static o w f m t h) =
      not_so (inr (subst (λ x. takes_static x ≡ false) (asks_same m) t, subst (λ x. Has x STATIC) (same_member m).flags_of h))

  of_write : operation ≡ PutField → MeansMember classes site PutField owner flags
  of_write e = subst (λ o. MeansMember classes site o owner flags) e means

  pub final_write : IsFinalWrite operation site.class site.method.name owner flags → WritesFinal classes site
  final_write (e, f, inl ne) = rules.WritesFinal.of_other owner flags (of_write e) f ne
  final_write (e, f, inr not_so) = rules.WritesFinal.outside owner flags (of_write e) f not_so

  pub not_final : ¬ IsFinalWrite operation site.class site.method.name owner flags → ¬ WritesFinal classes site
  not_final not_so (rules.WritesFinal.of_other w f m h ne) =
      let s = same_member m in
      not_so (sym (asks_same m), subst (λ x. Has x FINAL) s.flags_of h, inl (λ e. ne (e ∙ sym s.owners)))
  not_final not_so (rules.WritesFinal.outside w f m h out) =
      let s = same_member m in
      not_so (sym (asks_same m), subst (λ x. Has x FINAL) s.flags_of h, inr out)

  pub private_call : IsPrivateCall operation flags → CallsPrivate classes site
  private_call (e, h) = rules.CallsPrivate.private owner flags (subst (λ o. MeansMember classes site o owner flags) e means) h

  pub not_private : ¬ IsPrivateCall operation flags → ¬ CallsPrivate classes site
  not_private not_so (rules.CallsPrivate.private w f m h) = not_so (sym (asks_same m), subst (λ x. Has x PRIVATE) (same_member m).flags_of h)
