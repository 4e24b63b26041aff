-- The method that a text names, as it is looked for.
use Rattle.std.proofs.Common.{◌≡◌, ◌<◌, ◌+◌, ◌∙◌, inl, inr, ℕ, true, false, Option, Some, None, List, arith, ap, get_or, subst, sym}
use Rattle.std.proofs.lemmas.Option.{slice_get-get_or}
use Rattle.std.specs.Option.{is_some}
use Rattle.std.specs.Prelude.{drop, length, option_map, take}
use Rattle.cls_link.proofs.Indices.{some_none}
use Rattle.cls_link.specs.Links.{Links}
use Rattle.cls_link.specs.Numbers.{number_in}
use Rattle.cls_link.specs.declared.linked_code.MethodId.{MethodId}
use Rattle.cls_resolve.proofs.Unique.{one_resolved}
use Rattle.cls_search.specs.MethodSearches.{own_method}
use Rattle.cls_set.proofs.Walks.{before}
use Rattle.cls_set.specs.Classes.{number_of}
use Rattle.cls_set.specs.declared.class.Class.{Class}
use Rattle.space_ids.specs.declared.ids.ClassId.{ClassId}
use Rattle.sp_files.specs.Names.{IsParenthesisAt, NamesMethod, NamesNoneBefore, NamesSplit, first_split, no_class, no_method}

-- a split names one method, or none
pub one_split : (classes : List Class) (class : ClassId) (text : List ℕ) (index : ℕ) (a b : Option MethodId)
    → NamesSplit classes class text index a → NamesSplit classes class text index b → a ≡ b
one_split classes class text index a b one other =
    let same : one.found ≡ other.found =
    one_resolved classes class (take index text) (own_method classes (take index text) (drop index text)) one.resolved other.resolved
    in
    one.is ∙ (ap (option_map (number_in classes)) same ∙ sym other.is)

-- so none is there where no split before the end names one
pub named_not_before : (classes : List Class) (class : ClassId) (text : List ℕ) (end index : ℕ) (method : MethodId) → NamesNoneBefore classes class text end → index < end
    → IsParenthesisAt text index → NamesSplit classes class text index (Some method) → ⊥
named_not_before classes class text end index method none less opens split =
    some_none (one_split classes class text index (Some method) None split (none index less opens))

-- before the first byte there is no split
pub none_before_first : (classes : List Class) (class : ClassId) (text : List ℕ) → NamesNoneBefore classes class text 0
none_before_first classes class text index low opens = absurd (omega (arith, low))

-- one index more, at which no split names a method
pub none_before_next : (classes : List Class) (class : ClassId) (text : List ℕ) (end : ℕ) → NamesNoneBefore classes class text end
    → (IsParenthesisAt text end → NamesSplit classes class text end None) → NamesNoneBefore classes class text (end + 1)
none_before_next classes class text end so_far last index low opens =
    elim (before index end) [
      | inl less ↦ so_far index less opens
      | inr least ↦
          let same : index ≡ end = omega (arith, least, low) in
          subst (λ (i : ℕ). NamesSplit classes class text i None) (sym same) (last (subst (λ (i : ℕ). IsParenthesisAt text i) same opens))
    ]

-- a split at which nothing was found
pub split_of_none : (classes : List Class) (class : ClassId) (text : List ℕ) (index : ℕ) (found : Option MethodId) → is_some found ≡ false
    → NamesSplit classes class text index found → NamesSplit classes class text index None
split_of_none classes class text index (Some method) none split = absurd (cc)
split_of_none classes class text index None none split = split

-- a byte that is a parenthesis, or is none
pub parenthesis : (text : List ℕ) (index : ℕ) → index < length text → get_or text index 0 ≡ 40 → IsParenthesisAt text index
parenthesis text index within is = slice_get-get_or text index 0 within ∙ ap (λ (b : ℕ). Some b) is

pub no_parenthesis : (text : List ℕ) (index : ℕ) → index < length text → ¬ get_or text index 0 ≡ 40 → ¬ IsParenthesisAt text index
no_parenthesis text index within other opens =
    let same : Some (get_or text index 0) ≡ Some 40 = sym (slice_get-get_or text index 0 within) ∙ opens in
    let equal : get_or text index 0 ≡ 40 = cc in
    other equal

module _ (program : Links) (class text : List ℕ) where
  pub names_absent : (classes : List Class) → classes ≡ program.classes → number_of classes class ≡ None → NamesMethod program class text None
  names_absent classes same none = no_class (subst (λ (cs : List Class). number_of cs class ≡ None) same none)

  pub names_nothing : (holder : ClassId) → number_of program.classes class ≡ Some holder → (end : ℕ) → end ≡ length text → NamesNoneBefore program.classes holder text end
      → NamesMethod program class text None
  names_nothing holder at end long none = no_method holder at (subst (λ (e : ℕ). NamesNoneBefore program.classes holder text e) long none)

  -- what the first split that names a method gives
  pub names_found : (holder : ClassId) → number_of program.classes class ≡ Some holder → (index : ℕ) → IsParenthesisAt text index → NamesNoneBefore program.classes holder text index
      → (found : Option MethodId) → is_some found ≡ true → NamesSplit program.classes holder text index found → NamesMethod program class text found
  names_found holder at index opens none (Some method) some split = first_split holder index method at opens split none
  names_found holder at index opens none None some split = absurd (cc)
