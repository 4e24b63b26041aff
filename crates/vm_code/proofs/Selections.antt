-- What the tables have of a class is what the definitions select.
use Rattle.std.proofs.Common.{◌≡◌, inl, ℕ, zero, suc, ◌<◌, ◌++◌, Option, Some, None, List, [], ◌∷◌, length, refl, subst, ap, ◌∙◌, arith, append-nil}
use Rattle.std.specs.Prelude.{IsSomeAnd, option_to_list, slice_get, option_and_then}
use Rattle.std.specs.Option.{option_map_or}
use Rattle.cf_reader.specs.declared.class_file.Method.{Method}
use Rattle.cls_search.proofs.Heights.{low_ranks}
use Rattle.cls_search.specs.Searches as searches
use Rattle.cls_search.specs.Searches.{Finds, IsRanking, superclass_of}
use Rattle.cls_set.specs.Sets.{IsClassSet}
use Rattle.cls_set.specs.Subtypes.{Extends}
use Rattle.cls_set.specs.declared.class.Class.{Class}
use Rattle.space_ids.specs.declared.ids.ClassId.{ClassId}
use Rattle.cls_link.specs.Selections.{instance_method}
use Rattle.cls_link.specs.declared.linked_code.MethodId.{MethodId}
use Rattle.cls_tables.specs.Choices.{IsSelected}
use Rattle.vm_code.specs.Methods.{superclass_at, or_else, first_up, selection_of}

module _ (classes : List Class) where
  above_is : (c : ClassId) → superclass_of classes c ≡ option_to_list (superclass_at classes c)
  above_is c = of_class (slice_get classes c.0)
    where
      of_class : (o : Option Class) → option_map_or (λ (c : Class). option_to_list c.superclass) o [] ≡ option_to_list (option_and_then (λ (c : Class). c.superclass) o)
      of_class None = refl
      of_class (Some c) = refl

  extends : (a m : ClassId) → superclass_at classes a ≡ Some m → Extends classes a m
  extends a m e = of_class (slice_get classes a.0) e
    where
      of_class : (o : Option Class) → option_and_then (λ (c : Class). c.superclass) o ≡ Some m → IsSomeAnd o (λ c. c.superclass ≡ Some m)
      of_class None e = absurd (cc)
      of_class (Some c) e = e

  first_of_one : (d c : ClassId) (rest : List ClassId) → ◌≡◌ {A = List ClassId} (d ∷ rest) (c ∷ []) → d ≡ c
  first_of_one d c rest e = cc

  none_after : (d c : ClassId) (rest : List ClassId) → ◌≡◌ {A = List ClassId} (d ∷ rest) (c ∷ []) → rest ≡ []
  none_after d c rest e = cc

  above_one : (d c : ClassId) (rest : List ClassId) → d ≡ c → rest ≡ [] → (superclass_of classes d ++ rest) ≡ option_to_list (superclass_at classes c)
  above_one d c rest same none =
      ap (λ xs. superclass_of classes d ++ xs) none ∙ (append-nil (superclass_of classes d) ∙ (ap (superclass_of classes) same ∙ above_is c))

  module _ {A : Type 0} (own : ClassId → Option A) (rank : ClassId → ℕ) (ranking : IsRanking classes rank) where
    nothing_found : {xs : List ClassId} {answer : Option A} → Finds (superclass_of classes) own xs answer → xs ≡ [] → None ≡ answer
    nothing_found searches.Finds.nothing e = refl
    nothing_found (searches.Finds.here d rest found is) e = absurd (cc)
    nothing_found (searches.Finds.further d rest answer is finds) e = absurd (cc)

    abbrev Answers : ℕ → Type 0
    Answers n = (c : ClassId) (answer : Option A) → rank c < n → Finds (superclass_of classes) own (c ∷ []) answer → first_up n classes own c ≡ answer

    on_up : (n : ℕ) (c : ClassId) → Answers n → rank c < suc n → (o : Option ClassId) → superclass_at classes c ≡ o → (answer : Option A) (above : List ClassId)
        → above ≡ option_to_list o → Finds (superclass_of classes) own above answer → option_and_then (λ up. first_up n classes own up) o ≡ answer
    on_up n c go low None e answer above is finds = nothing_found finds is
    on_up n c go low (Some s) e answer above is finds =
        let less = ranking c s (inl (extends c s e)) in
        go s answer (omega (arith, less, low)) (subst (λ xs. Finds (superclass_of classes) own xs answer) is finds)

    at_first : (n : ℕ) → Answers n → (c : ClassId) → rank c < suc n → {xs : List ClassId} {answer : Option A} → Finds (superclass_of classes) own xs answer
        → xs ≡ c ∷ [] → or_else (own c) (option_and_then (λ up. first_up n classes own up) (superclass_at classes c)) ≡ answer
    at_first n go c low searches.Finds.nothing e = absurd (cc)
    at_first n go c low (searches.Finds.here d rest found is) e =
        ap (λ o. or_else o (option_and_then (λ up. first_up n classes own up) (superclass_at classes c))) (subst (λ b. own b ≡ Some found) (first_of_one d c rest e) is)
    at_first n go c low (searches.Finds.further d rest answer is finds) e =
        let same = first_of_one d c rest e in
        ap (λ o. or_else o (option_and_then (λ up. first_up n classes own up) (superclass_at classes c))) (subst (λ b. own b ≡ None) same is)
        ∙ on_up n c go low (superclass_at classes c) refl answer (superclass_of classes d ++ rest) (above_one d c rest same (none_after d c rest e)) finds

    first_found : (n : ℕ) → Answers n
    unfolding first_up
    first_found zero c answer low finds = absurd (omega (arith, low))
    first_found (suc n) c answer low finds = at_first n (first_found n) c low finds refl

  pub selection_is : IsClassSet classes → (class : ClassId) (named : MethodId) (found : Option MethodId) → IsSelected classes class named found → selection_of classes class named ≡ found
  unfolding selection_of
  selection_is set class named found selects =
      let ranks = low_ranks classes set in
      let low = ranks.low class in
      ap (option_and_then (λ (m : Method). first_up (suc (length classes)) classes (instance_method classes m.name m.descriptor) class)) selects.declared
      ∙ first_found (instance_method classes selects.method.name selects.method.descriptor) ranks.rank ranks.ranking (suc (length classes)) class found (omega (arith, low)) selects.search
