-- Tables of supertypes, each made of those of the direct supertypes.
use Rattle.std.proofs.Common.{◌≡◌, ℕ, ◌<◌, ◌⊎◌, inl, inr, Bool, true, false, List, [], ◌∷◌, ◌++◌, length, get_or, replicate, sym, subst, ◌∙◌}
use Rattle.std.specs.Prelude.{◌↔◌, set}
use Rattle.std.proofs.lemmas.List.Elements.{All-append, All-cons, All-contains, All-nil}
use Rattle.std.proofs.lemmas.List.{get_or-set_other, get_or-set_same}
use Rattle.space_ids.specs.declared.ids.ClassId.{ClassId}
use Rattle.cls_order.specs.declared.class.Class.{Class}
use Rattle.cls_order.specs.Entries.{IsTable}
use Rattle.cls_order.specs.Marks.{IsMarked}
use Rattle.cls_order.specs.Subtypes as types
use Rattle.cls_order.specs.Subtypes.{IsDirectSupertype, IsProperSubtype}
use Rattle.cls_order.specs.Telling.{IsTelling}
use Rattle.cls_order.specs.Walks.{ups_at, AreWithin}
use Rattle.cls_order.proofs.Heights.{none_met}
use Rattle.cls_order.proofs.Marks.{first_step, set_grows}
use Rattle.cls_order.proofs.Walks.{same_class, same_or_other_index, up_among, ups_within}

pub tells_none : (classes : List Class) (from : ClassId) (n : ℕ) → IsTelling classes from [] (replicate n false)
tells_none classes from n =
    record {
      sound = λ s m. absurd (none_met n s.0 m);
      closed = λ s t m p. absurd (none_met n s.0 m);
      told = All-nil (λ (s : ClassId). IsMarked (replicate n false) s.0);
    }

module _ (classes : List Class) (from class : ClassId) (done : List ClassId) (old : List Bool) (telling : IsTelling classes from done old) (direct : IsDirectSupertype classes from class) where
  -- a direct supertype that is marked has its own
  pub tells_it : IsMarked old class.0 → IsTelling classes from (done ++ class ∷ []) old
  tells_it marked =
      record {
        sound = telling.sound;
        closed = telling.closed;
        told = All-append (λ (s : ClassId). IsMarked old s.0) done (class ∷ []) telling.told (All-cons (λ (s : ClassId). IsMarked old s.0) class [] marked (All-nil (λ (s : ClassId). IsMarked old s.0)));
      }

  -- one that is not is marked, with its own
  pub tells_more : (above joined : List Bool) → IsTable classes class.0 above → class.0 < length joined
      → ((k : ℕ) → IsMarked joined k ↔ (IsMarked old k ⊎ IsMarked above k)) → IsTelling classes from (done ++ class ∷ []) (set joined class.0 true)
  tells_more above joined table inside both =
      let new = set joined class.0 true in
      let grown : (k : ℕ) → IsMarked joined k → IsMarked new k = λ k m. set_grows joined class.0 k inside m in
      let here : IsMarked new class.0 = get_or-set_same joined class.0 true false inside in
      let upper : (t : ClassId) → IsProperSubtype classes class t → IsMarked new t.0 = λ t p. grown t.0 ((both t.0).1 (inr ((table.supertypes t).1 p))) in
      let case : (R : Type 0) (s : ClassId) → IsMarked new s.0 → (s ≡ class → R) → (IsMarked old s.0 → R) → (IsProperSubtype classes class s → R) → R =
      λ R s m same was up.
      same_or_other_index R s.0 class.0
      (λ e. same (same_class s class e))
      (λ ne.
      elim ((both s.0).0 (sym (get_or-set_other joined class.0 s.0 true false ne) ∙ m)) [
        | inl o ↦ was o
        | inr a ↦ up ((table.supertypes s).0 a)
      ])
      in
      record {
        sound = λ s m.
            case (IsProperSubtype classes from s) s m
            (λ e. subst (IsProperSubtype classes from) (sym e) (types.IsProperSubtype.direct from class direct))
            (λ o. telling.sound s o)
            (λ p. types.IsProperSubtype.through from class s (types.IsProperSubtype.direct from class direct) p);
        closed = λ s t m p.
            case (IsMarked new t.0) s m
            (λ e. upper t (subst (λ c. IsProperSubtype classes c t) e p))
            (λ o. grown t.0 ((both t.0).1 (inl (telling.closed s t o p))))
            (λ u. upper t (types.IsProperSubtype.through class s t u p));
        told =
            All-append (λ (s : ClassId). IsMarked new s.0) done (class ∷ [])
            (λ k d h. grown (get_or done k d).0 ((both (get_or done k d).0).1 (inl (telling.told k d h))))
            (All-cons (λ (s : ClassId). IsMarked new s.0) class [] here (All-nil (λ (s : ClassId). IsMarked new s.0)));
      }

-- a table that tells all direct supertypes is that of the class
pub tells_all : (classes : List Class) (k : ℕ) (table : List Bool) → length table ≡ length classes → IsTelling classes (record { 0 = k }) (ups_at classes (record { 0 = k })) table → IsTable classes k table
tells_all classes k table long telling =
    record {
      long = long;
      supertypes = λ sup. (
        telling.sound sup,
        λ p.
            let first = first_step classes (record { 0 = k }) sup p in
            let marked : IsMarked table first.0.0 = All-contains (λ (s : ClassId). IsMarked table s.0) (ups_at classes (record { 0 = k })) first.0 telling.told (up_among classes (record { 0 = k }) first.0 first.1) in
            elim first.2 [
              | inl same ↦ subst (λ (s : ClassId). IsMarked table s.0) (sym same) marked
              | inr more ↦ telling.closed first.0 sup marked more
            ],
      );
    }

-- a direct supertype stands in the list
pub direct_low : (n : ℕ) (classes : List Class) (a s : ClassId) → AreWithin n classes → IsDirectSupertype classes a s → s.0 < n
direct_low n classes a s within d = All-contains (λ (s : ClassId). s.0 < n) (ups_at classes a) s (ups_within n classes a within) (up_among classes a s d)
