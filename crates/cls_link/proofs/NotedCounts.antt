-- The counts of fields that are noted.
use Rattle.std.proofs.Common.{◌≡◌, ◌⊎◌, inl, inr, ℕ, zero, suc, ◌+◌, ◌<◌, ◌≤◌, Option, Some, None, List, [], ◌∷◌, length, get_or, set, refl, sym, subst, ap, ◌∙◌, arith}
use Rattle.std.specs.Prelude.{slice_get}
use Rattle.std.proofs.lemmas.List.{length-set}
use Rattle.std.proofs.lemmas.Option.{slice_get-get_or}
use Rattle.cls_set.proofs.Hierarchy.{same_some, some_and}
use Rattle.cls_set.proofs.Walks.{before}
use Rattle.cls_set.specs.declared.class.Class.{Class}
use Rattle.space_ids.specs.declared.ids.ClassId.{ClassId}
use Rattle.std.specs.List.{count_by}
use Rattle.std.proofs.lemmas.List.Sums.{count_by-le-length}
use Rattle.cf_reader.specs.declared.class_file.Field.{Field}
use Rattle.cls_set.specs.Subtypes.{IsDirectSupertype}
use Rattle.cls_link.proofs.FieldCounts.{counts_below, counts_root}
use Rattle.cls_link.specs.Fields.{is_instance, AreNoted, IsCount}

get_set_same : {X : Type 0} (xs : List X) (i : ℕ) (a : X) → i < length xs → slice_get (set xs i a) i ≡ Some a
get_set_same [] i a h = absurd (omega (arith, h))
get_set_same (x ∷ xs) zero a h = refl
get_set_same (x ∷ xs) (suc i) a h = get_set_same xs i a (omega (arith, h))

get_set_other : {X : Type 0} (xs : List X) (i j : ℕ) (a : X) → (j ≡ i → ⊥) → slice_get (set xs i a) j ≡ slice_get xs j
get_set_other [] i j a ne = refl
get_set_other (x ∷ xs) zero zero a ne = absurd (ne refl)
get_set_other (x ∷ xs) zero (suc j) a ne = refl
get_set_other (x ∷ xs) (suc i) zero a ne = refl
get_set_other (x ∷ xs) (suc i) (suc j) a ne = get_set_other xs i j a (λ e. ne (ap suc e))

either : (m n : ℕ) → (m ≡ n) ⊎ (m ≡ n → ⊥)
either m n =
    elim (before m n) [
      | inl less ↦ inr (λ e. absurd (omega (arith, less, e)))
      | inr more ↦
          elim (before n m) [
            | inl less ↦ inr (λ e. absurd (omega (arith, less, e)))
            | inr most ↦ inl (omega (arith, more, most))
          ]
    ]

-- a count is noted
pub noted : (classes : List Class) (class : ClassId) (counts : List (Option ℕ)) (i count : ℕ) → AreNoted classes counts → i ≡ class.0 → class.0 < length classes
    → IsCount classes class count → AreNoted classes (set counts i (Some count))
noted classes class counts i count have same inside is =
    let one_each = have.one_each in
    record {
      one_each = length-set counts i (Some count) ∙ one_each;
      count = λ other n at.
          elim (either other.0 i) [
            | inl e ↦
                let here : slice_get (set counts i (Some count)) other.0 ≡ Some (Some count) = ap (slice_get (set counts i (Some count))) e ∙ get_set_same counts i (Some count) (omega (arith, same, inside, one_each)) in
                let n_is : count ≡ n = same_some (same_some (sym here ∙ at)) in
                subst (IsCount classes other) n_is (subst (λ k. IsCount classes (record { 0 = k }) count) (sym (e ∙ same)) is)
            | inr ne ↦ have.count other n (sym (get_set_other counts i other.0 (Some count) ne) ∙ at)
          ];
    }

-- a count that was noted before
pub noted_before : (classes : List Class) (class : ClassId) (counts : List (Option ℕ)) (i : ℕ) (o : Option ℕ) (count : ℕ) → AreNoted classes counts → class.0 < length classes → i ≡ class.0
    → o ≡ get_or counts i o → o ≡ Some count → IsCount classes class count
noted_before classes class counts i o count have inside same at is =
    let one_each = have.one_each in
    have.count class count
    (slice_get-get_or counts class.0 o (omega (arith, inside, one_each)) ∙ ap (λ x. Some x) (ap (λ n. get_or counts n o) (sym same) ∙ (sym at ∙ is)))

-- the instance fields that a class declares: no more than all of its fields
pub record IsOwn (c : Class) (own : ℕ) : Type 0 where
  pub is : own ≡ count_by is_instance c.file.fields
  pub few : own ≤ 65535

pub own_count : (c : Class) (fs : List Field) (own : ℕ) → fs ≡ c.file.fields → length c.file.fields ≤ 65535 → own ≡ count_by is_instance fs → IsOwn c own
own_count c fs own same few is =
    let less = count_by-le-length is_instance fs in
    let long = ap length same in
    record { is = is ∙ ap (count_by is_instance) same; few = omega (arith, few, is, less, long) }

-- a class's count is that of its superclass with its own
pub count_below : (classes : List Class) (class s : ClassId) (c : Class) (m own : ℕ) → slice_get classes class.0 ≡ Some c → c.superclass ≡ Some s → IsCount classes s m → IsOwn c own
    → IsCount classes class (m + own)
count_below classes class s c m own at up above is = record {
  counts = counts_below classes class c at s m (m + own) up above.counts (ap (λ n. m + n) is.is);
  few = λ rank ranking.
      let direct : IsDirectSupertype classes class s = inl (some_and (slice_get classes class.0) (λ (k : Class). k.superclass ≡ Some s) c at up) in
      let less = ranking class s direct in
      let inherited = above.few rank ranking in
      let own_few = is.few in
      omega (arith, less, inherited, own_few);
}

pub count_root : (classes : List Class) (class : ClassId) (c : Class) (own : ℕ) → slice_get classes class.0 ≡ Some c → c.superclass ≡ None → IsOwn c own → IsCount classes class own
count_root classes class c own at root is = record {
  counts = counts_root classes class c at own root is.is;
  few = λ rank ranking. let own_few = is.few in omega (arith, own_few);
}
