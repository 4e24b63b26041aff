-- Which classes are marked or below one that is, as they are found by rank.
use Rattle.std.proofs.Common.{◌≡◌, ℕ, zero, suc, ◌<◌, ◌⊎◌, inl, inr, Bool, true, false, Some, List, [], ◌∷◌, ◌++◌, length, get_or, take, refl, sym, subst, ap, ◌∙◌, arith}
use Rattle.std.specs.Prelude.{◌↔◌, Contains, set, slice_get}
use Rattle.std.specs.Ordering.{nat_cmp, ordering_index}
use Rattle.std.specs.declared.cmp.Ordering.TheVariants.{Less, Equal}
use Rattle.std.proofs.lemmas.Cmp.{nat_cmp_total}
use Rattle.std.specs.Cmp.{nat_cmp_is}
use Rattle.std.proofs.lemmas.List.{get_or-set_other, get_or-set_same, get_or-take, length-set, length-take-le}
use Rattle.std.proofs.lemmas.List.Elements.{Contains-append_cases}
use Rattle.std.proofs.lemmas.List.Sorted.{searchable_from_sorted}
use Rattle.std.specs.List.{Any}
use Rattle.std.proofs.lemmas.Option.{slice_get_cases}
use Rattle.cls_order.specs.declared.class.Class.{Class}
use Rattle.space_ids.specs.declared.ids.ClassId.{ClassId}
use Rattle.cls_order.specs.declared.entries.Entry.{Entry}
use Rattle.cls_order.specs.Entries.{classes_of, AreArranged}
use Rattle.cls_order.specs.Marks.{rank_at, IsByRank, IsMarked, Reaches}
use Rattle.cls_order.specs.Subtypes as types
use Rattle.cls_order.specs.Subtypes.{IsDirectSupertype, IsProperSubtype}
use Rattle.cls_order.specs.Walks.{ups, ups_of}
use Rattle.cls_order.proofs.Hierarchy.{same_read}
use Rattle.cls_order.proofs.Heights.{long_classes}
use Rattle.cls_order.proofs.Supertypes.{direct_within, ranks}
use Rattle.cls_order.proofs.Walks.{before, of_class, same_or_other_index, up_among}

-- the class at an index
pub standing_at : (classes : List Class) (k : ℕ) → k < length classes → (c : Class) × (slice_get classes k ≡ Some c)
standing_at classes k h =
    elim (slice_get_cases classes k).1 [
      | inl r ↦ (r.0, r.2)
      | inr r ↦ absurd (omega (arith, h, r.0))
    ]

-- a proper supertype is a direct one, or one of a direct one
pub first_step : (classes : List Class) (a b : ClassId) → IsProperSubtype classes a b → (d : ClassId) × IsDirectSupertype classes a d × ((b ≡ d) ⊎ IsProperSubtype classes d b)
first_step classes a b (types.IsProperSubtype.direct x y e) = (y, e, inl refl)
first_step classes a b (types.IsProperSubtype.through x m y p q) =
    let first = first_step classes x m p in
    elim first.2 [
      | inl same ↦ (first.0, first.1, inr (subst (λ z. IsProperSubtype classes z y) same q))
      | inr more ↦ (first.0, first.1, inr (types.IsProperSubtype.through first.0 m y more q))
    ]

-- a direct supertype comes before a class in the order of ranks
pub comes_before : (entries : List Entry) (order : List ℕ) (i : ℕ) (n : ℕ) (s : ClassId) → AreArranged entries → IsByRank entries order → i < length order → get_or order i 0 ≡ n → IsDirectSupertype (classes_of entries) (record { 0 = n }) s → Contains (take i order) s.0
comes_before entries order i n s a o h is d =
    let classes = classes_of entries in
    let inside = direct_within classes a.resolved (record { 0 = n }) s d in
    let long = long_classes entries in
    let among = o.each s.0 (omega (arith, inside, long)) in
    let low : rank_at entries s.0 < rank_at entries n = ranks entries a.ranked (record { 0 = n }) s d in
    elim (before among.0 i) [
      | inl first ↦ (among.0, subst (λ n. among.0 < n) (sym (length-take-le i order (omega (arith, h)))) first, get_or-take i order among.0 s.0 first ∙ among.2)
      | inr later ↦
          let up = searchable_from_sorted nat_cmp_total (rank_at entries) order (rank_at entries n) o.sorted i among.0 s.0 later among.1 in
          let here : get_or order i s.0 ≡ n = same_read order i s.0 0 h ∙ is in
          let one : nat_cmp (rank_at entries (get_or order i s.0)) (rank_at entries n) ≡ Equal = ap (λ k. nat_cmp (rank_at entries k) (rank_at entries n)) here ∙ sym (nat_cmp_is (rank_at entries n) (rank_at entries n) Equal refl) in
          let zero : nat_cmp (rank_at entries (get_or order among.0 s.0)) (rank_at entries n) ≡ Less = ap (λ k. nat_cmp (rank_at entries k) (rank_at entries n)) among.2 ∙ sym (nat_cmp_is (rank_at entries s.0) (rank_at entries n) Less low) in
          let a = ap ordering_index one in
          let b = ap ordering_index zero in
          absurd (omega (arith, up, a, b))
    ]

-- the marks once those of some classes are found
pub record IsSpreading (classes : List Class) (marks told : List Bool) (done : List ℕ) : Type 0 where
  pub long : length told ≡ length marks
  pub kept : (k : ℕ) → IsMarked marks k → IsMarked told k
  pub sound : (k : ℕ) → IsMarked told k → Reaches classes marks k
  pub complete : (k : ℕ) → Contains done k → Reaches classes marks k → IsMarked told k

pub spread_starts : (classes : List Class) (marks : List Bool) → IsSpreading classes marks marks []
spread_starts classes marks =
    record {
      long = refl;
      kept = λ k h. h;
      sound = λ k h. inl h;
      complete = λ k among. absurd (omega (arith, among.1));
    }

pub set_grows : (told : List Bool) (n k : ℕ) → n < length told → IsMarked told k → IsMarked (set told n true) k
set_grows told n k h was =
    same_or_other_index (IsMarked (set told n true) k) k n
    (λ e. subst (IsMarked (set told n true)) (sym e) (get_or-set_same told n true false h))
    (λ ne. get_or-set_other told n k true false ne ∙ was)

pub single_index : (k n : ℕ) → Contains (n ∷ []) k → k ≡ n
single_index k n (zero, h, is) = sym is
single_index k n (suc i, h, is) = absurd (omega (arith, h))

module _ (classes : List Class) (marks told : List Bool) (done : List ℕ) (n : ℕ) (old : IsSpreading classes marks told done) where
  -- a class below a marked one is marked
  pub spread_marks : n < length told → (s : ClassId) → IsDirectSupertype classes (record { 0 = n }) s → IsMarked told s.0 → IsSpreading classes marks (set told n true) (done ++ n ∷ [])
  spread_marks h s d up =
      let reached : Reaches classes marks n =
      elim (old.sound s.0 up) [
        | inl m ↦ inr (s, types.IsProperSubtype.direct (record { 0 = n }) s d, m)
        | inr r ↦ inr (r.0, types.IsProperSubtype.through (record { 0 = n }) s r.0 (types.IsProperSubtype.direct (record { 0 = n }) s d) r.1, r.2)
      ]
      in
      record {
        long = length-set told n true ∙ old.long;
        kept = λ k m. set_grows told n k h (old.kept k m);
        sound = λ k m.
            same_or_other_index (Reaches classes marks k) k n
            (λ e. subst (Reaches classes marks) (sym e) reached)
            (λ ne. old.sound k (sym (get_or-set_other told n k true false ne) ∙ m));
        complete = λ k among r.
            elim (Contains-append_cases done (n ∷ []) k among) [
              | inl was ↦ set_grows told n k h (old.complete k was r)
              | inr here ↦ subst (IsMarked (set told n true)) (sym (single_index k n here)) (get_or-set_same told n true false h)
            ];
      }

  -- and one below none is not
  pub spread_leaves : ((s : ClassId) → IsDirectSupertype classes (record { 0 = n }) s → Contains done s.0) → ((s : ClassId) → IsDirectSupertype classes (record { 0 = n }) s → IsMarked told s.0 → ⊥) → IsSpreading classes marks told (done ++ n ∷ [])
  spread_leaves passed none =
      let own : Reaches classes marks n → IsMarked told n = λ r.
      elim r [
        | inl m ↦ old.kept n m
        | inr up ↦
            let first = first_step classes (record { 0 = n }) up.0 up.1 in
            let above : Reaches classes marks first.0.0 =
            elim first.2 [
              | inl same ↦ inl (subst (λ (s : ClassId). IsMarked marks s.0) same up.2)
              | inr more ↦ inr (up.0, more, up.2)
            ]
            in
            absurd (none first.0 first.1 (old.complete first.0.0 (passed first.0 first.1) above))
      ]
      in
      record {
        long = old.long;
        kept = old.kept;
        sound = old.sound;
        complete = λ k among r.
            elim (Contains-append_cases done (n ∷ []) k among) [
              | inl was ↦ old.complete k was r
              | inr here ↦ subst (IsMarked told) (sym (single_index k n here)) (own (subst (Reaches classes marks) (single_index k n here) r))
            ];
      }

-- all are found
pub spread_ends : (classes : List Class) (marks told : List Bool) (done : List ℕ) → IsSpreading classes marks told done → (k : ℕ) → Contains done k → IsMarked told k ↔ Reaches classes marks k
spread_ends classes marks told done s k among = (s.sound k, s.complete k among)

-- a marked direct supertype, by the list of them
pub up_marked : (classes : List Class) (n : ℕ) (c : Class) (told : List Bool) → slice_get classes n ≡ Some c → Any (λ s. IsMarked told s.0) (ups c) → (s : ClassId) × IsDirectSupertype classes (record { 0 = n }) s × IsMarked told s.0
up_marked classes n c told is (i, s, h, at, m) = (s, of_class classes (record { 0 = n }) s c is (i, h, at), m)

pub marked_up : (classes : List Class) (n : ℕ) (c : Class) (told : List Bool) → slice_get classes n ≡ Some c → (s : ClassId) → IsDirectSupertype classes (record { 0 = n }) s → IsMarked told s.0 → Any (λ s. IsMarked told s.0) (ups c)
marked_up classes n c told is s d m =
    let among = subst (λ o. Contains (ups_of o) s) is (up_among classes (record { 0 = n }) s d) in
    (among.0, s, among.1, among.2, m)
