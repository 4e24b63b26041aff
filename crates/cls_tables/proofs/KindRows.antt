-- What the fields of objects hold, one field after the other.
use Rattle.std.proofs.Common.{◌≡◌, inl, inr, ◌⊎◌, ℕ, zero, suc, ◌+◌, ◌-◌, ◌<◌, ◌≤◌, ◌++◌, Bool, true, false, Option, Some, None, List, [], ◌∷◌, length, take, drop, get_or, set, refl, sym, subst, ap, ◌∙◌, arith, append_assoc, append-nil}
use Rattle.std.specs.Prelude.{if◌then◌else◌, count_by, slice_get, IsSomeAnd}
use Rattle.std.proofs.lemmas.List.{drop-append-le, get_or-drop, get_or_append_left, length-append, length-drop, length-set, take-append-le, take_all, take_more}
use Rattle.std.proofs.Math.Seq.{drop-append_seam, get_or-append_seam}
use Rattle.std.proofs.lemmas.Option.{slice_get-get_or}
use Rattle.cls_set.proofs.Walks.{before}
use Rattle.cls_set.specs.declared.class.Class.{Class}
use Rattle.space_ids.specs.declared.ids.ClassId.{ClassId}
use Rattle.cf_reader.specs.declared.class_file.Field.{Field}
use Rattle.cls_link.specs.Fields.{is_instance}
use Rattle.vm_heap.specs.declared.heap.WordKind.{WordKind}
use Rattle.cls_tables.proofs.FieldRows.{counted_no, counted_yes, cases}
use Rattle.cls_set.proofs.Hierarchy.{at_some, some_and}
use Rattle.cls_tables.specs.Kinds as kinds
use Rattle.cls_tables.specs.Kinds.{kind_of, own_kinds, part, AreLaid, HaveKinds, HoldsKinds, IsLaid, Starts}
use Rattle.cls_tables.specs.declared.kinds.Span.{Span}

own_append : (fs gs : List Field) → own_kinds (fs ++ gs) ≡ own_kinds fs ++ own_kinds gs
unfolding own_kinds
own_append [] gs = refl
own_append (f ∷ fs) gs = on (is_instance f) (own_append fs gs)
  where
    on : (b : Bool) → own_kinds (fs ++ gs) ≡ own_kinds fs ++ own_kinds gs
        → (if b then kind_of f.kind ∷ own_kinds (fs ++ gs) else own_kinds (fs ++ gs)) ≡ (if b then kind_of f.kind ∷ own_kinds fs else own_kinds fs) ++ own_kinds gs
    on true e = ap (λ ks. kind_of f.kind ∷ ks) e
    on false e = e

pub one_kind : (f : Field) (now : List WordKind) → is_instance f ≡ true → now ++ kind_of f.kind ∷ [] ≡ now ++ own_kinds (f ∷ [])
unfolding own_kinds
one_kind f now is = rw is refl

pub static_kind : (f : Field) (now : List WordKind) → is_instance f ≡ false → now ≡ now ++ own_kinds (f ∷ [])
unfolding own_kinds
static_kind f now is = rw is (sym (append-nil now))

pub no_kinds : (now : List WordKind) → now ≡ now ++ own_kinds []
unfolding own_kinds
no_kinds now = sym (append-nil now)

-- one field more
own_more : (fs : List Field) (i : ℕ) (d : Field) → i < length fs → own_kinds (take (i + 1) fs) ≡ own_kinds (take i fs) ++ own_kinds (get_or fs i d ∷ [])
own_more fs i d inside = ap own_kinds (take_more fs i d inside) ∙ own_append (take i fs) (get_or fs i d ∷ [])

pub field_added : (start now new : List WordKind) (fs : List Field) (i : ℕ) (f : Field) → i < length fs → f ≡ get_or fs i f → now ≡ start ++ own_kinds (take i fs)
    → new ≡ now ++ own_kinds (f ∷ []) → new ≡ start ++ own_kinds (take (i + 1) fs)
field_added start now new fs i f inside is so_far added =
    added
    ∙ (ap (λ ks. ks ++ own_kinds (f ∷ [])) so_far
    ∙ (append_assoc start (own_kinds (take i fs)) (own_kinds (f ∷ []))
    ∙ ap (λ ks. start ++ ks) (ap (λ g. own_kinds (take i fs) ++ own_kinds (g ∷ [])) is ∙ sym (own_more fs i f inside))))

-- if no field is one of instances, nothing is held
pub none_held : (fs : List Field) → count_by is_instance fs ≡ 0 → own_kinds fs ≡ []
unfolding own_kinds
none_held [] none = refl
none_held (f ∷ fs) none =
    elim (cases (is_instance f)) [
      | inl is ↦ let one = counted_yes f fs is in absurd (omega (arith, one, none))
      | inr is ↦ rw is (none_held fs (let no = counted_no f fs is in omega (arith, no, none)))
    ]

-- a row that goes on has the parts that it had
pub part_kept : (row more : List WordKind) (start end : ℕ) → start ≤ end → end ≤ length row → part (row ++ more) start end ≡ part row start end
part_kept row more start end rising within =
    let few = length-drop start row in
    ap (take (end - start)) (drop-append-le start row more (omega (arith, rising, within)))
    ∙ take-append-le (end - start) (drop start row) more (omega (arith, rising, within, few))

-- the last part of a row
last_part : (row : List WordKind) (start : ℕ) → start ≤ length row → part row start (length row) ≡ drop start row
last_part row start within = let few = length-drop start row in take_all (length row - start) (drop start row) (omega (arith, few))

pub part_grown : (row new own : List WordKind) (start end last : ℕ) → start ≤ end → end ≡ length row → new ≡ row ++ own → last ≡ length new → part new start last ≡ part row start end ++ own
part_grown row new own start end last rising is grown ends =
    let both = length-append row own in
    let within : start ≤ length row = omega (arith, rising, is) in
    let long = ap length grown in
    ap (part new start) ends
    ∙ (last_part new start (omega (arith, within, both, long))
    ∙ (ap (drop start) grown
    ∙ (drop-append-le start row own within
    ∙ ap (λ ks. ks ++ own) (sym (ap (part row start) is ∙ last_part row start within)))))

pub part_again : (row mid new copy own : List WordKind) (first last : ℕ) → mid ≡ row ++ copy → new ≡ mid ++ own → first ≡ length row → last ≡ length new → part new first last ≡ copy ++ own
part_again row mid new copy own first last copied grown begins ends =
    let whole : new ≡ row ++ (copy ++ own) = grown ∙ (ap (λ ks. ks ++ own) copied ∙ append_assoc row copy own) in
    let both = length-append row (copy ++ own) in
    let long = ap length whole in
    ap (part new first) ends
    ∙ (last_part new first (omega (arith, both, long, begins))
    ∙ (ap (λ n. drop n new) begins ∙ (ap (drop (length row)) whole ∙ drop-append_seam row (copy ++ own))))

pub kind_copied : (row now new : List WordKind) (start end i : ℕ) (k : WordKind) → start ≤ end → end ≤ length row → i < end - start → now ≡ row ++ take i (drop start row)
    → k ≡ get_or now (start + i) k → new ≡ now ++ k ∷ [] → new ≡ row ++ take (i + 1) (drop start row)
kind_copied row now new start end i k rising within inside so_far is pushed =
    let few = length-drop start row in
    let low : start + i < length row = omega (arith, rising, within, inside) in
    let here : k ≡ get_or (drop start row) i k =
    is ∙ (ap (λ ks. get_or ks (start + i) k) so_far ∙ (get_or_append_left row (take i (drop start row)) k (start + i) low ∙ sym (get_or-drop start row i k))) in
    pushed
    ∙ (ap (λ ks. ks ++ k ∷ []) so_far
    ∙ (append_assoc row (take i (drop start row)) (k ∷ [])
    ∙ ap (λ ks. row ++ ks) (ap (λ x. take i (drop start row) ++ x ∷ []) here ∙ sym (take_more (drop start row) i k (omega (arith, low, few))))))

pub get_set_same : {X : Type 0} (xs : List X) (i : ℕ) (a : X) → i < length xs → slice_get (set xs i a) i ≡ Some a
get_set_same [] i a h = absurd (omega (arith, h))
get_set_same (x ∷ xs) zero a h = refl
get_set_same (x ∷ xs) (suc i) a h = get_set_same xs i a (omega (arith, h))

pub get_set_other : {X : Type 0} (xs : List X) (i j : ℕ) (a : X) → (j ≡ i → ⊥) → slice_get (set xs i a) j ≡ slice_get xs j
get_set_other [] i j a ne = refl
get_set_other (x ∷ xs) zero zero a ne = absurd (ne refl)
get_set_other (x ∷ xs) zero (suc j) a ne = refl
get_set_other (x ∷ xs) (suc i) zero a ne = refl
get_set_other (x ∷ xs) (suc i) (suc j) a ne = get_set_other xs i j a (λ e. ne (ap suc e))

pub either : (m n : ℕ) → (m ≡ n) ⊎ (m ≡ n → ⊥)
either m n =
    elim (before m n) [
      | inl less ↦ inr (λ e. absurd (omega (arith, less, e)))
      | inr more ↦
          elim (before n m) [
            | inl less ↦ inr (λ e. absurd (omega (arith, less, e)))
            | inr most ↦ inl (omega (arith, more, most))
          ]
    ]

pub same_some : {X : Type 0} {x y : X} → Some x ≡ Some y → x ≡ y
same_some e = cc

pub laid_on : (classes : List Class) (class : ClassId) (row new : List WordKind) (span : Span) → IsLaid classes class row span → Starts row new → IsLaid classes class new span
laid_on classes class row new span laid on =
    let rising = laid.rising in
    let within = laid.within in
    let both = length-append row on.more in
    let long = ap length on.is in
    let same : part new span.start span.end ≡ part row span.start span.end = ap (λ ks. part ks span.start span.end) on.is ∙ part_kept row on.more span.start span.end rising within in
    record { rising = rising; within = omega (arith, within, both, long); holds = subst (HoldsKinds classes class) (sym same) laid.holds }

-- what a class was laid out as is noted
pub noted : (classes : List Class) (class : ClassId) (row new : List WordKind) (memo : List (Option Span)) (i : ℕ) (span : Span) → AreLaid classes row memo → Starts row new
    → i ≡ class.0 → class.0 < length classes → IsLaid classes class new span → AreLaid classes new (set memo i (Some span))
noted classes class row new memo i span have on same inside is =
    let one_each = have.one_each in
    record {
      one_each = length-set memo i (Some span) ∙ one_each;
      laid = λ other s at.
          elim (either other.0 i) [
            | inl e ↦
                let here : slice_get (set memo i (Some span)) other.0 ≡ Some (Some span) = ap (slice_get (set memo i (Some span))) e ∙ get_set_same memo i (Some span) (omega (arith, same, inside, one_each)) in
                let s_is : span ≡ s = same_some (same_some (sym here ∙ at)) in
                subst (IsLaid classes other new) s_is (subst (λ n. IsLaid classes (record { 0 = n }) new span) (sym (e ∙ same)) is)
            | inr ne ↦ laid_on classes other row new s (have.laid other s (sym (get_set_other memo i other.0 (Some span) ne) ∙ at)) on
          ];
    }

-- after no superclass
pub holds_root : (classes : List Class) (class : ClassId) (c : Class) (inherited : List WordKind) → slice_get classes class.0 ≡ Some c → c.superclass ≡ None → inherited ≡ []
    → IsSomeAnd (slice_get classes class.0) (λ c. HoldsKinds classes class (inherited ++ own_kinds c.file.fields))
holds_root classes class c inherited at root none =
    some_and (slice_get classes class.0) (λ c. HoldsKinds classes class (inherited ++ own_kinds c.file.fields)) c at
    (subst (λ ks. HoldsKinds classes class (ks ++ own_kinds c.file.fields)) (sym none) (kinds.HoldsKinds.of_root class c at root))

pub holds_below : (classes : List Class) (class superclass : ClassId) (c : Class) (inherited : List WordKind) → slice_get classes class.0 ≡ Some c → c.superclass ≡ Some superclass
    → HoldsKinds classes superclass inherited → IsSomeAnd (slice_get classes class.0) (λ c. HoldsKinds classes class (inherited ++ own_kinds c.file.fields))
holds_below classes class superclass c inherited at up holds =
    some_and (slice_get classes class.0) (λ c. HoldsKinds classes class (inherited ++ own_kinds c.file.fields)) c at (kinds.HoldsKinds.of_subclass class superclass c inherited at up holds)

-- what a class was laid out as, after what it inherits
pub laid_after : (classes : List Class) (class : ClassId) (c : Class) (inherited row : List WordKind) (fs : List Field) (span : Span)
    → IsSomeAnd (slice_get classes class.0) (λ c. HoldsKinds classes class (inherited ++ own_kinds c.file.fields)) → slice_get classes class.0 ≡ Some c → fs ≡ c.file.fields
    → span.start ≤ span.end → span.end ≤ length row → part row span.start span.end ≡ inherited ++ own_kinds fs → IsLaid classes class row span
laid_after classes class c inherited row fs span holds at same rising within is =
    let here = at_some (slice_get classes class.0) (λ c. HoldsKinds classes class (inherited ++ own_kinds c.file.fields)) c at holds in
    record {
      rising = rising;
      within = within;
      holds = subst (HoldsKinds classes class) (sym (is ∙ ap (λ fs. inherited ++ own_kinds fs) same)) here;
    }

pub some_none : {X : Type 0} {x : X} → Some x ≡ None → ⊥
some_none e = cc

pub none_laid : (classes : List Class) (row : List WordKind) (memo : List (Option Span)) → length memo ≡ length classes → ((i : ℕ) (o : Option Span) → slice_get memo i ≡ Some o → o ≡ None) → AreLaid classes row memo
none_laid classes row memo long none = record { one_each = long; laid = λ class span at. absurd (some_none (none class.0 (Some span) at)) }

-- a class that was laid out before
pub laid_before : (classes : List Class) (class : ClassId) (row : List WordKind) (memo : List (Option Span)) (i : ℕ) (o : Option Span) (span : Span) → AreLaid classes row memo
    → class.0 < length classes → i ≡ class.0 → o ≡ get_or memo i o → o ≡ Some span → IsLaid classes class row span
laid_before classes class row memo i o span have inside same at is =
    let one_each = have.one_each in
    have.laid class span
    (slice_get-get_or memo class.0 o (omega (arith, inside, one_each)) ∙ ap (λ x. Some x) (ap (λ n. get_or memo n o) (sym same) ∙ (sym at ∙ is)))

pub nothing_between : (row : List WordKind) (m n : ℕ) → n ≡ m → part row m n ≡ []
nothing_between row m n e = ap (λ k. take k (drop m row)) (let none : n - m ≡ 0 = omega (arith, e) in none)

pub held_again : (row : List WordKind) (start end : ℕ) (fs : List Field) (count : ℕ) → count ≡ count_by is_instance fs → count ≡ 0 → part row start end ≡ part row start end ++ own_kinds fs
held_again row start end fs count is none = sym (ap (λ ks. part row start end ++ ks) (none_held fs (sym is ∙ none)) ∙ append-nil (part row start end))

-- a class more
pub span_added : (classes : List Class) (row new : List WordKind) (spans more : List Span) (k : ℕ) (span : Span) → length spans ≡ k → Starts row new
    → ((class : ClassId) → class.0 < k → IsLaid classes class row (get_or spans class.0 (record { start = 0; end = 0 }))) → IsLaid classes (record { 0 = k }) new span → more ≡ spans ++ span ∷ []
    → (length more ≡ k + 1) × ((class : ClassId) → class.0 < k + 1 → IsLaid classes class new (get_or more class.0 (record { start = 0; end = 0 })))
span_added classes row new spans more k span long on so_far is pushed = (
  (let all = ap length pushed in let one = length-append spans (span ∷ []) in omega (arith, all, one, long)),
  λ class low.
      elim (before class.0 k) [
        | inl less ↦
            subst (IsLaid classes class new) (sym (ap (λ xs. get_or xs class.0 (record { start = 0; end = 0 })) pushed ∙ get_or_append_left spans (span ∷ []) (record { start = 0; end = 0 }) class.0 (omega (arith, less, long))))
            (laid_on classes class row new (get_or spans class.0 (record { start = 0; end = 0 })) (so_far class less) on)
        | inr more_than ↦
            let same : k ≡ class.0 = omega (arith, more_than, low) in
            let last : class.0 ≡ length spans = omega (arith, same, long) in
            let e : get_or more class.0 (record { start = 0; end = 0 }) ≡ span =
            ap (λ xs. get_or xs class.0 (record { start = 0; end = 0 })) pushed
            ∙ (ap (λ i. get_or (spans ++ span ∷ []) i (record { start = 0; end = 0 })) last ∙ get_or-append_seam spans span [] (record { start = 0; end = 0 })) in
            subst (IsLaid classes class new) (sym e) (subst (λ i. IsLaid classes (record { 0 = i }) new span) same is)
      ],
)
