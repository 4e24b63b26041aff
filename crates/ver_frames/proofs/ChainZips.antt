-- Types held against those of a chain, from the last to the first.
use Rattle.std.proofs.Common.{◌≡◌, ◌↔◌, ℕ, zero, suc, ◌+◌, ◌-◌, ◌<◌, ◌≤◌, Bool, true, false, IsTrue, Option, Some, List, [], ◌∷◌, ◌++◌, length, get_or, take, replicate, refl, ap, sym, subst, ◌∙◌, arith, length-append}
use Rattle.std.specs.Prelude.{slice_get}
use Rattle.std.specs.List.{AllZip}
use Rattle.std.proofs.Math.Seq.{take-suc}
use Rattle.std.proofs.lemmas.List.{append-nil, length-replicate, length-take-le, take_all}
use Rattle.std.proofs.lemmas.Slice.Zip.{AllZip-long}
use Rattle.cls_set.specs.declared.class.Class.{Class}
use Rattle.ver_frames.proofs.Chains.{last_types, long_to, shortened}
use Rattle.ver_frames.proofs.Fillings.{filled_count, filled_long, first_filled, get_filled}
use Rattle.ver_frames.specs.Assignable.{AreAssignable, IsAssignable}
use Rattle.ver_frames.specs.Chains.{Stands, StandTo, types_to}
use Rattle.ver_frames.specs.Frames.{filled, first_types}
use Rattle.ver_frames.specs.declared.chain.TypeNode.{TypeNode}
use Rattle.ver_frames.specs.declared.vtype.VType.{VType}
use Rattle.ver_frames.specs.declared.vtype.VType.TheVariants.{Top}

-- ---- the last of both

split_last : {A B : Type 0} (R : A → B → Type 0) (xs : List A) (ys : List B) (x : A) (y : B) → length xs ≡ length ys
    → AllZip R (xs ++ x ∷ []) (ys ++ y ∷ []) → AllZip R xs ys × R x y
split_last R [] [] x y long h = (tt, h.0)
split_last R [] (b ∷ ys) x y long h = absurd (omega (arith, long))
split_last R (a ∷ xs) [] x y long h = absurd (omega (arith, long))
split_last R (a ∷ xs) (b ∷ ys) x y long h =
    let others = split_last R xs ys x y (omega (arith, long)) h.1 in ((h.0, others.0), others.1)

join_last : {A B : Type 0} (R : A → B → Type 0) (xs : List A) (ys : List B) (x : A) (y : B) → AllZip R xs ys → R x y → AllZip R (xs ++ x ∷ []) (ys ++ y ∷ [])
join_last R [] [] x y h last = (last, tt)
join_last R [] (b ∷ ys) x y h last = absurd h
join_last R (a ∷ xs) [] x y h last = absurd h
join_last R (a ∷ xs) (b ∷ ys) x y h last = (h.0, join_last R xs ys x y h.1 last)

-- ---- the loop

-- the first types are assignable to those of a chain of n types
abbrev pub AreFirst : List Class → List VType → List TypeNode → ℕ → ℕ → Type 0
AreFirst classes given nodes n last = AllZip (IsAssignable classes) (take n given) (types_to nodes n last)

-- all are, exactly if all but the last and the last are
pub last_and_others : (classes : List Class) (given : List VType) (nodes : List TypeNode) (n last : ℕ) (node : TypeNode) → StandTo nodes (suc n) last → slice_get nodes last ≡ Some node → n < length given
    → AreFirst classes given nodes (suc n) last ↔ (AreFirst classes given nodes n node.before × IsAssignable classes (get_or given n Top) node.kind)
last_and_others classes given nodes n last node stands at inside =
    let before : StandTo nodes n node.before = (shortened nodes n last n node stands at (omega arith)).0 in
    let left : take (suc n) given ≡ take n given ++ get_or given n Top ∷ [] = take-suc given n Top inside in
    let right = last_types nodes n last node at in
    let long : length (take n given) ≡ length (types_to nodes n node.before) = length-take-le n given (omega (arith, inside)) ∙ sym (long_to nodes n node.before before) in
    rw (left, right) (
      λ all. split_last (IsAssignable classes) (take n given) (types_to nodes n node.before) (get_or given n Top) node.kind long all,
      λ both. join_last (IsAssignable classes) (take n given) (types_to nodes n node.before) (get_or given n Top) node.kind both.0 both.1,
    )

-- the last is not
pub last_fails : (whole rest : Type 0) (all last : Type 0) (test : Bool) → (all ↔ whole) → (all ↔ (rest × last)) → (IsTrue test ↔ last) → test ≡ false → IsTrue false ↔ whole
last_fails whole rest all last test so_far both tested fails =
    (λ no. absurd (cc), λ w. let l = (both.0 (so_far.1 w)).1 in let t = tested.1 l in absurd (cc))

-- the last is
pub last_passes : (whole rest : Type 0) (all last : Type 0) (test : Bool) → (all ↔ whole) → (all ↔ (rest × last)) → (IsTrue test ↔ last) → test ≡ true → rest ↔ whole
last_passes whole rest all last test so_far both tested passes =
    (λ r. so_far.0 (both.1 (r, tested.0 passes)), λ w. (both.0 (so_far.1 w)).0)

-- ---- filled up

top_for_all : (classes : List Class) (given : VType) → IsAssignable classes given Top
unfolding IsAssignable
top_for_all classes given = tt

tops_end : (classes : List Class) (given asked : List VType) (j : ℕ) → length given ≡ length asked + j
    → AllZip (IsAssignable classes) given (asked ++ replicate j Top) ↔ AllZip (IsAssignable classes) (take (length asked) given) asked
tops_end classes [] [] zero long = (λ h. tt, λ h. tt)
tops_end classes [] [] (suc j) long = absurd (omega (arith, long))
tops_end classes [] (a ∷ asked) j long = absurd (omega (arith, long))
tops_end classes (g ∷ given) [] zero long = absurd (omega (arith, long))
tops_end classes (g ∷ given) [] (suc j) long =
    let others = tops_end classes given [] j (omega (arith, long)) in
    (λ h. tt, λ h. (top_for_all classes g, others.1 tt))
tops_end classes (g ∷ given) (a ∷ asked) j long =
    let others = tops_end classes given asked j (omega (arith, long)) in
    (λ h. (h.0, others.0 h.1), λ h. (h.0, others.1 h.1))

-- lists that are filled up to one length are assignable exactly if the first types are
pub filled_zip : (classes : List Class) (n m : ℕ) (given asked : List VType) → length (filled n given) ≡ length (filled m asked)
    → AreAssignable classes (filled n given) (filled m asked) ↔ AreAssignable classes (first_types (length asked) given) asked
filled_zip classes n m given asked long =
    let all = filled_count m asked in
    let first : take (length asked) (filled n given) ≡ first_types (length asked) given = first_filled (length asked) n given (omega (arith, long, all)) in
    subst (λ (ts : List VType). AreAssignable classes (filled n given) (filled m asked) ↔ AreAssignable classes ts asked) first
    (tops_end classes (filled n given) asked (m - length asked) (long ∙ all))

-- lists of two lengths are not
pub lengths_differ : (classes : List Class) (given asked : List VType) → (length given ≡ length asked → ⊥) → IsTrue false ↔ AreAssignable classes given asked
lengths_differ classes given asked differ =
    (λ no. absurd (cc), λ all. absurd (differ (sym (AllZip-long (IsAssignable classes) given asked all))))

-- ---- a step of the loop

-- the last is looked at
pub zip_at : (classes : List Class) (given : List VType) (nodes : List TypeNode) (count next last : ℕ) (node : TypeNode) → count ≡ suc next → StandTo nodes count last → slice_get nodes last ≡ Some node → next < length given
    → AreFirst classes given nodes count last ↔ (AreFirst classes given nodes next node.before × IsAssignable classes (get_or given next Top) node.kind)
zip_at classes given nodes count next last node e stands at inside =
    subst (λ (n : ℕ). AreFirst classes given nodes n last ↔ (AreFirst classes given nodes next node.before × IsAssignable classes (get_or given next Top) node.kind)) (sym e)
    (last_and_others classes given nodes next last node (subst (λ (n : ℕ). StandTo nodes n last) e stands) at inside)

-- the type at an index, of types that are filled up
pub test_filled : (classes : List Class) (n k : ℕ) (types : List VType) (given asked : VType) (test : Bool) → given ≡ get_or types k Top → (IsTrue test ↔ IsAssignable classes given asked)
    → IsTrue test ↔ IsAssignable classes (get_or (filled n types) k Top) asked
test_filled classes n k types given asked test is tested =
    subst (λ (t : VType). IsTrue test ↔ IsAssignable classes t asked) (is ∙ sym (get_filled types (n - length types) k)) tested

-- no type is left
pub none_left : (classes : List Class) (given : List VType) (nodes : List TypeNode) (count last : ℕ) (whole : Type 0) → count ≡ 0 → (AreFirst classes given nodes count last ↔ whole) → IsTrue true ↔ whole
unfolding types_to
none_left classes given nodes zero last whole e so_far = (λ yes. so_far.0 tt, λ w. refl)
none_left classes given nodes (suc n) last whole e so_far = absurd (omega (arith, e))

-- the index is one of the filled types
pub within_filled : (n k : ℕ) (types : List VType) → k < n → k < length (filled n types)
within_filled n k types lt = let all = filled_count n types in omega (arith, all, lt)

-- ---- one after the other

pub both_ways : (A B C : Type 0) → (A ↔ B) → (B ↔ C) → (A ↔ C)
both_ways A B C first second = (λ a. second.0 (first.0 a), λ c. first.1 (second.1 c))

pub turned : (A B : Type 0) → (A ↔ B) → (B ↔ A)
turned A B both = (both.1, both.0)
