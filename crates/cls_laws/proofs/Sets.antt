-- Class files make one set.
use Rattle.std.proofs.Common.{◌≡◌, ℕ, Bool, Option, Some, None, List, [], ◌∷◌, map, refl, sym, subst, ap, ◌∙◌}
use Rattle.std.specs.Prelude.{All, option_map, slice_get}
use Rattle.std.specs.List.Sorted.{IsStrictlySortedBy}
use Rattle.std.proofs.lemmas.List.Elements.{All-head, All-tail}
use Rattle.std.proofs.lemmas.List.Sorted.{Contains-permutation, IsPermutation-sym}
use Rattle.cf_reader.specs.declared.class_file.ClassFile.{ClassFile}
use Rattle.cls_order.specs.declared.class.Class.{Class}
use Rattle.space_ids.specs.declared.ids.ClassId.{ClassId}
use Rattle.cls_order.specs.Classes.{name_cmp, names}
use Rattle.cls_order.specs.Sets.{HasClasses, IsClassSet, IsResolved, Origin, origin, origins}
use Rattle.cls_order.proofs.Walks.{same_class}
use Rattle.cls_laws.proofs.Rows.{one_index, same_rows}
use Rattle.cls_laws.specs.Unique.{FilesMakeOneSet}

same_some : {X : Type 0} {x y : X} → Some x ≡ Some y → x ≡ y
same_some e = cc

some_none : {X : Type 0} {x : X} → Some x ≡ None → ⊥
some_none e = cc

cons_nil : {X : Type 0} {x : X} {xs : List X} → x ∷ xs ≡ [] → ⊥
cons_nil e = cc

heads : {X : Type 0} {x y : X} {xs ys : List X} → x ∷ xs ≡ y ∷ ys → x ≡ y
heads e = cc

tails : {X : Type 0} {x y : X} {xs ys : List X} → x ∷ xs ≡ y ∷ ys → xs ≡ ys
tails e = cc

-- ---- origins

abbrev name_of : Origin → List ℕ
name_of o = o.0.name

names_of_origins : (classes : List Class) → map name_of (map origin classes) ≡ names classes
names_of_origins [] = refl
names_of_origins (c ∷ cs) = ap (λ ns. c.file.name ∷ ns) (names_of_origins cs)

one_origins : (files : List ClassFile) (a b : List Class) → HasClasses files a → HasClasses files b → IsClassSet a → IsClassSet b → map origin a ≡ map origin b
one_origins files a b has too set other =
    let rise : IsStrictlySortedBy name_cmp (map name_of (map origin a)) = subst (IsStrictlySortedBy name_cmp) (sym (names_of_origins a)) set.ordered in
    let up : IsStrictlySortedBy name_cmp (map name_of (map origin b)) = subst (IsStrictlySortedBy name_cmp) (sym (names_of_origins b)) other.ordered in
    same_rows name_of (map origin a) (map origin b) rise up
    (λ z h. Contains-permutation (origins files) (map origin b) z too (Contains-permutation (map origin a) (origins files) z (IsPermutation-sym (origins files) (map origin a) has) h))
    (λ z h. Contains-permutation (origins files) (map origin a) z has (Contains-permutation (map origin b) (origins files) z (IsPermutation-sym (origins files) (map origin b) too) h))

-- ---- supertypes

module _ (ns : List (List ℕ)) (up : IsStrictlySortedBy name_cmp ns) where
  abbrev called : ClassId → Option (List ℕ)
  called id = slice_get ns id.0

  one_id : (p q : ClassId) (name : List ℕ) → called p ≡ Some name → called q ≡ Some name → p ≡ q
  one_id p q name at too = same_class p q (one_index ns up p.0 q.0 name at too)

  one_superclass : (s t : Option ClassId) (name : Option (List ℕ)) → option_map called s ≡ option_map (λ n. Some n) name → option_map called t ≡ option_map (λ n. Some n) name → s ≡ t
  one_superclass None None name e f = refl
  one_superclass None (Some q) None e f = absurd (some_none f)
  one_superclass None (Some q) (Some n) e f = absurd (some_none (sym e))
  one_superclass (Some p) None None e f = absurd (some_none e)
  one_superclass (Some p) None (Some n) e f = absurd (some_none (sym f))
  one_superclass (Some p) (Some q) None e f = absurd (some_none e)
  one_superclass (Some p) (Some q) (Some n) e f = ap (λ x. Some x) (one_id p q n (same_some e) (same_some f))

  one_row : (ss ts : List ClassId) (names : List (List ℕ)) → map called ss ≡ map (λ n. Some n) names → map called ts ≡ map (λ n. Some n) names → ss ≡ ts
  one_row [] [] names e f = refl
  one_row [] (t ∷ ts) [] e f = absurd (cons_nil f)
  one_row [] (t ∷ ts) (n ∷ names) e f = absurd (cons_nil (sym e))
  one_row (s ∷ ss) [] [] e f = absurd (cons_nil e)
  one_row (s ∷ ss) [] (n ∷ names) e f = absurd (cons_nil (sym f))
  one_row (s ∷ ss) (t ∷ ts) [] e f = absurd (cons_nil e)
  one_row (s ∷ ss) (t ∷ ts) (n ∷ names) e f =
      let same : s ≡ t = one_id s t n (heads e) (heads f) in
      let rest : ss ≡ ts = one_row ss ts names (tails e) (tails f) in
      cc

  abbrev made : ClassFile → Option ClassId → List ClassId → Bool → Class
  made file superclass interfaces is_built_in = record { file = file; superclass = superclass; interfaces = interfaces; is_built_in = is_built_in }

  one_class : (c d : Class) → origin c ≡ origin d → IsResolved ns c → IsResolved ns d → c ≡ d
  one_class c d same r s =
      let file : c.file ≡ d.file = ap (λ (o : Origin). o.0) same in
      let built_in : c.is_built_in ≡ d.is_built_in = ap (λ (o : Origin). o.1) same in
      let superclass : c.superclass ≡ d.superclass =
      one_superclass c.superclass d.superclass d.file.superclass (r.superclass ∙ ap (λ (f : ClassFile). option_map (λ n. Some n) f.superclass) file) s.superclass
      in
      let interfaces : c.interfaces ≡ d.interfaces =
      one_row c.interfaces d.interfaces d.file.interfaces (r.interfaces ∙ ap (λ (f : ClassFile). map (λ n. Some n) f.interfaces) file) s.interfaces
      in
      ap (λ f. made f c.superclass c.interfaces c.is_built_in) file
      ∙ (ap (λ x. made d.file x c.interfaces c.is_built_in) superclass
      ∙ (ap (λ x. made d.file d.superclass x c.is_built_in) interfaces
      ∙ ap (λ b. made d.file d.superclass d.interfaces b) built_in))

  one_list : (cs ds : List Class) → map origin cs ≡ map origin ds → All (IsResolved ns) cs → All (IsResolved ns) ds → cs ≡ ds
  one_list [] [] same r s = refl
  one_list [] (d ∷ ds) same r s = absurd (cons_nil (sym same))
  one_list (c ∷ cs) [] same r s = absurd (cons_nil same)
  one_list (c ∷ cs) (d ∷ ds) same r s =
      let one : c ≡ d = one_class c d (heads same) (All-head (IsResolved ns) c cs r) (All-head (IsResolved ns) d ds s) in
      let rest : cs ≡ ds = one_list cs ds (tails same) (All-tail (IsResolved ns) c cs r) (All-tail (IsResolved ns) d ds s) in
      cc

pub one_set : FilesMakeOneSet
one_set files a b has too set other =
    let same : map origin a ≡ map origin b = one_origins files a b has too set other in
    let named : names a ≡ names b = sym (names_of_origins a) ∙ (ap (map name_of) same ∙ names_of_origins b) in
    one_list (names a) set.ordered a b same set.resolved (subst (λ ns. All (IsResolved ns) b) (sym named) other.resolved)
