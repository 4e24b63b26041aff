-- What a map or a cache is after one more copy.
use Rattle.std.proofs.Common.{◌≡◌, suc, ◌+◌, ◌-◌, ◌≤◌, Bool, true, false, cond, List, [], ◌∷◌, ◌++◌, Option, length, map, take, None, Some, refl, sym, ap, subst, ◌∙◌, append_assoc, arith}
use Rattle.std.specs.Borrow.{Bor}
use Rattle.std.specs.Prelude.{MatchOption}
use Rattle.std.specs.Cmp.{IsEquivalence}
use Rattle.std.specs.List.{AllByRecursion, IsDistinct}
use Rattle.std.specs.Map.{keys_of, lookup, lookup_entry, remove_entry}
use Rattle.std.specs.Map.Iter.{deref_pair}
use Rattle.std.specs.Option.{option_map_or}
use Rattle.std.proofs.lemmas.List.{length-append, map-append, take_all}
use Rattle.std.proofs.lemmas.List.Elements.{same_from_all_zip, AllZip-push}
use Rattle.std.proofs.lemmas.Map.Keys.{IsDistinct-head, IsDistinct-tail}
use Rattle.indexmap.specs.IndexMap.{IndexMap, insert_entry}
use Rattle.indexmap.proofs.CallerLemmas.{insert_entry-new}
use Rattle.lru.specs.LruCache.{LruCache, lru_cache, put_entries}
use Rattle.table_copies.specs.Copies.{AreCopies}

-- ---- what an iterator showed, and what is left of it

pub order-more : {K V : Type 0} (ys : List (Bor K × Bor V)) (y : Bor K × Bor V) (it next all : List (K × V))
    → it ≡ deref_pair y ∷ next → map deref_pair ys ++ it ≡ all → map deref_pair (ys ++ y ∷ []) ++ next ≡ all
order-more ys y it next all first whole =
    ap (λ rows. rows ++ next) (map-append deref_pair ys (y ∷ [])) ∙ append_assoc (map deref_pair ys) (deref_pair y ∷ []) next
    ∙ ap (λ rows. map deref_pair ys ++ rows) (sym first) ∙ whole

module _ {K V : Type 0} (eq : K → K → Bool) (copies : V → V → Type 0) where
  length-copied : (es fs : List (K × V)) → AreCopies copies es fs → length fs ≡ length es
  length-copied [] [] a = refl
  length-copied [] (f ∷ fs) a = absurd a
  length-copied (e ∷ es) [] a = absurd a
  length-copied (e ∷ es) (f ∷ fs) a = ap suc (length-copied es fs a.1)

  -- copies that are the values are the entries
  pub same-copies : ((value copy : V) → copies value copy → copy ≡ value) → (es fs : List (K × V)) → AreCopies copies es fs → fs ≡ es
  same-copies same es fs a = same_from_all_zip (λ (e f : K × V). (f.0 ≡ e.0) × copies e.1 f.1) es fs a (λ e f h i. (h.0 i, same e.1 f.1 h.1 i))

  -- what is found in the copies is a copy of what is found
  abbrev pub IsCopyFound : Option V → Option V → Type 0
  IsCopyFound None None = Unit {0}
  IsCopyFound None (Some copy) = ⊥
  IsCopyFound (Some value) None = ⊥
  IsCopyFound (Some value) (Some copy) = copies value copy

  pub lookup-copied : (test : K → Bool) (es fs : List (K × V)) → AreCopies copies es fs → IsCopyFound (lookup test es) (lookup test fs)
  lookup-copied test [] [] a = tt
  lookup-copied test [] (f ∷ fs) a = absurd a
  lookup-copied test (e ∷ es) [] a = absurd a
  lookup-copied test (e ∷ es) (f ∷ fs) a =
      subst (λ (t : Bool). IsCopyFound (lookup test (e ∷ es)) (cond t (Some f.1) (lookup test fs))) (sym (ap test a.0.0)) (by (test e.0) (lookup-copied test es fs a.1))
    where
      by : (t : Bool) → IsCopyFound (lookup test es) (lookup test fs) → IsCopyFound (cond t (Some e.1) (lookup test es)) (cond t (Some f.1) (lookup test fs))
      by true rest = a.0.1
      by false rest = rest

  -- what holds of what is found holds of the copy
  pub match-copied : (none : Type 0) (is : V → Type 0) → ((value copy : V) → copies value copy → is value → is copy) → (o p : Option V) → IsCopyFound o p → MatchOption o none is → MatchOption p none is
  match-copied none is kept None None found m = m
  match-copied none is kept None (Some copy) found m = absurd found
  match-copied none is kept (Some value) None found m = absurd found
  match-copied none is kept (Some value) (Some copy) found m = kept value copy found m

  -- ---- a map

  in-middle : (P : K → Type 0) (done rest : List (K × V)) (e : K × V) → AllByRecursion P (keys_of (done ++ e ∷ rest)) → P e.0
  in-middle P [] rest e all = all.0
  in-middle P (d ∷ done) rest e all = in-middle P done rest e all.1

  -- a key that comes after those that are copied is not among the copies
  absent : IsEquivalence eq → (done rest fs : List (K × V)) (e : K × V) → AreCopies copies done fs → IsDistinct eq (keys_of (done ++ e ∷ rest)) → lookup (eq e.0) fs ≡ None
  absent laws [] rest [] e a distinct = refl
  absent laws [] rest (f ∷ fs) e a distinct = absurd a
  absent laws (d ∷ done) rest [] e a distinct = absurd a
  absent laws (d ∷ done) rest (f ∷ fs) e a distinct =
      let apart : eq e.0 f.0 ≡ false =
      ap (eq e.0) a.0.0 ∙ laws.symm e.0 d.0 ∙ in-middle (λ k. eq d.0 k ≡ false) done rest e (IsDistinct-head eq d.0 (keys_of (done ++ e ∷ rest)) distinct) in
      ap (λ t. cond t (Some f.1) (lookup (eq e.0) fs)) apart ∙ absent laws done rest fs e a.1 (IsDistinct-tail eq d.0 (keys_of (done ++ e ∷ rest)) distinct)

  pub map-more : {S : Type 0} → IsEquivalence eq → (done rest all new : List (K × V)) (copy : IndexMap K V S) (e : K × V) (v : V) → done ++ e ∷ rest ≡ all → IsDistinct eq (keys_of all)
      → AreCopies copies done copy.entries → copies e.1 v → new ≡ insert_entry eq copy.entries e.0 v → AreCopies copies (done ++ e ∷ []) new
  map-more laws done rest all new copy e v whole distinct a is put =
      let none = absent laws done rest copy.entries e a (subst (λ (es : List (K × V)). IsDistinct eq (keys_of es)) (sym whole) distinct) in
      subst (λ (fs : List (K × V)). AreCopies copies (done ++ e ∷ []) fs) (sym (put ∙ insert_entry-new eq copy e.0 v none))
      (AllZip-push (λ (x y : K × V). (y.0 ≡ x.0) × copies x.1 y.1) done copy.entries e (e.0, v) a (refl, is))

  -- ---- a cache

  distinct-end : (rest done : List (K × V)) (e : K × V) → IsDistinct eq (keys_of (rest ++ e ∷ done)) → AllByRecursion (λ k. eq e.0 k ≡ false) (keys_of done)
  distinct-end [] done e distinct = IsDistinct-head eq e.0 (keys_of done) distinct
  distinct-end (r ∷ rest) done e distinct = distinct-end rest done e (IsDistinct-tail eq r.0 (keys_of (rest ++ e ∷ done)) distinct)

  no-entry : (k : K) (done fs : List (K × V)) → AreCopies copies done fs → AllByRecursion (λ x. eq k x ≡ false) (keys_of done) → lookup_entry (eq k) fs ≡ None
  no-entry k [] [] a apart = refl
  no-entry k [] (f ∷ fs) a apart = absurd a
  no-entry k (d ∷ done) [] a apart = absurd a
  no-entry k (d ∷ done) (f ∷ fs) a apart = ap (λ t. cond t (Some f) (lookup_entry (eq k) fs)) (ap (eq k) a.0.0 ∙ apart.0) ∙ no-entry k done fs a.1 apart.1

  pub cache-more : (rest done all : List (K × V)) (copy new : LruCache K V) (e : K × V) (v : V) → rest ++ e ∷ done ≡ all → IsDistinct eq (keys_of all) → length all ≤ copy.cap
      → AreCopies copies done copy.entries → copies e.1 v → new ≡ lru_cache (put_entries eq copy e.0 v) copy.cap → AreCopies copies (e ∷ done) new.entries
  cache-more rest done all copy new e v whole distinct fits a is put =
      let none = no-entry e.0 done copy.entries a (distinct-end rest done e (subst (λ (es : List (K × V)). IsDistinct eq (keys_of es)) (sym whole) distinct)) in
      let long : length rest + suc (length done) ≡ length all = sym (length-append rest (e ∷ done)) ∙ ap length whole in
      let few : length copy.entries ≤ copy.cap - 1 = omega (arith, long, fits, length-copied done copy.entries a) in
      let first : put_entries eq copy e.0 v ≡ (e.0, v) ∷ copy.entries =
      ap (λ o. option_map_or (λ (f : K × V). (f.0, v) ∷ remove_entry (eq e.0) copy.entries) o ((e.0, v) ∷ take (copy.cap - 1) copy.entries)) none
      ∙ ap (λ es. (e.0, v) ∷ es) (take_all (copy.cap - 1) copy.entries few) in
      subst (λ (fs : List (K × V)). AreCopies copies (e ∷ done) fs) (sym (ap (λ (c : LruCache K V). c.entries) put ∙ first)) ((refl, is), a)
