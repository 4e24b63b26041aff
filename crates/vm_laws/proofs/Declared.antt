-- The numbers, among all methods, of the methods that classes declare.
use Rattle.std.proofs.Common.{◌≡◌, ℕ, zero, suc, ◌+◌, ◌++◌, Bool, true, false, List, [], ◌∷◌, length, take, refl, sym, ap, ◌∙◌, Option, Some, None, arith, add-zero, zero-add}
use Rattle.std.specs.Prelude.{◌&&◌, bytes_eq, if◌then◌else◌, option_map, slice_get}
use Rattle.std.proofs.lemmas.List.{length-append}
use Rattle.std.proofs.lemmas.Slice.Eq.{bytes_eq-Decides}
use Rattle.cf_reader.specs.declared.class_file.Method.{Method}
use Rattle.cls_link.proofs.Declarations.{declare}
use Rattle.cls_link.specs.Links.{Declared, declared_from, declared_in, declared_methods}
use Rattle.cls_link.specs.Numbers.{number_in}
use Rattle.cls_search.specs.MethodSearches.{own_method, first_from}
use Rattle.cls_search.specs.declared.methods.MethodIndex.{MethodIndex}
use Rattle.cls_set.proofs.Hierarchy.{none_some, same_some, true_false}
use Rattle.cls_set.specs.declared.class.Class.{Class}
use Rattle.space_ids.specs.declared.ids.ClassId.{ClassId}
use Rattle.vm_laws.proofs.Subjects.{passes_both}

pub following : {X : Type 0} (xs ys : List X) (j : ℕ) → slice_get (xs ++ ys) (length xs + j) ≡ slice_get ys j
following [] ys j = ap (slice_get ys) (zero-add j)
following (x ∷ xs) ys j = ap (slice_get (x ∷ (xs ++ ys))) (moved (length xs) j) ∙ following xs ys j
  where
    moved : (n j : ℕ) → suc n + j ≡ suc (n + j)
    moved n j = omega arith

before : {X : Type 0} (xs ys : List X) (i : ℕ) (x : X) → slice_get xs i ≡ Some x → slice_get (xs ++ ys) i ≡ Some x
before [] ys i x e = absurd (none_some e)
before (a ∷ xs) ys zero x e = e
before (a ∷ xs) ys (suc i) x e = before xs ys i x e

added : (a b i : ℕ) → a + b + i ≡ a + (b + i)
added a b i = omega arith

-- the method of an index of a class stands here among others, as its class declares it
pub record StandsAmong (all : List Declared) (at number : ℕ) (m : Method) : Type 0 where
  pub d : Declared
  pub there : slice_get all at ≡ Some d
  pub class : d.class.0 ≡ number
  pub method : d.method ≡ m

in_class : (class : ClassId) (name : List ℕ) (p : ℕ) (ms : List Method) (i : ℕ) (m : Method) → slice_get ms i ≡ Some m → StandsAmong (declared_in class name p ms) i class.0 m
in_class class name p [] i m e = absurd (none_some e)
in_class class name p (x ∷ ms) zero m e = record { d = declare class name p x; there = refl; class = refl; method = same_some e }
in_class class name p (x ∷ ms) (suc i) m e =
    let r = in_class class name (suc p) ms i m e in
    record { d = r.d; there = r.there; class = r.class; method = r.method }

from_class : (k : ℕ) (cs : List Class) (n i : ℕ) (c : Class) (m : Method) → slice_get cs n ≡ Some c → slice_get c.file.methods i ≡ Some m
    → StandsAmong (declared_from k cs) (length (declared_from k (take n cs)) + i) (k + n) m
from_class k [] n i c m at here = absurd (none_some at)
from_class k (x ∷ cs) zero i c m at here =
    let own = declared_in (record { 0 = k }) x.file.name 0 x.file.methods in
    let r = in_class (record { 0 = k }) x.file.name 0 x.file.methods i m (ap (λ (y : Class). slice_get y.file.methods i) (same_some at) ∙ here) in
    record {
      d = r.d;
      there = ap (λ n. slice_get (own ++ declared_from (suc k) cs) n) (zero-add i) ∙ before own (declared_from (suc k) cs) i r.d r.there;
      class = r.class ∙ sym (add-zero k);
      method = r.method;
    }
from_class k (x ∷ cs) (suc n) i c m at here =
    let own = declared_in (record { 0 = k }) x.file.name 0 x.file.methods in
    let rest = declared_from (suc k) (take n cs) in
    let r = from_class (suc k) cs n i c m at here in
    record {
      d = r.d;
      there = ap (λ j. slice_get (own ++ declared_from (suc k) cs) j) (ap (λ j. j + i) (length-append own rest) ∙ added (length own) (length rest) i)
          ∙ (following own (declared_from (suc k) cs) (length rest + i) ∙ r.there);
      class = r.class ∙ moved k n;
      method = r.method;
    }
  where
    moved : (k n : ℕ) → suc k + n ≡ k + suc n
    moved k n = omega arith

-- the method of an index, by its number
pub record IsNumbered (classes : List Class) (member : MethodIndex) (m : Method) : Type 0 where
  pub d : Declared
  pub there : slice_get (declared_methods classes) (number_in classes member).0 ≡ Some d
  pub class : d.class ≡ member.class
  pub method : d.method ≡ m

pub numbered : (classes : List Class) (member : MethodIndex) (c : Class) (m : Method) → slice_get classes member.class.0 ≡ Some c → slice_get c.file.methods member.index ≡ Some m
    → IsNumbered classes member m
numbered classes member c m at here =
    let r = from_class 0 classes member.class.0 member.index c m at here in
    record { d = r.d; there = r.there; class = ap (λ (n : ℕ). record { 0 = n }) (r.class ∙ zero-add member.class.0); method = r.method }

-- what a search among the methods of a class finds has the name and the descriptor
record IsFound (ms : List Method) (n t : List ℕ) (k i : ℕ) : Type 0 where
  index : ℕ
  same : i ≡ k + index
  method : Method
  there : slice_get ms index ≡ Some method
  name : method.name ≡ n
  descriptor : method.descriptor ≡ t

both : (a b : Bool) → (a && b) ≡ true → (a ≡ true) × (b ≡ true)
both true b e = (refl, e)
both false b e = absurd (true_false (sym e))

found_from : (k : ℕ) (ms : List Method) (n t : List ℕ) (i : ℕ) → first_from k ms n t ≡ Some i → IsFound ms n t k i
found_from k [] n t i e = absurd (none_some e)
found_from k (m ∷ ms) n t i e = on (bytes_eq m.name n && bytes_eq m.descriptor t) refl e (found_from (suc k) ms n t i)
  where
    on : (b : Bool) → (bytes_eq m.name n && bytes_eq m.descriptor t) ≡ b → (if b then Some k else first_from (suc k) ms n t) ≡ Some i
        → (first_from (suc k) ms n t ≡ Some i → IsFound ms n t (suc k) i) → IsFound (m ∷ ms) n t k i
    on true is e go =
        let passed = both (bytes_eq m.name n) (bytes_eq m.descriptor t) is in
        record {
          index = 0;
          same = sym (same_some e) ∙ sym (add-zero k);
          method = m;
          there = refl;
          name = (bytes_eq-Decides m.name n).0 passed.0;
          descriptor = (bytes_eq-Decides m.descriptor t).0 passed.1;
        }
    on false is e go =
        let r = go e in
        let same = r.same in
        record { index = suc r.index; same = omega (arith, same); method = r.method; there = r.there; name = r.name; descriptor = r.descriptor }

-- the method that a class declares with a name and a descriptor
pub record IsOwn (classes : List Class) (class : ClassId) (n t : List ℕ) (member : MethodIndex) : Type 0 where
  pub same : member.class ≡ class
  pub c : Class
  pub at : slice_get classes class.0 ≡ Some c
  pub method : Method
  pub there : slice_get c.file.methods member.index ≡ Some method
  pub name : method.name ≡ n
  pub descriptor : method.descriptor ≡ t

pub own_is : (classes : List Class) (class : ClassId) (n t : List ℕ) (member : MethodIndex) → own_method classes n t class ≡ Some member → IsOwn classes class n t member
own_is classes class n t member e =
    let c = passes_both (slice_get classes class.0) _ member e in
    let i = mapped (first_from 0 c.0.file.methods n t) (λ index. record { class = class; index = index }) c.1.1 in
    let f = found_from 0 c.0.file.methods n t i.0 i.1 in
    let index : i.0 ≡ f.index = f.same ∙ zero-add f.index in
    record {
      same = ap (λ (x : MethodIndex). x.class) (sym i.2);
      c = c.0;
      at = c.1.0;
      method = f.method;
      there = ap (λ (x : MethodIndex). slice_get c.0.file.methods x.index) (sym i.2) ∙ (ap (slice_get c.0.file.methods) index ∙ f.there);
      name = f.name;
      descriptor = f.descriptor;
    }
  where
    mapped : (o : Option ℕ) (f : ℕ → MethodIndex) → option_map f o ≡ Some member → (i : ℕ) × (o ≡ Some i) × (f i ≡ member)
    mapped None f e = absurd (none_some e)
    mapped (Some i) f e = (i, refl, same_some e)
