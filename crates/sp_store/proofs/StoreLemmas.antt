use Rattle.std.proofs.Common.{◌≡◌, ◌≢◌, ℕ, zero, suc, ◌+◌, ◌<◌, ◌≤◌, Bool, true, false, cond, List, [], ◌∷◌, ◌++◌, Option, None, Some, refl, sym, ap, subst, ◌∙◌, length, length-append, map, filter, slice_get, get_or, position, take, arith}
use Rattle.std.specs.Prelude.{find, option_map, option_and_then, unwrap_or, is_some, not, ◌||◌, ◌&&◌, ◌==◌, nat_lt, slice_set, IfSome, IfNone, MatchOption, option_copied, Result, Ok, Err, IfOk}
use Rattle.std.specs.Borrow.{Bor}
use Rattle.std.proofs.lemmas.Option.{slice_get-map, slice_get-get_or, slice_get_past, slice_get_read, slice_get_within, get_or_from_slice_get}
use Rattle.std.proofs.lemmas.List.Elements.{filter_more}
use Rattle.std.specs.List.{list_any, IsDistinct, AllByRecursion}
use Rattle.std.specs.Map.{lookup, keys_of, values_of}
use Rattle.std.specs.Cmp.{IsEquivalence}
use Rattle.std.proofs.lemmas.List.Quantifiers.{position-Some}
use Rattle.std.proofs.lemmas.Bool.{eqb-true, eqb-false, eq-eqb, ne_eqb, false≢true}
use Rattle.std.proofs.lemmas.Map.Keys.{IsDistinct-head, IsDistinct-tail}
use Rattle.std.proofs.lemmas.List.{map-append, append-nil, take_more, set_at, set-append_left}
use Rattle.std.proofs.lemmas.List.Folds.{list_any-append, list_any_more}
use Rattle.std.proofs.lemmas.Grind.{flat_map-append}
use Rattle.space_ids.specs.declared.ids.ClassId.{ClassId}
use Rattle.space_ids.specs.declared.ids.ObjId.{ObjId}
use Rattle.space_ids.specs.declared.value.Value.{Value}
use Rattle.sp_rules.specs.Classes.{Setting, blank, field_kind}
use Rattle.sp_rules.specs.Lists.{numbers_below}
use Rattle.sp_rules.specs.References.{is_id, is_id_in, own_id, own_ids, reference_of, references_of}
use Rattle.sp_rules.specs.State.{Stored, Made, Written, Gone, Object, standing, last_written}
use Rattle.sp_store.specs.Instances.{Remote, after_release}
use Rattle.sp_store.specs.Stores.{IsStored, object_of, object_after, fields_after, field_after, blanks, is_in_a_field_after, idle_after, swept}
use Rattle.indexmap.specs.IndexMap.{set_value_at}

-- ---- ids

-- ids that are the same are one
pub same-id : (a b : ObjId) → is_id a b ≡ true → a ≡ b
same-id a b h = let p = eqb-true a.0 b.0 h in λ i. record { 0 = p i }

pub is_id-refl : (a : ObjId) → is_id a a ≡ true
is_id-refl a = eq-eqb a.0 a.0 refl

flip : (a b : ObjId) → is_id a b ≡ is_id b a
flip a b = elim (is_id a b) as (λ t. is_id a b ≡ t → t ≡ is_id b a) [
  | true ↦ λ here. sym (eq-eqb b.0 a.0 (sym (eqb-true a.0 b.0 here)))
  | false ↦ λ apart. sym (ne_eqb b.0 a.0 (λ e. eqb-false a.0 b.0 apart (sym e)))
] refl

-- ---- lists

only : {A : Type 0} (x y : A) → Some x ≡ Some y → x ≡ y
only x y h = ap (λ o. unwrap_or o x) h

find-map : {A B : Type 0} (p : B → Bool) (f : A → B) (xs : List A) → find p (map f xs) ≡ option_map f (find (λ x. p (f x)) xs)
find-map p f [] = refl
find-map p f (x ∷ xs) =
    elim (p (f x)) as (λ t. cond t (Some (f x)) (find p (map f xs)) ≡ option_map f (cond t (Some x) (find (λ y. p (f y)) xs))) [ true ↦ refl | false ↦ find-map p f xs ]

filter-map : {A B : Type 0} (p : B → Bool) (f : A → B) (xs : List A) → filter p (map f xs) ≡ map f (filter (λ x. p (f x)) xs)
filter-map p f [] = refl
filter-map p f (x ∷ xs) =
    elim (p (f x)) as (λ t. cond t (f x ∷ filter p (map f xs)) (filter p (map f xs)) ≡ map f (cond t (x ∷ filter (λ y. p (f y)) xs) (filter (λ y. p (f y)) xs)))
    [ true ↦ ap (λ ys. f x ∷ ys) (filter-map p f xs) | false ↦ filter-map p f xs ]

map-map : {A B C : Type 0} (f : B → C) (k : A → B) (xs : List A) → map f (map k xs) ≡ map (λ x. f (k x)) xs
map-map f k [] = refl
map-map f k (x ∷ xs) = ap (λ ys. f (k x) ∷ ys) (map-map f k xs)

any-map : {A B : Type 0} (p : B → Bool) (f : A → B) (xs : List A) → list_any p (map f xs) ≡ list_any (λ x. p (f x)) xs
any-map p f [] = refl
any-map p f (x ∷ xs) = ap (λ t. p (f x) || t) (any-map p f xs)

option-map : {A B C : Type 0} (f : B → C) (k : A → B) (o : Option A) → option_map f (option_map k o) ≡ option_map (λ x. f (k x)) o
option-map f k None = refl
option-map f k (Some x) = refl

-- ---- what is found

-- the object that a row is
found : (id : ObjId) (rows : List (ObjId × Remote))
    → option_map (λ (x : Remote). let o : Object = record { id = id; class = x.class } in o) (lookup (is_id id) rows) ≡ find (λ (o : Object). is_id o.id id) (map object_of rows)
found id [] = refl
found id (e ∷ es) =
    let made : Remote → Object = λ x. record { id = id; class = x.class } in
    elim (is_id id e.0) as (λ t. is_id id e.0 ≡ t → option_map made (cond t (Some e.1) (lookup (is_id id) es)) ≡ cond (is_id e.0 id) (Some (object_of e)) (find (λ (o : Object). is_id o.id id) (map object_of es))) [
      | true ↦ λ here. (λ j. Some (record { id = same-id id e.0 here j; class = e.1.class })) ∙ sym (ap (λ t. cond t (Some (object_of e)) (find (λ (o : Object). is_id o.id id) (map object_of es))) (flip e.0 id ∙ here))
      | false ↦ λ apart. found id es ∙ sym (ap (λ t. cond t (Some (object_of e)) (find (λ (o : Object). is_id o.id id) (map object_of es))) (flip e.0 id ∙ apart))
    ] refl

pub object-at : (g : Setting) (h : List Stored) (made : ℕ) (rows : List (ObjId × Remote)) → IsStored g h made rows → (id : ObjId)
    → option_map (λ (x : Remote). let o : Object = record { id = id; class = x.class } in o) (lookup (is_id id) rows) ≡ object_after h id
object-at g h made rows s id = found id rows ∙ ap (λ os. find (λ (o : Object). is_id o.id id) os) s.objects

pub class-at : (g : Setting) (h : List Stored) (made : ℕ) (rows : List (ObjId × Remote)) → IsStored g h made rows → (id : ObjId)
    → option_map (λ (x : Remote). x.class) (lookup (is_id id) rows) ≡ option_map (λ (o : Object). o.class) (object_after h id)
class-at g h made rows s id =
    sym (option-map (λ (o : Object). o.class) (λ (x : Remote). let o : Object = record { id = id; class = x.class } in o) (lookup (is_id id) rows))
    ∙ ap (λ o. option_map (λ (o : Object). o.class) o) (object-at g h made rows s id)

fields-found : (g : Setting) (h : List Stored) (id : ObjId) (o : Option Remote)
    → ((x : Remote) → o ≡ Some x → x.fields ≡ fields_after g h (record { id = id; class = x.class }))
    → option_map (λ (x : Remote). x.fields) o ≡ option_map (fields_after g h) (option_map (λ (x : Remote). let o : Object = record { id = id; class = x.class } in o) o)
fields-found g h id None each = refl
fields-found g h id (Some x) each = ap Some (each x refl)

pub fields-at : (g : Setting) (h : List Stored) (made : ℕ) (rows : List (ObjId × Remote)) → IsStored g h made rows → (id : ObjId)
    → option_map (λ (x : Remote). x.fields) (lookup (is_id id) rows) ≡ option_map (fields_after g h) (object_after h id)
fields-at g h made rows s id = fields-found g h id (lookup (is_id id) rows) (s.fields id) ∙ ap (λ o. option_map (fields_after g h) o) (object-at g h made rows s id)

pub slot-of : (slot : ℕ) (f : Object → List Value) (o : Option Object) → option_and_then (λ fields. slice_get fields slot) (option_map f o) ≡ option_and_then (λ o. slice_get (f o) slot) o
slot-of slot f None = refl
slot-of slot f (Some o) = refl

pub field-at : (g : Setting) (h : List Stored) (made : ℕ) (rows : List (ObjId × Remote)) → IsStored g h made rows → (id : ObjId) (slot : ℕ)
    → option_and_then (λ fields. slice_get fields slot) (option_map (λ (x : Remote). x.fields) (lookup (is_id id) rows)) ≡ field_after g h id slot
field-at g h made rows s id slot = ap (λ o. option_and_then (λ fields. slice_get fields slot) o) (fields-at g h made rows s id) ∙ slot-of slot (fields_after g h) (object_after h id)

-- ---- an object is made

made-fields : (g : Setting) (h : List Stored) (id : ObjId) (class : ClassId) → ((slot : ℕ) → last_written h id slot ≡ None)
    → fields_after g (Made id class ∷ h) (record { id = id; class = class }) ≡ blanks g.classes class
made-fields g h id class none = λ j. map (λ slot. unwrap_or (none slot j) (blank (field_kind g.classes class slot))) (numbers_below (length (g.classes.fields class)))

last : (test : ObjId → Bool) (rows : List (ObjId × Remote)) (e : ObjId × Remote) → lookup test rows ≡ None → test e.0 ≡ false → lookup test (rows ++ e ∷ []) ≡ None
last test [] e none apart = ap (λ t. cond t (Some e.1) None) apart
last test (r ∷ rs) e none apart =
    elim (test r.0) as (λ t. cond t (Some r.1) (lookup test rs) ≡ None → cond t (Some r.1) (lookup test (rs ++ e ∷ [])) ≡ None) [
      | true ↦ λ h. h
      | false ↦ λ h. last test rs e h apart
    ] none

pub stored-made : (g : Setting) (h : List Stored) (made : ℕ) (rows new : List (ObjId × Remote)) (id : ObjId) (x : Remote) → id.0 ≡ made + 1
    → x.fields ≡ blanks g.classes x.class → new ≡ rows ++ (id, x) ∷ []
    → ((q : ObjId) → lookup (is_id q) new ≡ cond (is_id id q) (Some x) (lookup (is_id q) rows))
    → IsStored g h made rows → IsStored g (Made id x.class ∷ h) (made + 1) new
stored-made g h made rows new id x next blank appended at s = record {
  objects = ap (map object_of) appended ∙ map-append object_of rows ((id, x) ∷ []) ∙ ap (λ os. os ++ object_of (id, x) ∷ []) s.objects;
  fields = λ q y found. elim (is_id id q) as (λ t. is_id id q ≡ t → y.fields ≡ fields_after g (Made id x.class ∷ h) (record { id = q; class = y.class })) [
    | true ↦ λ here.
        let it : y ≡ x = only y x (sym found ∙ at q ∙ ap (λ t. cond t (Some x) (lookup (is_id q) rows)) here) in
        let p : id ≡ q = same-id id q here in
        ap (λ (z : Remote). z.fields) it ∙ blank
        ∙ sym (made-fields g h id x.class (λ slot. s.unwritten id slot (omega (arith, next))))
        ∙ (λ j. fields_after g (Made id x.class ∷ h) (record { id = p j; class = (sym it j).class }))
    | false ↦ λ apart. s.fields q y (sym (at q ∙ ap (λ t. cond t (Some x) (lookup (is_id q) rows)) apart) ∙ found)
  ] refl;
  made_is = ap (λ n. n + 1) s.made_is;
  below = λ q above.
      at q
      ∙ ap (λ t. cond t (Some x) (lookup (is_id q) rows)) (ne_eqb id.0 q.0 (λ e. omega (arith, next, above, e)))
      ∙ s.below q (omega (arith, above));
  unwritten = λ q slot above. s.unwritten q slot (omega (arith, above));
}

-- ---- a field is written

unwrap-cond : (t : Bool) (v w : Value) (o : Option Value) → unwrap_or (cond t (Some v) o) w ≡ cond t v (unwrap_or o w)
unwrap-cond true v w o = refl
unwrap-cond false v w o = refl

length-slots : (f : ℕ → Value) (n : ℕ) → length (map f (numbers_below n)) ≡ n
length-slots f zero = refl
length-slots f (suc n) = ap length (map-append f (numbers_below n) (n ∷ [])) ∙ length-append (map f (numbers_below n)) (f n ∷ []) ∙ omega (arith, length-slots f n)

same-slots : (f : ℕ → Value) (slot : ℕ) (v : Value) (n : ℕ) → n ≤ slot → map (λ s. cond (slot == s) v (f s)) (numbers_below n) ≡ map f (numbers_below n)
same-slots f slot v zero le = refl
same-slots f slot v (suc n) le =
    map-append (λ s. cond (slot == s) v (f s)) (numbers_below n) (n ∷ [])
    ∙ ap (λ xs. xs ++ cond (slot == n) v (f n) ∷ []) (same-slots f slot v n (omega (arith, le)))
    ∙ ap (λ t. map f (numbers_below n) ++ cond t v (f n) ∷ []) (ne_eqb slot n (λ e. omega (arith, le, e)))
    ∙ sym (map-append f (numbers_below n) (n ∷ []))

set-slot : (f : ℕ → Value) (slot : ℕ) (v : Value) (n : ℕ) → slot < n → map (λ s. cond (slot == s) v (f s)) (numbers_below n) ≡ slice_set (map f (numbers_below n)) slot v
set-slot f slot v zero lt = absurd (omega (arith, lt))
set-slot f slot v (suc n) lt =
    map-append (λ s. cond (slot == s) v (f s)) (numbers_below n) (n ∷ [])
    ∙ elim (slot == n) as (λ t. (slot == n) ≡ t → map (λ s. cond (slot == s) v (f s)) (numbers_below n) ++ cond t v (f n) ∷ [] ≡ slice_set (map f (numbers_below n) ++ f n ∷ []) slot v) [
      | true ↦ λ e. let p = eqb-true slot n e in
          ap (λ xs. xs ++ v ∷ []) (same-slots f slot v n (omega (arith, p)))
          ∙ sym (set_at (map f (numbers_below n)) (f n) [] v slot (length-slots f n ∙ sym p))
      | false ↦ λ e.
          let other : slot ≢ n = eqb-false slot n e in
          let below : slot < n = omega (arith, lt, other) in
          ap (λ xs. xs ++ f n ∷ []) (set-slot f slot v n below)
          ∙ sym (set-append_left (map f (numbers_below n)) (f n ∷ []) slot v (omega (arith, below, length-slots f n)))
    ] refl
    ∙ ap (λ xs. slice_set xs slot v) (sym (map-append f (numbers_below n) (n ∷ [])))

abbrev slots : Setting → List Stored → Object → ℕ → Value
slots g h o slot = unwrap_or (last_written h o.id slot) (blank (field_kind g.classes o.class slot))

written-other : (g : Setting) (h : List Stored) (id : ObjId) (slot : ℕ) (v : Value) (o : Object) → is_id id o.id ≡ false
    → fields_after g (Written id slot v ∷ h) o ≡ fields_after g h o
written-other g h id slot v o apart = λ j.
    map (λ s. unwrap_or (cond (apart j && slot == s) (Some v) (last_written h o.id s)) (blank (field_kind g.classes o.class s))) (numbers_below (length (g.classes.fields o.class)))

written-here : (g : Setting) (h : List Stored) (id : ObjId) (slot : ℕ) (v : Value) (o : Object) → is_id id o.id ≡ true → slot < length (fields_after g h o)
    → fields_after g (Written id slot v ∷ h) o ≡ slice_set (fields_after g h o) slot v
written-here g h id slot v o here within =
    let n = length (g.classes.fields o.class) in
    (λ j. map (λ s. unwrap_or (cond (here j && slot == s) (Some v) (last_written h o.id s)) (blank (field_kind g.classes o.class s))) (numbers_below n))
    ∙ (λ j. map (λ s. unwrap-cond (slot == s) v (blank (field_kind g.classes o.class s)) (last_written h o.id s) j) (numbers_below n))
    ∙ set-slot (slots g h o) slot v n (subst (λ m. slot < m) (length-slots (slots g h o) n) within)

pub stored-put : (g : Setting) (h : List Stored) (made : ℕ) (rows new : List (ObjId × Remote)) (id : ObjId) (slot : ℕ) (v : Value) (x w : Remote)
    → lookup (is_id id) rows ≡ Some x → w.class ≡ x.class → w.fields ≡ slice_set x.fields slot v → slot < length x.fields
    → map object_of new ≡ map object_of rows
    → ((q : ObjId) → lookup (is_id q) new ≡ cond (is_id id q) (Some w) (lookup (is_id q) rows))
    → IsStored g h made rows → IsStored g (Written id slot v ∷ h) made new
stored-put g h made rows new id slot v x w there class fields within same at s =
    let apart : (q : ObjId) → made < q.0 → is_id id q ≡ false = λ q above.
    ne_eqb id.0 q.0 (λ e. false≢true (ap is_some (sym (s.below id (omega (arith, above, e))) ∙ there))) in
    let was : x.fields ≡ fields_after g h (record { id = id; class = x.class }) = s.fields id x there in
    record {
      objects = same ∙ s.objects;
      fields = λ q y found. elim (is_id id q) as (λ t. is_id id q ≡ t → y.fields ≡ fields_after g (Written id slot v ∷ h) (record { id = q; class = y.class })) [
        | true ↦ λ here.
            let it : y ≡ w = only y w (sym found ∙ at q ∙ ap (λ t. cond t (Some w) (lookup (is_id q) rows)) here) in
            let p : id ≡ q = same-id id q here in
            ap (λ (z : Remote). z.fields) it ∙ fields ∙ ap (λ xs. slice_set xs slot v) was
            ∙ sym (written-here g h id slot v (record { id = id; class = x.class }) (is_id-refl id) (subst (λ xs. slot < length xs) was within))
            ∙ (λ j. fields_after g (Written id slot v ∷ h) (record { id = p j; class = (sym class ∙ ap (λ (z : Remote). z.class) (sym it)) j }))
        | false ↦ λ other.
            s.fields q y (sym (at q ∙ ap (λ t. cond t (Some w) (lookup (is_id q) rows)) other) ∙ found)
            ∙ sym (written-other g h id slot v (record { id = q; class = y.class }) other)
      ] refl;
      made_is = s.made_is;
      below = λ q above. at q ∙ ap (λ t. cond t (Some w) (lookup (is_id q) rows)) (apart q above) ∙ s.below q above;
      unwritten = λ q s' above. ap (λ t. cond (t && slot == s') (Some v) (last_written h q s')) (apart q above) ∙ s.unwritten q s' above;
    }

-- a change that leaves classes and fields
pub stored-same : (g : Setting) (h : List Stored) (made : ℕ) (rows new : List (ObjId × Remote)) (id : ObjId) (x w : Remote)
    → lookup (is_id id) rows ≡ Some x → w.class ≡ x.class → w.fields ≡ x.fields
    → map object_of new ≡ map object_of rows
    → ((q : ObjId) → lookup (is_id q) new ≡ cond (is_id id q) (Some w) (lookup (is_id q) rows))
    → IsStored g h made rows → IsStored g h made new
stored-same g h made rows new id x w there class fields same at s =
    let apart : (q : ObjId) → made < q.0 → is_id id q ≡ false = λ q above.
    ne_eqb id.0 q.0 (λ e. false≢true (ap is_some (sym (s.below id (omega (arith, above, e))) ∙ there))) in
    record {
      objects = same ∙ s.objects;
      fields = λ q y found. elim (is_id id q) as (λ t. is_id id q ≡ t → y.fields ≡ fields_after g h (record { id = q; class = y.class })) [
        | true ↦ λ here.
            let it : y ≡ w = only y w (sym found ∙ at q ∙ ap (λ t. cond t (Some w) (lookup (is_id q) rows)) here) in
            let p : id ≡ q = same-id id q here in
            ap (λ (z : Remote). z.fields) it ∙ fields ∙ s.fields id x there
            ∙ (λ j. fields_after g h (record { id = p j; class = (sym class ∙ ap (λ (z : Remote). z.class) (sym it)) j }))
        | false ↦ λ other. s.fields q y (sym (at q ∙ ap (λ t. cond t (Some w) (lookup (is_id q) rows)) other) ∙ found)
      ] refl;
      made_is = s.made_is;
      below = λ q above. at q ∙ ap (λ t. cond t (Some w) (lookup (is_id q) rows)) (apart q above) ∙ s.below q above;
      unwritten = s.unwritten;
    }

-- a write by index leaves the objects
pub objects-set : (rows : List (ObjId × Remote)) (i : ℕ) (k : ObjId) (x w : Remote) → slice_get rows i ≡ Some (k, x) → w.class ≡ x.class
    → map object_of (set_value_at rows i w) ≡ map object_of rows
objects-set [] i k x w at class = refl
objects-set (e ∷ es) zero k x w at class =
    let p : e ≡ (k, x) = only e (k, x) at in
    λ j. record { id = e.0; class = (class ∙ ap (λ (r : ObjId × Remote). r.1.class) (sym p)) j } ∷ map object_of es
objects-set (e ∷ es) (suc i) k x w at class = ap (λ os. object_of e ∷ os) (objects-set es i k x w at class)

-- ---- by how many an object is held

abbrev pub held-by : List (ObjId × Remote) → ObjId → ℕ
held-by rows id = unwrap_or (option_map (λ (o : Remote). o.holds) (lookup (is_id id) rows)) 0

pub holds-changed : (f : ℕ → ℕ) (rows new : List (ObjId × Remote)) (id : ObjId) (x w : Remote) → lookup (is_id id) rows ≡ Some x → w.holds ≡ f x.holds
    → ((q : ObjId) → lookup (is_id q) new ≡ cond (is_id id q) (Some w) (lookup (is_id q) rows))
    → (q : ObjId) → held-by new q ≡ cond (is_id id q) (f (held-by rows q)) (held-by rows q)
holds-changed f rows new id x w there holds at q =
    ap (λ o. unwrap_or (option_map (λ (o : Remote). o.holds) o) 0) (at q)
    ∙ elim (is_id id q) as (λ t. is_id id q ≡ t → unwrap_or (option_map (λ (o : Remote). o.holds) (cond t (Some w) (lookup (is_id q) rows))) 0 ≡ cond t (f (held-by rows q)) (held-by rows q)) [
      | true ↦ λ here. holds ∙ ap f (ap (λ o. unwrap_or (option_map (λ (o : Remote). o.holds) o) 0) (sym there) ∙ ap (held-by rows) (same-id id q here))
      | false ↦ λ apart. refl
    ] refl

pub cond-same : (t : Bool) (n : ℕ) → cond t n n ≡ n
cond-same true n = refl
cond-same false n = refl

-- ---- objects go

pub lookup-filter : (p : ObjId → Bool) (q : ObjId) (rows : List (ObjId × Remote)) → lookup (is_id q) (filter (λ (e : ObjId × Remote). p e.0) rows) ≡ cond (p q) (lookup (is_id q) rows) None
lookup-filter p q [] = elim (p q) as (λ t. ◌≡◌ {A = Option Remote} None (cond t None None)) [ true ↦ refl | false ↦ refl ]
lookup-filter p q (e ∷ es) =
    let rest = filter (λ (r : ObjId × Remote). p r.0) es in
    elim (is_id q e.0) as (λ t. is_id q e.0 ≡ t → lookup (is_id q) (cond (p e.0) (e ∷ rest) rest) ≡ cond (p q) (cond t (Some e.1) (lookup (is_id q) es)) None) [
      | true ↦ λ here.
          let same : p e.0 ≡ p q = ap p (sym (same-id q e.0 here)) in
          ap (λ t. lookup (is_id q) (cond t (e ∷ rest) rest)) same
          ∙ elim (p q) as (λ t. p q ≡ t → lookup (is_id q) (cond t (e ∷ rest) rest) ≡ cond t (Some e.1) None) [
            | true ↦ λ kept. ap (λ t. cond t (Some e.1) (lookup (is_id q) rest)) here
            | false ↦ λ gone. lookup-filter p q es ∙ ap (λ t. cond t (lookup (is_id q) es) None) gone
          ] refl
      | false ↦ λ apart.
          elim (p e.0) as (λ t. lookup (is_id q) (cond t (e ∷ rest) rest) ≡ lookup (is_id q) rest) [ true ↦ ap (λ t. cond t (Some e.1) (lookup (is_id q) rest)) apart | false ↦ refl ]
          ∙ lookup-filter p q es
    ] refl

kept : (t : Bool) (o : Option Remote) (x : Remote) → cond t o None ≡ Some x → o ≡ Some x
kept true o x h = h
kept false o x h = absurd (false≢true (ap is_some h))

none-kept : (t : Bool) → cond {A = Option Remote} t None None ≡ None
none-kept true = refl
none-kept false = refl

pub stored-gone : (g : Setting) (h : List Stored) (made : ℕ) (rows new : List (ObjId × Remote)) (ids : List ObjId)
    → new ≡ filter (λ (e : ObjId × Remote). not (is_id_in ids e.0)) rows → IsStored g h made rows → IsStored g (Gone ids ∷ h) made new
stored-gone g h made rows new ids filtered s =
    let at : (q : ObjId) → lookup (is_id q) new ≡ cond (not (is_id_in ids q)) (lookup (is_id q) rows) None = λ q.
    ap (lookup (is_id q)) filtered ∙ lookup-filter (λ id. not (is_id_in ids id)) q rows in
    record {
      objects = ap (map object_of) filtered ∙ sym (filter-map (λ (o : Object). not (is_id_in ids o.id)) object_of rows) ∙ ap (filter (λ (o : Object). not (is_id_in ids o.id))) s.objects;
      fields = λ q y found. s.fields q y (kept (not (is_id_in ids q)) (lookup (is_id q) rows) y (sym (at q) ∙ found));
      made_is = s.made_is;
      below = λ q above. at q ∙ ap (λ o. cond (not (is_id_in ids q)) o None) (s.below q above) ∙ none-kept (not (is_id_in ids q));
      unwritten = s.unwritten;
    }

pub holds-gone : (rows new : List (ObjId × Remote)) (ids : List ObjId) → new ≡ filter (λ (e : ObjId × Remote). not (is_id_in ids e.0)) rows
    → (q : ObjId) → held-by new q ≡ cond (is_id_in ids q) 0 (held-by rows q)
holds-gone rows new ids filtered q =
    ap (λ o. unwrap_or (option_map (λ (o : Remote). o.holds) o) 0) (ap (lookup (is_id q)) filtered ∙ lookup-filter (λ id. not (is_id_in ids id)) q rows)
    ∙ elim (is_id_in ids q) as (λ t. unwrap_or (option_map (λ (o : Remote). o.holds) (cond (not t) (lookup (is_id q) rows) None)) 0 ≡ cond t 0 (held-by rows q)) [ true ↦ refl | false ↦ refl ]

-- ---- what fields have

none-of : (k : ObjId) (rows : List (ObjId × Remote)) → AllByRecursion (λ y. is_id k y ≡ false) (keys_of rows) → lookup (is_id k) rows ≡ None
none-of k [] all = refl
none-of k (e ∷ es) all = ap (λ t. cond t (Some e.1) (lookup (is_id k) es)) all.0 ∙ none-of k es all.1

each-row : (F : Object → List Value) (p : List Value → Bool) (rows : List (ObjId × Remote)) → IsDistinct is_id (keys_of rows)
    → ((q : ObjId) (x : Remote) → lookup (is_id q) rows ≡ Some x → x.fields ≡ F (record { id = q; class = x.class }))
    → list_any (λ (row : ObjId × Remote). p row.1.fields) rows ≡ list_any (λ o. p (F o)) (map object_of rows)
each-row F p [] distinct each = refl
each-row F p (e ∷ es) distinct each =
    let here : e.1.fields ≡ F (object_of e) = each e.0 e.1 (ap (λ t. cond t (Some e.1) (lookup (is_id e.0) es)) (is_id-refl e.0)) in
    let rest = each-row F p es (IsDistinct-tail is_id e.0 (keys_of es) distinct) (λ q x found. each q x
    (elim (is_id q e.0) as (λ t. is_id q e.0 ≡ t → cond t (Some e.1) (lookup (is_id q) es) ≡ Some x) [
      | true ↦ λ same. absurd (false≢true (ap is_some (sym (none-of e.0 es (IsDistinct-head is_id e.0 (keys_of es) distinct)) ∙ ap (λ k. lookup (is_id k) es) (sym (same-id q e.0 same)) ∙ found)))
      | false ↦ λ apart. found
    ] refl)) in
    λ j. p (here j) || rest j

pub named-after : (g : Setting) (h : List Stored) (made : ℕ) (rows : List (ObjId × Remote)) (own : List ℕ) → own ≡ g.id → IsStored g h made rows → IsDistinct is_id (keys_of rows)
    → (id : ObjId) → list_any (λ (x : Remote). is_id_in (own_ids own (references_of x.fields)) id) (values_of rows) ≡ is_in_a_field_after g h id
named-after g h made rows own same s distinct id =
    any-map (λ (x : Remote). is_id_in (own_ids own (references_of x.fields)) id) (λ (row : ObjId × Remote). row.1) rows
    ∙ each-row (fields_after g h) (λ fields. is_id_in (own_ids own (references_of fields)) id) rows distinct s.fields
    ∙ ap (list_any (λ (o : Object). is_id_in (own_ids own (references_of (fields_after g h o))) id)) s.objects
    ∙ ap (λ u. list_any (λ (o : Object). is_id_in (own_ids u (references_of (fields_after g h o))) id) (standing h)) same

keys-objects : (rows : List (ObjId × Remote)) → keys_of rows ≡ map (λ (o : Object). o.id) (map object_of rows)
keys-objects [] = refl
keys-objects (e ∷ es) = ap (λ ks. e.0 ∷ ks) (keys-objects es)

pub idle-after : (g : Setting) (h : List Stored) (made : ℕ) (rows : List (ObjId × Remote)) (holds : ObjId → ℕ) (needed : List ObjId) (named : ObjId → Bool) → IsStored g h made rows
    → ((id : ObjId) → named id ≡ (is_id_in needed id || is_in_a_field_after g h id))
    → filter (λ id. not (nat_lt 0 (holds id) || named id)) (keys_of rows) ≡ idle_after g h holds needed
idle-after g h made rows holds needed named s each =
    (λ j. filter (λ id. not (nat_lt 0 (holds id) || each id j)) ((keys-objects rows ∙ ap (map (λ (o : Object). o.id)) s.objects) j))
    ∙ filter-map (λ id. not (nat_lt 0 (holds id) || (is_id_in needed id || is_in_a_field_after g h id))) (λ (o : Object). o.id) (standing h)

-- a sweep that names none does nothing
pub swept-none : (ids : List ObjId) (h : List Stored) → length ids ≡ 0 → swept ids h ≡ h
swept-none [] h none = refl
swept-none (id ∷ ids) h none = cc

pub none-in : (ids : List ObjId) (id : ObjId) → length ids ≡ 0 → is_id_in ids id ≡ false
none-in [] id none = refl
none-in (other ∷ ids) id none = cc

pub swept-some : (ids : List ObjId) (h : List Stored) → ¬ (length ids ≡ 0) → swept ids h ≡ Gone ids ∷ h
swept-some [] h some = absurd (some refl)
swept-some (id ∷ ids) h some = refl

-- ---- rows by index

pub same-laws : IsEquivalence is_id
same-laws = record {
  refl = is_id-refl;
  symm = flip;
  congr = λ a b c h. ap (λ (x : ObjId). is_id x c) (same-id a b h);
}

entry-here : (r : ObjId) (es : List (ObjId × Remote)) (i : ℕ) (v : Remote) → i < length (keys_of es) → r ≡ get_or (keys_of es) i r → slice_get (values_of es) i ≡ Some v → slice_get es i ≡ Some (r, v)
entry-here r [] i v within key value = absurd (omega arith)
entry-here r (e ∷ es) zero v within key value = let mine : e.1 ≡ v = only e.1 v value in λ j. Some (sym key j, mine j)
entry-here r (e ∷ es) (suc i) v within key value = entry-here r es i v (omega arith) key value

-- what stands at the index of an id
pub entry-at : (r : ObjId) (es : List (ObjId × Remote)) (i : ℕ) (v : Remote) → position (is_id r) (keys_of es) ≡ Some i → slice_get (values_of es) i ≡ Some v → slice_get es i ≡ Some (r, v)
entry-at r es i v index value =
    let at = position-Some (is_id r) (keys_of es) i r index in
    entry-here r es i v at.0 (same-id r (get_or (keys_of es) i r) at.1) value

pub none-from : (o : Option Remote) → false ≡ is_some o → o ≡ None
none-from None h = refl
none-from (Some x) h = absurd (false≢true h)

pub if-some : {A : Type 0} (o : Option A) (P Q : A → Type 0) → ((x : A) → o ≡ Some x → P x → Q x) → IfSome o P → IfSome o Q
if-some None P Q each h = h
if-some (Some x) P Q each h = each x refl h

pub if-none : {A : Type 0} (o : Option A) (P Q : Type 0) → (P → Q) → IfNone o P → IfNone o Q
if-none None P Q each h = each h
if-none (Some x) P Q each h = h

pub stands : (g : Setting) (h : List Stored) (made : ℕ) (rows : List (ObjId × Remote)) (id : ObjId) (x : Remote) → IsStored g h made rows → lookup (is_id id) rows ≡ Some x
    → is_some (object_after h id) ≡ true
stands g h made rows id x s there =
    sym (ap is_some (object-at g h made rows s id))
    ∙ ap (λ (o : Option Remote). is_some (option_map (λ (x : Remote). let o : Object = record { id = id; class = x.class } in o) o)) there

pub absent : (g : Setting) (h : List Stored) (made : ℕ) (rows : List (ObjId × Remote)) (id : ObjId) → IsStored g h made rows → lookup (is_id id) rows ≡ None
    → is_some (object_after h id) ≡ false
absent g h made rows id s none =
    sym (ap is_some (object-at g h made rows s id))
    ∙ ap (λ (o : Option Remote). is_some (option_map (λ (x : Remote). let o : Object = record { id = id; class = x.class } in o) o)) none

pub and-true : (s t : Bool) → t ≡ true → (s && t) ≡ s
and-true true t h = h
and-true false t h = refl

pub and-false : (s t : Bool) → t ≡ false → (s && t) ≡ false
and-false true t h = h
and-false false t h = refl

pub released-none : (rows : List (ObjId × Remote)) (id other : ObjId) → lookup (is_id id) rows ≡ None
    → held-by rows other ≡ cond (is_id id other) (after_release (held-by rows other)) (held-by rows other)
released-none rows id other none = elim (is_id id other) as (λ t. is_id id other ≡ t → held-by rows other ≡ cond t (after_release (held-by rows other)) (held-by rows other)) [
  | true ↦ λ here.
      let zero-held : held-by rows other ≡ 0 = ap (held-by rows) (sym (same-id id other here)) ∙ ap (λ o. unwrap_or (option_map (λ (o : Remote). o.holds) o) 0) none in
      zero-held ∙ ap after_release (sym zero-held)
  | false ↦ λ apart. refl
] refl

pub holds-new : (rows new : List (ObjId × Remote)) (id : ObjId) (x : Remote) → lookup (is_id id) rows ≡ None → x.holds ≡ 0
    → ((q : ObjId) → lookup (is_id q) new ≡ cond (is_id id q) (Some x) (lookup (is_id q) rows))
    → (q : ObjId) → held-by new q ≡ held-by rows q
holds-new rows new id x none blank at q =
    ap (λ o. unwrap_or (option_map (λ (o : Remote). o.holds) o) 0) (at q)
    ∙ elim (is_id id q) as (λ t. is_id id q ≡ t → unwrap_or (option_map (λ (o : Remote). o.holds) (cond t (Some x) (lookup (is_id q) rows))) 0 ≡ held-by rows q) [
      | true ↦ λ here. blank ∙ sym (ap (λ o. unwrap_or (option_map (λ (o : Remote). o.holds) o) 0) none) ∙ ap (held-by rows) (same-id id q here)
      | false ↦ λ apart. refl
    ] refl

-- ---- ids one by one

pub in-more : (ids : List ObjId) (i : ℕ) (d : ObjId) (id : ObjId) → i < length ids
    → is_id_in (take (i + 1) ids) id ≡ (is_id_in (take i ids) id || is_id_in (get_or ids i d ∷ []) id)
in-more ids i d id within =
    ap (λ xs. is_id_in xs id) (take_more ids i d within) ∙ list_any-append (is_id id) (take i ids) (get_or ids i d ∷ [])

pub named-more : (own : List ℕ) (xs : List Value) (i : ℕ) (d : Value) (id : ObjId) → i < length xs
    → is_id_in (own_ids own (references_of (take (i + 1) xs))) id
    ≡ (is_id_in (own_ids own (references_of (take i xs))) id || is_id_in (own_ids own (reference_of (get_or xs i d))) id)
named-more own xs i d id within =
    let v = get_or xs i d in
    ap (λ vs. is_id_in (own_ids own (references_of vs)) id) (take_more xs i d within)
    ∙ ap (λ rs. is_id_in (own_ids own rs) id) (flat_map-append reference_of (take i xs) (v ∷ []) ∙ ap (λ rs. references_of (take i xs) ++ rs) (append-nil (reference_of v)))
    ∙ ap (λ is. is_id_in is id) (flat_map-append (own_id own) (references_of (take i xs)) (reference_of v))
    ∙ list_any-append (is_id id) (own_ids own (references_of (take i xs))) (own_ids own (reference_of v))

pub or-again : (a b c d e : Bool) → b ≡ (a || c) → d ≡ (b || e) → d ≡ (a || (c || e))
or-again true b c d e h k = k ∙ ap (λ t. t || e) h
or-again false b c d e h k = k ∙ ap (λ t. t || e) h

pub copied-get : (o : Option (Bor Value)) (xs : List Value) (i : ℕ) (P : Bor Value → Type 0) → IfSome o (λ x. x.now ≡ get_or xs i x.now)
    → MatchOption o (length xs ≤ i) (λ x. (i < length xs) × P x) → option_copied o ≡ slice_get xs i
copied-get None xs i P read within = sym (slice_get_past xs i within)
copied-get (Some x) xs i P read within = sym (slice_get_read xs (length xs) i x.now refl within.0 read)

-- what is picked at an index
pub pick : (holds : ObjId → ℕ) (named : ObjId → Bool) (rows : List (ObjId × Remote)) (i : ℕ) (k : ObjId) (x : Remote) (t : Bool) → Some (k, x) ≡ slice_get rows i
    → (nat_lt 0 (holds k) || named k) ≡ t
    → cond t None (Some k) ≡ option_and_then (λ id. cond (nat_lt 0 (holds id) || named id) None (Some id)) (slice_get (keys_of rows) i)
pick holds named rows i k x t entry is =
    sym (ap (option_and_then (λ id. cond (nat_lt 0 (holds id) || named id) None (Some id))) (slice_get-map (λ (e : ObjId × Remote). e.0) rows i ∙ ap (option_map (λ (e : ObjId × Remote). e.0)) (sym entry))
    ∙ ap (λ t. cond t None (Some k)) is)

abbrev pub listed : Option ObjId → List ObjId
listed None = []
listed (Some id) = id ∷ []

pub idle-more : (q : ObjId → Bool) (ks : List ObjId) (i : ℕ) (o : Option ObjId) → i < length ks → o ≡ option_and_then (λ id. cond (q id) None (Some id)) (slice_get ks i)
    → filter (λ id. not (q id)) (take (i + 1) ks) ≡ filter (λ id. not (q id)) (take i ks) ++ listed o
idle-more q ks i o within picked =
    let d : ObjId = record { 0 = 0 } in
    let k : ObjId = get_or ks i d in
    filter_more (λ id. not (q id)) ks i d within
    ∙ ap (λ xs. filter (λ id. not (q id)) (take i ks) ++ xs)
    (elim (q k) as (λ t. cond (not t) (k ∷ []) [] ≡ listed (cond t None (Some k))) [ true ↦ refl | false ↦ refl ]
    ∙ sym (ap listed (picked ∙ ap (option_and_then (λ id. cond (q id) None (Some id))) (slice_get-get_or ks i d within))))

pub any-more : {X : Type 0} (p : X → Bool) (xs : List X) (i : ℕ) (x : X) (b : Bool) → slice_get xs i ≡ Some x → b ≡ list_any p (take i xs) → (b || p x) ≡ list_any p (take (i + 1) xs)
any-more p xs i x b at h =
    ap (λ t. t || p x) h
    ∙ ap (λ v. list_any p (take i xs) || p v) (sym (get_or_from_slice_get xs i x x at))
    ∙ sym (list_any_more p xs i x (slice_get_within xs i x at))

pub if-ok : {A E : Type 0} (r : Result A E) (P Q : A → Type 0) → ((x : A) → P x → Q x) → IfOk r P → IfOk r Q
if-ok (Ok x) P Q each h = each x h
if-ok (Err e) P Q each h = h
