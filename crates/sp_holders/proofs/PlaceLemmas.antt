-- Where a reference is held.
use Rattle.std.proofs.Common.{◌≡◌, ℕ, ◌<◌, Bool, true, false, cond, List, [], ◌∷◌, Option, None, Some, refl, sym, ap, ◌∙◌, map, nat_eq, arith, zero, suc}
use Rattle.std.specs.Prelude.{◌||◌, Result, Ok, Err, IfOk, OnErr, filter, find, option_map, slice_get, unwrap_or}
use Rattle.std.specs.List.{list_any}
use Rattle.std.proofs.lemmas.Bool.{eq-eqb, eqb-true}
use Rattle.space_ids.specs.declared.ids.ClassId.{ClassId}
use Rattle.space_ids.specs.declared.ids.ObjId.{ObjId}
use Rattle.space_ids.specs.declared.ids.Ref.{Ref}
use Rattle.space_ids.specs.declared.value.Value.{Value}
use Rattle.sp_results.specs.Held.{acked_row, of_calls, of_roots}
use Rattle.sp_results.proofs.RootLemmas.{any-of-both}
use Rattle.sp_living.specs.Views.{Seen, kept, seen, seen_row}
use Rattle.sp_owner.specs.Owners.{owner_parts, told}
use Rattle.sp_results.specs.Waiting as waiting
use Rattle.sp_rules.specs.Classes.{Setting}
use Rattle.sp_rules.specs.Frames.{is_acked_by}
use Rattle.sp_rules.specs.Holders.{fields_of, has_holder, references_of_frame}
use Rattle.sp_rules.specs.Laws.{AllOf, RisesWithin}
use Rattle.sp_rules.specs.References.{is_id, is_reference_in, is_same_reference, reference_of, references_in, references_of}
use Rattle.sp_rules.specs.State as rules
use Rattle.sp_rules.specs.State.{State, KeptResult, Living, Object, object_at, standing}
use Rattle.sp_state.specs.Spaces.{AreNumbered}
use Rattle.sp_tasks.specs.Rows.{TaskRow, row_of}
use Rattle.sp_holders.specs.Places.{fields_have, is_at_hand, is_away}
use Rattle.sp_holders.proofs.AnyLemmas.{any-filter, any-flat, any-map, or-left, or-right}

-- ---- values

pub any-value : (r : Ref) (vs : List Value) → list_any (λ (v : Value). is_reference_in (reference_of v) r) vs ≡ is_reference_in (references_of vs) r
any-value r vs = sym (any-flat (is_same_reference r) reference_of vs)

-- ---- objects

above : (n last : ℕ) (os : List Object) → RisesWithin n last (map (λ (o : Object). o.id.0) os) → AllOf (λ (o : Object). n < o.id.0) os
above n last [] r = tt
above n last (o ∷ os) r = (omega (arith, r.0), all-higher n o.id.0 os (omega (arith, r.0)) (above o.id.0 last os r.1))
  where
    all-higher : (n m : ℕ) (os : List Object) → n < m → AllOf (λ (o : Object). m < o.id.0) os → AllOf (λ (o : Object). n < o.id.0) os
    all-higher n m [] h a = tt
    all-higher n m (o ∷ os) h a = (let b = a.0 in omega arith, all-higher n m os h a.1)

-- the first object of an id is the one that has it
found-at : (n last : ℕ) (os : List Object) (i : ℕ) (x : Object) → RisesWithin n last (map (λ (o : Object). o.id.0) os) → slice_get os i ≡ Some x → find (λ (o : Object). is_id o.id x.id) os ≡ Some x
found-at n last [] i x r at = cc
found-at n last (o ∷ os) zero x r at =
    let same : o ≡ x = cc in
    ap (λ b. cond b (Some o) (find (λ (p : Object). is_id p.id x.id) os)) (eq-eqb o.id.0 x.id.0 (ap (λ (p : Object). p.id.0) same)) ∙ at
found-at n last (o ∷ os) (suc i) x r at =
    ap (λ b. cond b (Some o) (find (λ (p : Object). is_id p.id x.id) os)) (apart (is_id o.id x.id) refl) ∙ found-at o.id.0 last os i x r.1 at
  where
    there : (i : ℕ) (os : List Object) → AllOf (λ (p : Object). o.id.0 < p.id.0) os → slice_get os i ≡ Some x → o.id.0 < x.id.0
    there i [] all at = cc
    there zero (p ∷ ps) all at = let same : p ≡ x = cc in let less = all.0 in let number = ap (λ (q : Object). q.id.0) same in omega (arith, less, number)
    there (suc i) (p ∷ ps) all at = there i ps all.1 at

    apart : (b : Bool) → is_id o.id x.id ≡ b → is_id o.id x.id ≡ false
    apart true e = let less = there i os (above o.id.0 last os r.1) at in let same = eqb-true o.id.0 x.id.0 e in absurd (omega (arith, less, same))
    apart false e = e

-- what is found of the object at an index
pub object-found : (g : Setting) (s : State) (i : ℕ) (o : Option Object) (id : ObjId) (class : ClassId) → AreNumbered (owner_parts s) → slice_get (standing s.store) i ≡ o → (let p : ObjId × ClassId = (id, class) in Some p ≡ option_map told o)
    → option_map (fields_of g s) (object_at s id) ≡ option_map (fields_of g s) o
object-found g s i None id class numbers at e = cc
object-found g s i (Some x) id class numbers at e =
    let pair : (id, class) ≡ (x.id, x.class) = ap (λ (p : Option (ObjId × ClassId)). unwrap_or p (id, class)) e in
    let same : id ≡ x.id = ap (λ (p : ObjId × ClassId). p.0) pair in
    ap (option_map (fields_of g s)) (ap (object_at s) same ∙ found-at 0 s.objects_made (standing s.store) i x numbers at)

pub has-fields : (g : Setting) (s : State) (r : Ref) (o : Option Object) (fields : List Value) → Some fields ≡ option_map (fields_of g s) o → is_reference_in (references_of fields) r ≡ fields_have g s r o
has-fields g s r None fields e = cc
has-fields g s r (Some o) fields e = let same : fields ≡ fields_of g s o = cc in ap (λ (vs : List Value). is_reference_in (references_of vs) r) same

pub no-fields : (g : Setting) (s : State) (r : Ref) (o : Option Object) → None ≡ option_map (fields_of g s) o → false ≡ fields_have g s r o
no-fields g s r None e = refl
no-fields g s r (Some o) e = cc

-- what is found is one of them
found-one : (p q : Object → Bool) (os : List Object) (x : Object) → find p os ≡ Some x → q x ≡ true → list_any q os ≡ true
found-one p q [] x found has = cc
found-one p q (o ∷ os) x found has = by (λ there. found-one p q os x there has) (p o) found
  where
    by : (find p os ≡ Some x → list_any q os ≡ true) → (b : Bool) → cond b (Some o) (find p os) ≡ Some x → (q o || list_any q os) ≡ true
    by more true e = let same : o ≡ x = cc in or-left (q o) (list_any q os) (ap q same ∙ has)
    by more false e = or-right (q o) (list_any q os) (more e)

pub object-has : (g : Setting) (s : State) (r : Ref) (id : ObjId) (fields : List Value) → Some fields ≡ option_map (fields_of g s) (object_at s id) → is_reference_in (references_of fields) r ≡ true
    → list_any (λ (o : Object). is_reference_in (references_of (fields_of g s o)) r) (standing s.store) ≡ true
object-has g s r id fields told has = by (object_at s id) refl told
  where
    by : (o : Option Object) → object_at s id ≡ o → Some fields ≡ option_map (fields_of g s) o → list_any (λ (o : Object). is_reference_in (references_of (fields_of g s o)) r) (standing s.store) ≡ true
    by None at e = cc
    by (Some x) at e =
        let same : fields ≡ fields_of g s x = cc in
        found-one (λ (o : Object). is_id o.id id) (λ (o : Object). is_reference_in (references_of (fields_of g s o)) r) (standing s.store) x at (sym (ap (λ (vs : List Value). is_reference_in (references_of vs) r) same) ∙ has)

pub no-object : (g : Setting) (s : State) (r : Ref) (o : Option Object) → None ≡ option_map told o → false ≡ fields_have g s r o
no-object g s r None e = refl
no-object g s r (Some o) e = cc

-- ---- tasks

pub row-held : (r : Ref) (id : ℕ) (held : List Ref) (es : List (ℕ × TaskRow)) → Some held ≡ option_map (λ (row : TaskRow). row.held) (row_of id es) → is_reference_in held r ≡ true
    → list_any (λ (row : ℕ × TaskRow). is_reference_in row.1.held r) es ≡ true
row-held r id held [] e has = cc
row-held r id held (x ∷ xs) e has = by (λ e. row-held r id held xs e has) (nat_eq id x.0) e
  where
    more : Bool
    more = list_any (λ (row : ℕ × TaskRow). is_reference_in row.1.held r) xs

    or-so : (a b : Bool) → b ≡ true → (a || b) ≡ true
    or-so true b h = refl
    or-so false b h = h

    by : (Some held ≡ option_map (λ (row : TaskRow). row.held) (row_of id xs) → more ≡ true) → (b : Bool) → Some held ≡ option_map (λ (row : TaskRow). row.held) (cond b (Some x.1) (row_of id xs)) → (is_reference_in x.1.held r || more) ≡ true
    by go true e =
        let same : held ≡ x.1.held = cc in
        ap (λ b. b || more) (sym (ap (λ (rs : List Ref). is_reference_in rs r) same) ∙ has)
    by go false e = or-so (is_reference_in x.1.held r) more (go e)

pub tasks-have : (r : Ref) (es : List (ℕ × TaskRow)) (ts : List Living) → map seen_row es ≡ map seen ts
    → list_any (λ (row : ℕ × TaskRow). is_reference_in row.1.held r) es ≡ list_any (λ (t : Living). is_reference_in t.task.held r) ts
tasks-have r es ts same =
    sym (any-map (λ (x : Seen). is_reference_in x.held r) seen_row es) ∙ ap (list_any (λ (x : Seen). is_reference_in x.held r)) same
    ∙ any-map (λ (x : Seen). is_reference_in x.held r) seen ts

-- ---- results

pub roots-have : (r : Ref) (roots : List (ℕ × Option Value)) (results : List KeptResult) → map kept roots ≡ of_roots results
    → list_any (λ (row : ℕ × Option Value). is_reference_in (references_in row.1) r) roots ≡ list_any (λ (k : KeptResult). is_reference_in (references_in k.value) r) (of_roots results)
roots-have r roots results are =
    sym (any-map (λ (k : KeptResult). is_reference_in (references_in k.value) r) kept roots) ∙ ap (list_any (λ (k : KeptResult). is_reference_in (references_in k.value) r)) are

-- one of the results of roots and lookups is one of all
pub root-has : (r : Ref) (results : List KeptResult) → list_any (λ (k : KeptResult). is_reference_in (references_in k.value) r) (of_roots results) ≡ true → list_any (λ (k : KeptResult). is_reference_in (references_in k.value) r) results ≡ true
root-has r results one =
    any-of-both (λ (k : KeptResult). is_reference_in (references_in k.value) r) results ∙ ap (λ b. b || list_any (λ (k : KeptResult). is_reference_in (references_in k.value) r) (of_calls results)) one

pub taken-has : (r : Ref) (task : ℕ) (value : Option Value) (rows : List (ℕ × Option Value)) → waiting.of_task task rows ≡ waiting.row_of task (Some value) → is_reference_in (references_in value) r ≡ true
    → list_any (λ (row : ℕ × Option Value). is_reference_in (references_in row.1) r) rows ≡ true
taken-has r task value rows taken has =
    any-filter (λ (row : ℕ × Option Value). is_reference_in (references_in row.1) r) _ rows
    (ap (list_any (λ (row : ℕ × Option Value). is_reference_in (references_in row.1) r)) taken ∙ ap (λ b. b || false) has)

-- the result of a call
pub acked-has : (r : Ref) (conn number : ℕ) (value : Option Value) (results : List KeptResult) → filter (is_acked_by conn number) results ≡ acked_row conn number (Some value) → is_reference_in (references_in value) r ≡ true
    → list_any (λ (k : KeptResult). is_reference_in (references_in k.value) r) results ≡ true
acked-has r conn number value results acked has =
    any-filter (λ (k : KeptResult). is_reference_in (references_in k.value) r) (is_acked_by conn number) results
    (ap (list_any (λ (k : KeptResult). is_reference_in (references_in k.value) r)) acked ∙ ap (λ b. b || false) has)

-- ---- all places

abbrev pub tasks : State → Ref → Bool
tasks s r = list_any (λ (t : Living). is_reference_in t.task.held r) s.tasks

abbrev pub fields : Setting → State → Ref → Bool
fields g s r = list_any (λ (o : Object). is_reference_in (references_of (fields_of g s o)) r) (standing s.store)

abbrev pub results : State → Ref → Bool
results s r = list_any (λ (k : KeptResult). is_reference_in (references_in k.value) r) s.results

abbrev pub frames : State → Ref → Bool
frames s r = list_any (λ (p : rules.ParkedFrame). is_reference_in (references_of_frame p.frame) r) s.parked

-- what a living task holds, or a held result has, has a holder
pub in-tables : (t f r p : Bool) → (t || r) ≡ true → (t || (f || (r || p))) ≡ true
in-tables true f r p h = refl
in-tables false true r p h = refl
in-tables false false r p h = ap (λ b. b || p) h

pub in-fields : (t f r p : Bool) → f ≡ true → true ≡ (t || (f || (r || p)))
in-fields true f r p h = refl
in-fields false f r p h = sym (ap (λ b. b || (r || p)) h)

split : (t f r p a b : Bool) → r ≡ (a || b) → (t || (f || (r || p))) ≡ (((t || a) || f) || (b || p))
split true f r p a b is = refl
split false true r p true b is = refl
split false true r p false b is = refl
split false false r p true b is = ap (λ x. x || p) is
split false false r p false b is = ap (λ x. x || p) is

-- each holder is at hand or is not
pub near-or-far : (g : Setting) (s : State) (r : Ref) → has_holder g s r ≡ (is_at_hand g s r || is_away s r)
near-or-far g s r =
    let has = λ (k : KeptResult). is_reference_in (references_in k.value) r in
    split (tasks s r) (fields g s r) (results s r) (frames s r) (list_any has (of_roots s.results)) (list_any has (of_calls s.results)) (any-of-both has s.results)

pub if-ok : {A E : Type 0} (o : Result A E) (P Q : A → Type 0) → ((x : A) → P x → Q x) → IfOk o P → IfOk o Q
if-ok (Ok x) P Q each h = each x h
if-ok (Err e) P Q each h = h

pub if-err : {A E : Type 0} (o : Result A E) (P : Type 0) → P → OnErr o P
if-err (Ok x) P p = tt
if-err (Err e) P p = p
