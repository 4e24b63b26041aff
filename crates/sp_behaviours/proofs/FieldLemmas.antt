-- What a field of a standing object is: a value of its kind, and if it is a reference, one of a remote class.
use mathlib.Core.Path.{sym, ap, subst, ◌∙◌}
use Rattle.std.specs.Prelude.{◌≡◌, refl, ℕ, zero, suc, ◌<◌, ◌==◌, ◌||◌, Bool, true, false, length, List, [], ◌∷◌, ◌++◌, Option, None, Some, map, unwrap_or}
use Rattle.std.specs.List.{list_any}
use Rattle.std.specs.Str.{bytes_eq}
use Rattle.std.proofs.Common.{arith}
use Rattle.std.proofs.lemmas.Bool.{true≢false, eq-eqb, eqb-true}
use Rattle.std.proofs.lemmas.Option.{slice_get_within}
use Rattle.space_ids.specs.declared.ids.ClassId.{ClassId}
use Rattle.space_ids.specs.declared.ids.ObjId.{ObjId}
use Rattle.space_ids.specs.declared.ids.Ref.{Ref}
use Rattle.space_ids.specs.declared.value.Value.{Value}
use Rattle.uuid.specs.declared.Uuid.{Uuid}
use Rattle.sp_rules.specs.Classes.{Setting, Kind, blank, fits_kind, fits_field, field_kind}
use Rattle.sp_rules.specs.Holders.{class_is, field, fields_of}
use Rattle.sp_rules.specs.Laws.{AllOf}
use Rattle.sp_rules.specs.Lists.{numbers_below}
use Rattle.sp_rules.specs.Origins.{IsRight}
use Rattle.sp_rules.specs.References.{references_of, reference_of, is_id, is_same_reference, is_reference_in}
use Rattle.sp_rules.specs.Space.{state_of}
use Rattle.sp_rules.specs.State.{State, Living, Object, object_at, standing, last_written}
use Rattle.sp_rules.proofs.AllLemmas.{all-found, found-is}
use Rattle.sp_rules.proofs.OwnLemmas.{and-left, and-right, own_references_stand}
use Rattle.sp_rules.proofs.SweepLemmas.{one-id}
use Rattle.sp_behaviours.specs.Stores.{StoreFits, HeldObjectsStand, AreOfRemote, IsOfRemote}

-- ---- references in lists

all-join : (P : Ref → Type 0) (xs ys : List Ref) → AllOf P xs → AllOf P ys → AllOf P (xs ++ ys)
all-join P [] ys a b = b
all-join P (x ∷ xs) ys a b = (a.0, all-join P xs ys a.1 b)

pub all-split : (P : Ref → Type 0) (xs ys : List Ref) → AllOf P (xs ++ ys) → AllOf P xs × AllOf P ys
all-split P [] ys a = (tt, a)
all-split P (x ∷ xs) ys a = let b : AllOf P xs × AllOf P ys = all-split P xs ys a.1 in ((a.0, b.0), b.1)

slots-split : (P : Ref → Type 0) (f : ℕ → Value) (xs : List ℕ) (k : ℕ) → AllOf P (references_of (map f (xs ++ k ∷ []))) → AllOf P (references_of (map f xs)) × AllOf P (reference_of (f k))
slots-split P f [] k a = (tt, (all-split P (reference_of (f k)) [] a).0)
slots-split P f (x ∷ xs) k a =
    let b : AllOf P (reference_of (f x)) × AllOf P (references_of (map f (xs ++ k ∷ []))) = all-split P (reference_of (f x)) (references_of (map f (xs ++ k ∷ []))) a in
    let c : AllOf P (references_of (map f xs)) × AllOf P (reference_of (f k)) = slots-split P f xs k b.1 in
    (all-join P (reference_of (f x)) (references_of (map f xs)) b.0 c.0, c.1)

-- what holds of the references in all slots holds of those in one of them
slot-in : (P : Ref → Type 0) (f : ℕ → Value) (n slot : ℕ) → slot < n → AllOf P (references_of (map f (numbers_below n))) → AllOf P (reference_of (f slot))
slot-in P f zero slot lt a = absurd (omega (arith, lt))
slot-in P f (suc n) slot lt a = pick (slot == n) refl (slot-in P f n slot) (slots-split P f (numbers_below n) n a)
  where
    less : (slot ≡ n → ⊥) → slot < n
    less other = omega (arith, lt, other)

    pick : (b : Bool) → (slot == n) ≡ b → (slot < n → AllOf P (references_of (map f (numbers_below n))) → AllOf P (reference_of (f slot)))
        → AllOf P (references_of (map f (numbers_below n))) × AllOf P (reference_of (f n)) → AllOf P (reference_of (f slot))
    pick true is rest parts = subst (λ k. AllOf P (reference_of (f k))) (sym (eqb-true slot n is)) parts.1
    pick false is rest parts = rest (less (λ e. true≢false (sym (eq-eqb slot n e) ∙ is))) parts.0

same-reference : (a b : Ref) → is_same_reference a b ≡ true → a ≡ b
same-reference a b e =
    let space : a.space ≡ b.space = (Rattle.std.proofs.lemmas.Slice.Eq.bytes_eq-Decides a.space b.space).0 (and-left (bytes_eq a.space b.space) _ e) in
    let id : a.id ≡ b.id = one-id a.id b.id (and-left (a.id.0 == b.id.0) _ (and-right (bytes_eq a.space b.space) _ e)) in
    let class : a.class.0 ≡ b.class.0 = eqb-true a.class.0 b.class.0 (and-right (a.id.0 == b.id.0) _ (and-right (bytes_eq a.space b.space) _ e)) in
    ap {A = Uuid} {B = Ref} (λ x. record { space = x; id = a.id; class = a.class }) space
    ∙ ap {A = ObjId} {B = Ref} (λ x. record { space = b.space; id = x; class = a.class }) id
    ∙ ap {A = ℕ} {B = Ref} (λ x. record { space = b.space; id = b.id; class = record { 0 = x } }) class

held-one : (P : Ref → Type 0) (held : List Ref) (r : Ref) → AllOf P held → is_reference_in held r ≡ true → P r
held-one P [] r a e = absurd (true≢false (sym e))
held-one P (x ∷ held) r a e = pick (is_same_reference r x) refl e (held-one P held r a.1)
  where
    pick : (b : Bool) → is_same_reference r x ≡ b → b || list_any (is_same_reference r) held ≡ true → (list_any (is_same_reference r) held ≡ true → P r) → P r
    pick true is f rest = subst P (sym (same-reference r x is)) a.0
    pick false is f rest = rest f

-- ---- the objects that references name

-- what stands where a reference's object does is of its class
pub found : (s : State) (id : ObjId) (class : ClassId) → class_is class (object_at s id) ≡ true → (o : Object) × (object_at s id ≡ Some o) × (o.class ≡ class)
found s id class e = by (object_at s id) refl e
  where
    by : (x : Option Object) → object_at s id ≡ x → class_is class x ≡ true → (o : Object) × (object_at s id ≡ Some o) × (o.class ≡ class)
    by None is e = absurd (true≢false (sym e))
    by (Some o) is e = (o, is, ap {A = ℕ} {B = ClassId} (λ n. record { 0 = n }) (eqb-true o.class.0 class.0 e))

pub held_objects_stand : HeldObjectsStand
held_objects_stand g h id t r taken is among own =
    let s : State = state_of g h in
    let tasks : AllOf (λ (u : Living). AllOf (IsRight g s) u.task.held) s.tasks = (own_references_stand g h taken).tasks in
    held-one (IsRight g s) t.task.held r (all-found (λ (u : Living). AllOf (IsRight g s) u.task.held) (λ (u : Living). u.id == id) s.tasks t is tasks) among own

-- ---- fields

-- what a Get gives
abbrev pub value-of : Setting → State → ObjId → ℕ → Object → Value
value-of g s id slot o = unwrap_or (last_written s.store id slot) (blank (field_kind g.classes o.class slot))

module _ (g : Setting) (s : State) (fits : StoreFits g s) (remote : AreOfRemote g s) (id : ObjId) (o : Object) (there : object_at s id ≡ Some o) (slot : ℕ) (kind : Kind) (is : field_kind g.classes o.class slot ≡ Some kind) where
  -- it is of the field's kind
  pub of-kind : fits_kind kind (blank (Some kind)) ≡ true → fits_kind kind (value-of g s id slot o) ≡ true
  of-kind begins = by (last_written s.store id slot) refl
    where
      by : (v : Option Value) → last_written s.store id slot ≡ v → fits_kind kind (unwrap_or v (blank (field_kind g.classes o.class slot))) ≡ true
      by None e = subst (λ k. fits_kind kind (blank k) ≡ true) (sym is) begins
      by (Some v) e = subst (λ k. fits_field k v ≡ true) is (fits.written id o slot v there e)

  inside : slot < length (g.classes.fields o.class)
  inside = slice_get_within (g.classes.fields o.class) slot kind is

  same : o.id ≡ id
  same = one-id o.id id (found-is (λ (q : Object). is_id q.id id) (standing s.store) o there)

  in-field : (P : Ref → Type 0) → AllOf P (references_of (fields_of g s o)) → AllOf P (reference_of (value-of g s id slot o))
  in-field P a = subst (λ i. AllOf P (reference_of (value-of g s i slot o))) same (slot-in P (field g s o) (length (g.classes.fields o.class)) slot inside a)

  -- a reference in it is of a remote class
  pub kept : AllOf (IsOfRemote g) (reference_of (value-of g s id slot o))
  kept = in-field (IsOfRemote g) (all-found (λ (q : Object). AllOf (IsOfRemote g) (references_of (fields_of g s q))) (λ (q : Object). is_id q.id id) (standing s.store) o there remote.fields)
