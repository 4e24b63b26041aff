-- A space in which nothing that is started has a reference, and how that is counted.
use mathlib.Core.Path.{sym, ap, subst, ◌∙◌}
use Rattle.std.proofs.Common.{arith, inl, inr}
use Rattle.std.proofs.lemmas.Bool.{true≢false, eq-eqb}
use Rattle.std.proofs.lemmas.Slice.Eq.{bytes_eq-Decides}
use Rattle.std.specs.List.{list_all}
use Rattle.std.specs.Prelude.{◌≡◌, refl, ℕ, zero, suc, ◌+◌, ◌≤◌, ◌<◌, ◌==◌, ◌&&◌, ◌||◌, is_some, length, Bool, true, false, cond, List, [], ◌∷◌, ◌++◌, Option, None, Some, filter, map, fold, unwrap_or, if◌then◌else◌}
use Rattle.std.specs.Str.{bytes_eq}
use Rattle.std.proofs.lemmas.Option.{slice_get_within}
use Rattle.dgc_client.specs.Table as client
use Rattle.dgc_client.specs.Table.{Told, is_same, is_among}
use Rattle.space_ids.specs.declared.ids.ForeignId.{ForeignId}
use Rattle.space_ids.specs.declared.ids.ObjId.{ObjId}
use Rattle.space_ids.specs.declared.ids.Ref.{Ref}
use Rattle.space_ids.specs.declared.value.Value.{Value}
use Rattle.uuid.specs.declared.Uuid.{Uuid}
use Rattle.sp_rules.specs.Classes.{Setting, blank, field_kind}
use Rattle.sp_rules.specs.Holders.{times_in, fields_of, field, references_of_frame}
use Rattle.sp_rules.specs.Laws.{AllOf}
use Rattle.sp_rules.specs.Lists.{total, numbers_below}
use Rattle.sp_rules.specs.ParkedFrames.{has_lease, is_parked_at}
use Rattle.sp_rules.specs.References.{foreign_id, foreign_ids, references_of, references_in, reference_of}
use Rattle.sp_rules.specs.State.{State, Object, Living, KeptResult, Frame, CallFrame, ReturnedFrame, ParkedFrame, standing, last_written}
use Rattle.sp_rules.proofs.AllLemmas.{all-weaken}
use Rattle.sp_rules.proofs.OriginLemmas.{FieldsAre}
use Rattle.sp_rules.proofs.OriginsOfFrames.{Waits, Matches}
use Rattle.sp_rules.proofs.OwnLemmas.{and-left, and-right, fields-all, has-some}
use Rattle.sp_rules.proofs.SweepLemmas.{one-id}
use Rattle.sp_order_laws.specs.Ends.{IsOneOf}
use Rattle.sp_held_laws.specs.Granted.{started_of}
use Rattle.sp_held_laws.proofs.GrownRules.{Grown}
use Rattle.sp_held_laws.proofs.GrownFrames.{Any, any-all, FrameOf, MayGo, AllMayGo}
use Rattle.sp_held_laws.proofs.ParkedLemmas.{times_parked, only-one}

-- ---- lists

pub each-of : {A : Type 0} (P : A → Type 0) (xs : List A) → ((x : A) → IsOneOf x xs → P x) → AllOf P xs
each-of P [] f = tt
each-of P (x ∷ xs) f = (f x (inl refl), each-of P xs (λ y a. f y (inr a)))

pub one-of : {A : Type 0} (P : A → Type 0) (xs : List A) (x : A) → AllOf P xs → IsOneOf x xs → P x
one-of P [] x a b = absurd b
one-of P (y ∷ xs) x a (inl e) = subst P (sym e) a.0
one-of P (y ∷ xs) x a (inr b) = one-of P xs x a.1 b

pub filter-one : {A : Type 0} (is : A → Bool) (xs : List A) (x : A) → IsOneOf x (filter is xs) → IsOneOf x xs × (is x ≡ true)
filter-one is [] x a = absurd a
filter-one is (y ∷ xs) x a = pick (is y) refl a (filter-one is xs x)
  where
    pick : (b : Bool) → is y ≡ b → IsOneOf x (cond b (y ∷ filter is xs) (filter is xs)) → (IsOneOf x (filter is xs) → IsOneOf x xs × (is x ≡ true)) → IsOneOf x (y ∷ xs) × (is x ≡ true)
    pick true e (inl f) rest = (inl f, ap is f ∙ e)
    pick true e (inr f) rest = (inr (rest f).0, (rest f).1)
    pick false e f rest = (inr (rest f).0, (rest f).1)

-- ---- references that are one

pub one-foreign : (a b : ForeignId) → is_same a b ≡ true → a ≡ b
one-foreign a b e =
    let space : a.space ≡ b.space = (bytes_eq-Decides a.space b.space).0 (and-left (bytes_eq a.space b.space) _ e) in
    let id : a.id ≡ b.id = one-id a.id b.id (and-right (bytes_eq a.space b.space) _ e) in
    ap {A = Uuid} {B = ForeignId} (λ x. record { space = x; id = a.id }) space ∙ ap {A = ObjId} {B = ForeignId} (λ x. record { space = b.space; id = x }) id

abbrev pub bit : Bool → ℕ
bit true = 1
bit false = 0

pub times-cons : (r x : ForeignId) (ids : List ForeignId) → times_in r (x ∷ ids) ≡ bit (is_same r x) + times_in r ids
times-cons r x ids = pick (is_same r x)
  where
    pick : (b : Bool) → length (cond b (x ∷ filter (is_same r) ids) (filter (is_same r) ids)) ≡ bit b + length (filter (is_same r) ids)
    pick true = omega arith
    pick false = omega arith

pub times-append : (r : ForeignId) (xs ys : List ForeignId) → times_in r (xs ++ ys) ≡ times_in r xs + times_in r ys
times-append r [] ys = omega arith
times-append r (x ∷ xs) ys =
    let a : times_in r (x ∷ (xs ++ ys)) ≡ bit (is_same r x) + times_in r (xs ++ ys) = times-cons r x (xs ++ ys) in
    let b : times_in r (x ∷ xs) ≡ bit (is_same r x) + times_in r xs = times-cons r x xs in
    let c : times_in r (xs ++ ys) ≡ times_in r xs + times_in r ys = times-append r xs ys in omega arith

-- ---- references that are not this one

abbrev pub NotIt : Setting → ForeignId → Ref → Type 0
NotIt g r x = times_in r (foreign_id g.id x) ≡ 0

pub own-not-it : (g : Setting) (r : ForeignId) (x : Ref) → bytes_eq x.space g.id ≡ true → NotIt g r x
own-not-it g r x e = pick (bytes_eq x.space g.id) e
  where
    pick : (b : Bool) → b ≡ true → times_in r (if b then [] else record { space = x.space; id = x.id } ∷ []) ≡ 0
    pick true f = refl
    pick false f = absurd (true≢false (sym f))

-- a reference of which something holds that does not hold of this one
pub other-not-it : (g : Setting) (r : ForeignId) (has : ForeignId → Bool) (x : Ref) → has r ≡ false → (bytes_eq x.space g.id ≡ false → has (record { space = x.space; id = x.id }) ≡ true) → NotIt g r x
other-not-it g r has x lacks holds = pick (bytes_eq x.space g.id) refl
  where
    y : ForeignId
    y = record { space = x.space; id = x.id }

    apart : (c : Bool) → is_same r y ≡ c → has y ≡ true → times_in r (y ∷ []) ≡ 0
    apart true e t = absurd (true≢false (sym t ∙ (ap has (sym (one-foreign r y e)) ∙ lacks)))
    apart false e t = let a : times_in r (y ∷ []) ≡ bit (is_same r y) + times_in r [] = times-cons r y [] in let b : bit (is_same r y) ≡ 0 = ap bit e in let z : times_in r [] ≡ 0 = refl in omega arith

    pick : (b : Bool) → bytes_eq x.space g.id ≡ b → times_in r (if b then [] else y ∷ []) ≡ 0
    pick true e = refl
    pick false e = apart (is_same r y) refl (holds e)

pub none-in : (g : Setting) (r : ForeignId) (refs : List Ref) → AllOf (NotIt g r) refs → times_in r (foreign_ids g.id refs) ≡ 0
none-in g r [] a = refl
none-in g r (x ∷ refs) a =
    let b : times_in r (foreign_id g.id x ++ foreign_ids g.id refs) ≡ times_in r (foreign_id g.id x) + times_in r (foreign_ids g.id refs) = times-append r (foreign_id g.id x) (foreign_ids g.id refs) in
    let c : times_in r (foreign_ids g.id refs) ≡ 0 = none-in g r refs a.1 in
    let d : times_in r (foreign_id g.id x) ≡ 0 = a.0 in omega arith

pub in-none : (g : Setting) (r : ForeignId) (refs : List Ref) → times_in r (foreign_ids g.id refs) ≡ 0 → AllOf (NotIt g r) refs
in-none g r [] e = tt
in-none g r (x ∷ refs) e =
    let b : times_in r (foreign_id g.id x ++ foreign_ids g.id refs) ≡ times_in r (foreign_id g.id x) + times_in r (foreign_ids g.id refs) = times-append r (foreign_id g.id x) (foreign_ids g.id refs) in
    let c : times_in r (foreign_id g.id x ++ foreign_ids g.id refs) ≡ 0 = e in
    (omega arith, in-none g r refs (omega arith))

-- ---- counted

total-none : {A : Type 0} (P : A → Type 0) (f : A → ℕ) (xs : List A) → ((x : A) → P x → f x ≡ 0) → AllOf P xs → total f xs ≡ 0
total-none P f [] k a = refl
total-none P f (x ∷ xs) k a = let b : f x ≡ 0 = k x a.0 in let c : total f xs ≡ 0 = total-none P f xs k a.1 in omega arith

none-total : {A : Type 0} (P : A → Type 0) (f : A → ℕ) (xs : List A) → ((x : A) → f x ≡ 0 → P x) → total f xs ≡ 0 → AllOf P xs
none-total P f [] k e = tt
none-total P f (x ∷ xs) k e = let d : f x + total f xs ≡ 0 = e in (k x (omega arith), none-total P f xs k (omega arith))

abbrev pub AnyTold : List Told → Type 0
AnyTold h = Unit {0}

-- Nothing that is started has the reference.
abbrev pub Free : Setting → ForeignId → State → Type 0
Free g r s = Grown g (NotIt g r) AnyTold Any s

pub free-counts : (g : Setting) (r : ForeignId) (s : State) → Free g r s → started_of g s r ≡ 0
free-counts g r s h =
    let a : total (λ (t : Living). times_in r (foreign_ids g.id t.task.held)) s.tasks ≡ 0 = total-none (λ (t : Living). AllOf (NotIt g r) t.task.held) (λ (t : Living). times_in r (foreign_ids g.id t.task.held)) s.tasks (λ t k. none-in g r t.task.held k) h.parts.tasks in
    let b : total (λ o. times_in r (foreign_ids g.id (references_of (fields_of g s o)))) (standing s.store) ≡ 0 = total-none (FieldsAre g (NotIt g r) s.store) (λ o. times_in r (foreign_ids g.id (references_of (fields_of g s o)))) (standing s.store)
    (λ o k. none-in g r (references_of (fields_of g s o)) (fields-all (NotIt g r) g s o k)) h.parts.fields in
    let c : total (λ (k : KeptResult). times_in r (foreign_ids g.id (references_in k.value))) s.results ≡ 0 = total-none (λ (k : KeptResult). AllOf (NotIt g r) (references_in k.value)) (λ (k : KeptResult). times_in r (foreign_ids g.id (references_in k.value))) s.results (λ k j. none-in g r (references_in k.value) j) h.parts.results in
    omega arith

all-split : (P : Ref → Type 0) (xs ys : List Ref) → AllOf P (xs ++ ys) → AllOf P xs × AllOf P ys
all-split P [] ys b = (tt, b)
all-split P (x ∷ xs) ys b = let r : AllOf P xs × AllOf P ys = all-split P xs ys b.1 in ((b.0, r.0), r.1)

-- the references in the values of slots, slot by slot
last-slot : (P : Ref → Type 0) (f : ℕ → Value) (xs : List ℕ) (k : ℕ) → AllOf P (references_of (map f (xs ++ k ∷ []))) → AllOf P (references_of (map f xs)) × AllOf P (reference_of (f k))
last-slot P f [] k a = (tt, (all-split P (reference_of (f k)) [] a).0)
last-slot P f (x ∷ xs) k a =
    let both : AllOf P (reference_of (f x)) × AllOf P (references_of (map f (xs ++ k ∷ []))) = all-split P (reference_of (f x)) (references_of (map f (xs ++ k ∷ []))) a in
    let rest : AllOf P (references_of (map f xs)) × AllOf P (reference_of (f k)) = last-slot P f xs k both.1 in
    (join (reference_of (f x)) both.0 rest.0, rest.1)
  where
    join : (refs : List Ref) → AllOf P refs → AllOf P (references_of (map f xs)) → AllOf P (refs ++ references_of (map f xs))
    join refs b c = Rattle.sp_rules.proofs.AllLemmas.all-append P refs (references_of (map f xs)) b c

each-slot : (P : Ref → Type 0) (f : ℕ → Value) (n slot : ℕ) → slot < n → AllOf P (references_of (map f (numbers_below n))) → AllOf P (reference_of (f slot))
each-slot P f zero slot lt a = absurd (omega (arith, lt))
each-slot P f (suc n) slot lt a = pick (slot == n) refl (last-slot P f (numbers_below n) n a) (λ low b. each-slot P f n slot low b)
  where
    less : ((slot == n) ≡ false) → slot < n
    less e = lower (λ q. true≢false (sym (eq-eqb slot n q) ∙ e))
      where
        lower : (slot ≡ n → ⊥) → slot < n
        lower other = omega (arith, lt, other)

    pick : (b : Bool) → (slot == n) ≡ b → AllOf P (references_of (map f (numbers_below n))) × AllOf P (reference_of (f n)) → (slot < n → AllOf P (references_of (map f (numbers_below n))) → AllOf P (reference_of (f slot))) → AllOf P (reference_of (f slot))
    pick true e both rest = subst (λ k. AllOf P (reference_of (f k))) (sym (Rattle.std.proofs.lemmas.Bool.eqb-true slot n e)) both.1
    pick false e both rest = rest (less e) both.0

all-fields : (P : Ref → Type 0) (g : Setting) (s : State) (o : Object) → AllOf P (references_of (fields_of g s o)) → FieldsAre g P s.store o
all-fields P g s o a slot has = holds (last_written s.store o.id slot) (each-slot P (field g s o) (length (g.classes.fields o.class)) slot (slot_get slot has) a)
  where
    slot_get : (slot : ℕ) → is_some (field_kind g.classes o.class slot) ≡ true → slot < length (g.classes.fields o.class)
    slot_get slot has = let x : (k : Rattle.sp_rules.specs.Classes.Kind) × (field_kind g.classes o.class slot ≡ Some k) = has-some (field_kind g.classes o.class slot) has in slice_get_within (g.classes.fields o.class) slot x.0 x.1

    holds : (v : Option Value) → AllOf P (reference_of (unwrap_or v (blank (field_kind g.classes o.class slot)))) → AllOf P (references_in v)
    holds None b = tt
    holds (Some v) b = b

-- what is known of numbers in a store
pub record Numbered (s : State) : Type 0 where
  pub numbers : AllOf (λ (o : Object). o.id.0 ≤ s.objects_made) (standing s.store)
  pub unwritten : (id : ObjId) (slot : ℕ) → s.objects_made + 1 ≤ id.0 → last_written s.store id slot ≡ None

pub counts-free : (g : Setting) (r : ForeignId) (s : State) → Numbered s → started_of g s r ≡ 0 → Free g r s
counts-free g r s n e = record {
  parts = record {
    numbers = n.numbers;
    unwritten = n.unwritten;
    fields = none-total (FieldsAre g (NotIt g r) s.store) (λ o. times_in r (foreign_ids g.id (references_of (fields_of g s o)))) (standing s.store) (λ o z. all-fields (NotIt g r) g s o (in-none g r (references_of (fields_of g s o)) z)) second;
    tasks = none-total (λ (t : Living). AllOf (NotIt g r) t.task.held) (λ (t : Living). times_in r (foreign_ids g.id t.task.held)) s.tasks (λ t z. in-none g r t.task.held z) first;
    results = none-total (λ (k : KeptResult). AllOf (NotIt g r) (references_in k.value)) (λ (k : KeptResult). times_in r (foreign_ids g.id (references_in k.value))) s.results (λ k z. in-none g r (references_in k.value) z) third;
    told = tt;
    parked = any-all s.parked;
  };
}
  where
    first : total (λ (t : Living). times_in r (foreign_ids g.id t.task.held)) s.tasks ≡ 0
    first = let a : started_of g s r ≡ 0 = e in omega arith

    second : total (λ o. times_in r (foreign_ids g.id (references_of (fields_of g s o)))) (standing s.store) ≡ 0
    second = let a : started_of g s r ≡ 0 = e in omega arith

    third : total (λ (k : KeptResult). times_in r (foreign_ids g.id (references_in k.value))) s.results ≡ 0
    third = let a : started_of g s r ≡ 0 = e in omega arith

-- ---- frames that have their leases

among-has : (P : ForeignId → Type 0) (r : ForeignId) (xs : List ForeignId) → AllOf P xs → is_among r xs ≡ true → P r
among-has P r [] a e = absurd (true≢false (sym e))
among-has P r (x ∷ xs) a e = pick (is_same r x) refl e (among-has P r xs a.1)
  where
    pick : (b : Bool) → is_same r x ≡ b → b || is_among r xs ≡ true → (is_among r xs ≡ true → P r) → P r
    pick true same f rest = subst P (sym (one-foreign r x same)) a.0
    pick false same f rest = rest f

all-parts : (P : ForeignId → Type 0) (xs ys : List ForeignId) → AllOf P (xs ++ ys) → AllOf P xs × AllOf P ys
all-parts P [] ys b = (tt, b)
all-parts P (x ∷ xs) ys b = let r : AllOf P xs × AllOf P ys = all-parts P xs ys b.1 in ((b.0, r.0), r.1)

fold-parts : (P : ForeignId → Type 0) (rs more : List ForeignId) → AllOf P (fold client.with_reference rs more) → AllOf P rs × AllOf P more
fold-parts P rs [] a = (a, tt)
fold-parts P rs (x ∷ more) a =
    let b : AllOf P (client.with_reference rs x) × AllOf P more = fold-parts P (client.with_reference rs x) more a in
    let c : AllOf P rs × P x = pick (is_among x rs) refl b.0 in (c.0, (c.1, b.1))
  where
    pick : (b : Bool) → is_among x rs ≡ b → AllOf P (if b then rs else rs ++ x ∷ []) → AllOf P rs × P x
    pick true e k = (k, among-has P x rs k e)
    pick false e k = let both : AllOf P rs × AllOf P (x ∷ []) = all-parts P rs (x ∷ []) k in (both.0, both.1.0)

-- references all of which hold
refs-not-it : (g : Setting) (r : ForeignId) (has : ForeignId → Bool) → has r ≡ false → (refs : List Ref) → AllOf (λ x. has x ≡ true) (foreign_ids g.id refs) → AllOf (NotIt g r) refs
refs-not-it g r has lacks [] a = tt
refs-not-it g r has lacks (x ∷ refs) a =
    let both : AllOf (λ y. has y ≡ true) (foreign_id g.id x) × AllOf (λ y. has y ≡ true) (foreign_ids g.id refs) = all-parts (λ y. has y ≡ true) (foreign_id g.id x) (foreign_ids g.id refs) a in
    (other-not-it g r has x lacks (λ foreign. pick (bytes_eq x.space g.id) foreign both.0), refs-not-it g r has lacks refs both.1)
  where
    pick : (b : Bool) → b ≡ false → AllOf (λ y. has y ≡ true) (if b then [] else record { space = x.space; id = x.id } ∷ []) → has (record { space = x.space; id = x.id }) ≡ true
    pick true f k = absurd (true≢false f)
    pick false f k = k.0

pub all-true : {A : Type 0} (is : A → Bool) (xs : List A) → list_all is xs ≡ true → AllOf (λ x. is x ≡ true) xs
all-true is xs e = Rattle.sp_rules.proofs.AllLemmas.all-pass is xs e

-- a frame that has its leases has no reference that has none
leased-frame : (g : Setting) (r : ForeignId) (t : State) (p : ParkedFrame) → has_lease t r ≡ false → Matches g p.frame p.references → list_all (has_lease t) p.references ≡ true → FrameOf (NotIt g r) p
leased-frame g r t p lacks w e = by p.frame w
  where
    leased : AllOf (λ x. has_lease t x ≡ true) p.references
    leased = all-true (has_lease t) p.references e

    by : (f : Frame) → Matches g f p.references → AllOf (NotIt g r) (references_of_frame f)
    by (CallFrame target method fuel arguments) m = refs-not-it g r (has_lease t) lacks (references_of arguments) (fold-parts (λ x. has_lease t x ≡ true) [] (foreign_ids g.id (references_of arguments)) (subst (AllOf (λ x. has_lease t x ≡ true)) m leased)).1
    by (ReturnedFrame value fuel) m = refs-not-it g r (has_lease t) lacks (references_in value) (subst (AllOf (λ x. has_lease t x ≡ true)) m leased)

pub at-itself : (p : ParkedFrame) → is_parked_at p.conn p.number p ≡ true
at-itself p = both (p.conn == p.conn) (p.number == p.number) (eq-eqb p.conn p.conn refl) (eq-eqb p.number p.number refl)
  where
    both : (a b : Bool) → a ≡ true → b ≡ true → a && b ≡ true
    both true b e f = f
    both false b e f = absurd (true≢false (sym e))

-- where frames are parked once, and the reference has no lease, no frame that goes has it
pub may-go-all : (g : Setting) (r : ForeignId) (t : State) → has_lease t r ≡ false → AllOf (λ (p : ParkedFrame). Matches g p.frame p.references) t.parked → ((conn k : ℕ) → times_parked conn k t.parked ≤ 1) → AllOf (AllMayGo (NotIt g r) t) t.parked
may-go-all g r t lacks waits once = each-of (AllMayGo (NotIt g r) t) t.parked (λ q q-in. each-of (λ p. MayGo (NotIt g r) p q) _ (λ p p-in. goes p q q-in (filter-one (λ (x : ParkedFrame). list_all (has_lease t) x.references) t.parked p p-in)))
  where
    goes : (p q : ParkedFrame) → IsOneOf q t.parked → IsOneOf p t.parked × (list_all (has_lease t) p.references ≡ true) → MayGo (NotIt g r) p q
    goes p q q-in there at = subst (FrameOf (NotIt g r)) (only-one (is_parked_at p.conn p.number) t.parked p q (once p.conn p.number) there.0 q-in (at-itself p) at)
        (leased-frame g r t p lacks (one-of (λ (x : ParkedFrame). Matches g x.frame x.references) t.parked p waits there.0) there.1)

pub may-all-go : (g : Setting) (r : ForeignId) (t : State) → has_lease t r ≡ false → AllOf (Waits g) t.parked → ((conn k : ℕ) → times_parked conn k t.parked ≤ 1) → AllOf (AllMayGo (NotIt g r) t) t.parked
may-all-go g r t lacks waits once = may-go-all g r t lacks (all-weaken (Waits g) (λ (p : ParkedFrame). Matches g p.frame p.references) t.parked (λ p w. w.0) waits) once
