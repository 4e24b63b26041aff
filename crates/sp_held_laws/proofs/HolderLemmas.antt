-- Who has a reference: where it is counted there is one, and where there is one it is counted.
use mathlib.Core.Path.{sym, ap, subst, ◌∙◌}
use Rattle.std.proofs.Common.{arith, inl, inr}
use Rattle.std.proofs.lemmas.Bool.{true≢false, eq-eqb, eqb-true, leb-true, leb-false}
use Rattle.std.proofs.lemmas.Slice.Eq.{bytes_eq-Decides}
use Rattle.std.specs.Prelude.{◌≡◌, refl, ℕ, ◌+◌, ◌≤◌, ◌<◌, ◌==◌, ◌&&◌, ◌||◌, nat_le, not, is_some, Bool, true, false, cond, List, [], ◌∷◌, ◌++◌, Option, None, Some, find, fold, map, if◌then◌else◌}
use Rattle.std.specs.Str.{bytes_eq}
use Rattle.dgc_client.specs.Table as client
use Rattle.dgc_client.specs.Table.{is_same, is_among}
use Rattle.space_ids.specs.declared.ids.ForeignId.{ForeignId}
use Rattle.space_ids.specs.declared.ids.ObjId.{ObjId}
use Rattle.space_ids.specs.declared.ids.Ref.{Ref}
use Rattle.sp_rules.specs.Classes.{Setting}
use Rattle.sp_rules.specs.Events.{Event}
use Rattle.sp_rules.specs.Holders.{times_in, class_is, fields_of}
use Rattle.sp_rules.specs.Laws.{AllOf, stands}
use Rattle.sp_rules.specs.Lists.{total}
use Rattle.sp_rules.specs.References.{is_id, is_id_in, foreign_id, foreign_ids, is_reference_in, is_same_reference, references_in, references_of}
use Rattle.sp_rules.specs.Space
use Rattle.sp_rules.specs.State.{State, Object, Living, KeptResult, object_at, standing}
use Rattle.sp_rules.proofs.AllLemmas.{some-none, or-left, or-right}
use Rattle.sp_rules.proofs.OwnLemmas.{and-left, and-right, some-same}
use Rattle.sp_rules.proofs.StandingLemmas.{entries_stand}
use Rattle.sp_rules.proofs.SweepLemmas.{one-id}
use Rattle.dgc_list.specs.declared.remembered.Remembered.{Remembered}
use Rattle.uuid.specs.declared.Uuid.{Uuid}
use Rattle.sp_order_laws.specs.Ends.{IsOneOf}
use Rattle.sp_order_laws.proofs.WelcomeLemmas.{one-total}
use Rattle.sp_held_laws.specs.Granted.{started_of}
use Rattle.sp_held_laws.specs.Steps.{has_entry_for}
use Rattle.sp_held_laws.specs.Lost.{IsReferenceTo}
use Rattle.sp_held_laws.proofs.FreeLemmas.{bit, times-cons, times-append, one-foreign, NotIt, none-in, other-not-it}

-- ---- lists

-- one that is found is there
pub found-one : {A : Type 0} (is : A → Bool) (xs : List A) (x : A) → find is xs ≡ Some x → IsOneOf x xs
found-one is [] x e = absurd (some-none x (sym e))
found-one {A} is (y ∷ xs) x e = pick (is y) e (found-one is xs x)
  where
    pick : (b : Bool) → cond b (Some y) (find is xs) ≡ Some x → (find is xs ≡ Some x → IsOneOf x xs)
        → IsOneOf x (y ∷ xs)
    pick true f rest = inl (sym (some-same f))
    pick false f rest = inr (rest f)

-- where a sum is not zero one of its terms is
pub some-counts : {A : Type 0} (f : A → ℕ) (xs : List A) → 1 ≤ total f xs → (x : A) × (IsOneOf x xs × (1 ≤ f x))
some-counts f [] le = absurd (omega (arith, le))
some-counts {A} f (x ∷ xs) le = pick (nat_le 1 (f x)) refl (some-counts f xs)
  where
    pick : (b : Bool) → nat_le 1 (f x) ≡ b → (1 ≤ total f xs → (y : A) × (IsOneOf y xs × (1 ≤ f y)))
        → (y : A) × (IsOneOf y (x ∷ xs) × (1 ≤ f y))
    pick true e rest = (x, (inl refl, leb-true 1 (f x) e))
    pick false e rest =
        let z : f x < 1 = leb-false 1 (f x) e in
        let w : 1 ≤ f x + total f xs = le in
        let y = rest (omega arith) in (y.0, (inr y.1.0, y.1.1))

pub none-counts : {A : Type 0} (f : A → ℕ) (xs : List A) → ((x : A) → f x ≡ 0) → total f xs ≡ 0
none-counts f [] k = refl
none-counts f (x ∷ xs) k = let a : f x ≡ 0 = k x in let b : total f xs ≡ 0 = none-counts f xs k in omega arith

-- ---- references

same-reference : (a b : Ref) → is_same_reference a b ≡ true → a ≡ b
same-reference a b e =
    let space : a.space ≡ b.space = (bytes_eq-Decides a.space b.space).0 (and-left (bytes_eq a.space b.space) _ e) in
    let id : a.id ≡ b.id = one-id a.id b.id (and-left (a.id.0 == b.id.0) _ (and-right (bytes_eq a.space b.space) _ e))
    in
    let class : a.class.0 ≡ b.class.0 =
    eqb-true a.class.0 b.class.0 (and-right (a.id.0 == b.id.0) _ (and-right (bytes_eq a.space b.space) _ e)) in
    ap {A = Uuid} {B = Ref} (λ x. record { space = x; id = a.id; class = a.class }) space
    ∙ ap {A = ObjId} {B = Ref} (λ x. record { space = b.space; id = x; class = a.class }) id
    ∙ ap {A = ℕ} {B = Ref} (λ x. record { space = b.space; id = b.id; class = record { 0 = x } }) class

pub one-held : (refs : List Ref) (x : Ref) → is_reference_in refs x ≡ true → IsOneOf x refs
one-held [] x e = absurd (true≢false (sym e))
one-held (y ∷ refs) x e = pick (is_same_reference x y) refl e (one-held refs x)
  where
    pick : (b : Bool) → is_same_reference x y ≡ b → b || is_reference_in refs x ≡ true
        → (is_reference_in refs x ≡ true → IsOneOf x refs) → IsOneOf x (y ∷ refs)
    pick true same f rest = inl (same-reference x y same)
    pick false same f rest = inr (rest f)

-- where a foreign reference is counted there is one
pub counted-is : (g : Setting) (r : ForeignId) (refs : List Ref) → 1 ≤ times_in r (foreign_ids g.id refs)
    → (x : Ref) × (IsOneOf x refs × IsReferenceTo r x)
counted-is g r [] le = absurd (let z : times_in r [] ≡ 0 = refl in omega (arith, le))
counted-is g r (y ∷ refs) le = pick (nat_le 1 (times_in r (foreign_id g.id y))) refl (counted-is g r refs)
  where
    parts : times_in r (foreign_ids g.id (y ∷ refs)) ≡ times_in r (foreign_id g.id y) + times_in r
        (foreign_ids g.id refs)
    parts = times-append r (foreign_id g.id y) (foreign_ids g.id refs)

    this : (b : Bool) → 1 ≤ times_in r (if b then [] else record { space = y.space; id = y.id } ∷ [])
        → IsReferenceTo r y
    this true l = absurd (let z : times_in r [] ≡ 0 = refl in omega (arith, l))
    this false l = same (is_same r (record { space = y.space; id = y.id })) refl
      where
        same : (c : Bool) → is_same r (record { space = y.space; id = y.id }) ≡ c → IsReferenceTo r y
        same true e = let f : r ≡ record { space = y.space; id = y.id } =
            one-foreign r (record { space = y.space; id = y.id }) e
            in record { space = ap (λ (z : ForeignId). z.space) f; id = ap (λ (z : ForeignId). z.id) f }
        same false e =
            let a : times_in r (record { space = y.space; id = y.id } ∷ []) ≡ bit
            (is_same r (record { space = y.space; id = y.id })) + times_in r [] =
            times-cons r (record { space = y.space; id = y.id }) [] in
            let b : bit (is_same r (record { space = y.space; id = y.id })) ≡ 0 = ap bit e in
            let z : times_in r [] ≡ 0 = refl in absurd (omega (arith, l))

    pick : (b : Bool) → nat_le 1 (times_in r (foreign_id g.id y)) ≡ b
        → (1 ≤ times_in r (foreign_ids g.id refs) → (x : Ref) × (IsOneOf x refs × IsReferenceTo r x))
        → (x : Ref) × (IsOneOf x (y ∷ refs) × IsReferenceTo r x)
    pick true e rest = (y, (inl refl, this (bytes_eq y.space g.id) (leb-true 1 (times_in r (foreign_id g.id y)) e)))
    pick false e rest =
        let z : times_in r (foreign_id g.id y) < 1 = leb-false 1 (times_in r (foreign_id g.id y)) e in
        let w : 1 ≤ times_in r (foreign_ids g.id (y ∷ refs)) = le in
        let x = rest (omega (arith, le, parts, z)) in (x.0, (inr x.1.0, x.1.1))

-- and where there is one it is counted
pub is-counted : (g : Setting) (r : ForeignId) (refs : List Ref) (x : Ref) → IsOneOf x refs → IsReferenceTo r x
    → bytes_eq x.space g.id ≡ false → 1 ≤ times_in r (foreign_ids g.id refs)
is-counted g r [] x o n f = absurd o
is-counted g r (y ∷ refs) x (inl e) n f =
    let parts : times_in r (foreign_ids g.id (y ∷ refs)) ≡ times_in r (foreign_id g.id y) + times_in r
    (foreign_ids g.id refs) = times-append r (foreign_id g.id y) (foreign_ids g.id refs) in
    let a : 1 ≤ times_in r (foreign_id g.id y) =
    this (bytes_eq y.space g.id) (subst (λ (z : Ref). bytes_eq z.space g.id ≡ false) e f) in omega arith
  where
    same : is_same r (record { space = y.space; id = y.id }) ≡ true
    same = both (bytes_eq r.space y.space) (is_id r.id y.id)
        ((bytes_eq-Decides r.space y.space).1 (n.space ∙ ap (λ (z : Ref). z.space) e))
        (eq-eqb r.id.0 y.id.0 (ap (λ (i : ObjId). i.0) (n.id ∙ ap (λ (z : Ref). z.id) e)))
      where
        both : (b c : Bool) → b ≡ true → c ≡ true → b && c ≡ true
        both true c p q = q
        both false c p q = absurd (true≢false (sym p))

    this : (b : Bool) → b ≡ false → 1 ≤ times_in r (if b then [] else record { space = y.space; id = y.id } ∷ [])
    this true p = absurd (true≢false p)
    this false p =
        let a : times_in r (record { space = y.space; id = y.id } ∷ []) ≡ bit
        (is_same r (record { space = y.space; id = y.id })) + times_in r [] =
        times-cons r (record { space = y.space; id = y.id }) [] in
        let b : bit (is_same r (record { space = y.space; id = y.id })) ≡ 1 = ap bit same in omega arith
is-counted g r (y ∷ refs) x (inr o) n f =
    let parts : times_in r (foreign_ids g.id (y ∷ refs)) ≡ times_in r (foreign_id g.id y) + times_in r
    (foreign_ids g.id refs) = times-append r (foreign_id g.id y) (foreign_ids g.id refs) in
    let a : 1 ≤ times_in r (foreign_ids g.id refs) = is-counted g r refs x o n f in omega arith

-- references each once are no more than all
pub folded-times : (r : ForeignId) (rs more : List ForeignId)
    → times_in r (fold client.with_reference rs more) ≤ times_in r rs + times_in r more
folded-times r rs [] = omega arith
folded-times r rs (x ∷ more) =
    let a : times_in r (fold client.with_reference (client.with_reference rs x) more) ≤ times_in r
    (client.with_reference rs x) + times_in r more = folded-times r (client.with_reference rs x) more in
    let b : times_in r (client.with_reference rs x) ≤ times_in r rs + bit (is_same r x) = added (is_among x rs) in
    let c : times_in r (x ∷ more) ≡ bit (is_same r x) + times_in r more = times-cons r x more in omega arith
  where
    added : (b : Bool) → times_in r (if b then rs else rs ++ x ∷ []) ≤ times_in r rs + bit (is_same r x)
    added true = omega arith
    added false =
        let a : times_in r (rs ++ x ∷ []) ≡ times_in r rs + times_in r (x ∷ []) = times-append r rs (x ∷ []) in
        let b : times_in r (x ∷ []) ≡ bit (is_same r x) + times_in r [] = times-cons r x [] in
        let c : times_in r [] ≡ 0 = refl in omega arith

-- ---- what a space has

pub task-has : (g : Setting) (s : State) (r : ForeignId) (t : Living) → IsOneOf t s.tasks
    → 1 ≤ times_in r (foreign_ids g.id t.task.held) → 1 ≤ started_of g s r
task-has g s r t o le = let a : times_in r (foreign_ids g.id t.task.held) ≤ total
    (λ (u : Living). times_in r (foreign_ids g.id u.task.held)) s.tasks =
    one-total (λ (u : Living). times_in r (foreign_ids g.id u.task.held)) t s.tasks o in omega arith

pub result-has : (g : Setting) (s : State) (r : ForeignId) (k : KeptResult) → IsOneOf k s.results
    → 1 ≤ times_in r (foreign_ids g.id (references_in k.value)) → 1 ≤ started_of g s r
result-has g s r k o le = let a : times_in r (foreign_ids g.id (references_in k.value)) ≤ total
    (λ (l : KeptResult). times_in r (foreign_ids g.id (references_in l.value))) s.results =
    one-total (λ (l : KeptResult). times_in r (foreign_ids g.id (references_in l.value))) k s.results o in omega arith

-- what a space has is foreign to it
pub started-foreign : (g : Setting) (s : State) (r : ForeignId) → 1 ≤ started_of g s r → bytes_eq r.space g.id ≡ false
started-foreign g s r le = by (bytes_eq r.space g.id) refl
  where
    not-own : bytes_eq r.space g.id ≡ true → (refs : List Ref) → AllOf (NotIt g r) refs
    not-own e [] = tt
    not-own e (x ∷ refs) = (
      other-not-it g r (λ (y : ForeignId). not (bytes_eq y.space g.id)) x (ap not e)
          (λ f. ap not f),
      not-own e refs,
    )

    by : (b : Bool) → bytes_eq r.space g.id ≡ b → b ≡ false
    by false e = refl
    by true e =
        let a : total (λ (t : Living). times_in r (foreign_ids g.id t.task.held)) s.tasks ≡ 0 =
        none-counts (λ (t : Living). times_in r (foreign_ids g.id t.task.held)) s.tasks
        (λ t. none-in g r t.task.held (not-own e t.task.held)) in
        let b : total (λ o. times_in r (foreign_ids g.id (references_of (fields_of g s o)))) (standing s.store) ≡ 0 =
        none-counts (λ o. times_in r (foreign_ids g.id (references_of (fields_of g s o)))) (standing s.store)
        (λ o. none-in g r (references_of (fields_of g s o)) (not-own e (references_of (fields_of g s o)))) in
        let c : total (λ (k : KeptResult). times_in r (foreign_ids g.id (references_in k.value))) s.results ≡ 0 =
        none-counts (λ (k : KeptResult). times_in r (foreign_ids g.id (references_in k.value))) s.results
        (λ k. none-in g r (references_in k.value) (not-own e (references_in k.value))) in
        let d : 1 ≤ started_of g s r = le in absurd (omega arith)

-- ---- what stands

-- an object for which a client has an entry stands
pub entry-stands : (g : Setting) (h : List Event) (c : Uuid) (o : ObjId)
    → has_entry_for (Space.state_of g h) c o ≡ true → stands (Space.state_of g h) o ≡ true
entry-stands g h c o has = by (stands (Space.state_of g h) o) refl
  where
    by : (b : Bool) → stands (Space.state_of g h) o ≡ b → b ≡ true
    by true e = refl
    by false e = absurd (true≢false (sym has ∙ ap (λ (x : Remembered). is_some x.expires) (entries_stand g h c o e)))

-- what is found by its id stands
pub class-stands : (s : State) (id : ObjId) (class : Rattle.space_ids.specs.declared.ids.ClassId.ClassId)
    → class_is class (object_at s id) ≡ true → stands s id ≡ true
class-stands s id class e = among (standing s.store) (there (object_at s id) e)
  where
    there : (o : Option Object) → class_is class o ≡ true → is_some o ≡ true
    there None f = absurd (true≢false (sym f))
    there (Some o) f = refl

    among : (os : List Object) → is_some (find (λ (o : Object). is_id o.id id) os) ≡ true
        → is_id_in (map (λ (o : Object). o.id) os) id ≡ true
    among [] f = absurd (true≢false (sym f))
    among (o ∷ os) f = pick (is_id o.id id) refl f (among os)
      where
        pick : (b : Bool) → is_id o.id id ≡ b
            → is_some (cond b (Some o) (find (λ (p : Object). is_id p.id id) os)) ≡ true
            → (is_some (find (λ (p : Object). is_id p.id id) os) ≡ true
            → is_id_in (map (λ (p : Object). p.id) os) id ≡ true)
            → is_id id o.id || is_id_in (map (λ (p : Object). p.id) os) id ≡ true
        pick true same g rest = or-left (is_id id o.id) _ (eq-eqb id.0 o.id.0 (sym (eqb-true o.id.0 id.0 same)))
        pick false same g rest = or-right (is_id id o.id) _ (rest g)

-- and what stands is found
pub stands-found : (s : State) (id : ObjId) → stands s id ≡ true → is_some (object_at s id) ≡ true
stands-found s id e = among (standing s.store) e
  where
    among : (os : List Object) → is_id_in (map (λ (o : Object). o.id) os) id ≡ true
        → is_some (find (λ (o : Object). is_id o.id id) os) ≡ true
    among [] f = absurd (true≢false (sym f))
    among (o ∷ os) f = pick (is_id o.id id) refl (is_id id o.id) refl f (among os)
      where
        pick : (b : Bool) → is_id o.id id ≡ b → (c : Bool) → is_id id o.id ≡ c
            → c || is_id_in (map (λ (p : Object). p.id) os) id ≡ true
            → (is_id_in (map (λ (p : Object). p.id) os) id ≡ true
            → is_some (find (λ (p : Object). is_id p.id id) os) ≡ true)
            → is_some (cond b (Some o) (find (λ (p : Object). is_id p.id id) os)) ≡ true
        pick true here c same g rest = refl
        pick false here true same g rest =
            absurd (true≢false (sym (eq-eqb o.id.0 id.0 (sym (eqb-true id.0 o.id.0 same))) ∙ here))
        pick false here false same g rest = rest g
