-- What becomes of objects, names and entries.
use Rattle.std.proofs.Common.{◌≡◌, ℕ, ◌+◌, suc, ◌<◌, arith, Bool, true, false, cond, List, [], ◌∷◌, ◌++◌, Option, None, Some, refl, sym, ap, subst, ◌∙◌, map, filter, length, take, get_or, zero, ◌≤◌, append_assoc, true≢false}
use Rattle.std.specs.Prelude.{Result, Ok, Err, nat_lt, not, ◌==◌, ◌&&◌, ◌||◌, option_map, is_some, unwrap_or, find, IfOk, OnOk, OnErr, IfSome, IfNone, MatchResult}
use Rattle.std.specs.List.{list_any}
use Rattle.std.specs.declared.alloc.AllocError.{AllocError}
use Rattle.std.proofs.lemmas.Bool.{eqb-true, eq-eqb, ne_eqb, eqb-false}
use Rattle.std.proofs.lemmas.List.Folds.{list_any-append}
use Rattle.std.proofs.lemmas.List.{map-append}
use Rattle.std.proofs.lemmas.List.Elements.{filter-append}
use Rattle.std.proofs.Math.Seq.{take-suc}
use Rattle.dgc_list.specs.History as owner
use Rattle.dgc_list.specs.declared.list.RefList.{RefList}
use Rattle.space_ids.specs.declared.ids.ClassId.{ClassId}
use Rattle.space_ids.specs.declared.ids.ObjId.{ObjId}
use Rattle.space_ids.specs.declared.value.Value.{Value}
use Rattle.sp_registry.specs.Bindings as registry
use Rattle.sp_registry.specs.declared.fault.BindFault.{BindFault}
use Rattle.sp_registry.specs.declared.fault.BindFault.TheVariants.{Memory, Denied as Denies}
use Rattle.sp_registry.specs.declared.fault.RegistryFault.{RegistryFault}
use Rattle.sp_registry.specs.declared.registry.Binding.{Binding}
use Rattle.sp_store.specs.Stores as stores
use Rattle.sp_store.specs.Stores.{holds_of, made, swept}
use Rattle.sp_store.specs.declared.store.Store.{Store}
use Rattle.sp_rules.specs.Behaviours.{Create}
use Rattle.sp_rules.specs.Classes.{Classes, Setting}
use Rattle.sp_rules.specs.Holders.{class_is, has_entry, is_bound, is_in_a_field, own_object}
use Rattle.sp_rules.specs.Lists.{each, numbers_below}
use Rattle.sp_rules.specs.LivingTasks.{after_op, is_full, next_object}
use Rattle.sp_rules.specs.OwnEvents.{set_names}
use Rattle.sp_rules.specs.References.{is_id, is_id_in}
use Rattle.sp_rules.specs.State.{State, Object, Made, Stored, standing, object_at, tell_owner}
use Rattle.sp_owner.specs.Owners.{IsOwner, denied, forgotten, idle, told, without}
use Rattle.sp_owner.specs.declared.owner.Owner.{Owner}

-- ---- lists

pub filter-map : {A B : Type 0} (p : B → Bool) (f : A → B) (xs : List A) → filter p (map f xs) ≡ map f (filter (λ x. p (f x)) xs)
filter-map p f [] = refl
filter-map p f (x ∷ xs) =
    elim (p (f x)) as (λ t. cond t (f x ∷ filter p (map f xs)) (filter p (map f xs)) ≡ map f (cond t (x ∷ filter (λ y. p (f y)) xs) (filter (λ y. p (f y)) xs)))
    [ true ↦ ap (λ ys. f x ∷ ys) (filter-map p f xs) | false ↦ filter-map p f xs ]

filter-filter : {A : Type 0} (p q : A → Bool) (xs : List A) → filter p (filter q xs) ≡ filter (λ x. q x && p x) xs
filter-filter p q [] = refl
filter-filter p q (x ∷ xs) =
    elim (q x) as (λ t. filter p (cond t (x ∷ filter q xs) (filter q xs)) ≡ cond (t && p x) (x ∷ filter (λ y. q y && p y) xs) (filter (λ y. q y && p y) xs)) [
      | true ↦ elim (p x) as (λ t. cond t (x ∷ filter p (filter q xs)) (filter p (filter q xs)) ≡ cond t (x ∷ filter (λ y. q y && p y) xs) (filter (λ y. q y && p y) xs)) [
        | true ↦ ap (λ ys. x ∷ ys) (filter-filter p q xs)
        | false ↦ filter-filter p q xs
      ]
      | false ↦ filter-filter p q xs
    ]

flip : (a b : ObjId) → is_id a b ≡ is_id b a
flip a b = elim (is_id a b) as (λ t. is_id a b ≡ t → t ≡ is_id b a) [
  | true ↦ λ here. sym (eq-eqb b.0 a.0 (sym (eqb-true a.0 b.0 here)))
  | false ↦ λ apart. sym (ne_eqb b.0 a.0 (λ e. eqb-false a.0 b.0 apart (sym e)))
] refl

or-or : (a b c : Bool) → ((a || b) || c) ≡ (a || (b || c))
or-or true b c = refl
or-or false b c = refl

-- ---- names

-- names alone are others
named-other : (g : Setting) (s : State) (o : Owner) (n : registry.Names) → IsOwner g s o → IsOwner g (record s { owner = record s.owner { names = n.bindings } }) (record o { names = n })
named-other g s o n is = record { id = is.id; store = is.store; holds = is.holds; objects_made = is.objects_made; names = refl; entries = is.entries }

named-same : (g : Setting) (s : State) (o : Owner) (n : registry.Names) → n.bindings ≡ o.names.bindings → IsOwner g s o → IsOwner g s (record o { names = n })
named-same g s o n same is = record { id = is.id; store = is.store; holds = is.holds; objects_made = is.objects_made; names = same ∙ is.names; entries = is.entries }

denied-is : (r : Result (List Binding) RegistryFault) (fault : RegistryFault) → registry.Refuses r (Denies fault) → r ≡ Err fault
denied-is (Err other) fault h = ap Err (ap (fault_or fault) (sym h))
  where
    fault_or : RegistryFault → BindFault → RegistryFault
    fault_or f (Denies d) = d
    fault_or f Memory = f
denied-is (Ok names) fault h = absurd (true≢false (ap is_denied h))
  where
    is_denied : BindFault → Bool
    is_denied (Denies d) = true
    is_denied Memory = false

-- a change that the registry makes, or denies
pub changed : (g : Setting) (s : State) (o : Owner) (n : registry.Names) (r : Result (List Binding) RegistryFault) → r ≡ Ok n.bindings → IsOwner g s o
    → IsOwner g (set_names r s) (record o { names = n }) × (None ≡ denied r)
unfolding set_names
changed g s o n r ok is = (subst (λ x. IsOwner g (set_names x s) (record o { names = n })) (sym ok) (named-other g s o n is), sym (ap denied ok))

pub refused : (g : Setting) (s : State) (o : Owner) (n : registry.Names) (r : Result (List Binding) RegistryFault) (fault : RegistryFault) → r ≡ Err fault → n.bindings ≡ o.names.bindings → IsOwner g s o
    → IsOwner g (set_names r s) (record o { names = n }) × (Some fault ≡ denied r)
unfolding set_names
refused g s o n r fault err same is =
    let kept : IsOwner g s (record o { names = n }) = named-same g s o n same is in (
      subst (λ x. IsOwner g (set_names x s) (record o { names = n })) (sym err) (record { id = kept.id; store = kept.store; holds = kept.holds; objects_made = kept.objects_made; names = kept.names; entries = kept.entries }),
      sym (ap denied err),
    )

pub changed-by : (g : Setting) (s : State) (o : Owner) (n : registry.Names) (f : List Binding → Result (List Binding) RegistryFault) → f o.names.bindings ≡ Ok n.bindings → IsOwner g s o
    → IsOwner g (set_names (f s.owner.names) s) (record o { names = n }) × (None ≡ denied (f s.owner.names))
changed-by g s o n f ok is = changed g s o n (f s.owner.names) (sym (ap f is.names) ∙ ok) is

pub denied-by : (g : Setting) (s : State) (o : Owner) (n : registry.Names) (f : List Binding → Result (List Binding) RegistryFault) (why : BindFault) (fault : RegistryFault) → registry.Refuses (f o.names.bindings) why → why ≡ Denies fault → n.bindings ≡ o.names.bindings → IsOwner g s o
    → IsOwner g (set_names (f s.owner.names) s) (record o { names = n }) × (Some fault ≡ denied (f s.owner.names))
denied-by g s o n f why fault refuses is-why same is = refused g s o n (f s.owner.names) fault (sym (ap f is.names) ∙ denied-is (f o.names.bindings) fault (subst (λ w. registry.Refuses (f o.names.bindings) w) is-why refuses)) same is

-- what the registry answers to a name that is taken away
pub unbound-by : (g : Setting) (s : State) (o : Owner) (n : registry.Names) (f : List Binding → Result (List Binding) RegistryFault) (answer : Result Unit RegistryFault) → MatchResult answer (λ _. f o.names.bindings ≡ Ok n.bindings) (λ fault. f o.names.bindings ≡ Err fault)
    → OnErr answer (n ≡ o.names) → IsOwner g s o → IsOwner g (set_names (f s.owner.names) s) (record o { names = n })
unbound-by g s o n f (Ok x) m kept is = (changed-by g s o n f m is).0
unbound-by g s o n f (Err fault) m kept is = (refused g s o n (f s.owner.names) fault (sym (ap f is.names) ∙ m) (ap (λ (x : registry.Names). x.bindings) kept) is).0

-- ---- entries

pub told-more : (g : Setting) (s : State) (o : Owner) (call : owner.Call) (entries : RefList) → owner.IsAfter (call ∷ s.owner.entries) entries → IsOwner g s o → IsOwner g (tell_owner call s) (record o { entries = entries })
told-more g s o call entries told is = record { id = is.id; store = is.store; holds = is.holds; objects_made = is.objects_made; names = is.names; entries = told }

-- ---- own objects

pub own-some : (a : Bool) (o : Option Object) (class wanted : ClassId) → a ≡ true → Some class ≡ option_map (λ (x : Object). x.class) o → (class.0 == wanted.0) ≡ (a && class_is wanted o)
own-some true None class wanted own is = absurd (true≢false (ap is_some is))
own-some true (Some x) class wanted own is = ap (λ (k : ClassId). k.0 == wanted.0) (ap (λ (k : Option ClassId). unwrap_or k class) is)
own-some false o class wanted own is = absurd (true≢false (sym own))

pub own-none : (a : Bool) (o : Option Object) (wanted : ClassId) → None ≡ option_map (λ (x : Object). x.class) o → false ≡ (a && class_is wanted o)
own-none true None wanted is = refl
own-none true (Some x) wanted is = absurd (true≢false (sym (ap is_some is)))
own-none false o wanted is = refl

-- ---- objects without a reason to stay

and-false : (t : Bool) → (t && false) ≡ false
and-false true = refl
and-false false = refl

reasons : (b e f n : Bool) → (not (false || ((n || b) || f)) && not e) ≡ not (b || (e || (f || n)))
reasons true e f true = refl
reasons true e f false = refl
reasons false true f n = and-false (not ((n || false) || f))
reasons false false true true = refl
reasons false false true false = refl
reasons false false false true = refl
reasons false false false false = refl

reason-at : (g : Setting) (s : State) (o : Owner) (needed all : List ObjId) (id : ObjId) → IsOwner g s o → is_id_in all id ≡ (is_id_in needed id || is_bound s id)
    → (not (nat_lt 0 (holds_of o.store id) || (is_id_in all id || is_in_a_field g s id)) && not (has_entry s id)) ≡ not (is_bound s id || (has_entry s id || (is_in_a_field g s id || is_id_in needed id)))
reason-at g s o needed all id is need =
    (λ j. not (nat_lt 0 (is.holds id j) || (need j || is_in_a_field g s id)) && not (has_entry s id))
    ∙ reasons (is_bound s id) (has_entry s id) (is_in_a_field g s id) (is_id_in needed id)

pub idle-is : (g : Setting) (s : State) (o : Owner) (needed all found left : List ObjId) → IsOwner g s o
    → ((id : ObjId) → is_id_in all id ≡ (is_id_in needed id || list_any (λ (b : Binding). is_id b.object id) o.names.bindings))
    → found ≡ stores.idle_after g s.store (holds_of o.store) all
    → left ≡ filter (λ id. not (nat_lt 0 (length (owner.clients_of s.owner.entries id)))) found
    → left ≡ idle g s needed
idle-is g s o needed all found left is need founds lefts =
    lefts ∙ ap (filter (λ id. not (has_entry s id))) founds
    ∙ filter-map (λ id. not (has_entry s id)) (λ (x : Object). x.id) _
    ∙ ap (map (λ (x : Object). x.id)) (filter-filter (λ (x : Object). not (has_entry s x.id)) (λ (x : Object). not (nat_lt 0 (holds_of o.store x.id) || (is_id_in all x.id || is_in_a_field g s x.id))) (standing s.store)
    ∙ (λ j. filter (λ (x : Object). reason-at g s o needed all x.id is (need x.id ∙ (λ k. is_id_in needed x.id || list_any (λ (b : Binding). is_id b.object x.id) (is.names k))) j) (standing s.store)))

forgotten-told : (ids : List ObjId) (s : State) → each (λ t id. tell_owner (owner.Forget id) t) ids s ≡ record s { owner = record s.owner { entries = forgotten ids s.owner.entries } }
unfolding each
forgotten-told [] s = refl
forgotten-told (id ∷ ids) s = forgotten-told ids (tell_owner (owner.Forget id) s)

pub forgotten-more : (ids : List ObjId) (id : ObjId) (h : List owner.Call) → forgotten (ids ++ id ∷ []) h ≡ owner.Forget id ∷ forgotten ids h
forgotten-more [] id h = refl
forgotten-more (x ∷ ids) id h = forgotten-more ids id (owner.Forget x ∷ h)

still-none : (t : Bool) (n : ℕ) → n ≡ 0 → cond t 0 n ≡ 0
still-none true n none = refl
still-none false n none = none

pub withdrawn : (g : Setting) (s : State) (o : Owner) (store : Store) (entries : RefList) (ids : List ObjId) → IsOwner g s o
    → stores.IsAfter g (swept ids s.store) store → made store ≡ made o.store
    → ((id : ObjId) → holds_of store id ≡ cond (is_id_in ids id) 0 (holds_of o.store id))
    → owner.IsAfter (forgotten ids s.owner.entries) entries
    → IsOwner g (without ids s) (record o { store = store; entries = entries })
withdrawn g s o store entries ids is after same holds told =
    subst (λ t. IsOwner g t (record o { store = store; entries = entries })) (sym (forgotten-told ids (record s { store = swept ids s.store }))) (record {
      id = is.id;
      store = after;
      holds = λ id. holds id ∙ still-none (is_id_in ids id) (holds_of o.store id) (is.holds id);
      objects_made = same ∙ is.objects_made;
      names = is.names;
      entries = told;
    })

-- ---- loops

pub bound-more : (ys : List Binding) (y : Binding) (id : ObjId) (a b c : Bool) → b ≡ (a || list_any (λ (x : Binding). is_id x.object id) ys)
    → c ≡ (b || is_id_in (y.object ∷ []) id) → c ≡ (a || list_any (λ (x : Binding). is_id x.object id) (ys ++ y ∷ []))
bound-more ys y id a b c so_far now =
    let p : Binding → Bool = λ x. is_id x.object id in
    now ∙ (λ j. so_far j || (flip id y.object j || false))
    ∙ or-or a (list_any p ys) (list_any p (y ∷ []))
    ∙ ap (λ t. a || t) (sym (list_any-append p ys (y ∷ [])))

pub order-more : (ys : List Binding) (y : Binding) (it next all : List Binding) → it ≡ y ∷ next → ys ++ it ≡ all → (ys ++ y ∷ []) ++ next ≡ all
order-more ys y it next all first whole = append_assoc ys (y ∷ []) next ∙ ap (λ bs. ys ++ bs) (sym first) ∙ whole

pub blanks-more : (f : ℕ → Value) (slot : ℕ) (vs : List Value) → vs ≡ map f (numbers_below slot) → vs ++ f slot ∷ [] ≡ map f (numbers_below (slot + 1))
blanks-more f slot vs so-far =
    let next : suc slot ≡ slot + 1 = omega arith in
    ap (λ ws. ws ++ f slot ∷ []) so-far ∙ sym (map-append f (numbers_below slot) (slot ∷ [])) ∙ ap (λ n. map f (numbers_below n)) next

-- ---- answers

pub if-ok : {A E : Type 0} (r : Result A E) (P Q : A → Type 0) → ((x : A) → P x → Q x) → IfOk r P → IfOk r Q
if-ok (Ok x) P Q each h = each x h
if-ok (Err e) P Q each h = h

pub on-ok : {A E : Type 0} (r : Result A E) (P Q : Type 0) → (P → Q) → OnOk r P → OnOk r Q
on-ok (Ok x) P Q each h = each h
on-ok (Err e) P Q each h = h

pub if-some : {A : Type 0} (r : Option A) (P Q : A → Type 0) → ((x : A) → P x → Q x) → IfSome r P → IfSome r Q
if-some (Some x) P Q each h = each x h
if-some None P Q each h = h

-- ---- objects that are found

same-id : (a b : ObjId) → is_id a b ≡ true → a ≡ b
same-id a b e = let p = eqb-true a.0 b.0 e in λ j. record { 0 = p j }

pub found-told : (id : ObjId) (xs : List Object) (class : ClassId) → Some class ≡ option_map (λ (o : Object). o.class) (find (λ (o : Object). is_id o.id id) xs)
    → Some (id, class) ≡ option_map told (find (λ (o : Object). is_id o.id id) xs)
found-told id [] class e = cc
found-told id (x ∷ xs) class e = by (found-told id xs class) (is_id x.id id) refl e
  where
    by : (Some class ≡ option_map (λ (o : Object). o.class) (find (λ (o : Object). is_id o.id id) xs) → Some (id, class) ≡ option_map told (find (λ (o : Object). is_id o.id id) xs))
        → (b : Bool) → is_id x.id id ≡ b → Some class ≡ option_map (λ (o : Object). o.class) (cond b (Some x) (find (λ (o : Object). is_id o.id id) xs))
        → Some (id, class) ≡ option_map told (cond b (Some x) (find (λ (o : Object). is_id o.id id) xs))
    by rest true same e = let i = same-id x.id id same in let k : class ≡ x.class = ap (λ (o : Option ClassId). unwrap_or o class) e in λ j. Some (sym i j, k j)
    by rest false apart e = rest e

pub none-told : (o : Option Object) → None ≡ option_map (λ (x : Object). x.class) o → None ≡ option_map told o
none-told None e = refl
none-told (Some x) e = cc

pub stands-is : (id : ObjId) (xs : List Object) → is_some (option_map (λ (o : Object). o.class) (find (λ (o : Object). is_id o.id id) xs)) ≡ is_id_in (map (λ (o : Object). o.id) xs) id
stands-is id [] = refl
stands-is id (x ∷ xs) =
    by (is_id x.id id) (stands-is id xs) ∙ ap (λ b. b || is_id_in (map (λ (o : Object). o.id) xs) id) (flip x.id id)
  where
    by : (b : Bool) → is_some (option_map (λ (o : Object). o.class) (find (λ (o : Object). is_id o.id id) xs)) ≡ is_id_in (map (λ (o : Object). o.id) xs) id
        → is_some (option_map (λ (o : Object). o.class) (cond b (Some x) (find (λ (o : Object). is_id o.id id) xs))) ≡ (b || is_id_in (map (λ (o : Object). o.id) xs) id)
    by true rest = refl
    by false rest = rest

-- ---- objects that are made

next-is : (g : Setting) (s : State) (o : Owner) → IsOwner g s o → stores.next_after s.store ≡ next_object s
next-is g s o is = let e = sym is.store.stored.made_is ∙ is.objects_made in λ j. record { 0 = e j + 1 }

pub made-id : (g : Setting) (s : State) (o : Owner) (id : Option ObjId) → IsOwner g s o → id ≡ cond (stores.is_full_after s.store) None (Some (stores.next_after s.store))
    → id ≡ cond (is_full s) None (Some (next_object s))
made-id g s o id is e = e ∙ (λ j. cond (is_full s) None (Some (next-is g s o is j)))

abbrev with-made : ClassId → State → State
with-made class u = record u { objects_made = u.objects_made + 1; store = Made (next_object u) class ∷ u.store }

stored-as : (g : Setting) (s u : State) (o : Owner) (store : Store) → u.owner ≡ s.owner → IsOwner g s o → stores.IsAfter g u.store store → made store ≡ u.objects_made → ((id : ObjId) → holds_of store id ≡ 0)
    → IsOwner g u (record o { store = store })
stored-as g s u o store same is after number holds = record {
  id = is.id;
  store = after;
  holds = holds;
  objects_made = number;
  names = is.names ∙ sym (λ j. (same j).names);
  entries = subst (λ w. owner.IsAfter w.entries o.entries) (sym same) is.entries;
}

pub created : (g : Setting) (s : State) (o : Owner) (class : ClassId) (made-it : Option ObjId) (store : Store) → IsOwner g s o
    → made-it ≡ cond (stores.is_full_after s.store) None (Some (stores.next_after s.store))
    → IfSome made-it (λ id. stores.IsAfter g (Made id class ∷ s.store) store) → IfNone made-it (stores.IsAfter g s.store store)
    → ((id : ObjId) → holds_of store id ≡ holds_of o.store id)
    → IsOwner g (after_op g (Create class) s) (record o { store = store })
unfolding after_op
created g s o class None store is e some none holds =
    by (is_full s) e
  where
    by : (b : Bool) → None ≡ cond b None (Some (stores.next_after s.store)) → IsOwner g (cond b s (with-made class s)) (record o { store = store })
    by true e = stored-as g s s o store refl is none (none.stored.made_is ∙ sym is.store.stored.made_is ∙ is.objects_made) (λ id. holds id ∙ is.holds id)
    by false e = absurd cc
created g s o class (Some id) store is e some none holds =
    by (is_full s) e
  where
    by : (b : Bool) → Some id ≡ cond b None (Some (stores.next_after s.store)) → IsOwner g (cond b s (with-made class s)) (record o { store = store })
    by true e = absurd cc
    by false e =
        let next : id ≡ next_object s = ap (λ x. unwrap_or x id) e ∙ next-is g s o is in
        let before = sym is.store.stored.made_is ∙ is.objects_made in
        stored-as g s (with-made class s) o store refl is (subst (λ q. stores.IsAfter g (Made q class ∷ s.store) store) next some) (some.stored.made_is ∙ ap (λ n. n + 1) before) (λ q. holds q ∙ is.holds q)

-- what the store answers to one more object
pub made-from : {T : Type 0} (tells : T → Classes → Type 0) (classes : T) (o : Owner) (store : Store) (class : ClassId) (fields : List Value) (r : Result (Option ObjId) AllocError)
    → IfOk r (λ id. (g : Setting) (h : List Stored) → stores.IsAfter g h o.store → id ≡ cond (stores.is_full_after h) None (Some (stores.next_after h)))
    → IfOk r (λ made. IfSome made (λ id. (g : Setting) (h : List Stored) → stores.IsAfter g h o.store → fields ≡ stores.blanks g.classes class → stores.IsAfter g (Made id class ∷ h) store))
    → IfOk r (λ made. IfNone made ((g : Setting) (h : List Stored) → stores.IsAfter g h o.store → stores.IsAfter g h store))
    → ((g : Setting) (h : List Stored) (other : ObjId) → stores.IsAfter g h o.store → holds_of store other ≡ holds_of o.store other)
    → ((c : Classes) → tells classes c → fields ≡ stores.blanks c class)
    → OnOk r ((g : Setting) (s : State) → IsOwner g s o → tells classes g.classes → IsOwner g (after_op g (Create class) s) (record o { store = store }))
made-from tells classes o store class fields (Ok None) id made full holds blank =
    λ g s is told. created g s o class None store is (id g s.store is.store) tt (full g s.store is.store) (λ other. holds g s.store other is.store)
made-from tells classes o store class fields (Ok (Some new)) id made full holds blank =
    λ g s is told. created g s o class (Some new) store is (id g s.store is.store) (made g s.store is.store (blank g.classes told)) tt (λ other. holds g s.store other is.store)
made-from tells classes o store class fields (Err e) id made full holds blank = tt

pub put-into : (g : Setting) (s u : State) (o : Owner) (store : Store) → u.owner ≡ s.owner → u.objects_made ≡ s.objects_made → IsOwner g s o → stores.IsAfter g u.store store → made store ≡ made o.store → ((id : ObjId) → holds_of store id ≡ holds_of o.store id)
    → IsOwner g u (record o { store = store })
put-into g s u o store same made-same is after number holds = stored-as g s u o store same is after (number ∙ is.objects_made ∙ sym made-same) (λ id. holds id ∙ is.holds id)

-- a filter goes on by one element
pub filter-next : {A : Type 0} (p : A → Bool) (xs : List A) (i : ℕ) (d : A) → i < length xs → filter p (take i xs) ++ filter p (get_or xs i d ∷ []) ≡ filter p (take (i + 1) xs)
filter-next p xs i d within =
    let next : suc i ≡ i + 1 = omega arith in
    sym (filter-append p (take i xs) (get_or xs i d ∷ [])) ∙ ap (filter p) (sym (take-suc xs i d within)) ∙ ap (λ n. filter p (take n xs)) next

pub filter-whole : {A : Type 0} (p : A → Bool) (xs : List A) (i : ℕ) → length xs ≤ i → filter p (take i xs) ≡ filter p xs
filter-whole p [] zero h = refl
filter-whole p [] (suc i) h = refl
filter-whole p (x ∷ xs) zero h = absurd (omega (arith, h))
filter-whole p (x ∷ xs) (suc i) h = let rest = filter-whole p xs i (omega (arith, h)) in λ j. cond (p x) (x ∷ rest j) (rest j)
