use Rattle.std.proofs.Common.{◌≡◌, ℕ, Bool, true, false, cond, List, [], ◌∷◌, ◌++◌, Option, None, Some, Ok, Err, subst, refl, sym, ap, ◌∙◌}
use Rattle.std.specs.Prelude.{if◌then◌else◌, is_some, IsSome, map}
use Rattle.std.specs.Str.{bytes_eq}
use Rattle.std.proofs.lemmas.Bool.Decides.{same_from_decides, Decides-like}
use Rattle.std.proofs.lemmas.Slice.Eq.{bytes_eq-Decides}
use Rattle.space_ids.specs.declared.ids.ObjId.{ObjId}
use Rattle.sp_registry.specs.declared.registry.Binding.{Binding}
use Rattle.sp_registry.specs.declared.fault.RegistryFault.TheVariants.{AlreadyBound}
use Rattle.sp_registry.specs.Bindings.{allowed, bind, is_of, lookup, rebound, unbound, HasNamesOnce}

pub bytes_eq-refl : (a : List ℕ) → bytes_eq a a ≡ true
bytes_eq-refl a = (bytes_eq-Decides a a).1 refl

pub bytes_eq-sym : (a b : List ℕ) → bytes_eq a b ≡ bytes_eq b a
bytes_eq-sym a b = same_from_decides (bytes_eq a b) (bytes_eq b a) (bytes_eq-Decides a b) (Decides-like (bytes_eq b a) sym sym (bytes_eq-Decides b a))

-- what a name is bound to in bindings with one more at the end
pub lookup-append : (bindings : List Binding) (name : List ℕ) (other : Binding)
    → lookup (bindings ++ other ∷ []) name ≡ cond (is_some (lookup bindings name)) (lookup bindings name) (if is_of name other then Some other.object else None)
lookup-append [] name other = refl
lookup-append (b ∷ bs) name other = elim (is_of name b) as (λ t. cond t (Some b.object) (lookup (bs ++ other ∷ []) name)
    ≡ cond (is_some (cond t (Some b.object) (lookup bs name))) (cond t (Some b.object) (lookup bs name)) (if is_of name other then Some other.object else None))
    [ true ↦ refl | false ↦ lookup-append bs name other ]

cond-absorb : {X : Type 0} (t : Bool) (p q r : X) → cond t p r ≡ cond t p (cond t q r)
cond-absorb true p q r = refl
cond-absorb false p q r = refl

cond-swap : {X : Type 0} (s t : Bool) (p q r : X) → (s ≡ true → t ≡ true → ⊥) → cond s p (cond t q r) ≡ cond t q (cond s p r)
cond-swap true true p q r apart = absurd (apart refl refl)
cond-swap true false p q r apart = refl
cond-swap false t p q r apart = refl

-- two different names are not both a third one
names-apart : (a b other : List ℕ) → bytes_eq a b ≡ false → bytes_eq a other ≡ true → bytes_eq b other ≡ true → ⊥
names-apart a b other apart same_a same_b =
    let same : a ≡ b = (bytes_eq-Decides a other).0 same_a ∙ sym ((bytes_eq-Decides b other).0 same_b) in
    let yes : bytes_eq a b ≡ true = (bytes_eq-Decides a b).1 same in cc

-- a name that is rebound is bound to the object, and each other name stays
pub lookup-rebound : (bindings : List Binding) (name : List ℕ) (object : ObjId) (other : List ℕ)
    → lookup (rebound bindings name object) other ≡ (if bytes_eq name other then Some object else lookup bindings other)
lookup-rebound [] name object other = refl
lookup-rebound (b ∷ bs) name object other =
    elim (bytes_eq b.name name) as (λ t. bytes_eq b.name name ≡ t → lookup (cond t (record b { object = object } ∷ bs) (b ∷ rebound bs name object)) other
    ≡ cond (bytes_eq name other) (Some object) (lookup (b ∷ bs) other)) [
      | true ↦ λ same. let n : name ≡ b.name = sym ((bytes_eq-Decides b.name name).0 same) in
          subst (λ (m : List ℕ). lookup (record b { object = object } ∷ bs) other ≡ cond (bytes_eq m other) (Some object) (lookup (b ∷ bs) other)) (sym n)
          (cond-absorb (bytes_eq b.name other) (Some object) (Some b.object) (lookup bs other))
      | false ↦ λ apart. ap (cond (bytes_eq b.name other) (Some b.object)) (lookup-rebound bs name object other)
          ∙ cond-swap (bytes_eq b.name other) (bytes_eq name other) (Some b.object) (Some object) (lookup bs other) (names-apart b.name name other apart)
    ] refl

lookup-same : (bindings : List Binding) (a b : List ℕ) → a ≡ b → lookup bindings a ≡ lookup bindings b
lookup-same bindings a b same = ap (lookup bindings) same

-- a name that was taken away is not bound, and each other name stays
pub lookup-unbound : (bindings : List Binding) (name : List ℕ) (other : List ℕ) → HasNamesOnce bindings
    → lookup (unbound bindings name) other ≡ (if bytes_eq name other then None else lookup bindings other)
lookup-unbound [] name other once = elim (bytes_eq name other) as (λ t. ◌≡◌ {A = Option ObjId} None (cond t None None)) [ true ↦ refl | false ↦ refl ]
lookup-unbound (b ∷ bs) name other once =
    elim (bytes_eq b.name name) as (λ t. bytes_eq b.name name ≡ t → lookup (cond t bs (b ∷ unbound bs name)) other
    ≡ cond (bytes_eq name other) None (lookup (b ∷ bs) other)) [
      | true ↦ λ same. let n : b.name ≡ name = (bytes_eq-Decides b.name name).0 same in
          subst (λ (m : List ℕ). lookup bs other ≡ cond (bytes_eq m other) None (lookup (b ∷ bs) other)) n
          (elim (bytes_eq b.name other) as (λ t. bytes_eq b.name other ≡ t → lookup bs other ≡ cond t None (cond t (Some b.object) (lookup bs other)))
          [ true ↦ λ here. lookup-same bs other b.name (sym ((bytes_eq-Decides b.name other).0 here)) ∙ once.0 | false ↦ λ _. refl ] refl)
      | false ↦ λ apart. ap (cond (bytes_eq b.name other) (Some b.object)) (lookup-unbound bs name other once.1)
          ∙ cond-swap (bytes_eq b.name other) (bytes_eq name other) (Some b.object) None (lookup bs other) (names-apart b.name name other apart)
    ] refl

-- an unbound name is not that of the first binding, and is unbound after it
unbound-parts : (t : Bool) (object : ObjId) (rest : Option ObjId) → cond t (Some object) rest ≡ None → (t ≡ false) × (rest ≡ None)
unbound-parts true object rest h = (cc, cc)
unbound-parts false object rest h = (refl, h)

pub once-append : (bindings : List Binding) (other : Binding) → HasNamesOnce bindings → lookup bindings other.name ≡ None → HasNamesOnce (bindings ++ other ∷ [])
once-append [] other once new = (refl, tt)
once-append (b ∷ bs) other once new =
    let parts = unbound-parts (bytes_eq b.name other.name) b.object (lookup bs other.name) new in
    let apart : bytes_eq other.name b.name ≡ false = bytes_eq-sym other.name b.name ∙ parts.0 in
    (lookup-append bs b.name other ∙ rw (once.0, apart) refl, once-append bs other once.1 parts.1)

pub once-rebound : (bindings : List Binding) (name : List ℕ) (object : ObjId) → HasNamesOnce bindings → HasNamesOnce (rebound bindings name object)
once-rebound [] name object once = (refl, tt)
once-rebound (b ∷ bs) name object once =
    elim (bytes_eq b.name name) as (λ t. bytes_eq b.name name ≡ t → HasNamesOnce (cond t (record b { object = object } ∷ bs) (b ∷ rebound bs name object))) [
      | true ↦ λ _. once
      | false ↦ λ apart. (lookup-rebound bs name object b.name ∙ rw (bytes_eq-sym name b.name ∙ apart, once.0) refl, once-rebound bs name object once.1)
    ] refl

pub once-unbound : (bindings : List Binding) (name : List ℕ) → HasNamesOnce bindings → HasNamesOnce (unbound bindings name)
once-unbound [] name once = tt
once-unbound (b ∷ bs) name once =
    elim (bytes_eq b.name name) as (λ t. bytes_eq b.name name ≡ t → HasNamesOnce (cond t bs (b ∷ unbound bs name))) [
      | true ↦ λ _. once.1
      | false ↦ λ apart. (lookup-unbound bs name b.name once.1 ∙ rw (bytes_eq-sym name b.name ∙ apart, once.0) refl, once-unbound bs name once.1)
    ] refl

-- a name that is not bound is bound after all others
pub rebound-new : (bindings : List Binding) (name : List ℕ) (object : ObjId) → lookup bindings name ≡ None
    → rebound bindings name object ≡ bindings ++ record { name = name; object = object } ∷ []
rebound-new [] name object new = refl
rebound-new (b ∷ bs) name object new =
    let parts = unbound-parts (bytes_eq b.name name) b.object (lookup bs name) new in
    rw parts.0 (ap (λ rest. b ∷ rest) (rebound-new bs name object parts.1))

-- a name that is bound anew keeps its index
pub names-rebound : (bindings : List Binding) (name : List ℕ) (object : ObjId) → IsSome (lookup bindings name)
    → map (λ (b : Binding). b.name) (rebound bindings name object) ≡ map (λ (b : Binding). b.name) bindings
names-rebound [] name object is_bound = cc
names-rebound (b ∷ bs) name object is_bound =
    elim (bytes_eq b.name name) as (λ t. IsSome (cond t (Some b.object) (lookup bs name))
    → map (λ (b : Binding). b.name) (cond t (record b { object = object } ∷ bs) (b ∷ rebound bs name object)) ≡ b.name ∷ map (λ (b : Binding). b.name) bs)
    [ true ↦ λ _. refl | false ↦ λ there. ap (λ names. b.name ∷ names) (names-rebound bs name object there) ] is_bound

-- a name that is bound is not bound once more
pub bind-bound : (bindings : List Binding) (name : List ℕ) (object : Option ObjId) (own found : ObjId) → allowed name object ≡ Ok own
    → lookup bindings name ≡ Some found → bind bindings name object ≡ Err AlreadyBound
bind-bound bindings name object own found may bound = rw (may, bound) refl

-- a name that is not bound is not taken away
pub unbound-absent : (bindings : List Binding) (name : List ℕ) → lookup bindings name ≡ None → unbound bindings name ≡ bindings
unbound-absent [] name absent = refl
unbound-absent (b ∷ bs) name absent =
    let parts = unbound-parts (bytes_eq b.name name) b.object (lookup bs name) absent in
    rw parts.0 (ap (λ rest. b ∷ rest) (unbound-absent bs name parts.1))

-- a name of which no binding is there is not that of a later one
apart-later : (others rest : List Binding) (binding : Binding) (name : List ℕ) → lookup (others ++ binding ∷ rest) name ≡ None → bytes_eq name binding.name ≡ false
apart-later [] rest binding name none = by (bytes_eq binding.name name) refl none
  where
    by : (t : Bool) → bytes_eq binding.name name ≡ t → cond t (Some binding.object) (lookup rest name) ≡ None → bytes_eq name binding.name ≡ false
    by true is none = cc
    by false is none = bytes_eq-sym name binding.name ∙ is
apart-later (o ∷ others) rest binding name none = by (bytes_eq o.name name) none (apart-later others rest binding name)
  where
    by : (t : Bool) → cond t (Some o.object) (lookup (others ++ binding ∷ rest) name) ≡ None → (lookup (others ++ binding ∷ rest) name ≡ None → bytes_eq name binding.name ≡ false)
        → bytes_eq name binding.name ≡ false
    by true none go = cc
    by false none go = go none

-- a name of which one binding comes later has none before
pub unbound-before : (bindings rest : List Binding) (binding : Binding) → HasNamesOnce (bindings ++ binding ∷ rest) → lookup bindings binding.name ≡ None
unbound-before [] rest binding once = refl
unbound-before (b ∷ bs) rest binding once =
    ap (λ t. cond t (Some b.object) (lookup bs binding.name)) (apart-later bs rest binding b.name once.0) ∙ unbound-before bs rest binding once.1
