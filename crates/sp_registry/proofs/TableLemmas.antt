use Rattle.std.proofs.Common.{◌≡◌, ℕ, ◌+◌, ◌-◌, ◌≤◌, Bool, true, false, cond, List, [], ◌∷◌, ◌++◌, length, None, Some, IsTrue, is_some, refl, sym, ap, ◌∙◌, arith}
use Rattle.std.specs.Global.{Vec}
use Rattle.std.specs.Map as map
use Rattle.std.specs.Map.{lookup_entry, remove_entry, set_value}
use Rattle.std.specs.Str.{bytes_eq}
use Rattle.std.proofs.lemmas.List.{map-append, take_all}
use Rattle.lru.specs.LruCache.{LruCache, demoted, lru_cache, put_entries}
use Rattle.space_ids.specs.declared.ids.ObjId.{ObjId}
use Rattle.sp_registry.specs.declared.registry.Binding.{Binding}
use Rattle.sp_registry.specs.Bindings.{is_of, lookup, rebound, unbound}
use Rattle.registry_names.specs.Names.{is_name}
use Rattle.sp_registry.specs.Tables.{AreNames, binding_of, bindings_of}
use Rattle.sp_registry.proofs.BindingsLemmas.{bytes_eq-refl, bytes_eq-sym}

-- whether the key is these bytes
abbrev pub is_key : List ℕ → Vec ℕ → Bool
is_key name key = bytes_eq name key.items

-- the row of a name is what the name is bound to
pub found : (name : List ℕ) (rows : List (Vec ℕ × ObjId)) → map.lookup (is_key name) rows ≡ lookup (bindings_of rows) name
found name [] = refl
found name (row ∷ rows) =
    ap (λ t. cond t (Some row.1) (map.lookup (is_key name) rows)) (bytes_eq-sym name row.0.items)
    ∙ ap (cond (bytes_eq row.0.items name) (Some row.1)) (found name rows)

-- the row of a name that goes takes its binding with it
pub removed : (name : List ℕ) (rows : List (Vec ℕ × ObjId)) → bindings_of (remove_entry (is_key name) rows) ≡ unbound (bindings_of rows) name
removed name [] = refl
removed name (row ∷ rows) =
    ap (λ t. bindings_of (cond t rows (row ∷ remove_entry (is_key name) rows))) (bytes_eq-sym name row.0.items)
    ∙ elim (bytes_eq row.0.items name) as (λ t. bindings_of (cond t rows (row ∷ remove_entry (is_key name) rows)) ≡ cond t (bindings_of rows) (binding_of row ∷ unbound (bindings_of rows) name))
    [ true ↦ refl | false ↦ ap (λ bs. binding_of row ∷ bs) (removed name rows) ]

-- the row of a name that is bound gets another object
pub written : (name : List ℕ) (object : ObjId) (rows : List (Vec ℕ × ObjId)) → IsTrue (is_some (lookup (bindings_of rows) name))
    → bindings_of (set_value (is_key name) rows object) ≡ rebound (bindings_of rows) name object
written name object [] there = cc
written name object (row ∷ rows) there =
    ap (λ t. bindings_of (cond t ((row.0, object) ∷ rows) (row ∷ set_value (is_key name) rows object))) (bytes_eq-sym name row.0.items)
    ∙ elim (bytes_eq row.0.items name) as (λ t. IsTrue (is_some (cond t (Some row.1) (lookup (bindings_of rows) name)))
    → bindings_of (cond t ((row.0, object) ∷ rows) (row ∷ set_value (is_key name) rows object))
    ≡ cond t (record (binding_of row) { object = object } ∷ bindings_of rows) (binding_of row ∷ rebound (bindings_of rows) name object))
    [ true ↦ λ _. refl | false ↦ λ rest. ap (λ bs. binding_of row ∷ bs) (written name object rows rest) ] there

-- ---- a new row is put before all others, and then goes after them

entry-none : (test : Vec ℕ → Bool) (rows : List (Vec ℕ × ObjId)) → map.lookup test rows ≡ None → lookup_entry test rows ≡ None
entry-none test [] absent = refl
entry-none test (row ∷ rows) absent =
    elim (test row.0) as (λ t. cond t (Some row.1) (map.lookup test rows) ≡ None → cond t (Some row) (lookup_entry test rows) ≡ None) [
      | true ↦ λ none. cc
      | false ↦ λ none. entry-none test rows none
    ] absent

-- whether two keys are of the same bytes
abbrev pub keys_eq : Vec ℕ → Vec ℕ → Bool
keys_eq a b = bytes_eq a.items b.items

own-last : (key : Vec ℕ) (object : ObjId) (cache : LruCache (Vec ℕ) ObjId) → lookup (bindings_of cache.entries) key.items ≡ None
    → length cache.entries + 1 ≤ cache.cap → demoted (is_key key.items) (put_entries keys_eq cache key object) ≡ cache.entries ++ (key, object) ∷ []
own-last key object cache absent fits =
    let few : length cache.entries ≤ cache.cap - 1 = omega arith in
    let none = entry-none (is_key key.items) cache.entries (found key.items cache.entries ∙ absent) in
    let put : put_entries keys_eq cache key object ≡ (key, object) ∷ cache.entries =
    rw none (ap (λ rows. (key, object) ∷ rows) (take_all (cache.cap - 1) cache.entries few)) in
    rw (put, bytes_eq-refl key.items) refl

last : (name : List ℕ) (key : Vec ℕ) (object : ObjId) (cache : LruCache (Vec ℕ) ObjId) → key.items ≡ name → lookup (bindings_of cache.entries) name ≡ None
    → length cache.entries + 1 ≤ cache.cap → demoted (is_key name) (put_entries keys_eq cache key object) ≡ cache.entries ++ (key, object) ∷ []
last name key object cache same absent fits =
    ap (λ (n : List ℕ). demoted (is_key n) (put_entries keys_eq cache key object)) (sym same)
    ∙ own-last key object cache (ap (lookup (bindings_of cache.entries)) same ∙ absent) fits

-- what is left of a cache that a new name is put into, and then goes to the end
pub added : (name : List ℕ) (key : Vec ℕ) (object : ObjId) (cache put new : LruCache (Vec ℕ) ObjId) → key.items ≡ name → lookup (bindings_of cache.entries) name ≡ None
    → length cache.entries + 1 ≤ cache.cap → put ≡ lru_cache (put_entries keys_eq cache key object) cache.cap → new ≡ lru_cache (demoted (is_key name) put.entries) put.cap
    → (bindings_of new.entries ≡ bindings_of cache.entries ++ record { name = name; object = object } ∷ []) × (new.cap ≡ cache.cap)
added name key object cache put new same absent fits at_first then = (
  ap (λ (l : LruCache (Vec ℕ) ObjId). bindings_of l.entries) then
      ∙ ap (λ (l : LruCache (Vec ℕ) ObjId). bindings_of (demoted (is_key name) l.entries)) at_first
      ∙ ap bindings_of (last name key object cache same absent fits)
      ∙ map-append binding_of cache.entries ((key, object) ∷ [])
      ∙ (λ i. bindings_of cache.entries ++ record { name = same i; object = object } ∷ []),
  ap (λ (l : LruCache (Vec ℕ) ObjId). l.cap) then ∙ ap (λ (l : LruCache (Vec ℕ) ObjId). l.cap) at_first,
)

-- ---- the names may name objects

pub names-append : (bindings : List Binding) (other : Binding) → AreNames bindings → IsTrue (is_name other.name) → AreNames (bindings ++ other ∷ [])
names-append [] other all may = (may, tt)
names-append (b ∷ bs) other all may = (all.0, names-append bs other all.1 may)

pub names-unbound : (bindings : List Binding) (name : List ℕ) → AreNames bindings → AreNames (unbound bindings name)
names-unbound [] name all = tt
names-unbound (b ∷ bs) name all =
    elim (is_of name b) as (λ t. AreNames (cond t bs (b ∷ unbound bs name))) [ true ↦ all.1 | false ↦ (all.0, names-unbound bs name all.1) ]

pub names-rebound : (bindings : List Binding) (name : List ℕ) (object : ObjId) → AreNames bindings → IsTrue (is_some (lookup bindings name)) → AreNames (rebound bindings name object)
names-rebound [] name object all there = cc
names-rebound (b ∷ bs) name object all there =
    elim (is_of name b) as (λ t. IsTrue (is_some (cond t (Some b.object) (lookup bs name))) → AreNames (cond t (record b { object = object } ∷ bs) (b ∷ rebound bs name object)))
    [ true ↦ λ _. all | false ↦ λ rest. (all.0, names-rebound bs name object all.1 rest) ] there
