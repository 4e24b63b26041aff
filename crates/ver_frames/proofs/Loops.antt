-- Reading n items one after the other, as a loop does.
use Rattle.std.proofs.Common.{◌≡◌, ℕ, suc, ◌-◌, ◌+◌, ◌<◌, ◌≤◌, List, [], ◌∷◌, ◌++◌, Option, Some, None, option_and_then, option_map, refl, ap, append_assoc, arith}
use Rattle.std.proofs.lemmas.List.{append-nil}
use Rattle.ver_frames.specs.Method.{Subject}
use Rattle.ver_frames.specs.declared.vtype.VType.{VType}
use Rattle.ver_frames.specs.StackMap.{after_item, after_items, item, items, with_front}

-- the bytes after the items that are left are those after one and those then left
pub after_items_left : (count i : ℕ) (bytes : List ℕ) → i < count
    → after_items (count - i) bytes ≡ option_and_then (after_items (count - (i + 1))) (after_item bytes)
unfolding after_items
after_items_left count i bytes lt =
    let e : count - i ≡ suc (count - (i + 1)) = omega arith in
    rw e

-- what is read with an item in front of the items that are left
pub items_left : (m : Subject) (count i : ℕ) (front : List VType) (bytes : List ℕ) (first : VType) (rest : List ℕ) → i < count → item m bytes ≡ Some (first, rest)
    → with_front front (items m (count - i) bytes) ≡ with_front (front ++ first ∷ []) (items m (count - (i + 1)) rest)
unfolding items
items_left m count i front bytes first rest lt here =
    let e : count - i ≡ suc (count - (i + 1)) = omega arith in
    rw (e, here) (regroup front first (items m (count - (i + 1)) rest))
  where
    regroup : (front : List VType) (first : VType) (read : Option (List VType × List ℕ)) → with_front front (option_map (λ others. (first ∷ others.0, others.1)) read) ≡ with_front (front ++ first ∷ []) read
    regroup front first None = refl
    regroup front first (Some found) = ap (λ (types : List VType). Some (types, found.1)) (simp append_assoc)

-- nothing is read if the next item says no type
pub items_end : (m : Subject) (count i : ℕ) (front : List VType) (bytes : List ℕ) → i < count → item m bytes ≡ None
    → with_front front (items m (count - i) bytes) ≡ None
unfolding items
items_end m count i front bytes lt here =
    let e : count - i ≡ suc (count - (i + 1)) = omega arith in
    rw (e, here)

-- if nothing is read, nothing is read with something in front either
pub none_after_front : (front : List VType) (read : Option (List VType × List ℕ)) → with_front front read ≡ None → read ≡ None
none_after_front front None h = refl
none_after_front front (Some found) h = cc

-- all items are read
pub items_done : (m : Subject) (count i : ℕ) (front : List VType) (bytes : List ℕ) → count ≤ i → with_front front (items m (count - i) bytes) ≡ Some (front, bytes)
unfolding items
items_done m count i front bytes le =
    let e : count - i ≡ 0 = omega arith in
    rw e (ap (λ (types : List VType). Some (types, bytes)) (append-nil front))
