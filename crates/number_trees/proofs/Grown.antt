-- Trees in a row of nodes that grows.
use Rattle.std.proofs.Common.{◌≡◌, ◌≢◌, ◌⊎◌, inl, inr, ℕ, zero, suc, ◌+◌, ◌-◌, ◌<◌, ◌%◌, ◌/◌, Bool, true, false, Some, None, List, [], ◌∷◌, ◌++◌, get_or, refl, sym, subst, ap, ◌∙◌, arith, append-nil, append_assoc}
use Rattle.std.specs.Prelude.{◌==◌, ◌&&◌, if◌then◌else◌, nat_eq, slice_get}
use Rattle.std.proofs.lemmas.Bool.Decides.{nat_tests}
use Rattle.std.proofs.lemmas.Option.{get_or_from_slice_get}
use Rattle.number_trees.specs.Rows.{Starts}
use Rattle.number_trees.specs.Trees.{agree, child, find, IsTree}
use Rattle.number_trees.specs.declared.trees.Node.{Node}

pub starts_itself : {A : Type 0} (row : List A) → Starts row row
starts_itself row = record { more = []; is = sym (append-nil row) }

pub starts_on : {A : Type 0} (row new more : List A) → new ≡ row ++ more → Starts row new
starts_on row new more is = record { more = more; is = is }

pub starts_both : {A : Type 0} {row mid new : List A} → Starts row mid → Starts mid new → Starts row new
starts_both {A} {row} {mid} {new} a b = record { more = a.more ++ b.more; is = b.is ∙ (ap (λ ks. ks ++ b.more) a.is ∙ append_assoc row a.more b.more) }

-- what stands in a row stands in one that goes on from it
get_kept : {X : Type 0} (xs ys : List X) (i : ℕ) (x : X) → slice_get xs i ≡ Some x → slice_get (xs ++ ys) i ≡ Some x
get_kept [] ys i x e = let h : None ≡ Some x = e in cc
get_kept (y ∷ xs) ys zero x e = e
get_kept (y ∷ xs) ys (suc i) x e = get_kept xs ys i x e

pub get_on : {X : Type 0} {xs ys : List X} → Starts xs ys → (i : ℕ) (x : X) → slice_get xs i ≡ Some x → slice_get ys i ≡ Some x
get_on {X} {xs} {ys} on i x e = subst (λ zs. slice_get zs i ≡ Some x) (sym on.is) (get_kept xs on.more i x e)

pub tree_on : {old new : List Node} → Starts old new → (levels index : ℕ) → IsTree old levels index → IsTree new levels index
tree_on on zero index t = tt
tree_on on (suc levels) index t = (t.0, get_on on index t.0 t.1, tree_on on levels t.0.even t.2, tree_on on levels t.0.odd t.3)

child_tree : (nodes : List Node) (levels index : ℕ) (node : Node) (b : Bool) → IsTree nodes levels node.even → IsTree nodes levels node.odd → IsTree nodes levels (if b then node.even else node.odd)
child_tree nodes levels index node true e o = e
child_tree nodes levels index node false e o = o

pub find_on : {old new : List Node} → Starts old new → (levels index key : ℕ) → IsTree old levels index → find new levels index key ≡ find old levels index key
find_on on zero index key t = refl
find_on {old} {new} on (suc levels) index key t =
    let node = t.0 in
    let at : slice_get old index ≡ Some node = t.1 in
    let next = child (Some node) key in
    ap (λ o. find new levels (child o key) (key / 2)) (get_on on index node at)
    ∙ (find_on on levels next (key / 2) (child_tree old levels index node (key % 2 == 0) t.2 t.3) ∙ ap (λ o. find old levels (child o key) (key / 2)) (sym at))

-- nothing is found in a tree whose one node leads to itself
pub tree_empty : (nodes : List Node) (levels : ℕ) → slice_get nodes 0 ≡ Some (record { even = 0; odd = 0 }) → IsTree nodes levels 0
tree_empty nodes zero at = tt
tree_empty nodes (suc levels) at = (record { even = 0; odd = 0 }, at, tree_empty nodes levels at, tree_empty nodes levels at)

either_zero : (b : Bool) → ◌≡◌ {A = ℕ} (if b then 0 else 0) 0
either_zero true = refl
either_zero false = refl

pub find_empty : (nodes : List Node) (levels key : ℕ) → slice_get nodes 0 ≡ Some (record { even = 0; odd = 0 }) → find nodes levels 0 key ≡ 0
find_empty nodes zero key at = refl
find_empty nodes (suc levels) key at =
    ap (λ o. find nodes levels (child o key) (key / 2)) at
    ∙ (ap (λ i. find nodes levels i (key / 2)) (either_zero (key % 2 == 0)) ∙ find_empty nodes levels (key / 2) at)

cases : (b : Bool) → (b ≡ true) ⊎ (b ≡ false)
cases true = inl refl
cases false = inr refl

is_even : (k : ℕ) → (k % 2 == 0) ≡ true → k % 2 ≡ 0
is_even k e = grind (arith, nat_tests)

is_odd : (k : ℕ) → (k % 2 == 0) ≡ false → k % 2 ≡ 1
is_odd k e = let n : k % 2 ≢ 0 = grind (arith, nat_tests) in omega (arith, n)

same_bit : (a b x : ℕ) → a ≡ x → b ≡ x → nat_eq a b ≡ true
same_bit a b x e f = grind (arith, nat_tests)

other_bit : (a b : ℕ) → a ≡ 1 → b ≡ 0 → nat_eq a b ≡ false
other_bit a b e f = grind (arith, nat_tests)

bit_other : (a b : ℕ) → a ≡ 0 → b ≡ 1 → nat_eq a b ≡ false
bit_other a b e f = grind (arith, nat_tests)

-- a step of the search, where the node and the bit are known
step : (nodes : List Node) (levels index key : ℕ) (node : Node) (b : Bool) → slice_get nodes index ≡ Some node → (key % 2 == 0) ≡ b
    → find nodes (suc levels) index key ≡ find nodes levels (if b then node.even else node.odd) (key / 2)
step nodes levels index key node b at is =
    ap (λ o. find nodes levels (child o key) (key / 2)) at ∙ ap (λ c. find nodes levels (if c then node.even else node.odd) (key / 2)) is

module _ (old mid new : List Node) (levels root : ℕ) (key value : ℕ) (node : Node) (at : slice_get old root ≡ Some node) (index made : ℕ)
    (first : Starts old mid) (last : Starts mid new) (whole : Starts old new) where
  pub found_even : (t : IsTree old levels node.odd) → (m : IsTree mid levels made) → (key % 2 == 0) ≡ true → slice_get new index ≡ Some (record { even = made; odd = node.odd })
      → ((k : ℕ) → find mid levels made k ≡ (if agree levels k (key / 2) then value else find old levels node.even k))
      → (k : ℕ) → find new (suc levels) index k ≡ (if agree (suc levels) k key then value else find old (suc levels) root k)
  found_even t m even there found k =
      elim (cases (k % 2 == 0)) [
        | inl e ↦
            let same = same_bit (k % 2) (key % 2) 0 (is_even k e) (is_even key even) in
            step new levels index k (record { even = made; odd = node.odd }) true there e
            ∙ (find_on last levels made (k / 2) m
            ∙ (found (k / 2)
            ∙ (ap (λ x. if agree levels (k / 2) (key / 2) then value else x) (sym (step old levels root k node true at e))
            ∙ ap (λ b. if b && agree levels (k / 2) (key / 2) then value else find old (suc levels) root k) (sym same))))
        | inr o ↦
            let other = other_bit (k % 2) (key % 2) (is_odd k o) (is_even key even) in
            step new levels index k (record { even = made; odd = node.odd }) false there o
            ∙ (find_on whole levels node.odd (k / 2) t
            ∙ (sym (step old levels root k node false at o)
            ∙ ap (λ b. if b && agree levels (k / 2) (key / 2) then value else find old (suc levels) root k) (sym other)))
      ]

  pub found_odd : (t : IsTree old levels node.even) → (m : IsTree mid levels made) → (key % 2 == 0) ≡ false → slice_get new index ≡ Some (record { even = node.even; odd = made })
      → ((k : ℕ) → find mid levels made k ≡ (if agree levels k (key / 2) then value else find old levels node.odd k))
      → (k : ℕ) → find new (suc levels) index k ≡ (if agree (suc levels) k key then value else find old (suc levels) root k)
  found_odd t m odd there found k =
      elim (cases (k % 2 == 0)) [
        | inl e ↦
            let other = bit_other (k % 2) (key % 2) (is_even k e) (is_odd key odd) in
            step new levels index k (record { even = node.even; odd = made }) true there e
            ∙ (find_on whole levels node.even (k / 2) t
            ∙ (sym (step old levels root k node true at e)
            ∙ ap (λ b. if b && agree levels (k / 2) (key / 2) then value else find old (suc levels) root k) (sym other)))
        | inr o ↦
            let same = same_bit (k % 2) (key % 2) 1 (is_odd k o) (is_odd key odd) in
            step new levels index k (record { even = node.even; odd = made }) false there o
            ∙ (find_on last levels made (k / 2) m
            ∙ (found (k / 2)
            ∙ (ap (λ x. if agree levels (k / 2) (key / 2) then value else x) (sym (step old levels root k node false at o))
            ∙ ap (λ b. if b && agree levels (k / 2) (key / 2) then value else find old (suc levels) root k) (sym same))))
      ]

-- a step down
pub find_next : (nodes : List Node) (levels i index next rest all : ℕ) → i < levels → next ≡ child (slice_get nodes index) rest → find nodes (levels - i) index rest ≡ all
    → find nodes (levels - (i + 1)) next (rest / 2) ≡ all
find_next nodes levels i index next rest all low is so_far =
    let e : levels - i ≡ suc (levels - (i + 1)) = omega (arith, low) in
    ap (λ x. find nodes (levels - (i + 1)) x (rest / 2)) is ∙ (ap (λ n. find nodes n index rest) (sym e) ∙ so_far)

even_test : (k : ℕ) → k % 2 ≡ 0 → (k % 2 == 0) ≡ true
even_test k e = grind (arith, nat_tests)

odd_test : (k : ℕ) → k % 2 ≢ 0 → (k % 2 == 0) ≡ false
odd_test k e = grind (arith, nat_tests)

-- the node that was read is the tree's
node_read : (nodes : List Node) (index : ℕ) (node other : Node) → node ≡ get_or nodes index node → slice_get nodes index ≡ Some other → other ≡ node
node_read nodes index node other is at = sym (get_or_from_slice_get nodes index other node at) ∙ sym is

-- what a tree that was made has
pub record IsMade (new old : List Node) (levels index root key value : ℕ) : Type 0 where
  pub tree : IsTree new levels index
  pub found : (k : ℕ) → find new levels index k ≡ (if agree levels k key then value else find old levels root k)

module _ (old mid new : List Node) (n root key value index made : ℕ) (node : Node) (more : n ≢ 0) (t : IsTree old n root) (is : node ≡ get_or old root node)
    (first : Starts old mid) (last : Starts mid new) (m : IsTree mid (n - 1) made) where
  levels_are : n ≡ suc (n - 1)
  levels_are = omega (arith, more)

  tree : IsTree old (suc (n - 1)) root
  tree = subst (λ levels. IsTree old levels root) levels_are t

  same : tree.0 ≡ node
  same = node_read old root node tree.0 is tree.1

  at : slice_get old root ≡ Some node
  at = tree.1 ∙ ap (λ x. Some x) same

  evens : IsTree old (n - 1) node.even
  evens = subst (λ (x : Node). IsTree old (n - 1) x.even) same tree.2

  odds : IsTree old (n - 1) node.odd
  odds = subst (λ (x : Node). IsTree old (n - 1) x.odd) same tree.3

  pub made_even : key % 2 ≡ 0 → slice_get new index ≡ Some (record { even = made; odd = node.odd })
      → ((k : ℕ) → find mid (n - 1) made k ≡ (if agree (n - 1) k (key / 2) then value else find old (n - 1) node.even k)) → IsMade new old n index root key value
  made_even even there found =
      subst (λ levels. IsMade new old levels index root key value) (sym levels_are)
      (record {
        tree = (record { even = made; odd = node.odd }, there, tree_on last (n - 1) made m, tree_on (starts_both first last) (n - 1) node.odd odds);
        found = found_even old mid new (n - 1) root key value node at index made first last (starts_both first last) odds m (even_test key even) there found;
      })

  pub made_odd : key % 2 ≢ 0 → slice_get new index ≡ Some (record { even = node.even; odd = made })
      → ((k : ℕ) → find mid (n - 1) made k ≡ (if agree (n - 1) k (key / 2) then value else find old (n - 1) node.odd k)) → IsMade new old n index root key value
  made_odd odd there found =
      subst (λ levels. IsMade new old levels index root key value) (sym levels_are)
      (record {
        tree = (record { even = node.even; odd = made }, there, tree_on (starts_both first last) (n - 1) node.even evens, tree_on last (n - 1) made m);
        found = found_odd old mid new (n - 1) root key value node at index made first last (starts_both first last) evens m (odd_test key odd) there found;
      })
