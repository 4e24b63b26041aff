-- What trees have for each method, in rows. (This project's own.)
use Rattle.std.specs.Prelude.{◌≡◌, ◌⊎◌, ℕ, List, [], map}
use Rattle.cls_tables.specs.Trees.{find}
use Rattle.cls_tables.specs.declared.trees.Node.{Node}

-- what the tree of a root has for each key
abbrev pub row_of : List Node → ℕ → List ℕ → ℕ → List ℕ
row_of nodes levels keys root = map (find nodes levels root) keys

-- such a row for each class, by class number, or no row at all
abbrev pub AreRows : ℕ → List ℕ → List Node → List ℕ → List (List ℕ) → Type 0
AreRows levels keys nodes roots rows = (rows ≡ []) ⊎ (rows ≡ map (row_of nodes levels keys) roots)
