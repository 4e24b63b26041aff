-- Binary trees by the bits of keys, the lowest first, in a row of nodes. (This project's own.)
use Rattle.std.specs.Prelude.{◌≡◌, ◌==◌, ◌&&◌, ◌%◌, ◌/◌, ◌-◌, ◌≤◌, ℕ, zero, suc, Bool, true, Option, Some, None, List, if◌then◌else◌, nat_eq, slice_get}
use Rattle.number_trees.specs.declared.trees.Node.{Node}

-- where a key goes on
abbrev pub child : Option Node → ℕ → ℕ
child None key = 0
child (Some node) key = if key % 2 == 0 then node.even else node.odd

-- what a tree of a number of levels has for a key
abbrev pub find : List Node → ℕ → ℕ → ℕ → ℕ
find nodes zero index key = index
find nodes (suc levels) index key = find nodes levels (child (slice_get nodes index) key) (key / 2)

-- the nodes of a tree of a number of levels stand in the row
abbrev pub IsTree : List Node → ℕ → ℕ → Type 0
IsTree nodes zero index = Unit {0}
IsTree nodes (suc levels) index = (node : Node) × (slice_get nodes index ≡ Some node) × IsTree nodes levels node.even × IsTree nodes levels node.odd

-- whether two keys agree in a number of their lowest bits
abbrev pub agree : ℕ → ℕ → ℕ → Bool
agree zero a b = true
agree (suc levels) a b = nat_eq (a % 2) (b % 2) && agree levels (a / 2) (b / 2)

-- numbers below this one that agree in this many of their lowest bits are the same
abbrev pub Covers : ℕ → ℕ → Type 0
Covers zero count = count ≤ 1
Covers (suc levels) count = Covers levels (count - count / 2)
