use Rattle.std.proofs.Common.{◌≡◌, ℕ, ◌≤◌, ◌+◌, ◌++◌, List, drop, take, vec_len, vec_capacity}
use Rattle.std.specs.Map.{keys_of, values_of}
use Rattle.rising_map.specs.Rows.{AreRows}
use Rattle.rising_map.proofs.map.RisingMap.take_all_reserved.Given as goal

abbrev pub invariant-loop-number : goal.invariant-loop-number
invariant-loop-number g l = record {
  len : vec_len l.taken ≤ vec_len l.fn.taken + l.number-index;
  capacity : vec_capacity l.taken ≡ vec_capacity l.fn.taken;
  rows : (rows : List (ℕ × g.row.T.Denot)) → AreRows rows l.fn.self → l.numbers ≡ keys_of rows → l.taken.items ≡ l.fn.taken.items ++ take l.number-index (values_of rows);
  left : (rows : List (ℕ × g.row.T.Denot)) → AreRows rows l.fn.self → l.numbers ≡ keys_of rows → AreRows (drop l.number-index rows) l.self;
}
