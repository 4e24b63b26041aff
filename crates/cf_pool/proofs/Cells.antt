-- Reading the indices of a pool one after the other, as the loop does.
use Rattle.std.proofs.Common.{◌≡◌, ℕ, suc, ◌+◌, ◌-◌, ◌<◌, ◌≤◌, Bool, eqb, List, [], ◌∷◌, ◌++◌, Result, Ok, Err, refl, sym, ◌∙◌, append_assoc, arith}
use Rattle.std.proofs.lemmas.Bool.Decides.{nat_tests}
use Rattle.std.proofs.lemmas.List.{append-nil}
use Rattle.cf_text.specs.declared.fault.ReadFault.{ReadFault}
use Rattle.cf_text.specs.declared.fault.ReadFault.TheVariants.{Broken, Memory}
use Rattle.cf_pool.specs.declared.pool.Entry.{Entry}
use Rattle.cf_pool.specs.declared.layout.Positions.{Positions}
use Rattle.cf_pool.specs.declared.layout.PlacedEntry.{PlacedEntry}
use Rattle.cf_pool.specs.declared.layout.PoolLayout.{PoolLayout}
use Rattle.cf_text.specs.Reading.{◌>>=◌, Fails}
use Rattle.cf_pool.specs.Pools.{cell_from, cells_from}

-- what was read so far, and what is still read
abbrev pub with_cells : List Entry → List Positions → Result (PoolLayout × ℕ) ReadFault → Result (PoolLayout × ℕ) ReadFault
with_cells entries positions reading = reading >>= λ x. Ok (record { pool = entries ++ x.0.pool; positions = positions ++ x.0.positions }, x.1)

with_cells-push : (entries : List Entry) (positions : List Positions) (cell : PlacedEntry) (others : Result (PoolLayout × ℕ) ReadFault)
    → with_cells entries positions (others >>= λ x. Ok (record { pool = cell.entry ∷ x.0.pool; positions = cell.positions ∷ x.0.positions }, x.1))
    ≡ with_cells (entries ++ cell.entry ∷ []) (positions ++ cell.positions ∷ []) others
with_cells-push entries positions cell (Ok x) = simp append_assoc
with_cells-push entries positions cell (Err fault) = refl

-- Of `count` indices `done` were read; they are the front of the list.
module _ (entries : List Entry) (positions : List Positions) (count done : ℕ) (taken : Bool) (bytes : List ℕ) (at : ℕ) (all : Result (PoolLayout × ℕ) ReadFault)
    (so_far : with_cells entries positions (cells_from (count - done) taken bytes at) ≡ all) where
  pub cells-go_on : (last : Bool) (cell : PlacedEntry) (after : ℕ) → done < count → last ≡ eqb (count - (done + 1)) 0 → cell_from taken last bytes at ≡ Ok (cell, after)
      → with_cells (entries ++ cell.entry ∷ []) (positions ++ cell.positions ∷ []) (cells_from (count - (done + 1)) cell.is_wide bytes after) ≡ all
  unfolding cells_from
  cells-go_on last cell after more is_last step =
      let left : count - done ≡ suc (count - (done + 1)) = omega arith in
      let here : cell_from taken (eqb (count - (done + 1)) 0) bytes at ≡ Ok (cell, after) = rw (← is_last) step in
      let one : with_cells entries positions (cells_from (count - done) taken bytes at)
      ≡ with_cells (entries ++ cell.entry ∷ []) (positions ++ cell.positions ∷ []) (cells_from (count - (done + 1)) cell.is_wide bytes after) =
      rw (left, here) (with_cells-push entries positions cell (cells_from (count - (done + 1)) cell.is_wide bytes after)) in
      sym one ∙ so_far

  pub cells-fail : (last : Bool) (fault : ReadFault) → done < count → last ≡ eqb (count - (done + 1)) 0 → Fails (cell_from taken last bytes at) fault → Fails all fault
  unfolding cells_from
  cells-fail last (Broken rule position) more is_last fails =
      let left : count - done ≡ suc (count - (done + 1)) = omega arith in
      let here : cell_from taken (eqb (count - (done + 1)) 0) bytes at ≡ Err (Broken rule position) = rw (← is_last) fails in
      let one : with_cells entries positions (cells_from (count - done) taken bytes at) ≡ Err (Broken rule position) = rw (left, here) refl in
      sym so_far ∙ one
  cells-fail last Memory more is_last fails = tt

  pub cells-end : count ≤ done → all ≡ Ok (record { pool = entries; positions = positions }, at)
  unfolding cells_from
  cells-end none =
      let left : count - done ≡ 0 = omega arith in
      let one : with_cells entries positions (cells_from (count - done) taken bytes at) ≡ Ok (record { pool = entries; positions = positions }, at) =
      rw left (simp append-nil) in
      sym so_far ∙ one

-- the last index, in two words
pub is_last : (count done : ℕ) → done < count → eqb done (count - 1) ≡ eqb (count - (done + 1)) 0
is_last count done more = grind (arith, nat_tests)
