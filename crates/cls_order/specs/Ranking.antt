-- How far a pass has come that ranks each class above its direct supertypes. (This project's own.)
use Rattle.std.specs.Prelude.{◌≡◌, ◌<◌, ℕ, List, Some, All, length, slice_get, slice_index_or}
use Rattle.space_ids.specs.declared.ids.ClassId.{ClassId}
use Rattle.cls_order.specs.declared.entries.Entry.{Entry}
use Rattle.cls_order.specs.declared.ranking.Pass.{Pass}
use Rattle.cls_order.specs.Entries.{classes_of}
use Rattle.cls_order.specs.Marks.{rank_at, IsMarked}
use Rattle.cls_order.specs.Walks.{ups_at}

-- each class that has a rank has one below this one, and above those of its direct supertypes, which have theirs
pub record IsPass (entries : List Entry) (rank : ℕ) (pass : Pass) : Type 0 where
  pub met : length pass.met.items ≡ length entries
  pub ranked : length pass.ranked.items ≡ length entries
  pub passed : length pass.passed.items ≡ length entries
  pub path : All (λ k. k < length entries) pass.path.items
  pub below : (k : ℕ) → IsMarked pass.ranked.items k → rank_at entries k < rank
  pub low : (k : ℕ) → IsMarked pass.ranked.items k
      → All (λ (s : ClassId). IsMarked pass.ranked.items s.0 × (rank_at entries s.0 < rank_at entries k)) (ups_at (classes_of entries) (record { 0 = k }))
  pub behind : (k i : ℕ) (s : ClassId) → i < slice_index_or pass.passed.items k 0 → slice_get (ups_at (classes_of entries) (record { 0 = k })) i ≡ Some s
      → IsMarked pass.ranked.items s.0
