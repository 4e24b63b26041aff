-- The constant pool as bytes lay it out (JVMS 4.4).
use Rattle.std.specs.Prelude.{ℕ, zero, suc, Bool, true, false, ◌==◌, not, List, [], ◌∷◌, Option, Some, None}
use Rattle.std.specs.Int.{w32, cast_signed}
use Rattle.cf_text.specs.declared.fault.Rule.TheVariants as rules
use Rattle.cf_pool.specs.declared.pool.MemberKind.{MemberKind}
use Rattle.cf_pool.specs.declared.pool.Entry.{Entry}
use Rattle.cf_pool.specs.declared.pool.Entry.TheVariants.{Utf8, Integer, Class, Member, NameAndType, Other, Unusable}
use Rattle.cf_pool.specs.declared.layout.Shape.{Shape}
use Rattle.cf_pool.specs.declared.layout.Shape.TheVariants as shapes
use Rattle.cf_pool.specs.declared.layout.PlacedEntry.{PlacedEntry}
use Rattle.cf_pool.specs.declared.layout.PoolLayout.{PoolLayout}
use Rattle.cf_pool.specs.Pools.{shape_of}
use Rattle.cf_text.specs.Formats.{Format, ◌>>=◌, asking, done, number_format, refused, run_format}

-- a text: its length, and that many bytes
unfoldable pub text_format : List ℕ → ℕ → Format PlacedEntry
text_format bytes at = do
  length ← number_format 2 bytes
  text ← run_format length.0 bytes
  done (record { entry = Utf8 text.0; positions = record { first = at; second = length.1 }; is_wide = false })

-- an int in two's complement
unfoldable pub integer_format : List ℕ → ℕ → Format PlacedEntry
integer_format bytes at = do
  bits ← number_format 4 bytes
  done (record { entry = Integer (cast_signed w32 bits.0); positions = record { first = at; second = bits.1 }; is_wide = false })

unfoldable pub class_format : List ℕ → ℕ → Format PlacedEntry
class_format bytes at = do
  name ← number_format 2 bytes
  done (record { entry = Class name.0; positions = record { first = at; second = name.1 }; is_wide = false })

unfoldable pub member_format : MemberKind → List ℕ → ℕ → Format PlacedEntry
member_format kind bytes at = do
  class ← number_format 2 bytes
  named ← number_format 2 bytes
  done (record { entry = Member kind class.0 named.0; positions = record { first = at; second = class.1 }; is_wide = false })

unfoldable pub name_and_type_format : List ℕ → ℕ → Format PlacedEntry
name_and_type_format bytes at = do
  name ← number_format 2 bytes
  descriptor ← number_format 2 bytes
  done (record { entry = NameAndType name.0 descriptor.0; positions = record { first = at; second = name.1 }; is_wide = false })

-- n bytes, one item, of no use
unfoldable pub skipped_format : ℕ → Bool → List ℕ → ℕ → Format PlacedEntry
skipped_format length wide bytes at = do
  run ← run_format length bytes
  done (record { entry = Other; positions = record { first = at; second = run.1 }; is_wide = wide })

-- what stands after a tag of a shape
unfoldable pub shaped_format : Shape → List ℕ → ℕ → Format PlacedEntry
shaped_format shapes.Utf8 bytes at = text_format bytes at
shaped_format shapes.Integer bytes at = integer_format bytes at
shaped_format shapes.Class bytes at = class_format bytes at
shaped_format (shapes.Member kind) bytes at = member_format kind bytes at
shaped_format shapes.NameAndType bytes at = name_and_type_format bytes at
shaped_format (shapes.Skipped length) bytes at = skipped_format length false bytes at
shaped_format shapes.Wide bytes at = skipped_format 8 true bytes at

-- what stands after a tag: nothing if it is unknown; an entry of two indices does not stand last
unfoldable pub tagged_format : Bool → ℕ → Option Shape → List ℕ → ℕ → Format PlacedEntry
tagged_format last tag_at None bytes at = refused rules.Tag tag_at
tagged_format last tag_at (Some shapes.Wide) bytes at = asking (not last) rules.Index tag_at (shaped_format shapes.Wide bytes at)
tagged_format last tag_at (Some shapes.Utf8) bytes at = shaped_format shapes.Utf8 bytes at
tagged_format last tag_at (Some shapes.Integer) bytes at = shaped_format shapes.Integer bytes at
tagged_format last tag_at (Some shapes.Class) bytes at = shaped_format shapes.Class bytes at
tagged_format last tag_at (Some (shapes.Member kind)) bytes at = shaped_format (shapes.Member kind) bytes at
tagged_format last tag_at (Some shapes.NameAndType) bytes at = shaped_format shapes.NameAndType bytes at
tagged_format last tag_at (Some (shapes.Skipped length)) bytes at = shaped_format (shapes.Skipped length) bytes at

-- an entry: a tag, and what stands after it
unfoldable pub entry_format : Bool → List ℕ → ℕ → Format PlacedEntry
entry_format last bytes at = do
  tag ← number_format 1 bytes
  tagged_format last at (shape_of tag.0) bytes tag.1

-- what stands at an index: nothing if `taken`, as at index 0 and after an entry of two indices
unfoldable pub cell_format : Bool → Bool → List ℕ → ℕ → Format PlacedEntry
cell_format true last bytes at = done (record { entry = Unusable; positions = record { first = at; second = at }; is_wide = false })
cell_format false last bytes at = entry_format last bytes at

-- n indices
unfoldable pub cells_format : ℕ → Bool → List ℕ → ℕ → Format PoolLayout
cells_format zero taken bytes at = done (record { pool = []; positions = [] })
cells_format (suc n) taken bytes at = do
  first ← cell_format taken (n == 0) bytes at
  others ← cells_format n first.0.is_wide bytes first.1
  done (record { pool = first.0.entry ∷ others.0.pool; positions = first.0.positions ∷ others.0.positions })

-- a pool with its positions: its count, which is not 0, and that many indices
unfoldable pub layout_format : List ℕ → ℕ → Format PoolLayout
layout_format bytes at = do
  count ← number_format 2 bytes
  asking (not (count.0 == 0)) rules.Index at (cells_format count.0 true bytes count.1)

-- a pool
unfoldable pub pool_format : List ℕ → ℕ → Format (List Entry)
pool_format bytes at = do
  layout ← layout_format bytes at
  done layout.0.pool
