-- A constant pool is read exactly if its format stands.
use Rattle.std.proofs.Common.{◌≡◌, ℕ, ℤ, zero, suc, Bool, true, false, cond, eqb, not, List, Option, Some, None, Result, Ok, Err, refl}
use Rattle.std.specs.Int.{w32, cast_signed}
use Rattle.cf_text.specs.declared.fault.ReadFault.{ReadFault}
use Rattle.cf_text.specs.declared.fault.ReadFault.TheVariants.{Broken}
use Rattle.cf_text.specs.declared.fault.Rule.TheVariants as rules
use Rattle.cf_pool.specs.declared.pool.MemberKind.{MemberKind}
use Rattle.cf_pool.specs.declared.pool.Entry.TheVariants.{Other}
use Rattle.cf_pool.specs.declared.layout.Shape.{Shape}
use Rattle.cf_pool.specs.declared.layout.Shape.TheVariants as shapes
use Rattle.cf_text.specs.Reading.{◌>>=◌ as ◌then◌}
use Rattle.cf_text.specs.Numbers.{number_at, signed_at}
use Rattle.cf_pool.specs.Pools.{cell_from, cells_from, class_entry, entry_from, integer_entry, layout_from, member_entry, name_and_type_entry, pool_from, shape_of, shaped_entry, skipped_entry, tagged, text_entry}
use Rattle.cf_text.specs.Formats.{Reads}
use Rattle.cf_pool.specs.PoolFormat.{cell_format, cells_format, class_format, entry_format, integer_format, layout_format, member_format, name_and_type_format, pool_format, shaped_format, skipped_format, tagged_format, text_format}
use Rattle.cf_text.proofs.FormatLaws.{along_reads, asking_reads, done_reads, number_reads, refused_reads, run_reads, skip_reads, then_reads}

-- a test that refuses, the other way round
asked : {A : Type 0} (b : Bool) (reading : Result A ReadFault) (fault : ReadFault) → cond b (Err fault) reading ≡ cond (not b) reading (Err fault)
asked true reading fault = refl
asked false reading fault = refl

-- the bits of a signed number come first
signed_first : {B : Type 0} (bits : Result (ℕ × ℕ) ReadFault) (next : ℤ × ℕ → Result B ReadFault)
    → ((bits then (λ x. Ok (cast_signed w32 x.0, x.1))) then next) ≡ (bits then (λ x. next (cast_signed w32 x.0, x.1)))
signed_first (Ok x) next = refl
signed_first (Err fault) next = refl

text_reads : (bytes : List ℕ) (at : ℕ) → Reads (text_entry bytes at) at (text_format bytes at)
unfolding text_entry text_format
text_reads bytes at = then_reads (number_reads 2 bytes at) (λ length. then_reads (run_reads length.0 bytes length.1) (λ text. done_reads _ text.1))

integer_reads : (bytes : List ℕ) (at : ℕ) → Reads (integer_entry bytes at) at (integer_format bytes at)
unfolding integer_entry integer_format signed_at
integer_reads bytes at = along_reads (signed_first (number_at 4 bytes at) _) (then_reads (number_reads 4 bytes at) (λ bits. done_reads _ bits.1))

class_reads : (bytes : List ℕ) (at : ℕ) → Reads (class_entry bytes at) at (class_format bytes at)
unfolding class_entry class_format
class_reads bytes at = then_reads (number_reads 2 bytes at) (λ name. done_reads _ name.1)

member_reads : (kind : MemberKind) (bytes : List ℕ) (at : ℕ) → Reads (member_entry kind bytes at) at (member_format kind bytes at)
unfolding member_entry member_format
member_reads kind bytes at = then_reads (number_reads 2 bytes at) (λ class. then_reads (number_reads 2 bytes class.1) (λ named. done_reads _ named.1))

name_and_type_reads : (bytes : List ℕ) (at : ℕ) → Reads (name_and_type_entry bytes at) at (name_and_type_format bytes at)
unfolding name_and_type_entry name_and_type_format
name_and_type_reads bytes at = then_reads (number_reads 2 bytes at) (λ name. then_reads (number_reads 2 bytes name.1) (λ descriptor. done_reads _ descriptor.1))

skipped_reads : (length : ℕ) (wide : Bool) (bytes : List ℕ) (at : ℕ) → Reads (skipped_entry length wide bytes at) at (skipped_format length wide bytes at)
unfolding skipped_entry skipped_format
skipped_reads length wide bytes at = skip_reads length bytes at (λ to. Ok (record { entry = Other; positions = record { first = at; second = to }; is_wide = wide }, to)) (λ run. done_reads _ run.1)

shaped_reads : (shape : Shape) (bytes : List ℕ) (at : ℕ) → Reads (shaped_entry shape bytes at) at (shaped_format shape bytes at)
unfolding shaped_entry shaped_format
shaped_reads shapes.Utf8 bytes at = text_reads bytes at
shaped_reads shapes.Integer bytes at = integer_reads bytes at
shaped_reads shapes.Class bytes at = class_reads bytes at
shaped_reads (shapes.Member kind) bytes at = member_reads kind bytes at
shaped_reads shapes.NameAndType bytes at = name_and_type_reads bytes at
shaped_reads (shapes.Skipped length) bytes at = skipped_reads length false bytes at
shaped_reads shapes.Wide bytes at = skipped_reads 8 true bytes at

tagged_reads : (last : Bool) (tag_at : ℕ) (found : Option Shape) (bytes : List ℕ) (at : ℕ)
    → Reads (tagged last tag_at found then (λ shape. shaped_entry shape bytes at)) at (tagged_format last tag_at found bytes at)
unfolding tagged tagged_format
tagged_reads last tag_at None bytes at = refused_reads rules.Tag tag_at at
tagged_reads true tag_at (Some shapes.Wide) bytes at = asking_reads false rules.Index tag_at (shaped_reads shapes.Wide bytes at)
tagged_reads false tag_at (Some shapes.Wide) bytes at = asking_reads true rules.Index tag_at (shaped_reads shapes.Wide bytes at)
tagged_reads last tag_at (Some shapes.Utf8) bytes at = shaped_reads shapes.Utf8 bytes at
tagged_reads last tag_at (Some shapes.Integer) bytes at = shaped_reads shapes.Integer bytes at
tagged_reads last tag_at (Some shapes.Class) bytes at = shaped_reads shapes.Class bytes at
tagged_reads last tag_at (Some (shapes.Member kind)) bytes at = shaped_reads (shapes.Member kind) bytes at
tagged_reads last tag_at (Some shapes.NameAndType) bytes at = shaped_reads shapes.NameAndType bytes at
tagged_reads last tag_at (Some (shapes.Skipped length)) bytes at = shaped_reads (shapes.Skipped length) bytes at

entry_reads : (last : Bool) (bytes : List ℕ) (at : ℕ) → Reads (entry_from last bytes at) at (entry_format last bytes at)
unfolding entry_from entry_format
entry_reads last bytes at = then_reads (number_reads 1 bytes at) (λ tag. tagged_reads last at (shape_of tag.0) bytes tag.1)

cell_reads : (taken last : Bool) (bytes : List ℕ) (at : ℕ) → Reads (cell_from taken last bytes at) at (cell_format taken last bytes at)
unfolding cell_from cell_format
cell_reads true last bytes at = done_reads _ at
cell_reads false last bytes at = entry_reads last bytes at

cells_read : (n : ℕ) (taken : Bool) (bytes : List ℕ) (at : ℕ) → Reads (cells_from n taken bytes at) at (cells_format n taken bytes at)
unfolding cells_from cells_format
cells_read zero taken bytes at = done_reads _ at
cells_read (suc n) taken bytes at =
    then_reads (cell_reads taken (eqb n 0) bytes at) (λ first. then_reads (cells_read n first.0.is_wide bytes first.1) (λ others. done_reads _ others.1))

pub layout_reads : (bytes : List ℕ) (at : ℕ) → Reads (layout_from bytes at) at (layout_format bytes at)
unfolding layout_from layout_format
layout_reads bytes at =
    then_reads (number_reads 2 bytes at) (λ count.
    along_reads (asked (eqb count.0 0) (cells_from count.0 true bytes count.1) (Broken rules.Index at))
    (asking_reads (not (eqb count.0 0)) rules.Index at (cells_read count.0 true bytes count.1)))

pub pool_reads : (bytes : List ℕ) (at : ℕ) → Reads (pool_from bytes at) at (pool_format bytes at)
unfolding pool_from pool_format
pool_reads bytes at = then_reads (layout_reads bytes at) (λ layout. done_reads _ layout.1)
