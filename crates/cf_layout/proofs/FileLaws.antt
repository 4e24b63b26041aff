-- The layout of a class file is read exactly if its format stands.
use Rattle.std.proofs.Common.{◌≡◌, ◌&&◌, ℕ, Bool, true, false, cond, eqb, leb, List, length, Result, Ok, Err, refl, ap, subst}
use Rattle.std.specs.Prelude.{IfErr, IfOk}
use Rattle.cf_text.specs.declared.fault.Rule.{Rule}
use Rattle.cf_text.specs.declared.fault.Rule.TheVariants as rules
use Rattle.cf_text.specs.declared.fault.ReadFault.{ReadFault}
use Rattle.cf_text.specs.declared.fault.ReadFault.TheVariants.{Broken, Memory}
use Rattle.cf_text.specs.Reading.{Gives}
use Rattle.cf_text.specs.Reading.{◌>>=◌ as ◌then◌}
use Rattle.cf_text.specs.Demands.{verdict}
use Rattle.cf_text.specs.Formats.{FailsBy, Format, Reads, asking}
use Rattle.cf_text.proofs.FormatLaws.{along_reads, asking_reads, done_reads, many_reads, number_reads, skip_reads, then_reads}
use Rattle.cf_pool.proofs.PoolLaws.{layout_reads}
use Rattle.cf_layout.specs.declared.items.Layout.{Layout}
use Rattle.cf_layout.specs.Layouts.{attribute_at, attributes_at, body_at, file_at, header_at, item_at, keeps, layout_of, max_length, member_at}
use Rattle.cf_layout.specs.FileFormat.{LaysOut, attribute_format, attributes_format, body_format, file_format, header_format, item_format, member_format}

-- a rule that is kept, and what is read then
kept : {B : Type 0} (holds : Bool) (rule : Rule) (at : ℕ) (next : Result B ReadFault) → (keeps holds rule at then (λ _. next)) ≡ cond holds next (Err (Broken rule at))
unfolding verdict
kept true rule at next = refl
kept false rule at next = refl

pub kept_reads : {A : Type 0} (holds : Bool) (rule : Rule) (at : ℕ) {reading : Result (A × ℕ) ReadFault} {from : ℕ} {format : Format A} → Reads reading from format
    → Reads (keeps holds rule at then (λ _. reading)) from (asking holds rule at format)
kept_reads holds rule at {reading} reads = along_reads (kept holds rule at reading) (asking_reads holds rule at reads)

pub item_reads : (bytes : List ℕ) (at : ℕ) → Reads (item_at bytes at) at (item_format bytes at)
unfolding item_at item_format
item_reads bytes at = then_reads (number_reads 2 bytes at) (λ number. done_reads _ number.1)

attribute_reads : (bytes : List ℕ) (at : ℕ) → Reads (attribute_at bytes at) at (attribute_format bytes at)
unfolding attribute_at attribute_format
attribute_reads bytes at =
    then_reads (item_reads bytes at) (λ name. then_reads (number_reads 4 bytes name.1) (λ length.
    skip_reads length.0 bytes length.1 (λ end. Ok (record { name = name.0; body = length.1; end = end }, end)) (λ inside. done_reads _ inside.1)))

pub attributes_read : (bytes : List ℕ) (at : ℕ) → Reads (attributes_at bytes at) at (attributes_format bytes at)
unfolding attributes_at attributes_format
attributes_read bytes at =
    then_reads (number_reads 2 bytes at) (λ count. many_reads (attribute_at bytes) (attribute_format bytes) (attribute_reads bytes) count.0 count.1)

member_reads : (bytes : List ℕ) (at : ℕ) → Reads (member_at bytes at) at (member_format bytes at)
unfolding member_at member_format
member_reads bytes at =
    then_reads (item_reads bytes at) (λ flags. then_reads (item_reads bytes flags.1) (λ name. then_reads (item_reads bytes name.1) (λ descriptor.
    then_reads (attributes_read bytes descriptor.1) (λ attributes. done_reads _ attributes.1))))

header_reads : (bytes : List ℕ) → Reads (header_at bytes) 0 (header_format bytes)
unfolding header_at header_format
header_reads bytes =
    then_reads (number_reads 4 bytes 0) (λ magic. kept_reads (eqb magic.0 0xcafebabe) rules.Magic 0 (
    then_reads (number_reads 2 bytes magic.1) (λ minor. kept_reads (eqb minor.0 0) rules.Version magic.1 (
    then_reads (number_reads 2 bytes minor.1) (λ major. kept_reads (leb 50 major.0 && leb major.0 52) rules.Version minor.1 (done_reads major.0 major.1))))))

body_reads : (bytes : List ℕ) (at : ℕ) → Reads (body_at bytes at) at (body_format bytes at)
unfolding body_at body_format
body_reads bytes at =
    then_reads (layout_reads bytes at) (λ pool. then_reads (item_reads bytes pool.1) (λ flags. then_reads (item_reads bytes flags.1) (λ this.
    then_reads (item_reads bytes this.1) (λ superclass. then_reads (item_reads bytes superclass.1) (λ interface_count.
    then_reads (many_reads _ _ (item_reads bytes) interface_count.0.value interface_count.1) (λ interfaces.
    then_reads (item_reads bytes interfaces.1) (λ field_count. then_reads (many_reads _ _ (member_reads bytes) field_count.0.value field_count.1) (λ fields.
    then_reads (item_reads bytes fields.1) (λ method_count. then_reads (many_reads _ _ (member_reads bytes) method_count.0.value method_count.1) (λ methods.
    then_reads (attributes_read bytes methods.1) (λ attributes. done_reads _ attributes.1)))))))))))

pub file_reads : (bytes : List ℕ) → Reads (file_at bytes) 0 (file_format bytes)
unfolding file_at file_format
file_reads bytes =
    kept_reads (leb (length bytes) max_length) rules.TooLarge max_length (
    then_reads (header_reads bytes) (λ major. then_reads (body_reads bytes major.1) (λ layout.
    kept_reads (eqb layout.1 (length bytes)) rules.Trailing layout.1 (done_reads layout.0 layout.1))))

-- ---- what an answer says of all the bytes

laid_by : (bytes : List ℕ) (r : Result (Layout × ℕ) ReadFault) → Reads r 0 (file_format bytes) → (layout : Layout) → (r then (λ file. Ok file.0)) ≡ Ok layout → LaysOut bytes layout
laid_by bytes (Ok x) reads layout e =
    let same : x.0 ≡ layout = cc in
    (x.1, subst (λ (l : Layout). (file_format bytes).Stands 0 l x.1) same (reads.takes x refl))
laid_by bytes (Err fault) reads layout e = absurd cc

failed_by : (bytes : List ℕ) (r : Result (Layout × ℕ) ReadFault) → Reads r 0 (file_format bytes) → (fault : ReadFault) → (r then (λ file. Ok file.0)) ≡ Err fault → FailsBy (file_format bytes) 0 fault
failed_by bytes (Ok x) reads fault e = absurd cc
failed_by bytes (Err other) reads fault e =
    let same : other ≡ fault = cc in
    reads.fails fault (ap Err same)

pub layout_found : (bytes : List ℕ) (answer : Result Layout ReadFault) → Gives (layout_of bytes) answer → IfOk answer (LaysOut bytes)
unfolding layout_of
layout_found bytes (Ok layout) given = laid_by bytes (file_at bytes) (file_reads bytes) layout given
layout_found bytes (Err fault) given = tt

pub layout_only : (bytes : List ℕ) (answer : Result Layout ReadFault) → Gives (layout_of bytes) answer → (layout : Layout) → LaysOut bytes layout → Gives (Ok layout) answer
unfolding layout_of
layout_only bytes answer given layout laid_out =
    let file : file_at bytes ≡ Ok (layout, laid_out.0) = (file_reads bytes).again (layout, laid_out.0) laid_out.1 in
    subst (λ (r : Result (Layout × ℕ) ReadFault). Gives (r then (λ file. Ok file.0)) answer) file given

pub layout_faults : (bytes : List ℕ) (answer : Result Layout ReadFault) → Gives (layout_of bytes) answer → IfErr answer (FailsBy (file_format bytes) 0)
unfolding layout_of
layout_faults bytes (Ok layout) given = tt
layout_faults bytes (Err (Broken rule at)) given = failed_by bytes (file_at bytes) (file_reads bytes) (Broken rule at) given
layout_faults bytes (Err Memory) given = tt
