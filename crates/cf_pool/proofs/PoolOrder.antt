-- What is demanded of a constant pool stands in order.
use Rattle.std.proofs.Common.{◌≡◌, ◌+◌, ◌*◌, ℕ, zero, suc, Bool, true, false, eqb, List, [], ◌∷◌, ◌++◌, length, Option, Some, None, refl, sym, ap, ◌∙◌, subst, arith, append_assoc}
use Rattle.std.specs.Prelude.{slice_get}
use Rattle.std.proofs.lemmas.List.{length-append}
use Rattle.cf_pool.specs.declared.pool.MemberKind.{MemberKind}
use Rattle.cf_pool.specs.declared.pool.Entry.{Entry}
use Rattle.cf_pool.specs.declared.layout.Positions.{Positions}
use Rattle.cf_pool.specs.declared.layout.PlacedEntry.{PlacedEntry}
use Rattle.cf_pool.specs.declared.layout.PoolLayout.{PoolLayout}
use Rattle.cf_pool.specs.declared.layout.Shape.{Shape}
use Rattle.cf_pool.specs.declared.layout.Shape.TheVariants as shapes
use Rattle.cf_text.specs.Demands.{Demand, of_each}
use Rattle.cf_pool.specs.PoolFormat.{cell_format, cells_format, class_format, entry_format, integer_format, layout_format, member_format, name_and_type_format, shaped_format, skipped_format, tagged_format, text_format}
use Rattle.cf_pool.specs.Pools.{entry_demands, index_demands, indexed, named, pool_demands, shape_of}
use Rattle.cf_text.proofs.Spans.{Span, span_append, span_high, span_low}

-- ---- the constant pool

slice_at : (front rest : List Entry) (entry : Entry) → slice_get (front ++ entry ∷ rest) (length front) ≡ Some entry
slice_at [] rest entry = refl
slice_at (e ∷ front) rest entry = slice_at front rest entry

index_is : (pool : List Entry) (index : ℕ) (positions : Positions) (entry : Entry) → slice_get pool index ≡ Some entry → index_demands pool index positions ≡ entry_demands pool entry positions
unfolding index_demands
index_is pool index positions entry is = rw is refl

pub named_span : {A : Type 0} (at : ℕ) (found : Option A) (test : A → Bool) → Span (16 * at) (16 * at + 6) (named at found test)
unfolding named
named_span at found test = (omega arith, (omega arith, omega arith))

module _ (bytes : List ℕ) (pool : List Entry) where
  -- of an entry that stands from a position on to another one
  IsSpanned : ℕ → ℕ → PlacedEntry → Type 0
  IsSpanned at to e = Span (16 * at) (16 * to + 6) (entry_demands pool e.entry e.positions)

  text_span : (at to : ℕ) (e : PlacedEntry) → (text_format bytes at).Stands at e to → IsSpanned at to e
  unfolding text_format entry_demands IsSpanned
  text_span at to e stands =
      let count = stands.1.0 in
      let text = stands.2.1.0 in
      let end = stands.2.2.1 in
      subst (IsSpanned at to) (sym stands.2.2.0) (omega (arith, count.end), omega (arith, count.end, text.end, end))

  integer_span : (at to : ℕ) (e : PlacedEntry) → (integer_format bytes at).Stands at e to → IsSpanned at to e
  unfolding integer_format entry_demands IsSpanned
  integer_span at to e stands =
      let bits = stands.1.0 in
      let end = stands.2.1 in
      subst (IsSpanned at to) (sym stands.2.0) (omega (arith, bits.end, end))

  class_span : (at to : ℕ) (e : PlacedEntry) → (class_format bytes at).Stands at e to → IsSpanned at to e
  unfolding class_format entry_demands IsSpanned
  class_span at to e stands =
      let name = stands.1.0 in
      let end = stands.2.1 in
      subst (IsSpanned at to) (sym stands.2.0) (span_high (16 * at) (16 * at + 6) (16 * to + 6) _ (omega (arith, name.end, end)) (named_span at _ _))

  member_span : (kind : MemberKind) (at to : ℕ) (e : PlacedEntry) → (member_format kind bytes at).Stands at e to → IsSpanned at to e
  unfolding member_format entry_demands indexed IsSpanned
  member_span kind at to e stands =
      let class = stands.1.0 in
      let named = stands.2.1.0 in
      let end = stands.2.2.1 in
      subst (IsSpanned at to) (sym stands.2.2.0) (omega arith, (omega (arith, class.end), omega (arith, class.end, named.end, end)))

  name_and_type_span : (at to : ℕ) (e : PlacedEntry) → (name_and_type_format bytes at).Stands at e to → IsSpanned at to e
  unfolding name_and_type_format entry_demands indexed named IsSpanned
  name_and_type_span at to e stands =
      let name = stands.1.0 in
      let descriptor = stands.2.1.0 in
      let end = stands.2.2.1 in
      subst (IsSpanned at to) (sym stands.2.2.0) (omega arith, (omega arith, (omega (arith, name.end), omega (arith, name.end, descriptor.end, end))))

  skipped_span : (n : ℕ) (wide : Bool) (at to : ℕ) (e : PlacedEntry) → (skipped_format n wide bytes at).Stands at e to → IsSpanned at to e
  unfolding skipped_format entry_demands IsSpanned
  skipped_span n wide at to e stands =
      let run = stands.1.0 in
      let end = stands.2.1 in
      subst (IsSpanned at to) (sym stands.2.0) (omega (arith, run.end, end))

  shaped_span : (shape : Shape) (at to : ℕ) (e : PlacedEntry) → (shaped_format shape bytes at).Stands at e to → IsSpanned at to e
  unfolding shaped_format
  shaped_span shapes.Utf8 = text_span
  shaped_span shapes.Integer = integer_span
  shaped_span shapes.Class = class_span
  shaped_span (shapes.Member kind) = member_span kind
  shaped_span shapes.NameAndType = name_and_type_span
  shaped_span (shapes.Skipped n) = skipped_span n false
  shaped_span shapes.Wide = skipped_span 8 true

  tagged_span : (last : Bool) (tag_at : ℕ) (shape : Option Shape) (at to : ℕ) (e : PlacedEntry) → (tagged_format last tag_at shape bytes at).Stands at e to → IsSpanned at to e
  unfolding tagged_format
  tagged_span last tag_at None at to e stands = absurd stands
  tagged_span last tag_at (Some shapes.Wide) at to e stands = shaped_span shapes.Wide at to e stands.1
  tagged_span last tag_at (Some shapes.Utf8) at to e stands = shaped_span shapes.Utf8 at to e stands
  tagged_span last tag_at (Some shapes.Integer) at to e stands = shaped_span shapes.Integer at to e stands
  tagged_span last tag_at (Some shapes.Class) at to e stands = shaped_span shapes.Class at to e stands
  tagged_span last tag_at (Some (shapes.Member kind)) at to e stands = shaped_span (shapes.Member kind) at to e stands
  tagged_span last tag_at (Some shapes.NameAndType) at to e stands = shaped_span shapes.NameAndType at to e stands
  tagged_span last tag_at (Some (shapes.Skipped n)) at to e stands = shaped_span (shapes.Skipped n) at to e stands

  cell_span : (taken last : Bool) (at to : ℕ) (e : PlacedEntry) → (cell_format taken last bytes at).Stands at e to → Span (16 * at + 6) (16 * to + 6) (entry_demands pool e.entry e.positions)
  unfolding cell_format entry_format entry_demands IsSpanned
  cell_span true last at to e stands =
      let end = stands.1 in
      subst (λ (x : PlacedEntry). Span (16 * at + 6) (16 * to + 6) (entry_demands pool x.entry x.positions)) (sym stands.0) (omega (arith, end))
  cell_span false last at to e stands =
      let tag = stands.0 in
      let tag_is = stands.1.0 in
      span_low (16 * at + 6) (16 * tag.1) (16 * to + 6) (entry_demands pool e.entry e.positions) (omega (arith, tag_is.end))
      (tagged_span last at (shape_of tag.0) tag.1 to e stands.2)

  -- the cells after a front of the pool
  cells_span : (n : ℕ) (taken : Bool) (at to : ℕ) (cells : PoolLayout) (front : List Entry) → (cells_format n taken bytes at).Stands at cells to → pool ≡ front ++ cells.pool
      → Span (16 * at + 6) (16 * to + 6) (of_each (index_demands pool) (length front) cells.positions)
  unfolding cells_format of_each
  cells_span zero taken at to cells front stands whole =
      let end = stands.1 in
      subst (λ (c : PoolLayout). Span (16 * at + 6) (16 * to + 6) (of_each (index_demands pool) (length front) c.positions)) (sym stands.0) (omega (arith, end))
  cells_span (suc n) taken at to cells front stands whole =
      let first = stands.0 in
      let others = stands.2.0 in
      let same : cells ≡ record { pool = first.0.entry ∷ others.0.pool; positions = first.0.positions ∷ others.0.positions } = stands.2.2.0 in
      let end : to ≡ others.1 = stands.2.2.1 in
      let pool_is : pool ≡ front ++ first.0.entry ∷ others.0.pool = whole ∙ ap (λ (c : PoolLayout). front ++ c.pool) same in
      let here : slice_get pool (length front) ≡ Some first.0.entry = ap (λ (p : List Entry). slice_get p (length front)) pool_is ∙ slice_at front others.0.pool first.0.entry in
      let next : Span (16 * first.1 + 6) (16 * others.1 + 6) (of_each (index_demands pool) (length (front ++ first.0.entry ∷ [])) others.0.positions) =
      cells_span n first.0.is_wide first.1 others.1 others.0 (front ++ first.0.entry ∷ []) stands.2.1 (pool_is ∙ sym (append_assoc front (first.0.entry ∷ []) others.0.pool)) in
      let index : length (front ++ first.0.entry ∷ []) ≡ length front + 1 = length-append front (first.0.entry ∷ []) in
      let one : Span (16 * at + 6) (16 * first.1 + 6) (index_demands pool (length front) first.0.positions) =
      subst (λ (ds : List Demand). Span (16 * at + 6) (16 * first.1 + 6) ds) (sym (index_is pool (length front) first.0.positions first.0.entry here)) (cell_span taken (eqb n 0) at first.1 first.0 stands.1) in
      subst (λ (c : PoolLayout). Span (16 * at + 6) (16 * to + 6) (of_each (index_demands pool) (length front) c.positions)) (sym same)
      (span_append (16 * at + 6) (16 * first.1 + 6) (16 * to + 6) (index_demands pool (length front) first.0.positions) (of_each (index_demands pool) (length front + 1) others.0.positions) one
      (subst (λ (e : ℕ). Span (16 * first.1 + 6) (16 * e + 6) (of_each (index_demands pool) (length front + 1) others.0.positions)) (sym end)
      (subst (λ (i : ℕ). Span (16 * first.1 + 6) (16 * others.1 + 6) (of_each (index_demands pool) i others.0.positions)) index next)))

pub pool_span : (bytes : List ℕ) (at to : ℕ) (layout : PoolLayout) → (layout_format bytes at).Stands at layout to → Span (16 * at) (16 * to + 6) (pool_demands layout)
unfolding layout_format pool_demands
pool_span bytes at to layout stands =
    let count = stands.0 in
    let count_is = stands.1.0 in
    span_low (16 * at) (16 * count.1 + 6) (16 * to + 6) (of_each (index_demands layout.pool) 0 layout.positions) (omega (arith, count_is.end))
    (cells_span bytes layout.pool count.0 true count.1 to layout [] stands.2.1 refl)
