-- The demands of members and attributes lie within the positions of these.
use Rattle.std.proofs.Common.{◌≡◌, ◌+◌, ◌*◌, ◌≤◌, ◌⊎◌, ◌||◌, ℕ, zero, suc, Bool, true, false, cond, List, [], ◌∷◌, ◌++◌, length, take, Option, Result, Ok, Err, codes, refl, sym, ap, ◌∙◌, subst, inl, inr, arith}
use Rattle.std.proofs.lemmas.Bool.{eqb-true}
use Rattle.std.proofs.lemmas.List.{length-take}
use Rattle.cf_text.specs.declared.fault.Rule.{Rule}
use Rattle.cf_text.specs.declared.fault.Rule.TheVariants as rules
use Rattle.cf_text.specs.declared.fault.ReadFault.{ReadFault}
use Rattle.cf_text.specs.declared.fault.ReadFault.TheVariants.{Broken, Memory}
use Rattle.cf_pool.specs.declared.pool.Entry.{Entry}
use Rattle.cf_text.specs.Demands.{Demand, of_read}
use Rattle.cf_text.specs.Formats.{many_format}
use Rattle.cf_text.specs.Looks.{Finds}
use Rattle.cf_pool.specs.Pools.{indexed, integer_at, utf8_at}
use Rattle.cf_layout.specs.declared.items.Item.{Item}
use Rattle.cf_layout.specs.declared.items.Attribute.{Attribute}
use Rattle.cf_layout.specs.declared.items.CodeHead.{CodeHead}
use Rattle.cf_layout.specs.declared.items.CodeLayout.{CodeLayout}
use Rattle.cf_reader.specs.declared.attributes.Known.{Known}
use Rattle.cf_reader.specs.declared.attributes.Known.TheVariants as known
use Rattle.cf_layout.specs.FileFormat.{attribute_format, attributes_format, item_format}
use Rattle.cf_layout.specs.CodeFormat.{AreInsides, Insides, code_head_look, code_inside, code_look, code_rest_look, constant_inside, constant_look, table_look}
use Rattle.cf_reader.specs.Checks.{attribute_demands, code_demands, is_known, is_named, known_demands, method_attribute_demands, one_attribute, plain_demands}
use Rattle.cf_reader.specs.Profile.{handlers_in_profile}
use Rattle.cf_text.specs.Order.{number_of}
use Rattle.cf_text.proofs.Spans.{Span, span_append, span_low}

-- ---- the positions of items and attributes

pub record IsPlacedItem (bytes : List ℕ) (at to : ℕ) (item : Item) : Type 0 where
  pub at_is : item.at ≡ at
  pub to_is : to ≡ at + 2
  pub inside : to ≤ length bytes

pub item_placed : (bytes : List ℕ) (at to : ℕ) (item : Item) → (item_format bytes at).Stands at item to → IsPlacedItem bytes at to item
unfolding item_format
item_placed bytes at to item stands =
    let number = stands.1.0 in
    let same = stands.2.0 in
    let end = stands.2.1 in
    record { at_is = ap (λ (i : Item). i.at) same; to_is = end ∙ number.end; inside = subst (λ (e : ℕ). e ≤ length bytes) (sym end) number.inside }

pub record IsPlaced (bytes : List ℕ) (at to : ℕ) (attribute : Attribute) : Type 0 where
  pub at_is : attribute.name.at ≡ at
  pub body_is : attribute.body ≡ at + 6
  pub end_is : attribute.end ≡ to
  pub holds : at + 6 ≤ to
  pub inside : to ≤ length bytes

pub attribute_placed : (bytes : List ℕ) (at to : ℕ) (attribute : Attribute) → (attribute_format bytes at).Stands at attribute to → IsPlaced bytes at to attribute
unfolding attribute_format
attribute_placed bytes at to attribute stands =
    let name = stands.0 in
    let name_is = item_placed bytes at name.1 name.0 stands.1 in
    let length_is = stands.2.1.0 in
    let body = stands.2.0 in
    let inside = stands.2.2.0 in
    let inside_is = stands.2.2.1.0 in
    let same = stands.2.2.2.0 in
    let end = stands.2.2.2.1 in
    let body_end : body.1 ≡ at + 6 = omega (arith, name_is.to_is, length_is.end) in
    record {
      at_is = ap (λ (a : Attribute). a.name.at) same ∙ name_is.at_is;
      body_is = ap (λ (a : Attribute). a.body) same ∙ body_end;
      end_is = ap (λ (a : Attribute). a.end) same ∙ sym end;
      holds = omega (arith, body_end, inside_is.end, end);
      inside = omega (arith, inside_is.inside, end);
    }

-- ---- attributes

pub index_span : {A : Type 0} (at : ℕ) (found : Option A) → Span (16 * at) (16 * at + 6) (indexed at found)
unfolding indexed
index_span at found = (omega arith, omega arith)

module _ (bytes : List ℕ) (pool : List Entry) (is_kind : Attribute → Bool) (inside : Attribute → List Demand)
    (inside_span : (at to : ℕ) (a : Attribute) → IsPlaced bytes at to a → Span (16 * at + 10) (16 * to) (inside a)) where
  kind_span : (at to : ℕ) (a : Attribute) → IsPlaced bytes at to a → (kind seen : Bool)
      → Span (16 * at + 6) (16 * to) (cond kind (cond seen (record { at = a.name.at; rule = rules.Duplicate; holds = false } ∷ []) (inside a)) [])
  kind_span at to a placed false seen = omega (arith, placed.holds)
  kind_span at to a placed true true = (omega (arith, placed.at_is), omega (arith, placed.at_is, placed.holds))
  kind_span at to a placed true false = span_low (16 * at + 6) (16 * at + 10) (16 * to) (inside a) (omega arith) (inside_span at to a placed)

  one_span : (at to : ℕ) (a : Attribute) (seen : Bool) → IsPlaced bytes at to a → Span (16 * at) (16 * to) (one_attribute pool is_kind inside seen a)
  unfolding one_attribute
  one_span at to a seen placed =
      let name : Span (16 * at) (16 * at + 6) (indexed a.name.at (utf8_at pool a.name.value)) =
      subst (λ (n : ℕ). Span (16 * at) (16 * at + 6) (indexed n (utf8_at pool a.name.value))) (sym placed.at_is) (index_span at (utf8_at pool a.name.value)) in
      span_append (16 * at) (16 * at + 6) (16 * to) (indexed a.name.at (utf8_at pool a.name.value)) _ name (kind_span at to a placed (is_kind a) seen)

  all_span : (n at to : ℕ) (seen : Bool) (attributes : List Attribute) → (many_format (attribute_format bytes) n at).Stands at attributes to
      → Span (16 * at) (16 * to) (attribute_demands pool is_kind inside seen attributes)
  unfolding attribute_demands
  all_span zero at to seen attributes stands =
      let none = stands.0 in
      let end = stands.1 in
      subst (λ (l : List Attribute). Span (16 * at) (16 * to) (attribute_demands pool is_kind inside seen l)) (sym none) (omega (arith, end))
  all_span (suc n) at to seen attributes stands =
      let first = stands.0 in
      let others = stands.2.0 in
      let same : attributes ≡ first.0 ∷ others.0 = stands.2.2.0 in
      let end : to ≡ others.1 = stands.2.2.1 in
      subst (λ (l : List Attribute). Span (16 * at) (16 * to) (attribute_demands pool is_kind inside seen l)) (sym same)
      (span_append (16 * at) (16 * first.1) (16 * to) (one_attribute pool is_kind inside seen first.0) (attribute_demands pool is_kind inside (seen || is_kind first.0) others.0)
      (one_span at first.1 first.0 seen (attribute_placed bytes at first.1 first.0 stands.1))
      (subst (λ (e : ℕ). Span (16 * first.1) (16 * e) (attribute_demands pool is_kind inside (seen || is_kind first.0) others.0)) (sym end)
      (all_span n first.1 others.1 (seen || is_kind first.0) others.0 stands.2.1)))

  pub attributes_span : (at to : ℕ) (attributes : List Attribute) → (attributes_format bytes at).Stands at attributes to
      → Span (16 * at) (16 * to) (attribute_demands pool is_kind inside false attributes)
  unfolding attributes_format
  attributes_span at to attributes stands =
      let count = stands.0 in
      let count_is = stands.1.0 in
      span_low (16 * at) (16 * count.1) (16 * to) (attribute_demands pool is_kind inside false attributes) (omega (arith, count_is.end)) (all_span count.0 count.1 to false attributes stands.2)

-- ---- what stands inside them

-- a fault of what fills an attribute
filling_span : (bytes : List ℕ) (at to : ℕ) (a : Attribute) → IsPlaced bytes at to a → (rule : Rule) (position : ℕ) → rule ≡ rules.AttributeLength → position ≡ a.name.at
    → Span (16 * at + 10) (16 * to) (record { at = position; rule = rule; holds = false } ∷ [])
filling_span bytes at to a placed rule position rule_is position_is =
    let is_rule : number_of rule ≡ 10 = ap number_of rule_is in
    let is_position : position ≡ at = position_is ∙ placed.at_is in
    (omega (arith, is_rule, is_position), omega (arith, is_rule, is_position, placed.holds))

constant_by : (bytes : List ℕ) (pool : List Entry) (at to : ℕ) (a : Attribute) → IsPlaced bytes at to a → (r : Result Item ReadFault) → Finds (constant_look bytes a) r
    → Span (16 * at + 10) (16 * to) (of_read r (λ index. indexed index.at (integer_at pool index.value)))
unfolding constant_look constant_inside indexed
constant_by bytes pool at to a placed (Ok index) finds =
    let item = finds.0 in
    let item_is = item_placed (take a.end bytes) a.body item.1 item.0 finds.1 in
    let end : item.1 ≡ a.end = eqb-true item.1 a.end finds.2.1 in
    let index_at : index.at ≡ a.body = ap (λ (i : Item). i.at) finds.2.2 ∙ item_is.at_is in
    (omega (arith, index_at, placed.body_is), omega (arith, index_at, placed.body_is, placed.end_is, item_is.to_is, end))
constant_by bytes pool at to a placed (Err (Broken rule position)) finds = filling_span bytes at to a placed rule position finds.0 finds.1
constant_by bytes pool at to a placed (Err Memory) finds = absurd finds

table_by : (bytes : List ℕ) (at to : ℕ) (a : Attribute) → IsPlaced bytes at to a → (whole : List ℕ) (r : Result (Unit {0}) ReadFault) → Finds (table_look whole a) r
    → Span (16 * at + 10) (16 * to) (of_read r (λ _. []))
unfolding table_look
table_by bytes at to a placed whole (Ok x) finds = omega (arith, placed.holds)
table_by bytes at to a placed whole (Err (Broken rule position)) finds = filling_span bytes at to a placed rule position finds.0 finds.1
table_by bytes at to a placed whole (Err Memory) finds = absurd finds

-- a Code's head lies in front
head_ends : (bytes : List ℕ) (at : ℕ) (head : CodeHead) → (code_head_look bytes at).Is head → (head.length_at ≡ at + 4) × (head.code ≡ at + 8) × (at + 8 ≤ length bytes)
unfolding code_head_look
head_ends bytes at head is =
    let stack = is.1.0 in
    let locals = is.2.1.0 in
    let size = is.2.2.1.0 in
    let same = is.2.2.2 in (
      ap (λ (h : CodeHead). h.length_at) same ∙ omega (arith, stack.end, locals.end),
      ap (λ (h : CodeHead). h.code) same ∙ omega (arith, stack.end, locals.end, size.end),
      omega (arith, stack.end, locals.end, size.end, size.inside),
    )

-- and its attributes up to its end, after the count of its handlers
pub record IsPlacedCode (bytes : List ℕ) (from end : ℕ) (code : CodeLayout) : Type 0 where
  pub attributes_at : ℕ
  pub count_at : from ≤ code.handler_count.at
  pub following : code.handler_count.at + 2 ≤ attributes_at
  pub attributes : (attributes_format bytes attributes_at).Stands attributes_at code.attributes end

code_placed : (bytes : List ℕ) (head : CodeHead) (end : ℕ) (code : CodeLayout) → (code_inside bytes head end).Is code → IsPlacedCode bytes head.code end code
unfolding code_inside code_rest_look
code_placed bytes head end code is =
    let rest = is.0 in
    let code_end = is.1.0 in
    let code_end_is = is.1.1 in
    let count = is.1.2.0 in
    let count_is = item_placed bytes code_end count.1 count.0 is.1.2.1 in
    let after = is.1.2.2.0 in
    let after_is = is.1.2.2.1 in
    let attributes = is.1.2.2.2.0 in
    let attributes_is = is.1.2.2.2.1 in
    let rest_is : ◌≡◌ {A = CodeLayout × ℕ} rest (record { head = head; code_end = code_end; handler_count = count.0; attributes = attributes.0 }, attributes.1) = is.1.2.2.2.2 in
    let code_is : code ≡ rest.0 = is.2.2 in
    let at_end : attributes.1 ≡ end = sym (ap (λ (r : CodeLayout × ℕ). r.1) rest_is) ∙ eqb-true rest.1 end is.2.1 in
    let whole : code ≡ record { head = head; code_end = code_end; handler_count = count.0; attributes = attributes.0 } = code_is ∙ ap (λ (r : CodeLayout × ℕ). r.0) rest_is in
    let count_at : code.handler_count.at ≡ code_end = ap (λ (c : CodeLayout). c.handler_count.at) whole ∙ count_is.at_is in
    record {
      attributes_at = after;
      count_at = omega (arith, count_at, code_end_is.end);
      following = omega (arith, count_at, count_is.to_is, after_is.end);
      attributes = subst (λ (l : List Attribute). (attributes_format bytes after).Stands after l end) (sym (ap (λ (c : CodeLayout). c.attributes) whole))
          (subst (λ (e : ℕ). (attributes_format bytes after).Stands after attributes.0 e) at_end attributes_is);
    }

module _ (whole : List ℕ) (pool : List Entry) (insides : Insides) (are : AreInsides whole insides) where
  pub known_span : (bytes : List ℕ) (kind : Known) → (bytes ≡ whole) ⊎ (kind ≡ known.StackMapTable) → (at to : ℕ) (a : Attribute) → IsPlaced bytes at to a
      → Span (16 * at + 10) (16 * to) (known_demands insides pool kind a)
  unfolding known_demands
  known_span bytes known.Nothing same at to a placed = omega (arith, placed.holds)
  known_span bytes known.ConstantValue same at to a placed =
      elim same [
        | inl e ↦ constant_by whole pool at to a (subst (λ (b : List ℕ). IsPlaced b at to a) e placed) (insides.constant a) (are.constants a)
        | inr other ↦ absurd cc
      ]
  known_span bytes known.StackMapTable same at to a placed = table_by bytes at to a placed whole (insides.table a) (are.tables a)

  code_by : (at to : ℕ) (a : Attribute) → IsPlaced whole at to a → (r : Result CodeLayout ReadFault) → Finds (code_look whole a) r
      → Span (16 * at + 10) (16 * to)
      (of_read r (λ code. (record { at = code.handler_count.at; rule = rules.OutOfProfile; holds = handlers_in_profile code.handler_count.value } ∷ []) ++ plain_demands insides pool known.StackMapTable code.attributes))
  unfolding code_look plain_demands
  code_by at to a placed (Ok code) finds =
      let head = finds.0 in
      let ends = head_ends (take a.end whole) a.body head finds.1 in
      let inside = code_placed (take a.end whole) head a.end code finds.2.2 in
      let attributes = attributes_span (take a.end whole) pool (is_known pool known.StackMapTable) (known_demands insides pool known.StackMapTable)
      (known_span (take a.end whole) known.StackMapTable (inr refl)) inside.attributes_at a.end code.attributes inside.attributes in (
        omega (arith, placed.body_is, ends.1, inside.count_at),
        span_low (16 * code.handler_count.at + 13) (16 * inside.attributes_at) (16 * to) (attribute_demands pool (is_known pool known.StackMapTable) (known_demands insides pool known.StackMapTable) false code.attributes) (omega (arith, inside.following))
            (subst (λ (e : ℕ). Span (16 * inside.attributes_at) (16 * e) (attribute_demands pool (is_known pool known.StackMapTable) (known_demands insides pool known.StackMapTable) false code.attributes)) placed.end_is attributes),
      )
  code_by at to a placed (Err (Broken rule position)) finds =
      elim finds [
        | inl failed ↦ filling_span whole at to a placed rule position failed.0 failed.1
        | inr later ↦ elim later.2 [
          | inl wrong ↦ (let ends = head_ends (take a.end whole) a.body later.0 later.1 in
              let is_rule : number_of rule ≡ 9 = ap number_of wrong.1 in
              let is_position : position ≡ a.body + 4 = wrong.2 ∙ ends.0 in
              (omega (arith, is_rule, is_position, placed.body_is), omega (arith, is_rule, is_position, placed.body_is, placed.end_is, ends.2, length-take a.end whole)))
          | inr following ↦ filling_span whole at to a placed rule position following.2.0 following.2.1
        ]
      ]
  code_by at to a placed (Err Memory) finds = absurd finds

  pub code_span : (at to : ℕ) (a : Attribute) → IsPlaced whole at to a → Span (16 * at + 10) (16 * to) (code_demands insides pool a)
  unfolding code_demands
  code_span at to a placed = code_by at to a placed (insides.code a) (are.codes a)

  pub plain_span : (kind : Known) (at to : ℕ) (attributes : List Attribute) → (attributes_format whole at).Stands at attributes to → Span (16 * at) (16 * to) (plain_demands insides pool kind attributes)
  unfolding plain_demands
  plain_span kind = attributes_span whole pool (is_known pool kind) (known_demands insides pool kind) (known_span whole kind (inl refl))

  pub method_attributes_span : (at to : ℕ) (attributes : List Attribute) → (attributes_format whole at).Stands at attributes to
      → Span (16 * at) (16 * to) (method_attribute_demands insides pool attributes)
  unfolding method_attribute_demands
  method_attributes_span = attributes_span whole pool (is_named pool (codes "Code")) (code_demands insides pool) code_span
