-- What is demanded of a class file stands in order.
use Rattle.std.proofs.Common.{◌≡◌, ◌+◌, ◌*◌, ◌≤◌, ◌&&◌, ◌||◌, ℕ, Bool, not, List, ◌++◌, take, Option, Some, None, Result, Ok, Err, refl, sym, ap, ◌∙◌, subst, arith}
use Rattle.std.specs.Prelude.{is_none}
use Rattle.cf_text.specs.declared.fault.Rule.TheVariants as rules
use Rattle.cf_text.specs.declared.fault.ReadFault.{ReadFault}
use Rattle.cf_text.specs.declared.fault.ReadFault.TheVariants.{Broken, Memory}
use Rattle.cf_pool.specs.declared.pool.Entry.{Entry}
use Rattle.cf_text.specs.Demands.{Demand, of_each, of_read, of_some}
use Rattle.cf_text.specs.Descriptors.{IsFieldType, IsMethodType, spelling}
use Rattle.cf_text.specs.Looks.{Tells}
use Rattle.cf_text.specs.Names.{is_method_name, is_name}
use Rattle.cf_pool.specs.Pools.{class_at, indexed, named, pool_demands, utf8_at}
use Rattle.cf_text.specs.Types.{field_descriptor_of, method_descriptor_of}
use Rattle.cf_text.proofs.DescriptorLaws.{field_descriptor_tells, method_descriptor_tells}
use Rattle.cf_reader.specs.declared.flags.TheConstants.Flags.{STATIC}
use Rattle.cf_layout.specs.declared.items.Item.{Item}
use Rattle.cf_layout.specs.declared.items.Attribute.{Attribute}
use Rattle.cf_layout.specs.declared.items.Member.{Member}
use Rattle.cf_layout.specs.declared.items.Layout.{Layout}
use Rattle.cf_reader.specs.declared.attributes.Known.TheVariants as known
use Rattle.cf_reader.specs.Rules.{has}
use Rattle.cf_reader.specs.Profile.{is_profile_type, method_name_in_profile, method_type_in_profile}
use Rattle.cf_layout.specs.FileFormat.{LaysOut, attributes_format, body_format, file_format, member_format}
use Rattle.cf_layout.specs.CodeFormat.{AreInsides, Insides}
use Rattle.cf_reader.specs.Checks.{are_few, class_flag_demands, class_index_demands, demand, demands, field_demands, field_demands_if, field_descriptor_demands, field_flag_demands, field_known, field_type_demands, fields_demands, flag_demands, head_demands, interfaces_demands, is_initializer, method_attribute_demands, method_demands, method_demands_if, method_descriptor_demands, method_flag_demands, method_name_demands, method_type_demands, methods_demands, plain_demands}
use Rattle.cf_descriptors.specs.MemberKeys.{occurs}
use Rattle.cf_text.specs.Order.{Rises, number_of}
use Rattle.cf_reader.specs.Spells.{AreDemands}
use Rattle.cf_text.proofs.Spans.{Span, many_span, span_append, span_high, span_low, span_rises}
use Rattle.cf_reader.proofs.PlacedLaws.{index_span, item_placed, method_attributes_span, plain_span}
use Rattle.cf_pool.proofs.PoolOrder.{named_span, pool_span}

-- ---- parts

-- what may be found
some_span : {A : Type 0} (low high : ℕ) (o : Option A) (inside : A → List Demand) → low ≤ high → ((x : A) → Span low high (inside x)) → Span low high (of_some o inside)
some_span low high (Some x) inside le span = span x
some_span low high None inside le span = le

-- what a descriptor's text says
read_span : {A : Type 0} (Is : List ℕ → A → Type 0) (at : ℕ) (text : List ℕ) (r : Result A ReadFault) (inside : A → List Demand) → Tells r (spelling Is at text)
    → ((x : A) → Span (16 * at + 7) (16 * at + 13) (inside x)) → Span (16 * at + 6) (16 * at + 13) (of_read r inside)
read_span Is at text (Ok x) inside tells span = span_low (16 * at + 6) (16 * at + 7) (16 * at + 13) (inside x) (omega arith) (span x)
read_span Is at text (Err (Broken rule position)) inside tells span =
    let fails = tells.fails rule position refl in
    let is_rule : number_of rule ≡ 7 = ap number_of fails.0 in
    let is_position : position ≡ at = fails.1 in
    (omega (arith, is_rule, is_position), omega (arith, is_rule, is_position))
read_span Is at text (Err Memory) inside tells span = omega arith

flags_span : (at : ℕ) (fit new in_profile : Bool) → Span (16 * at) (16 * at + 13) (flag_demands at fit new in_profile)
unfolding flag_demands
flags_span at fit new in_profile = (omega arith, (omega arith, (omega arith, omega arith)))

-- ---- members

pub record IsPlacedMember (bytes : List ℕ) (at to : ℕ) (member : Member) : Type 0 where
  pub flags_at : member.flags.at ≡ at
  pub name_at : member.name.at ≡ at + 2
  pub descriptor_at : member.descriptor.at ≡ at + 4
  pub following : ℕ
  pub following_is : following ≡ at + 6
  pub attributes : (attributes_format bytes following).Stands following member.attributes to

member_placed : (bytes : List ℕ) (at to : ℕ) (member : Member) → (member_format bytes at).Stands at member to → IsPlacedMember bytes at to member
unfolding member_format
member_placed bytes at to member stands =
    let flags = stands.0 in
    let flags_is = item_placed bytes at flags.1 flags.0 stands.1 in
    let name = stands.2.0 in
    let name_is = item_placed bytes flags.1 name.1 name.0 stands.2.1 in
    let descriptor = stands.2.2.0 in
    let descriptor_is = item_placed bytes name.1 descriptor.1 descriptor.0 stands.2.2.1 in
    let attributes = stands.2.2.2.0 in
    let attributes_is = stands.2.2.2.1 in
    let same : member ≡ record { flags = flags.0; name = name.0; descriptor = descriptor.0; attributes = attributes.0 } = stands.2.2.2.2.0 in
    let end : to ≡ attributes.1 = stands.2.2.2.2.1 in
    record {
      flags_at = ap (λ (m : Member). m.flags.at) same ∙ flags_is.at_is;
      name_at = ap (λ (m : Member). m.name.at) same ∙ omega (arith, name_is.at_is, flags_is.to_is);
      descriptor_at = ap (λ (m : Member). m.descriptor.at) same ∙ omega (arith, descriptor_is.at_is, name_is.to_is, flags_is.to_is);
      following = descriptor.1;
      following_is = omega (arith, descriptor_is.to_is, name_is.to_is, flags_is.to_is);
      attributes = subst (λ (l : List Attribute). (attributes_format bytes descriptor.1).Stands descriptor.1 l to) (sym (ap (λ (m : Member). m.attributes) same))
          (subst (λ (e : ℕ). (attributes_format bytes descriptor.1).Stands descriptor.1 attributes.0 e) (sym end) attributes_is);
    }

field_type_span : (at : ℕ) (text : List ℕ) → Span (16 * at + 6) (16 * at + 13) (field_type_demands at text)
unfolding field_type_demands
field_type_span at text =
    read_span IsFieldType at text (field_descriptor_of at text) (λ type. demand at rules.OutOfProfile (is_profile_type type)) (field_descriptor_tells at text) (λ type. (omega arith, omega arith))

field_descriptor_span : (pool : List Entry) (item : Item) → Span (16 * item.at) (16 * item.at + 13) (field_descriptor_demands pool item)
unfolding field_descriptor_demands
field_descriptor_span pool item =
    span_append (16 * item.at) (16 * item.at + 6) (16 * item.at + 13) (indexed item.at (utf8_at pool item.value)) (of_some (utf8_at pool item.value) (field_type_demands item.at))
    (index_span item.at (utf8_at pool item.value)) (some_span (16 * item.at + 6) (16 * item.at + 13) (utf8_at pool item.value) (field_type_demands item.at) (omega arith) (field_type_span item.at))

method_type_span : (at : ℕ) (static initializer : Bool) (text : List ℕ) → Span (16 * at + 6) (16 * at + 13) (method_type_demands at static initializer text)
unfolding method_type_demands
method_type_span at static initializer text =
    read_span IsMethodType at text (method_descriptor_of at text)
    (λ type. demand at rules.Descriptor (are_few static type.parameters && (not initializer || is_none type.result)) ++ demand at rules.OutOfProfile (method_type_in_profile type))
    (method_descriptor_tells at text) (λ type. (omega arith, (omega arith, omega arith)))

method_descriptor_span : (pool : List Entry) (method : Member) → Span (16 * method.descriptor.at) (16 * method.descriptor.at + 13) (method_descriptor_demands pool method)
unfolding method_descriptor_demands
method_descriptor_span pool method =
    let at = method.descriptor.at in
    let text = utf8_at pool method.descriptor.value in
    let inside = method_type_demands at (has method.flags.value STATIC) (is_initializer pool method.name) in
    span_append (16 * at) (16 * at + 6) (16 * at + 13) (indexed at text) (of_some text inside) (index_span at text)
    (some_span (16 * at + 6) (16 * at + 13) text inside (omega arith) (method_type_span at (has method.flags.value STATIC) (is_initializer pool method.name)))

method_name_span : (pool : List Entry) (item : Item) → Span (16 * item.at) (16 * item.at + 13) (method_name_demands pool item)
unfolding method_name_demands
method_name_span pool item =
    let text = utf8_at pool item.value in
    let inside : List ℕ → List Demand = λ name. demand item.at rules.OutOfProfile (method_name_in_profile name) in
    span_append (16 * item.at) (16 * item.at + 6) (16 * item.at + 13) (named item.at text is_method_name) (of_some text inside) (named_span item.at text is_method_name)
    (some_span (16 * item.at + 6) (16 * item.at + 13) text inside (omega arith) (λ name. (omega arith, omega arith)))

-- four parts of a member, each at the position of its item
member_span : (bytes : List ℕ) (at to : ℕ) (member : Member) → IsPlacedMember bytes at to member → (flags name descriptor attributes : List Demand)
    → Span (16 * member.flags.at) (16 * member.flags.at + 13) flags → Span (16 * member.name.at) (16 * member.name.at + 13) name
    → Span (16 * member.descriptor.at) (16 * member.descriptor.at + 13) descriptor
    → ((from : ℕ) → (attributes_format bytes from).Stands from member.attributes to → Span (16 * from) (16 * to) attributes)
    → Span (16 * at) (16 * to) (((flags ++ name) ++ descriptor) ++ attributes)
member_span bytes at to member placed flags name descriptor attributes one two three four =
    let a = span_low (16 * at) (16 * member.flags.at) (16 * member.flags.at + 13) flags (omega (arith, placed.flags_at)) one in
    let b = span_low (16 * member.flags.at + 13) (16 * member.name.at) (16 * member.name.at + 13) name (omega (arith, placed.flags_at, placed.name_at)) two in
    let c = span_low (16 * member.name.at + 13) (16 * member.descriptor.at) (16 * member.descriptor.at + 13) descriptor (omega (arith, placed.name_at, placed.descriptor_at)) three in
    let d = span_low (16 * member.descriptor.at + 13) (16 * placed.following) (16 * to) attributes (omega (arith, placed.descriptor_at, placed.following_is)) (four placed.following placed.attributes) in
    span_append (16 * at) (16 * member.descriptor.at + 13) (16 * to) ((flags ++ name) ++ descriptor) attributes
    (span_append (16 * at) (16 * member.name.at + 13) (16 * member.descriptor.at + 13) (flags ++ name) descriptor
    (span_append (16 * at) (16 * member.flags.at + 13) (16 * member.name.at + 13) flags name a b) c) d

module _ (bytes : List ℕ) (pool : List Entry) (insides : Insides) (are : AreInsides bytes insides) where
  field_flags_span : (class : ℕ) (new : Bool) (member : Member) → Span (16 * member.flags.at) (16 * member.flags.at + 13) (field_flag_demands pool class new member)
  unfolding field_flag_demands
  field_flags_span class new member = flags_span member.flags.at _ _ _

  method_flags_span : (class : ℕ) (new : Bool) (member : Member) → Span (16 * member.flags.at) (16 * member.flags.at + 13) (method_flag_demands pool class new member)
  unfolding method_flag_demands
  method_flags_span class new member = flags_span member.flags.at _ _ _

  field_span : (class : ℕ) (fields : List Member) (index at to : ℕ) (member : Member) → (member_format bytes at).Stands at member to
      → Span (16 * at) (16 * to) (field_demands insides pool class fields index member)
  unfolding field_demands_if
  field_span class fields index at to member stands =
      let text = utf8_at pool member.name.value in
      member_span bytes at to member (member_placed bytes at to member stands) (field_flag_demands pool class (not (occurs pool (take index fields) member)) member) (named member.name.at text is_name) (field_descriptor_demands pool member.descriptor)
      (plain_demands insides pool (field_known member.flags.value) member.attributes) (field_flags_span class (not (occurs pool (take index fields) member)) member)
      (span_high (16 * member.name.at) (16 * member.name.at + 6) (16 * member.name.at + 13) (named member.name.at text is_name) (omega arith) (named_span member.name.at text is_name))
      (field_descriptor_span pool member.descriptor) (λ from there. plain_span bytes pool insides are (field_known member.flags.value) from to member.attributes there)

  method_span : (class : ℕ) (methods : List Member) (index at to : ℕ) (member : Member) → (member_format bytes at).Stands at member to
      → Span (16 * at) (16 * to) (method_demands insides pool class methods index member)
  unfolding method_demands_if
  method_span class methods index at to member stands =
      member_span bytes at to member (member_placed bytes at to member stands) (method_flag_demands pool class (not (occurs pool (take index methods) member)) member) (method_name_demands pool member.name) (method_descriptor_demands pool member)
      (method_attribute_demands insides pool member.attributes) (method_flags_span class (not (occurs pool (take index methods) member)) member) (method_name_span pool member.name)
      (method_descriptor_span pool member) (λ from there. method_attributes_span bytes pool insides are from to member.attributes there)

-- ---- the class

class_index_span : (pool : List Entry) (item : Item) → Span (16 * item.at) (16 * item.at + 6) (class_index_demands pool item)
unfolding class_index_demands
class_index_span pool item = named_span item.at (class_at pool item.value) _

super_span : (pool : List Entry) (item : Item) → Span (16 * item.at) (16 * item.at + 13) (class_index_demands pool item)
super_span pool item = span_high (16 * item.at) (16 * item.at + 6) (16 * item.at + 13) (class_index_demands pool item) (omega arith) (class_index_span pool item)

class_flags_span : (item : Item) → Span (16 * item.at + 8) (16 * item.at + 13) (class_flag_demands item)
unfolding class_flag_demands
class_flags_span item = (omega arith, (omega arith, omega arith))

-- a number of items, and the items
counted_span : (at from to : ℕ) (ds : List Demand) → from ≡ at + 2 → Span (16 * from) (16 * to) ds → Span (16 * at) (16 * to) ds
counted_span at from to ds following span = span_low (16 * at) (16 * from) (16 * to) ds (omega (arith, following)) span

body_span : (bytes : List ℕ) (insides : Insides) → AreInsides bytes insides → (at to : ℕ) (layout : Layout) → (body_format bytes at).Stands at layout to
    → Span (16 * at) (16 * to) (demands insides layout)
unfolding body_format demands head_demands interfaces_demands fields_demands methods_demands
body_span bytes insides are at to layout stands =
    let pool = stands.0 in
    let entries = pool.0.pool in
    let flags = stands.2.0 in
    let f = item_placed bytes pool.1 flags.1 flags.0 stands.2.1 in
    let this = stands.2.2.0 in
    let t = item_placed bytes flags.1 this.1 this.0 stands.2.2.1 in
    let super = stands.2.2.2.0 in
    let s = item_placed bytes this.1 super.1 super.0 stands.2.2.2.1 in
    let interface_count = stands.2.2.2.2.0 in
    let ic = item_placed bytes super.1 interface_count.1 interface_count.0 stands.2.2.2.2.1 in
    let interfaces = stands.2.2.2.2.2.0 in
    let interfaces_are = stands.2.2.2.2.2.1 in
    let field_count = stands.2.2.2.2.2.2.0 in
    let fc = item_placed bytes interfaces.1 field_count.1 field_count.0 stands.2.2.2.2.2.2.1 in
    let fields = stands.2.2.2.2.2.2.2.0 in
    let fields_are = stands.2.2.2.2.2.2.2.1 in
    let method_count = stands.2.2.2.2.2.2.2.2.0 in
    let mc = item_placed bytes fields.1 method_count.1 method_count.0 stands.2.2.2.2.2.2.2.2.1 in
    let methods = stands.2.2.2.2.2.2.2.2.2.0 in
    let methods_are = stands.2.2.2.2.2.2.2.2.2.1 in
    let attributes = stands.2.2.2.2.2.2.2.2.2.2.0 in
    let attributes_are = stands.2.2.2.2.2.2.2.2.2.2.1 in
    let same = stands.2.2.2.2.2.2.2.2.2.2.2.0 in
    let end : to ≡ attributes.1 = stands.2.2.2.2.2.2.2.2.2.2.2.1 in
    let class = flags.0.value in
    let a1 = pool_span bytes at pool.1 pool.0 stands.1 in
    let a2 = span_low (16 * pool.1 + 6) (16 * flags.0.at + 8) (16 * flags.0.at + 13) (class_flag_demands flags.0) (omega (arith, f.at_is)) (class_flags_span flags.0) in
    let a3 = span_low (16 * flags.0.at + 13) (16 * this.0.at) (16 * this.0.at + 6) (class_index_demands entries this.0) (omega (arith, f.at_is, f.to_is, t.at_is)) (class_index_span entries this.0) in
    let a4 = span_low (16 * this.0.at + 6) (16 * super.0.at) (16 * super.0.at + 13) (class_index_demands entries super.0) (omega (arith, t.at_is, t.to_is, s.at_is)) (super_span entries super.0) in
    let head = span_append (16 * at) (16 * this.0.at + 6) (16 * super.0.at + 13) ((pool_demands pool.0 ++ class_flag_demands flags.0) ++ class_index_demands entries this.0) (class_index_demands entries super.0)
    (span_append (16 * at) (16 * flags.0.at + 13) (16 * this.0.at + 6) (pool_demands pool.0 ++ class_flag_demands flags.0) (class_index_demands entries this.0)
    (span_append (16 * at) (16 * pool.1 + 6) (16 * flags.0.at + 13) (pool_demands pool.0) (class_flag_demands flags.0) a1 a2) a3) a4 in
    let i = counted_span interface_count.0.at interface_count.1 interfaces.1 (of_each (λ index interface. class_index_demands entries interface) 0 interfaces.0)
    (omega (arith, ic.at_is, ic.to_is))
    (many_span _ (λ index interface. class_index_demands entries interface) (λ index from following item there. let placed = item_placed bytes from following item there in
    span_low (16 * from) (16 * item.at) (16 * following) (class_index_demands entries item) (omega (arith, placed.at_is))
    (span_high (16 * item.at) (16 * item.at + 6) (16 * following) (class_index_demands entries item) (omega (arith, placed.at_is, placed.to_is)) (class_index_span entries item)))
    interface_count.0.value interface_count.1 interfaces.1 0 interfaces.0 interfaces_are) in
    let fs = counted_span field_count.0.at field_count.1 fields.1 (of_each (field_demands insides entries class fields.0) 0 fields.0) (omega (arith, fc.at_is, fc.to_is))
    (many_span _ (field_demands insides entries class fields.0) (field_span bytes entries insides are class fields.0) field_count.0.value field_count.1 fields.1 0 fields.0 fields_are) in
    let ms = many_span _ (method_demands insides entries class methods.0) (method_span bytes entries insides are class methods.0) method_count.0.value method_count.1 methods.1 0 methods.0 methods_are in
    let last = plain_span bytes entries insides are known.Nothing methods.1 attributes.1 attributes.0 attributes_are in
    let front : List Demand = ((pool_demands pool.0 ++ class_flag_demands flags.0) ++ class_index_demands entries this.0) ++ class_index_demands entries super.0 in
    let of_interfaces : List Demand = of_each (λ index interface. class_index_demands entries interface) 0 interfaces.0 in
    let of_fields : List Demand = of_each (field_demands insides entries class fields.0) 0 fields.0 in
    let of_methods : List Demand = of_each (method_demands insides entries class methods.0) 0 methods.0 in
    let of_attributes : List Demand = plain_demands insides entries known.Nothing attributes.0 in
    let whole : Span (16 * at) (16 * attributes.1) ((((front ++ of_interfaces) ++ of_fields) ++ of_methods) ++ of_attributes) =
    span_append (16 * at) (16 * methods.1) (16 * attributes.1) (((front ++ of_interfaces) ++ of_fields) ++ of_methods) of_attributes
    (span_append (16 * at) (16 * fields.1) (16 * methods.1) ((front ++ of_interfaces) ++ of_fields) of_methods
    (span_append (16 * at) (16 * interfaces.1) (16 * fields.1) (front ++ of_interfaces) of_fields
    (span_append (16 * at) (16 * super.0.at + 13) (16 * interfaces.1) front of_interfaces
    head (span_low (16 * super.0.at + 13) (16 * interface_count.0.at) (16 * interfaces.1) of_interfaces (omega (arith, s.at_is, s.to_is, ic.at_is)) i))
    (span_low (16 * interfaces.1) (16 * field_count.0.at) (16 * fields.1) of_fields (omega (arith, fc.at_is)) fs))
    (span_low (16 * fields.1) (16 * method_count.1) (16 * methods.1) of_methods (omega (arith, mc.to_is)) ms)) last in
    subst (λ (l : Layout). Span (16 * at) (16 * to) (demands insides l)) (sym same)
    (subst (λ (e : ℕ). Span (16 * at) (16 * e) ((((front ++ of_interfaces) ++ of_fields) ++ of_methods) ++ of_attributes)) (sym end) whole)

pub asked_rise : (bytes : List ℕ) (layout : Layout) (asked : List Demand) → LaysOut bytes layout → AreDemands bytes layout asked → Rises asked
unfolding file_format
asked_rise bytes layout asked laid_out are =
    let stands = laid_out.1.1 in
    let major = stands.0 in
    let body = stands.2.0 in
    let same : layout ≡ body.0 = stands.2.2.1.0 in
    let span = body_span bytes are.0 are.1 major.1 body.1 body.0 stands.2.1 in
    subst Rises (sym (are.2 ∙ ap (λ (l : Layout). demands are.0 l) same)) (span_rises (16 * major.1) (16 * body.1) (demands are.0 body.0) span)
