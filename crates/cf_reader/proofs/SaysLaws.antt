-- A layout whose demands hold says a class file, and that one is made of it.
use Rattle.std.proofs.Common.{◌≡◌, ◌+◌, ℕ, ℤ, Bool, true, false, cond, List, [], ◌∷◌, ◌++◌, Option, Some, None, Result, Ok, Err, codes, refl, sym, ap, ◌∙◌, subst}
use Rattle.std.specs.Prelude.{is_some}
use Rattle.std.specs.List.{AllByRecursion}
use Rattle.std.proofs.lemmas.Bool.{false≢true}
use Rattle.cf_text.specs.declared.fault.ReadFault.{ReadFault}
use Rattle.cf_text.specs.declared.fault.ReadFault.TheVariants.{Broken, Memory}
use Rattle.cf_pool.specs.declared.pool.Entry.{Entry}
use Rattle.cf_text.specs.Demands.{Demand, of_each, of_read, of_some, verdict}
use Rattle.cf_text.specs.Looks.{Look, Tells}
use Rattle.cf_text.specs.Names.{is_method_name, is_name}
use Rattle.cf_pool.specs.Pools.{class_at, indexed, integer_at, named, utf8_at}
use Rattle.cf_text.specs.Types.{field_descriptor_of, method_descriptor_of}
use Rattle.cf_text.proofs.DescriptorLaws.{field_descriptor_tells, method_descriptor_tells}
use Rattle.cf_reader.specs.declared.flags.TheConstants.Flags.{STATIC}
use Rattle.cf_reader.specs.declared.class_file.Code.{Code}
use Rattle.cf_reader.specs.declared.class_file.Field.{Field}
use Rattle.cf_reader.specs.declared.class_file.Method.{Method}
use Rattle.cf_reader.specs.declared.class_file.ClassFile.{ClassFile}
use Rattle.cf_layout.specs.declared.items.Item.{Item}
use Rattle.cf_layout.specs.declared.items.Attribute.{Attribute}
use Rattle.cf_layout.specs.declared.items.Member.{Member}
use Rattle.cf_layout.specs.declared.items.Layout.{Layout}
use Rattle.cf_reader.specs.declared.attributes.Known.TheVariants as known
use Rattle.cf_reader.specs.Rules.{has}
use Rattle.cf_layout.specs.Codes.{code_of, constant_of}
use Rattle.cf_layout.specs.ReadInsides.{insides_of}
use Rattle.cf_reader.specs.Checks.{attribute_demands, class_index_demands, code_demands, demands, field_demands, field_demands_if, field_descriptor_demands, field_known, field_type_demands, fields_demands, first_named, head_demands, interfaces_demands, is_initializer, is_known, is_named, known_demands, method_attribute_demands, method_demands, method_demands_if, method_descriptor_demands, method_name_demands, method_type_demands, methods_demands, one_attribute, plain_demands}
use Rattle.cf_reader.specs.Builds.{class_from, class_name_of, code_from, code_in, constant_attribute, constant_from, each, field_from, method_from}
use Rattle.cf_reader.specs.Says.{EachSays, SaysClass, SaysClassName, SaysCode, SaysConstant, SaysField, SaysMethod}
use Rattle.cf_layout.proofs.CodeLaws.{code_tells, constant_tells}

-- ---- what a layout says is made of it

constant_again : (bytes : List ℕ) (pool : List Entry) (attribute : Option Attribute) (constant : Option ℤ) → SaysConstant bytes pool attribute constant → constant_from bytes pool attribute ≡ Ok constant
constant_again bytes pool None constant says = ap Ok (sym says)
constant_again bytes pool (Some attribute) constant says =
    let index : constant_of bytes attribute ≡ Ok says.0 = (constant_tells bytes attribute).again says.0 says.2 in
    rw (index, says.3) (ap Ok (sym says.4))

code_again : (bytes : List ℕ) (pool : List Entry) (attribute : Option Attribute) (code : Option Code) → SaysCode bytes pool attribute code → code_from bytes pool attribute ≡ Ok code
code_again bytes pool None code says = ap Ok (sym says)
code_again bytes pool (Some attribute) code says =
    let layout : code_of bytes attribute ≡ Ok says.0 = (code_tells bytes attribute).again says.0 says.1 in
    rw layout (ap Ok (sym says.2))

field_again : (bytes : List ℕ) (pool : List Entry) (member : Member) (field : Field) → SaysField bytes pool member field → field_from bytes pool member ≡ Ok field
unfolding field_from
field_again bytes pool member field says =
    let type : field_descriptor_of member.descriptor.at field.descriptor ≡ Ok field.kind =
    (field_descriptor_tells member.descriptor.at field.descriptor).again field.kind says.kind in
    let constant : constant_from bytes pool (constant_attribute pool member) ≡ Ok field.constant = constant_again bytes pool (constant_attribute pool member) field.constant says.constant in
    rw (says.name, says.descriptor, type, constant) (ap (λ (bits : ℕ). Ok (record field { flags = record { bits = bits } })) (sym says.flags))

method_again : (bytes : List ℕ) (pool : List Entry) (member : Member) (method : Method) → SaysMethod bytes pool member method → method_from bytes pool member ≡ Ok method
unfolding method_from
method_again bytes pool member method says =
    let types : method_descriptor_of member.descriptor.at method.descriptor ≡ Ok method.types =
    (method_descriptor_tells member.descriptor.at method.descriptor).again method.types says.types in
    let code : code_from bytes pool (first_named pool (codes "Code") member.attributes) ≡ Ok method.code =
    code_again bytes pool (first_named pool (codes "Code") member.attributes) method.code says.code in
    rw (says.name, says.descriptor, types, code) (ap (λ (bits : ℕ). Ok (record method { flags = record { bits = bits } })) (sym says.flags))

each_again : {A B : Type 0} (read : A → Result B ReadFault) (Says : A → B → Type 0) → ((x : A) (y : B) → Says x y → read x ≡ Ok y) → (xs : List A) (ys : List B) → EachSays Says xs ys
    → each read xs ≡ Ok ys
unfolding each
each_again read Says again [] [] says = refl
each_again read Says again [] (y ∷ ys) says = absurd says
each_again read Says again (x ∷ xs) [] says = absurd says
each_again read Says again (x ∷ xs) (y ∷ ys) says = rw (again x y says.0, each_again read Says again xs ys says.1) refl

name_again : (pool : List Entry) (item : Item) (name : List ℕ) → SaysClassName pool item name → class_name_of pool item ≡ Ok name
name_again pool item name says = rw says refl

-- a class with another pool, other flags and another superclass
abbrev rebuilt : ClassFile → List Entry → ℕ → Option (List ℕ) → Result ClassFile ReadFault
rebuilt class pool bits superclass = Ok (record class { pool = pool; flags = record { bits = bits }; superclass = superclass })

pub class_again : (bytes : List ℕ) (layout : Layout) (class : ClassFile) → SaysClass bytes layout class → class_from bytes layout ≡ Ok class
unfolding class_from
class_again bytes layout class says =
    let pool = layout.pool.pool in
    let interfaces : each (class_name_of pool) layout.interfaces ≡ Ok class.interfaces =
    each_again (class_name_of pool) (SaysClassName pool) (name_again pool) layout.interfaces class.interfaces says.interfaces in
    let fields : each (field_from bytes pool) layout.fields ≡ Ok class.fields =
    each_again (field_from bytes pool) (SaysField bytes pool) (field_again bytes pool) layout.fields class.fields says.fields in
    let methods : each (method_from bytes pool) layout.methods ≡ Ok class.methods =
    each_again (method_from bytes pool) (SaysMethod bytes pool) (method_again bytes pool) layout.methods class.methods says.methods in
    let whole : rebuilt class pool layout.flags.value (Some says.superclass.0) ≡ Ok class =
    sym (ap (λ (p : List Entry). rebuilt class p class.flags.bits class.superclass) says.pool ∙ ap (λ (b : ℕ). rebuilt class pool b class.superclass) says.flags
    ∙ ap (λ (s : Option (List ℕ)). rebuilt class pool layout.flags.value s) says.superclass.2) in
    rw (says.name, says.superclass.1, interfaces, fields, methods) whole

-- ---- if all demands hold, there is such a class

abbrev pub AllHold : List Demand → Type 0
AllHold = AllByRecursion (λ d. d.holds ≡ true)

abbrev pub ok : Result (Unit {0}) ReadFault
ok = Ok tt

holding : (holds : Bool) (fault : ReadFault) (rest : Result (Unit {0}) ReadFault) → cond holds rest (Err fault) ≡ ok → (holds ≡ true) × (rest ≡ ok)
holding true fault rest e = (refl, e)
holding false fault rest e = absurd cc

pub all_hold : (ds : List Demand) → verdict ds ≡ ok → AllHold ds
unfolding verdict
all_hold [] e = tt
all_hold (d ∷ ds) e = let h = holding d.holds (Broken d.rule d.at) (verdict ds) e in (h.0, all_hold ds h.1)

pub parts : (front rest : List Demand) → AllHold (front ++ rest) → AllHold front × AllHold rest
parts [] rest h = (tt, h)
parts (d ∷ front) rest h = let p = parts front rest h.1 in ((h.0, p.0), p.1)

some_is : {A : Type 0} (o : Option A) → is_some o ≡ true → (x : A) × (o ≡ Some x)
some_is (Some x) h = (x, refl)
some_is None h = absurd (false≢true h)

indexed_is : {A : Type 0} (at : ℕ) (o : Option A) → AllHold (indexed at o) → (x : A) × (o ≡ Some x)
unfolding indexed
indexed_is at o h = some_is o h.0

named_is : {A : Type 0} (at : ℕ) (o : Option A) (test : A → Bool) → AllHold (named at o test) → (x : A) × (o ≡ Some x)
unfolding named
named_is at o test h = some_is o h.1.0

pub of_some_is : {A : Type 0} (o : Option A) (x : A) (demands : A → List Demand) → o ≡ Some x → AllHold (of_some o demands) → AllHold (demands x)
of_some_is {A = A} o x demands is h = subst (λ (p : Option A). AllHold (of_some p demands)) is h

read_is : {A : Type 0} (r : Result A ReadFault) (look : Look A) (demands : A → List Demand) → Tells r look → AllHold (of_read r demands) → (x : A) × look.Is x × AllHold (demands x)
read_is (Ok x) look demands tells h = (x, tells.takes x refl, h)
read_is (Err (Broken rule at)) look demands tells h = absurd (false≢true h.0)
read_is (Err Memory) look demands tells h = absurd (tells.ample refl)

each_is : {A B : Type 0} (demands : ℕ → A → List Demand) (Says : A → B → Type 0) → ((index : ℕ) (x : A) → AllHold (demands index x) → (y : B) × Says x y) → (index : ℕ) (xs : List A)
    → AllHold (of_each demands index xs) → (ys : List B) × EachSays Says xs ys
unfolding of_each
each_is demands Says is index [] h = ([], tt)
each_is demands Says is index (x ∷ xs) h =
    let p = parts (demands index x) (of_each demands (index + 1) xs) h in
    let first = is index x p.0 in
    let others = each_is demands Says is (index + 1) xs p.1 in
    (first.0 ∷ others.0, (first.1, others.1))

-- of attributes, the first of a known kind keeps the demands of its kind
module _ (pool : List Entry) (name : List ℕ) (is_kind : Attribute → Bool) (inside : Attribute → List Demand) (kind_is : (a : Attribute) → is_kind a ≡ is_named pool name a) where
  first_by : (a b : Attribute) (others : List Attribute) (known : Bool) → is_named pool name b ≡ known
      → AllHold ((indexed b.name.at (utf8_at pool b.name.value) ++ cond known (inside b) []) ++ attribute_demands pool is_kind inside known others)
      → cond known (Some b) (first_named pool name others) ≡ Some a
      → (AllHold (attribute_demands pool is_kind inside false others) → first_named pool name others ≡ Some a → AllHold (inside a)) → AllHold (inside a)
  first_by a b others true known h e later =
      let same : b ≡ a = cc in
      let p = parts (indexed b.name.at (utf8_at pool b.name.value) ++ inside b) (attribute_demands pool is_kind inside true others) h in
      subst (λ (c : Attribute). AllHold (inside c)) same (parts (indexed b.name.at (utf8_at pool b.name.value)) (inside b) p.0).1
  first_by a b others false known h e later =
      later (parts (indexed b.name.at (utf8_at pool b.name.value) ++ []) (attribute_demands pool is_kind inside false others) h).1 e

  first_is : (attributes : List Attribute) (a : Attribute) → AllHold (attribute_demands pool is_kind inside false attributes) → first_named pool name attributes ≡ Some a → AllHold (inside a)
  unfolding attribute_demands one_attribute first_named
  first_is [] a h e = absurd cc
  first_is (b ∷ others) a h e =
      first_by a b others (is_named pool name b) refl
      (subst (λ (k : Bool). AllHold ((indexed b.name.at (utf8_at pool b.name.value) ++ cond k (inside b) []) ++ attribute_demands pool is_kind inside k others)) (kind_is b) h)
      e (first_is others a)

module _ (bytes : List ℕ) (pool : List Entry) where
  constant_says : (attributes : List Attribute) (o : Option Attribute) → first_named pool (codes "ConstantValue") attributes ≡ o
      → AllHold (plain_demands (insides_of bytes) pool known.ConstantValue attributes) → (constant : Option ℤ) × SaysConstant bytes pool o constant
  unfolding plain_demands known_demands is_known
  constant_says attributes None is h = (None, refl)
  constant_says attributes (Some a) is h =
      let kept : AllHold (of_read (constant_of bytes a) (λ index. indexed index.at (integer_at pool index.value))) =
      first_is pool (codes "ConstantValue") (is_known pool known.ConstantValue) (known_demands (insides_of bytes) pool known.ConstantValue) (λ b. refl) attributes a h is in
      let index = read_is (constant_of bytes a) _ (λ index. indexed index.at (integer_at pool index.value)) (constant_tells bytes a) kept in
      let value = indexed_is index.0.at (integer_at pool index.0.value) index.2 in
      (Some value.0, (index.0, value.0, index.1, value.1, refl))

  constant_by : (static : Bool) (attributes : List Attribute) → AllHold (plain_demands (insides_of bytes) pool (cond static known.ConstantValue known.Nothing) attributes)
      → (constant : Option ℤ) × SaysConstant bytes pool (cond static (first_named pool (codes "ConstantValue") attributes) None) constant
  constant_by true attributes h = constant_says attributes (first_named pool (codes "ConstantValue") attributes) refl h
  constant_by false attributes h = (None, refl)

  field_says : (class : ℕ) (fields : List Member) (index : ℕ) (member : Member) → AllHold (field_demands (insides_of bytes) pool class fields index member) → (field : Field) × SaysField bytes pool member field
  unfolding field_demands_if field_descriptor_demands field_type_demands field_known constant_attribute
  field_says class fields index member h =
      let a = parts _ (plain_demands (insides_of bytes) pool (field_known member.flags.value) member.attributes) h in
      let b = parts _ (field_descriptor_demands pool member.descriptor) a.0 in
      let c = parts _ (named member.name.at (utf8_at pool member.name.value) is_name) b.0 in
      let name = named_is member.name.at (utf8_at pool member.name.value) is_name c.1 in
      let d = parts (indexed member.descriptor.at (utf8_at pool member.descriptor.value)) _ b.1 in
      let descriptor = indexed_is member.descriptor.at (utf8_at pool member.descriptor.value) d.0 in
      let type = read_is (field_descriptor_of member.descriptor.at descriptor.0) _ _ (field_descriptor_tells member.descriptor.at descriptor.0)
      (of_some_is (utf8_at pool member.descriptor.value) descriptor.0 (field_type_demands member.descriptor.at) descriptor.1 d.1) in
      let constant = constant_by (has member.flags.value STATIC) member.attributes a.1 in (
        record { flags = record { bits = member.flags.value }; name = name.0; descriptor = descriptor.0; kind = type.0; constant = constant.0 },
        record { flags = refl; name = name.1; descriptor = descriptor.1; kind = type.1; constant = constant.1 },
      )

  code_says : (attributes : List Attribute) (o : Option Attribute) → first_named pool (codes "Code") attributes ≡ o → AllHold (method_attribute_demands (insides_of bytes) pool attributes)
      → (code : Option Code) × SaysCode bytes pool o code
  unfolding method_attribute_demands code_demands
  code_says attributes None is h = (None, refl)
  code_says attributes (Some a) is h =
      let kept = first_is pool (codes "Code") (is_named pool (codes "Code")) (code_demands (insides_of bytes) pool) (λ b. refl) attributes a h is in
      let layout = read_is (code_of bytes a) _ _ (code_tells bytes a) kept in
      (Some (code_in bytes pool layout.0), (layout.0, layout.1, refl))

  method_says : (class : ℕ) (methods : List Member) (index : ℕ) (member : Member) → AllHold (method_demands (insides_of bytes) pool class methods index member) → (method : Method) × SaysMethod bytes pool member method
  unfolding method_demands_if method_name_demands method_descriptor_demands method_type_demands
  method_says class methods index member h =
      let a = parts _ (method_attribute_demands (insides_of bytes) pool member.attributes) h in
      let b = parts _ (method_descriptor_demands pool member) a.0 in
      let c = parts _ (method_name_demands pool member.name) b.0 in
      let n = parts (named member.name.at (utf8_at pool member.name.value) is_method_name) _ c.1 in
      let name = named_is member.name.at (utf8_at pool member.name.value) is_method_name n.0 in
      let d = parts (indexed member.descriptor.at (utf8_at pool member.descriptor.value)) _ b.1 in
      let descriptor = indexed_is member.descriptor.at (utf8_at pool member.descriptor.value) d.0 in
      let types = read_is (method_descriptor_of member.descriptor.at descriptor.0) _ _ (method_descriptor_tells member.descriptor.at descriptor.0)
      (of_some_is (utf8_at pool member.descriptor.value) descriptor.0 (method_type_demands member.descriptor.at (has member.flags.value STATIC) (is_initializer pool member.name)) descriptor.1 d.1) in
      let code = code_says member.attributes (first_named pool (codes "Code") member.attributes) refl a.1 in (
        record { flags = record { bits = member.flags.value }; name = name.0; descriptor = descriptor.0; types = types.0; code = code.0 },
        record { flags = refl; name = name.1; descriptor = descriptor.1; types = types.1; code = code.1 },
      )

class_name_says : (pool : List Entry) (item : Item) → AllHold (class_index_demands pool item) → (name : List ℕ) × SaysClassName pool item name
unfolding class_index_demands
class_name_says pool item h = named_is item.at (class_at pool item.value) _ h

pub class_says : (bytes : List ℕ) (layout : Layout) → verdict (demands (insides_of bytes) layout) ≡ ok → (class : ClassFile) × SaysClass bytes layout class
unfolding demands head_demands interfaces_demands fields_demands methods_demands
class_says bytes layout e =
    let pool = layout.pool.pool in
    let a = parts _ (plain_demands (insides_of bytes) pool known.Nothing layout.attributes) (all_hold (demands (insides_of bytes) layout) e) in
    let b = parts _ (methods_demands (insides_of bytes) layout) a.0 in
    let c = parts _ (fields_demands (insides_of bytes) layout) b.0 in
    let d = parts (head_demands layout) (interfaces_demands layout) c.0 in
    let s = parts _ (class_index_demands pool layout.superclass) d.0 in
    let t = parts _ (class_index_demands pool layout.this) s.0 in
    let name = class_name_says pool layout.this t.1 in
    let superclass = class_name_says pool layout.superclass s.1 in
    let interfaces = each_is (λ index interface. class_index_demands pool interface) (SaysClassName pool) (λ index item. class_name_says pool item) 0 layout.interfaces d.1 in
    let fields = each_is (field_demands (insides_of bytes) pool layout.flags.value layout.fields) (SaysField bytes pool) (field_says bytes pool layout.flags.value layout.fields) 0 layout.fields
    c.1 in
    let methods = each_is (method_demands (insides_of bytes) pool layout.flags.value layout.methods) (SaysMethod bytes pool) (method_says bytes pool layout.flags.value layout.methods) 0 layout.methods b.1 in (
      record {
        pool = pool;
        flags = record { bits = layout.flags.value };
        name = name.0;
        superclass = Some superclass.0;
        interfaces = interfaces.0;
        fields = fields.0;
        methods = methods.0;
      },
      record {
        pool = refl;
        flags = refl;
        name = name.1;
        superclass = (superclass.0, superclass.1, refl);
        interfaces = interfaces.1;
        fields = fields.1;
        methods = methods.1;
      },
    )
