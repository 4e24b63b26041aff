-- A class file that bytes spell, in profile, is well formed: each fact is one that a demand of its layout says.
use Rattle.std.proofs.Common.{◌≡◌, ◌+◌, ℕ, Bool, true, false, not, List, [], ◌∷◌, ◌++◌, Option, Some, None, Result, Ok, Err, codes, refl, sym, ◌∙◌, subst}
use Rattle.std.specs.Prelude.{◌&&◌, ◌||◌, All, IfOk, bytes_eq, is_none}
use Rattle.std.proofs.lemmas.Bool.{false≢true}
use Rattle.std.proofs.lemmas.List.Elements.{All-cons, All-nil}
use Rattle.cf_text.specs.declared.types.FieldType.{FieldType}
use Rattle.cf_text.specs.declared.types.MethodDescriptor.{MethodDescriptor}
use Rattle.cf_text.specs.declared.fault.ReadFault.{ReadFault}
use Rattle.cf_text.specs.declared.fault.Rule.TheVariants as rules
use Rattle.cf_pool.specs.declared.pool.Entry.{Entry}
use Rattle.cf_text.specs.Demands.{Demand, of_each, of_read}
use Rattle.cf_text.specs.Names.{is_name}
use Rattle.cf_text.specs.Reading.{Gives}
use Rattle.cf_text.specs.Types.{field_descriptor_of, method_descriptor_of}
use Rattle.cf_text.proofs.DescriptorLaws.{field_descriptor_tells, method_descriptor_tells}
use Rattle.cf_pool.specs.Pools.{indexed, named, utf8_at}
use Rattle.cf_layout.specs.declared.items.Layout.{Layout}
use Rattle.cf_layout.specs.declared.items.Member.{Member}
use Rattle.cf_layout.specs.CodeFormat.{Insides}
use Rattle.cf_reader.specs.declared.attributes.Known.TheVariants as known
use Rattle.cf_reader.specs.declared.class_file.ClassFile.{ClassFile}
use Rattle.cf_reader.specs.declared.class_file.Field.{Field}
use Rattle.cf_reader.specs.declared.class_file.Method.{Method}
use Rattle.cf_reader.specs.declared.flags.TheConstants.Flags.{INTERFACE, STATIC}
use Rattle.cf_reader.specs.Builds.{reading_of}
use Rattle.cf_reader.specs.Checks.{are_few, demand, demands, field_demands, field_demands_if, field_descriptor_demands, field_flag_demands, field_known, field_type_demands, fields_demands, flag_demands, is_initializer, method_attribute_demands, method_demands, method_demands_if, method_descriptor_demands, method_flag_demands, method_name_demands, method_type_demands, methods_demands, plain_demands}
use Rattle.cf_reader.specs.Profile.{is_profile_type, method_type_in_profile}
use Rattle.cf_reader.specs.Rules.{field_flags_fit, has, is_fitting_initializer, method_flags_fit}
use Rattle.cf_reader.specs.Says.{EachSays, SaysField, SaysMethod}
use Rattle.cf_reader.specs.Spells.{IsInProfile, Spells}
use Rattle.cf_reader.specs.WellFormed.{IsWellFormed, IsWellFormedField, IsWellFormedMethod}
use Rattle.cf_reader.proofs.SaysLaws.{AllHold, of_some_is, parts}
use Rattle.cf_reader.proofs.SpellsLaws.{class_found, all_asked}

-- ---- booleans

both : (one other : Bool) → (one && other) ≡ true → (one ≡ true) × (other ≡ true)
both true other h = (refl, h)
both false other h = absurd (false≢true h)

-- what holds where something else does
implied : (given held : Bool) → (not given || held) ≡ true → given ≡ true → held ≡ true
implied true held h e = h
implied false held h e = absurd (false≢true e)

denied : (b : Bool) → not b ≡ true → b ≡ false
denied true h = absurd (false≢true h)
denied false h = refl

no_result : {A : Type 0} (o : Option A) → is_none o ≡ true → o ≡ None
no_result None h = refl
no_result (Some x) h = absurd (false≢true h)

-- ---- lists

each_well : {A B : Type 0} (demands : ℕ → A → List Demand) (Says : A → B → Type 0) (IsWell : B → Type 0)
    → ((index : ℕ) (x : A) (y : B) → AllHold (demands index x) → Says x y → IsWell y) → (index : ℕ) (xs : List A) (ys : List B)
    → AllHold (of_each demands index xs) → EachSays Says xs ys → All IsWell ys
unfolding of_each
each_well demands Says IsWell well index [] [] h says = All-nil IsWell
each_well demands Says IsWell well index [] (y ∷ ys) h says = absurd says
each_well demands Says IsWell well index (x ∷ xs) [] h says = absurd says
each_well demands Says IsWell well index (x ∷ xs) (y ∷ ys) h says =
    let p = parts (demands index x) (of_each demands (index + 1) xs) h in
    All-cons IsWell y ys (well index x y p.0 says.0) (each_well demands Says IsWell well (index + 1) xs ys p.1 says.1)

-- ---- fields

-- flags that are demanded go together
fitting : (at : ℕ) (fit new in_profile : Bool) → AllHold (flag_demands at fit new in_profile) → fit ≡ true
unfolding flag_demands
fitting at fit new true h = h.0
fitting at fit new false h = absurd (false≢true h.1.1.0)

constant_of_interface : (in_interface : Bool) (bits : ℕ) → field_flags_fit in_interface bits ≡ true → in_interface ≡ true → has bits STATIC ≡ true
unfolding field_flags_fit
constant_of_interface true bits h e = (both _ _ (both _ _ (both _ _ (both _ _ h).1).0).0).1
constant_of_interface false bits h e = absurd (false≢true e)

module _ (insides : Insides) (pool : List Entry) (class : ℕ) where
  field_well : (bytes : List ℕ) (fields : List Member) (index : ℕ) (member : Member) (field : Field) → AllHold (field_demands insides pool class fields index member)
      → SaysField bytes pool member field → IsWellFormedField (has class INTERFACE) field
  unfolding field_demands_if field_descriptor_demands field_type_demands field_flag_demands
  field_well bytes fields index member field h says =
      let a = parts _ (plain_demands insides pool (field_known member.flags.value) member.attributes) h in
      let b = parts _ (field_descriptor_demands pool member.descriptor) a.0 in
      let c = parts _ (named member.name.at (utf8_at pool member.name.value) is_name) b.0 in
      let d = parts (indexed member.descriptor.at (utf8_at pool member.descriptor.value)) _ b.1 in
      let read = of_some_is (utf8_at pool member.descriptor.value) field.descriptor (field_type_demands member.descriptor.at) says.descriptor d.1 in
      let kind : field_descriptor_of member.descriptor.at field.descriptor ≡ Ok field.kind = (field_descriptor_tells member.descriptor.at field.descriptor).again field.kind says.kind in
      let typed = subst (λ (r : Result FieldType ReadFault). AllHold (of_read r (λ type. demand member.descriptor.at rules.OutOfProfile (is_profile_type type)))) kind read in
      let fit = fitting _ _ _ _ c.0 in
      record {
        spelled = says.kind;
        in_profile = typed.0;
        constant = λ e. subst (λ (bits : ℕ). has bits STATIC ≡ true) (sym says.flags) (constant_of_interface (has class INTERFACE) member.flags.value fit e);
      }

  -- ---- methods

  plain_of_initializer : (has_code is_init : Bool) (bits : ℕ) → method_flags_fit class has_code is_init bits ≡ true → is_init ≡ true → has bits STATIC ≡ false
  unfolding method_flags_fit is_fitting_initializer
  plain_of_initializer has_code is_init bits h e =
      let plain = implied is_init (is_fitting_initializer class bits) (both _ _ h).1 e in
      denied (has bits STATIC) (both _ _ (both _ _ (both _ _ (both _ _ (both _ _ (both _ _ plain).0).0).0).0).0).1

  method_well : (bytes : List ℕ) (methods : List Member) (index : ℕ) (member : Member) (method : Method) → AllHold (method_demands insides pool class methods index member)
      → SaysMethod bytes pool member method → IsWellFormedMethod method
  unfolding method_demands_if method_descriptor_demands method_type_demands method_flag_demands is_initializer
  method_well bytes methods index member method h says =
      let a = parts _ (method_attribute_demands insides pool member.attributes) h in
      let b = parts _ (method_descriptor_demands pool member) a.0 in
      let c = parts _ (method_name_demands pool member.name) b.0 in
      let d = parts (indexed member.descriptor.at (utf8_at pool member.descriptor.value)) _ b.1 in
      let read =
      of_some_is (utf8_at pool member.descriptor.value) method.descriptor (method_type_demands member.descriptor.at (has member.flags.value STATIC) (is_initializer pool member.name)) says.descriptor d.1 in
      let types : method_descriptor_of member.descriptor.at method.descriptor ≡ Ok method.types =
      (method_descriptor_tells member.descriptor.at method.descriptor).again method.types says.types in
      let typed = subst
      (λ (r : Result MethodDescriptor ReadFault). AllHold (of_read r (λ type.
      demand member.descriptor.at rules.Descriptor (are_few (has member.flags.value STATIC) type.parameters && (not (is_initializer pool member.name) || is_none type.result))
      ++ demand member.descriptor.at rules.OutOfProfile (method_type_in_profile type)))) types read in
      let fit = fitting _ _ _ _ c.0 in
      let is : is_initializer pool member.name ≡ bytes_eq method.name (codes "<init>") = rw says.name refl in
      record {
        spelled = says.types;
        in_profile = typed.1.0;
        initializer = λ e. (
          subst (λ (bits : ℕ). has bits STATIC ≡ false) (sym says.flags) (plain_of_initializer _ (is_initializer pool member.name) member.flags.value fit (is ∙ e)),
          no_result method.types.result (implied (is_initializer pool member.name) (is_none method.types.result) (both _ _ typed.0).1 (is ∙ e)),
        );
      }

-- ---- the class

class_well : (bytes : List ℕ) (layout : Layout) (insides : Insides) (class : ClassFile) → AllHold (demands insides layout) → Spells bytes layout class → IsWellFormed class
unfolding demands fields_demands methods_demands
class_well bytes layout insides class h spells =
    let says = spells.says in
    let pool = layout.pool.pool in
    let a = parts _ (plain_demands insides pool known.Nothing layout.attributes) h in
    let b = parts _ (methods_demands insides layout) a.0 in
    let c = parts _ (fields_demands insides layout) b.0 in
    record {
      fields = subst (λ (bits : ℕ). All (IsWellFormedField (has bits INTERFACE)) class.fields) (sym says.flags)
          (each_well (field_demands insides pool layout.flags.value layout.fields) (SaysField bytes pool) (IsWellFormedField (has layout.flags.value INTERFACE))
          (field_well insides pool layout.flags.value bytes layout.fields) 0 layout.fields class.fields c.1 says.fields);
      methods = each_well (method_demands insides pool layout.flags.value layout.methods) (SaysMethod bytes pool) IsWellFormedMethod
          (method_well insides pool layout.flags.value bytes layout.methods) 0 layout.methods class.methods b.1 says.methods;
    }

pub spelled_well : (bytes : List ℕ) (layout : Layout) (class : ClassFile) → Spells bytes layout class → IsInProfile bytes layout → IsWellFormed class
spelled_well bytes layout class spells in_profile =
    class_well bytes layout spells.demanded.0 class
    (subst AllHold spells.demanded.2 (all_asked bytes layout class spells in_profile)) spells

-- what an answer says
pub class_well_formed : (bytes : List ℕ) (answer : Result ClassFile ReadFault) → Gives (reading_of bytes) answer → IfOk answer IsWellFormed
class_well_formed bytes (Ok class) given = let f = class_found bytes (Ok class) given in spelled_well bytes f.0 class f.1 f.2
class_well_formed bytes (Err fault) given = tt
