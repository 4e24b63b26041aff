-- Absent supertypes, and classes that are their own.
use Rattle.std.proofs.Common.{◌≡◌, ℕ, zero, suc, ◌<◌, ◌⊎◌, inl, inr, Bool, true, false, not, refl, Option, Some, None, List, [], ◌∷◌, length, get_or, sym, subst, ap, ◌∙◌, arith}
use Rattle.std.specs.Prelude.{◌↔◌, Contains, IfSome, IsTrue, bytes_eq, cond, is_some, slice_get}
use Rattle.std.proofs.lemmas.List.{get_or-map, length-map}
use Rattle.std.proofs.lemmas.Slice.Eq.{bytes_eq-Decides}
use Rattle.cf_reader.specs.declared.class_file.ClassFile.{ClassFile}
use Rattle.cls_order.specs.declared.class.Class.{Class}
use Rattle.cls_order.specs.declared.fault.SetFault.{SetFault}
use Rattle.cls_order.specs.declared.fault.SetFault.TheVariants.{Broken, Memory}
use Rattle.cls_order.specs.declared.fault.SetRule.TheVariants.{AbsentClass, Cycle}
use Rattle.cls_order.specs.declared.entries.Entry.{Entry}
use Rattle.std.specs.List.{AllWithin, HoldsAt}
use Rattle.std.specs.List.Sorted.{IsStrictlySortedBy}
use Rattle.std.proofs.lemmas.Option.{slice_get_cases, slice_get-get_or, slice_get_within}
use Rattle.std.specs.List.{Any}
use Rattle.cf_text.specs.declared.types.ElementType.TheVariants as elements
use Rattle.space_ids.specs.declared.ids.ClassId.{ClassId}
use Rattle.cf_text.specs.declared.types.FieldType.{FieldType}
use Rattle.cf_text.specs.declared.types.MethodDescriptor.{MethodDescriptor}
use Rattle.cls_order.specs.Building.{origins_of, DescriptorNamesAbsent, IsAbsentFault, IsClassFault, IsCycleFault, IsFaultOf, IsMissing, IsWhole, MembersNameAbsent, NamesAbsent}
use Rattle.cls_order.specs.Classes.{name_at, name_cmp, names, number_from, number_of}
use Rattle.cls_order.specs.Entries.{classes_of}
use Rattle.cls_order.specs.Sets as sets
use Rattle.cls_order.specs.Sets.{Origin, origin, super_names, HasAbsent, DescriptorNames, IsFirstCycle, IsResolved, Mentions}
use Rattle.cls_order.proofs.Cycles.{later, supertype_present}
use Rattle.cls_order.proofs.Hierarchy.{none_some, same_some, true_false}
use Rattle.cls_order.proofs.Names.{name_of, name_read, length_names}

absent_from : (k : ℕ) (classes : List Class) (name : List ℕ) (i : ℕ) → i < length (names classes) → get_or (names classes) i name ≡ name → number_from k classes name ≡ None → ⊥
absent_from k [] name i h e none = absurd (omega (arith, h))
absent_from k (c ∷ cs) name zero h e none = let same = (bytes_eq-Decides c.file.name name).1 e in none_some (sym (rw same at none))
absent_from k (c ∷ cs) name (suc i) h e none =
    elim (bytes_eq c.file.name name) as (λ b. cond b (Some (record { 0 = k })) (number_from (suc k) cs name) ≡ None → ⊥) [
      | true ↦ λ n. none_some (sym n)
      | false ↦ λ n. absent_from (suc k) cs name i (omega (arith, h)) e n
    ] none

-- a name without a number is none of the names
pub name_absent : (classes : List Class) (name : List ℕ) → number_of classes name ≡ None → Contains (names classes) name → ⊥
name_absent classes name none among = absent_from 0 classes name among.0 among.1 among.2 none

pub missing : (ns : List (List ℕ)) (super name : List ℕ) (e : SetFault) → (Contains ns super → ⊥) → IsFaultOf AbsentClass name e → IsMissing ns super name e
missing ns super name (Broken rule n) none h = subst (λ r. IsMissing ns super name (Broken r n)) (sym h.0) (h.1, none)
missing ns super name Memory none h = tt

pub class_missing : (ns : List (List ℕ)) (file : ClassFile) (super : List ℕ) (e : SetFault) → Contains (super_names file) super → IsMissing ns super file.name e → IsClassFault ns file e
class_missing ns file super (Broken AbsentClass n) among h = (h.0, record { name = super; mentioned = sets.Mentions.as_supertype among; absent = h.1 })
class_missing ns file super Memory among h = tt
class_missing ns file super (Broken _ n) among h = absurd h

-- a class whose members name an absent class
members_absent : (ns : List (List ℕ)) (file : ClassFile) → MembersNameAbsent ns file → HasAbsent ns file
members_absent ns file (inl (k, f, h, is, (n, names, none))) = record { name = n; mentioned = sets.Mentions.by_field f (k, h, is) names; absent = none }
members_absent ns file (inr (k, m, h, is, a)) = record { name = a.name; mentioned = sets.Mentions.by_method m (k, h, is) a.named; absent = a.absent }

pub members_missing : (ns : List (List ℕ)) (file : ClassFile) (e : SetFault) → MembersNameAbsent ns file → IsFaultOf AbsentClass file.name e → IsClassFault ns file e
members_missing ns file (Broken rule n) absent h = subst (λ r. IsClassFault ns file (Broken r n)) (sym h.0) (h.1, members_absent ns file absent)
members_missing ns file Memory absent h = tt

-- a class whose supertypes are found and whose members name no absent class
mentioned_absent : (ns : List (List ℕ)) (c : Class) (name : List ℕ) → IsResolved ns c → (MembersNameAbsent ns c.file → ⊥) → Mentions c.file name → (Contains ns name → ⊥) → ⊥
mentioned_absent ns c name r entries (sets.Mentions.as_supertype among) none = supertype_present ns c r name among none
mentioned_absent ns c name r entries (sets.Mentions.by_field f among names) none = entries (inl (among.0, f, among.1, among.2, (name, names, none)))
mentioned_absent ns c name r entries (sets.Mentions.by_method m among names) none = entries (inr (among.0, m, among.1, among.2, record { name = name; named = names; absent = none }))

pub whole : (ns : List (List ℕ)) (c : Class) → IsResolved ns c → (MembersNameAbsent ns c.file → ⊥) → IsWhole ns c
whole ns c r entries = record { resolved = r; present = λ a. mentioned_absent ns c a.name r entries a.mentioned a.absent }

-- and so if a part of the descriptor names one
pub by_result : (ns : List (List ℕ)) (types : MethodDescriptor) (type : FieldType) → types.result ≡ Some type → NamesAbsent ns type → DescriptorNamesAbsent ns types
by_result ns types type is a = record { name = a.0; named = sets.DescriptorNames.by_result type is a.1; absent = a.2 }

pub by_parameter : (ns : List (List ℕ)) (types : MethodDescriptor) → Any (NamesAbsent ns) types.parameters → DescriptorNamesAbsent ns types
by_parameter ns types (k, type, h, is, a) = record { name = a.0; named = sets.DescriptorNames.by_parameter type (k, h, is) a.1; absent = a.2 }

either_name : (ns : List (List ℕ)) (types : MethodDescriptor) (n : List ℕ) → DescriptorNames types n → (Contains ns n → ⊥) → Any (NamesAbsent ns) types.parameters ⊎ ((type : FieldType) × (types.result ≡ Some type) × NamesAbsent ns type)
either_name ns types n (sets.DescriptorNames.by_parameter type among names) none = inl (among.0, type, among.1, among.2, (n, names, none))
either_name ns types n (sets.DescriptorNames.by_result type is names) none = inr (type, is, (n, names, none))

pub no_int : (a : List ℕ) → elements.Class a ≡ elements.Int → ⊥
no_int a e = cc

pub no_bool : (a : List ℕ) → elements.Class a ≡ elements.Boolean → ⊥
no_bool a e = cc

pub same_class_name : (a b : List ℕ) → elements.Class a ≡ elements.Class b → a ≡ b
same_class_name a b e = cc

pub by_either : (ns : List (List ℕ)) (types : MethodDescriptor) → DescriptorNamesAbsent ns types → Any (NamesAbsent ns) types.parameters ⊎ ((type : FieldType) × (types.result ≡ Some type) × NamesAbsent ns type)
by_either ns types a = either_name ns types a.name a.named a.absent

-- what a search by name says of a type that names a class
pub absent_type : (classes : List Class) (type : FieldType) (name bytes : List ℕ) (found : Option ClassId) (r : Bool) → type.element ≡ elements.Class name → bytes ≡ name → found ≡ number_of classes bytes → IfSome found (λ id. name_at classes id ≡ Some bytes) → is_some found ≡ not r → IsTrue r ↔ NamesAbsent (names classes) type
absent_type classes type name bytes None true is same from at test = (λ _. (name, is, name_absent classes name (ap (number_of classes) (sym same) ∙ sym from)), λ _. refl)
absent_type classes type name bytes None false is same from at test = absurd (true_false (sym test))
absent_type classes type name bytes (Some id) true is same from at test = absurd (true_false test)
absent_type classes type name bytes (Some id) false is same from at test =
    let h = slice_get_within (names classes) id.0 bytes at in
    let stands : Contains (names classes) bytes = (id.0, h, same_some (sym (slice_get-get_or (names classes) id.0 bytes h) ∙ at)) in
    (λ e. absurd (true_false (sym e)), λ a. absurd (a.2 (subst (Contains (names classes)) (same ∙ same_class_name name a.0 (sym is ∙ a.1)) stands)))

pub stands_among : (entries : List Entry) (i : ℕ) (m : Entry) → i < length entries → m ≡ get_or entries i m → Contains (origins_of entries) (origin m.class)
stands_among entries i m h is =
    (i, subst (λ n. i < n) (sym (length-map entries (λ (x : Entry). origin x.class))) h, get_or-map (λ (x : Entry). origin x.class) entries i m (origin m.class) h ∙ ap (λ (x : Entry). origin x.class) (sym is))

-- the name of the entry at an index
name_slice : (xs : List Entry) (i : ℕ) (d : Entry) → i < length xs → slice_get (names (classes_of xs)) i ≡ Some (name_of (get_or xs i d))
name_slice xs i d h = slice_get-get_or (names (classes_of xs)) i [] (subst (λ n. i < n) (sym (length_names xs)) h) ∙ ap (λ n. Some n) (name_read xs i d [] h)

-- the first class by name with an absent supertype, if those before it are resolved
pub first_absent : (xs : List Entry) (p : ℕ) (m : Entry) (e : SetFault) → IsStrictlySortedBy name_cmp (names (classes_of xs)) → p < length xs → get_or xs p m ≡ m → AllWithin (λ m. IsWhole (names (classes_of xs)) m.class) xs 0 p → IsClassFault (names (classes_of xs)) m.class.file e → IsAbsentFault (names (classes_of xs)) (origins_of xs) e
first_absent xs p m (Broken AbsentClass n) ordered h is resolved fault =
    let ns = names (classes_of xs) in
    let origin_of : Entry → Origin = λ m. origin m.class in
    record {
      class = origin m.class;
      stands = stands_among xs p m h (sym is);
      named = fault.0;
      absent = fault.1;
      first = λ other among less a.
          let i = among.0 in
          let l : i < length xs = subst (λ n. i < n) (length-map xs origin_of) among.1 in
          let same : origin (get_or xs i m).class ≡ other = sym (get_or-map origin_of xs i m other l) ∙ among.2 in
          let here : slice_get ns i ≡ Some other.0.name = name_slice xs i m l ∙ ap (λ (o : Origin). Some o.0.name) same in
          let there : slice_get ns p ≡ Some n = name_slice xs p m h ∙ (ap (λ (x : Entry). Some x.class.file.name) is ∙ ap (λ x. Some x) (sym fault.0)) in
          let low : i < p = later ns i p other.0.name n ordered here there less in
          (resolved i m (omega arith) low).present (subst (λ (o : Origin). HasAbsent ns o.0) (sym same) a);
    }
first_absent xs p m Memory ordered h is resolved fault = tt
first_absent xs p m (Broken _ n) ordered h is resolved fault = absurd fault

pub first_absent_at : (xs : List Entry) (p : ℕ) (e : SetFault) → IsStrictlySortedBy name_cmp (names (classes_of xs)) → p < length xs → AllWithin (λ m. IsWhole (names (classes_of xs)) m.class) xs 0 p → HoldsAt (λ m. IsClassFault (names (classes_of xs)) m.class.file e) xs p → IsAbsentFault (names (classes_of xs)) (origins_of xs) e
first_absent_at xs p e ordered h resolved fault =
    elim (slice_get_cases xs p).1 [
      | inl r ↦ first_absent xs p r.0 e ordered h r.3 resolved (subst (λ (m : Entry). IsClassFault (names (classes_of xs)) m.class.file e) r.3 (fault r.0))
      | inr r ↦ absurd (omega (arith, h, r.0))
    ]

pub cycle_fault : (classes : List Origin) (n : List ℕ) (e : SetFault) → IsFirstCycle classes n → IsFaultOf Cycle n e → IsCycleFault classes e
cycle_fault classes n (Broken rule x) first h = subst (λ r. IsCycleFault classes (Broken r x)) (sym h.0) (subst (IsFirstCycle classes) (sym h.1) first)
cycle_fault classes n Memory first h = tt
