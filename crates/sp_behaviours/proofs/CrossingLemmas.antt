-- The methods of remote interfaces take and give what crosses, where files keep the rule on them.
use Rattle.std.proofs.Common.{◌≡◌, ◌⊎◌, inl, inr, ℕ, ◌<◌, Bool, true, false, Option, Some, None, List, [], ◌∷◌, length, map, refl, sym, subst, ap, ◌∙◌, arith}
use Rattle.std.specs.Prelude.{◌==◌, ◌&&◌, ◌||◌, not, Contains, bit_and, slice_get}
use Rattle.std.specs.List.{list_all}
use Rattle.std.specs.Option.{option_map_or}
use Rattle.std.proofs.lemmas.Bool.{eqb-true}
use Rattle.std.proofs.lemmas.List.Elements.{Contains-append_right}
use Rattle.std.proofs.lemmas.Option.{slice_get_within}
use Rattle.cf_text.specs.declared.types.ElementType.TheVariants as elements
use Rattle.cf_text.specs.declared.types.FieldType.{FieldType}
use Rattle.cf_reader.specs.declared.class_file.ClassFile.{ClassFile}
use Rattle.cf_reader.specs.declared.class_file.Method.{Method}
use Rattle.cf_reader.specs.declared.flags.TheConstants.Flags.{INTERFACE}
use Rattle.cls_order.proofs.Absent.{name_absent}
use Rattle.cls_order.proofs.Cycles.{by_number, more_named, one_index}
use Rattle.cls_order.specs.declared.fault.SetRule.TheVariants.{RemoteField, RemoteMethod}
use Rattle.cls_search.specs.MethodSearches.{is_interface}
use Rattle.cls_set.proofs.Hierarchy.{some_of, true_false}
use Rattle.cls_set.proofs.Names.{name_at_number}
use Rattle.cls_set.proofs.Remotes.{named_among, proper_of_subtype}
use Rattle.cls_set.specs.Classes.{IsInterface, names, number_of}
use Rattle.cls_set.specs.Faults.{IsKept}
use Rattle.cls_set.specs.Rules.{Breaks, CanBeKept, CanCross, IsBelowRemote, NamesRemoteInterface}
use Rattle.cls_set.specs.Sets.{HasClasses, IsClassSet, IsSupertypeByName, origin, origins}
use Rattle.cls_set.specs.Subtypes as types
use Rattle.cls_set.specs.Subtypes.{IsProperSubtype, IsSubtype}
use Rattle.cls_set.specs.declared.class.Class.{Class}
use Rattle.space_ids.specs.declared.ids.ClassId.{ClassId}
use Rattle.sp_rules.proofs.OwnLemmas.{and-left, and-right}
use Rattle.vm_code.proofs.Remotes.{interface_sound}
use Rattle.vm_code.proofs.Subtypes.{subtype_sound, subtype_test}
use Rattle.vm_code.specs.Classes.{is_below_remote, is_remote_interface, is_subtype}
use Rattle.vm_code.specs.Parameters.{is_array_element, is_array_type}
use Rattle.vm_step.specs.Start.{crosses, is_int_element, is_int_type, is_remote_element, is_remote_type, takes_crossing}
use Rattle.sp_behaviours.specs.Told.{RemoteMethodsCross, RemoteRulesAreKept}
use Rattle.sp_behaviours.proofs.RemoteLemmas
use Rattle.sp_behaviours.proofs.RemoteLemmas.{Above, remote_name}

-- ---- tests

pub and-both : (a b : Bool) → a ≡ true → b ≡ true → (a && b) ≡ true
and-both a b e f = λ j. e j && f j

or-right : (a b : Bool) → b ≡ true → (a || b) ≡ true
or-right true b e = refl
or-right false b e = e

not-zero : (n : ℕ) → (n ≡ 0 → ⊥) → not (n == 0) ≡ true
not-zero n other = by (n == 0) refl
  where
    by : (b : Bool) → (n == 0) ≡ b → not b ≡ true
    by true is = absurd (other (eqb-true n 0 is))
    by false is = refl

all-pass : {A : Type 0} (p : A → Bool) (xs : List A) → ((x : A) → Contains xs x → p x ≡ true) → list_all p xs ≡ true
all-pass p [] f = refl
all-pass p (x ∷ xs) f = and-both (p x) (list_all p xs) (f x (0, omega arith, refl)) (all-pass p xs (λ y among. f y (Contains-append_right (x ∷ []) xs y among)))

-- ---- classes

proper-sub : (classes : List Class) (a b : ClassId) → IsProperSubtype classes a b → IsSubtype classes a b
proper-sub classes a b (types.IsProperSubtype.direct x y (inl up)) = types.IsSubtype.superclass x y up
proper-sub classes a b (types.IsProperSubtype.direct x y (inr up)) = types.IsSubtype.superinterface x y up
proper-sub classes a b (types.IsProperSubtype.through x m y p q) = types.IsSubtype.through x m y (proper-sub classes x m p) (proper-sub classes m y q)

interface-test : (classes : List Class) (id : ClassId) (c : Class) → slice_get classes id.0 ≡ Some c → IsInterface c → is_interface classes id ≡ true
interface-test classes id c at is =
    subst (λ (o : Option Class). option_map_or (λ (c : Class). not (bit_and c.file.flags.bits INTERFACE == 0)) o false ≡ true) (sym at) (not-zero (bit_and c.file.flags.bits INTERFACE) is)

-- ---- sets of files

module _ (files : List ClassFile) (classes : List Class) (has : HasClasses files classes) (set : IsClassSet classes) where
  -- what has java/rmi/Remote among its supertypes by number is below it by the test
  below-test : (id b : ClassId) → id.0 < length classes → slice_get (names classes) b.0 ≡ Some remote_name → IsSubtype classes id b → is_below_remote classes id ≡ true
  below-test id b inside at sub = on (number_of classes remote_name) refl
    where
      on : (o : Option ClassId) → number_of classes remote_name ≡ o → option_map_or (λ remote. is_subtype classes id remote) o false ≡ true
      on None e = absurd (name_absent classes remote_name e (named_among (names classes) b.0 remote_name at))
      on (Some remote) e =
          let same : b.0 ≡ remote.0 = one_index (names classes) b.0 remote.0 remote_name set.ordered at (name_at_number classes remote_name remote e) in
          let one : b ≡ remote = ap {A = ℕ} {B = ClassId} (λ n. record { 0 = n }) same in
          sym (subtype_test classes set id remote true inside (λ t. subst (IsSubtype classes id) one sub, λ t. refl))

  remote-test : (id : ClassId) (name : List ℕ) → id.0 < length classes → slice_get (names classes) id.0 ≡ Some name → IsBelowRemote (origins files) name → is_below_remote classes id ≡ true
  remote-test id name inside here (inl e) = below-test id id inside (here ∙ ap (λ n. Some n) e) (types.IsSubtype.itself id)
  remote-test id name inside here (inr s) =
      let up : IsSupertypeByName (map origin classes) name remote_name = more_named (origins files) (map origin classes) (RemoteLemmas.forth files classes has set) name remote_name s in
      let b = by_number classes set.ordered set.resolved name remote_name id here up in
      below-test id b.0 inside b.1 (proper-sub classes id b.0 b.2)

  element-crosses : (name : List ℕ) → NamesRemoteInterface (origins files) name → is_remote_element classes (elements.Class name) ≡ true
  element-crosses name n =
      let x = RemoteLemmas.numbered files classes has set name n in
      let remote : is_below_remote classes x.id ≡ true =
      remote-test x.id name (slice_get_within classes x.id.0 x.c x.at) (name_at_number classes name x.id x.number) (subst (λ (name : List ℕ). IsBelowRemote (origins files) name) n.named.2 n.remote.1) in
      subst (λ (o : Option ClassId). option_map_or (is_remote_interface classes) o false ≡ true) (sym x.number)
      (and-both (is_interface classes x.id) (is_below_remote classes x.id) (interface-test classes x.id x.c x.at x.is) remote)

  -- what may cross passes the test
  crosses-test : (type : FieldType) → CanCross (origins files) type → crosses classes type ≡ true
  crosses-test type (CanCross.plain (CanBeKept.int d e)) =
      let is : is_int_type type ≡ true = λ j. (d j == 0) && is_int_element (e j) in
      ap (λ b. b || (is_array_type type || is_remote_type classes type)) is
  crosses-test type (CanCross.plain (CanBeKept.boolean d e)) =
      let is : is_int_type type ≡ true = λ j. (d j == 0) && is_int_element (e j) in
      ap (λ b. b || (is_array_type type || is_remote_type classes type)) is
  crosses-test type (CanCross.plain (CanBeKept.remote name d e named)) =
      let first : is_remote_type classes type ≡ is_remote_element classes (elements.Class name) = λ j. (d j == 0) && is_remote_element classes (e j) in
      or-right (is_int_type type) (is_array_type type || is_remote_type classes type) (or-right (is_array_type type) (is_remote_type classes type) (first ∙ element-crosses name named))
  crosses-test type (CanCross.ints d e) =
      let is : is_array_type type ≡ true = λ j. (d j == 1) && is_array_element (e j) in
      or-right (is_int_type type) (is_array_type type || is_remote_type classes type) (ap (λ b. b || is_remote_type classes type) is)

  -- ---- that keep the rule on the methods of remote interfaces

  module _ (kept : IsKept files RemoteMethod) (interface : ClassId) (is : is_remote_interface classes interface ≡ true) where
    remote-above : (o : Option ClassId) → number_of classes remote_name ≡ o → option_map_or (λ remote. is_subtype classes interface remote) o false ≡ true
        → (k : Class) → slice_get classes interface.0 ≡ Some k → IsBelowRemote (origins files) k.file.name
    remote-above None e below k at = absurd (true_false (sym below))
    remote-above (Some remote) e below k at = RemoteLemmas.below files classes has set interface k remote at e (subtype_sound classes interface remote below).1

    -- the methods of the interface, and those that it inherits, take and give what crosses
    method-crosses : (u : ClassId) (c : Class) → slice_get classes u.0 ≡ Some c → IsInterface c → Above classes interface u → (m : Method) → Contains c.file.methods m → takes_crossing classes m.types ≡ true
    method-crosses u c at interface-is above m among =
        let k = some_of (slice_get classes interface.0) IsInterface (interface_sound classes interface (and-left (is_interface classes interface) (is_below_remote classes interface) is)) in
        let remote = remote-above (number_of classes remote_name) refl (and-right (is_interface classes interface) (is_below_remote classes interface) is) k.0 k.1 in
        and-both (list_all (crosses classes) m.types.parameters) (option_map_or (crosses classes) m.types.result true)
        (all-pass (crosses classes) m.types.parameters (λ type used. uses k.0 k.1 (k.2, remote) type (inl used)))
        (result (uses k.0 k.1 (k.2, remote)) m.types.result refl)
      where
        uses : (k : Class) → slice_get classes interface.0 ≡ Some k → IsInterface k × IsBelowRemote (origins files) k.file.name → (type : FieldType) → Contains m.types.parameters type ⊎ (m.types.result ≡ Some type) → crosses classes type ≡ true
        uses k there remote type used = by (crosses classes type) refl
          where
            by : (b : Bool) → crosses classes type ≡ b → b ≡ true
            by true e = refl
            by false e =
                absurd (kept (origin k) (RemoteLemmas.stands files classes has set interface.0 k there)
                (Breaks.remote_method c.file remote (RemoteLemmas.upper files classes has set interface k there u c at above)
                (record { of_interface = interface-is; method = m; declared = among; type = type; used = used; not_crossing = λ can. true_false (sym (crosses-test type can) ∙ e) })))

        result : ((type : FieldType) → Contains m.types.parameters type ⊎ (m.types.result ≡ Some type) → crosses classes type ≡ true) → (o : Option FieldType) → m.types.result ≡ o → option_map_or (crosses classes) o true ≡ true
        result each None e = refl
        result each (Some type) e = each type (inr e)

pub remote_methods_cross : RemoteMethodsCross
remote_methods_cross files classes has set kept interface upper c m is sub at interface-is among =
    method-crosses files classes has set kept interface is upper c at interface-is (proper_of_subtype classes interface upper sub) m among

pub remote_rules_are_kept : RemoteRulesAreKept
remote_rules_are_kept files classes has set kept =
    record { fields = RemoteLemmas.remote_fields_are_held files classes has set (kept RemoteField); methods = remote_methods_cross files classes has set (kept RemoteMethod) }
