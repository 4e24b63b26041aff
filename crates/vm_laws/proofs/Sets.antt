-- What every class set gives of what instructions name: classes of which objects are made, casts, and what athrow throws.
use Rattle.std.proofs.Common.{◌≡◌, ◌⊎◌, inl, inr, ℕ, zero, suc, ◌<◌, ◌++◌, Bool, true, false, List, [], ◌∷◌, length, refl, sym, subst, ap, ◌∙◌, Option, Some, None, arith, lit<}
use Rattle.std.specs.Prelude.{nat_eq, nat_lt, ◌||◌, ◌&&◌, Contains, IsSome, IsSomeAnd, codes, option_map, option_to_list, slice_get}
use Rattle.std.specs.List.{AllZip, list_any}
use Rattle.std.specs.Option.{option_map_or, unwrap_or}
use Rattle.std.proofs.lemmas.List.{length-map}
use Rattle.std.proofs.lemmas.List.Elements.{Contains-append_cases, Contains-append_right}
use Rattle.std.proofs.lemmas.Option.{slice_get-map, slice_get_within}
use Rattle.cls_search.specs.Searches.{supertypes_of}
use Rattle.cls_set.proofs.Hierarchy.{equal, none_some, same_some, some_of, subclass_first, true_false}
use Rattle.cls_set.proofs.Names.{name_at_number}
use Rattle.cls_set.proofs.Supertypes.{direct_in_set}
use Rattle.cls_set.specs.BuiltIn.{built_in, built_ins}
use Rattle.cls_set.specs.Classes.{IsInterface, name_at, names, number_of}
use Rattle.cls_set.specs.Sets.{IsClassSet}
use Rattle.cls_set.specs.Subtypes.{IsSubclass}
use Rattle.cls_set.specs.Subtypes.IsSubclass.{itself, superclass}
use Rattle.cls_set.specs.declared.class.Class.{Class}
use Rattle.cls_resolve.specs.declared.named.CastType.{CastType}
use Rattle.cls_resolve.specs.declared.named.CastType.TheVariants as cast
use Rattle.space_ids.specs.declared.ids.ClassId.{ClassId}
use Rattle.ver_frames.specs.Assignable.{IsObjectAssignable}
use Rattle.vm_code.specs.Classes.{is_subtype, is_under}
use Rattle.vm_code.specs.Fields.{kinds_of, kinds_up}
use Rattle.vm_code.specs.Methods.{object_of}
use Rattle.ver_frames.specs.declared.vtype.VType.{VType}
use Rattle.vm_typing.specs.Owed.{HasKind, Owed}
use Rattle.vm_typing.specs.World.{World, IsKnown}
use Rattle.vm_laws.proofs.LookUps.{held}
use Rattle.vm_laws.specs.Files.{AreAsRead, types_of}
use Rattle.vm_laws.specs.Rows.{CastsTo, HasThrowable, MakesObjects}

pub object_stands : (classes : List Class) → IsClassSet classes → IsSome (number_of classes (codes "java/lang/Object"))
unfolding built_ins
object_stands classes set = set.built_in 0 (built_in [] []) (lit< tt)

-- it is the one that the world of the set has
pub object_is : (w : World) → Owed w → IsClassSet w.classes → object_of w.classes ≡ Some w.object
unfolding object_of
object_is w owed set = on (number_of w.classes (codes "java/lang/Object")) refl (object_stands w.classes set)
  where
    on : (o : Option ClassId) → number_of w.classes (codes "java/lang/Object") ≡ o → IsSome o → o ≡ Some w.object
    on None e some = absurd (cc)
    on (Some class) e some = ap (λ (c : ClassId). Some c) (sym (owed.object_named class (name_at_number w.classes (codes "java/lang/Object") class e)))

pub object_named : (classes : List Class) → IsClassSet classes → name_at classes (unwrap_or (number_of classes (codes "java/lang/Object")) (record { 0 = 0 })) ≡ Some (codes "java/lang/Object")
object_named classes set = on (number_of classes (codes "java/lang/Object")) refl (object_stands classes set)
  where
    on : (o : Option ClassId) → number_of classes (codes "java/lang/Object") ≡ o → IsSome o → name_at classes (unwrap_or o (record { 0 = 0 })) ≡ Some (codes "java/lang/Object")
    on None e some = absurd (cc)
    on (Some object) e some = name_at_number classes (codes "java/lang/Object") object e

class_at_number : (classes : List Class) (class : ClassId) (name : List ℕ) → name_at classes class ≡ Some name → (c : Class) × (slice_get classes class.0 ≡ Some c) × (c.file.name ≡ name)
class_at_number classes class name e = on (slice_get classes class.0) refl (sym (slice_get-map (λ (c : Class). c.file.name) classes class.0) ∙ e)
  where
    on : (o : Option Class) → slice_get classes class.0 ≡ o → option_map (λ (c : Class). c.file.name) o ≡ Some name → (c : Class) × (slice_get classes class.0 ≡ Some c) × (c.file.name ≡ name)
    on None at e = absurd (cc)
    on (Some c) at e = (c, at, same_some e)

-- a class that is named is one of the set
pub number_known : (classes : List Class) (name : List ℕ) (class : ClassId) → number_of classes name ≡ Some class → class.0 < length classes
number_known classes name class e =
    subst (λ (n : ℕ). class.0 < n) (length-map classes (λ (c : Class). c.file.name)) (slice_get_within (names classes) class.0 name (name_at_number classes name class e))

or_cases : (a b : Bool) → (a || b) ≡ true → (a ≡ true) ⊎ (b ≡ true)
or_cases true b e = inl refl
or_cases false b e = inr e

second : (a b : Bool) → (a && b) ≡ true → b ≡ true
second true b e = e
second false b e = absurd (true_false (sym e))

any_found : (p : ClassId → Bool) (xs : List ClassId) → list_any p xs ≡ true → (x : ClassId) × Contains xs x × (p x ≡ true)
any_found p [] e = absurd (true_false (sym e))
any_found p (x ∷ xs) e =
    elim (or_cases (p x) (list_any p xs) e) [
      | inl here ↦ (x, (0, omega arith, refl), here)
      | inr later ↦ let r = any_found p xs later in (r.0, Contains-append_right (x ∷ []) xs r.0 r.1, r.2)
    ]

superclass_among : (o : Option ClassId) (s : ClassId) → Contains (option_to_list o) s → o ≡ Some s
superclass_among None s (i, h, e) = absurd (omega (arith, h))
superclass_among (Some t) s (zero, h, e) = ap (λ x. Some x) e
superclass_among (Some t) s (suc i, h, e) = absurd (omega (arith, h))

pub direct_in : (o : Option Class) (s : ClassId) → Contains (option_map_or (λ (c : Class). c.interfaces ++ option_to_list c.superclass) o []) s
    → IsSomeAnd o (λ c. c.superclass ≡ Some s) ⊎ IsSomeAnd o (λ c. Contains c.interfaces s)
direct_in None s (i, h, e) = absurd (omega (arith, h))
direct_in (Some c) s among =
    elim (Contains-append_cases c.interfaces (option_to_list c.superclass) s among) [
      | inl up ↦ inr up
      | inr up ↦ inl (superclass_among c.superclass s up)
    ]

module _ (w : World) (owed : Owed w) (set : IsClassSet w.classes) (read : AreAsRead w.classes) where
  -- what is a subtype of a class may stand for it
  under_stands : (n : ℕ) (a b : ClassId) → IsKnown w a → is_under n w.classes a b ≡ true → IsObjectAssignable w.classes a b
  unfolding is_under
  under_stands zero a b known e = inr (subst (λ (c : ClassId). IsSubclass w.classes a c) (equal a b e) (itself a))
  under_stands (suc n) a b known e =
      elim (or_cases (nat_eq a.0 b.0) _ e) [
        | inl same ↦ inr (subst (λ (c : ClassId). IsSubclass w.classes a c) (equal a b same) (itself a))
        | inr up ↦ higher (under_stands n) (any_found (λ up. is_under n w.classes up b) (supertypes_of w.classes a) up)
      ]
    where
      higher : ((c d : ClassId) → IsKnown w c → is_under n w.classes c d ≡ true → IsObjectAssignable w.classes c d)
          → (x : ClassId) × Contains (supertypes_of w.classes a) x × (is_under n w.classes x b ≡ true) → IsObjectAssignable w.classes a b
      higher go (x, among, rest) =
          elim (direct_in (slice_get w.classes a.0) x among) [
            | inl extends ↦ owed.further a x b known (inr (superclass a x extends)) (go x b (direct_in_set w.classes set a x (inl extends)) rest)
            | inr declares ↦ owed.further a x b known (inl (read.superinterfaces a x declares)) (go x b (direct_in_set w.classes set a x (inr declares)) rest)
          ]

  pub casts_to : (type : CastType) → CastsTo w type
  unfolding is_subtype
  casts_to (cast.Class asked) = λ class known e. under_stands (length w.classes) class asked known (second (nat_lt class.0 (length w.classes)) (is_under (length w.classes) w.classes class asked) e)
  casts_to cast.IntArray = tt

  pub makes_objects : ((class : ClassId) → w.fields class ≡ types_of w.classes class) → (name : List ℕ) (class : ClassId) → number_of w.classes name ≡ Some class → MakesObjects w class
  unfolding kinds_of
  makes_objects fields name class e =
      let c = class_at_number w.classes class name (name_at_number w.classes name class e) in
      let kinds : kinds_of w.classes class ≡ Some (kinds_up (suc (length w.classes)) w.classes class) = rw c.1 refl in
      record {
        known = number_known w.classes name class e;
        kinds = kinds_up (suc (length w.classes)) w.classes class;
        held = kinds;
        of_types = subst (λ (ts : List VType). AllZip HasKind ts (kinds_up (suc (length w.classes)) w.classes class)) (sym (fields class)) (held w.classes read class (kinds_up (suc (length w.classes)) w.classes class) kinds);
      }

  throwable_known : IsSome (number_of w.classes (codes "java/lang/Throwable"))
  unfolding built_ins
  throwable_known = set.built_in 1 (built_in [] []) (lit< tt)

  other_names : (c : Class) → c.file.name ≡ codes "java/lang/Object" → c.file.name ≡ codes "java/lang/Throwable" → ⊥
  other_names c one other =
      let bad : codes "java/lang/Object" ≡ codes "java/lang/Throwable" = sym one ∙ other in
      let lengths : 16 ≡ 19 = ap (λ (name : List ℕ). length name) bad in
      absurd (omega (arith, lengths))

  pub has_throwable : name_at w.classes w.object ≡ Some (codes "java/lang/Object") → HasThrowable w
  has_throwable named = on (number_of w.classes (codes "java/lang/Throwable")) refl throwable_known
    where
      apart : (class : ClassId) → name_at w.classes class ≡ Some (codes "java/lang/Throwable") → IsObjectAssignable w.classes w.object class → ⊥
      apart class throwable (inl interface) =
          let i = some_of (slice_get w.classes class.0) IsInterface interface in
          let c = class_at_number w.classes class (codes "java/lang/Throwable") throwable in
          read.throwable class c.0 c.1 c.2 (subst IsInterface (same_some (sym i.1 ∙ c.1)) i.2)
      apart class throwable (inr below) =
          let o = class_at_number w.classes w.object (codes "java/lang/Object") named in
          let c = class_at_number w.classes class (codes "java/lang/Throwable") throwable in
          elim (subclass_first w.classes below) [
            | inl same ↦
                let one : c.0 ≡ o.0 = same_some (sym c.1 ∙ (ap (λ (d : ClassId). slice_get w.classes d.0) (sym same) ∙ o.1)) in
                other_names c.0 (subst (λ (d : Class). d.file.name ≡ codes "java/lang/Object") (sym one) o.2) c.2
            | inr up ↦
                let step = some_of (slice_get w.classes w.object.0) (λ (d : Class). d.superclass ≡ Some up.0) up.1 in
                let one : step.0 ≡ o.0 = same_some (sym step.1 ∙ o.1) in
                none_some (sym (read.object w.object o.0 o.1 o.2).0 ∙ subst (λ (d : Class). d.superclass ≡ Some up.0) one step.2)
          ]

      on : (o : Option ClassId) → number_of w.classes (codes "java/lang/Throwable") ≡ o → IsSome o → HasThrowable w
      on None e some = absurd (cc)
      on (Some class) e some = record { class = class; named = e; not_above = apart class (name_at_number w.classes (codes "java/lang/Throwable") class e) }
