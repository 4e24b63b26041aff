-- The packages of names, and which methods clash with those of superclasses.
use Rattle.std.proofs.Common.{◌≡◌, ◌≢◌, ℕ, ◌+◌, ◌<◌, ◌⊎◌, inl, inr, Bool, true, false, None, Some, List, [], ◌∷◌, ◌++◌, length, get_or, take, refl, sym, subst, ap, ◌∙◌}
use Rattle.std.specs.Prelude.{◌==◌, ◌||◌, Contains, codes, cond, slice_get}
use Rattle.std.specs.List.{list_any}
use Rattle.std.proofs.lemmas.List.{take_more}
use Rattle.std.proofs.lemmas.Option.{slice_get-get_or, slice_get_within}
use Rattle.cf_reader.specs.declared.class_file.ClassFile.{ClassFile}
use Rattle.cf_reader.specs.declared.class_file.Method.{Method}
use Rattle.cf_reader.specs.declared.flags.TheConstants.Flags.{PRIVATE}
use Rattle.cls_order.specs.declared.class.Class.{Class}
use Rattle.space_ids.specs.declared.ids.ClassId.{ClassId}
use Rattle.cls_order.specs.declared.entries.Entry.{Entry}
use Rattle.cls_order.specs.Building.{origins_of}
use Rattle.cls_order.specs.Entries.{classes_of, AreArranged}
use Rattle.cls_set.specs.Descending.{Above, IsBarredBelow}
use Rattle.cls_set.specs.Inheriting.{IsBarred}
use Rattle.cls_set.specs.Orders.{method_key, Key}
use Rattle.cls_set.specs.Rules as rules
use Rattle.cls_set.specs.Rules.{package_name, Has, HasSuperclass, IsSuperclass, MayNotStand, OverridesBadly}
use Rattle.cls_order.specs.Sets.{Origin}
use Rattle.cls_order.proofs.Origins.{origins_of_classes}
use Rattle.cls_order.proofs.Hierarchy.{same_some}
use Rattle.cls_set.proofs.Supers.{resolved_member, superclass_in, superclass_none, superclass_out}

abbrev pub is_slash : ℕ → Bool
is_slash c = c == 47

slash_last : (xs : List ℕ) → list_any is_slash (xs ++ 47 ∷ []) ≡ true
slash_last [] = refl
slash_last (x ∷ xs) =
    elim (is_slash x) as (λ b. (b || list_any is_slash (xs ++ 47 ∷ [])) ≡ true) [
      | true ↦ refl
      | false ↦ slash_last xs
    ]

no_more : (xs : List ℕ) (b : ℕ) → is_slash b ≡ false → list_any is_slash (xs ++ b ∷ []) ≡ list_any is_slash xs
no_more [] b e = ap (λ t. t || false) e
no_more (x ∷ xs) b e = ap (λ t. is_slash x || t) (no_more xs b e)

-- a / ends the package
pub ends_at_slash : (xs : List ℕ) → package_name (xs ++ 47 ∷ []) ≡ xs
ends_at_slash [] = refl
ends_at_slash (x ∷ xs) = rw (slash_last xs) (ap (λ ys. x ∷ ys) (ends_at_slash xs))

-- another byte leaves it
pub other_byte : (xs : List ℕ) (b : ℕ) → is_slash b ≡ false → package_name (xs ++ b ∷ []) ≡ package_name xs
other_byte [] b e = refl
other_byte (x ∷ xs) b e = rw (no_more xs b e) (ap (λ ys. cond (list_any is_slash xs) (x ∷ ys) []) (other_byte xs b e))

pub package_slash : (xs : List ℕ) (i : ℕ) → i < length xs → get_or xs i 0 ≡ 47 → take i xs ≡ package_name (take (i + 1) xs)
package_slash xs i h e = sym (ap package_name (take_more xs i 0 h ∙ ap (λ b. take i xs ++ b ∷ []) e) ∙ ends_at_slash (take i xs))

pub package_other : (xs : List ℕ) (i : ℕ) → i < length xs → is_slash (get_or xs i 0) ≡ false → package_name (take i xs) ≡ package_name (take (i + 1) xs)
package_other xs i h e = sym (ap package_name (take_more xs i 0 h) ∙ other_byte (take i xs) (get_or xs i 0) e)

-- what bars a method, in the terms of the rule
pub barred_in : (lower upper : ClassFile) (low high : Method) → ¬ Has high.flags.bits PRIVATE → MayNotStand lower upper low high → IsBarred low (package_name lower.name) high (package_name upper.name)
barred_in lower upper low high v (rules.MayNotStand.overrides_final n h) = (v, inr (n, inl (inl h)))
barred_in lower upper low high v (rules.MayNotStand.overrides_static n h) = (v, inr (n, inl (inr h)))
barred_in lower upper low high v (rules.MayNotStand.of_other_package n h o) = (v, inr (n, inr (inr (h, λ e. o (sym e)))))
barred_in lower upper low high v (rules.MayNotStand.overrides_as_private n h) = (v, inr (n, inr (inl h)))
barred_in lower upper low high v (rules.MayNotStand.hides_instance h n) = (v, inl (h, n))

pub barred_out : (lower upper : ClassFile) (low high : Method) → IsBarred low (package_name lower.name) high (package_name upper.name) → MayNotStand lower upper low high
barred_out lower upper low high (v, inl (h, n)) = rules.MayNotStand.hides_instance h n
barred_out lower upper low high (v, inr (n, inl (inl h))) = rules.MayNotStand.overrides_final n h
barred_out lower upper low high (v, inr (n, inl (inr h))) = rules.MayNotStand.overrides_static n h
barred_out lower upper low high (v, inr (n, inr (inl h))) = rules.MayNotStand.overrides_as_private n h
barred_out lower upper low high (v, inr (n, inr (inr (h, o)))) = rules.MayNotStand.of_other_package n h (λ e. o (sym e))

-- the superclasses of a class that is arranged: its direct one, and those of that
module _ (entries : List Entry) (a : AreArranged entries) (c : Class) (among : Contains (classes_of entries) c) where
  pub direct_in : (s : ClassId) (k : Class) → c.superclass ≡ Some s → slice_get (classes_of entries) s.0 ≡ Some k → HasSuperclass (origins_of entries) c.file k.file
  direct_in s k is e =
      subst (λ os. HasSuperclass os c.file k.file) (origins_of_classes entries) (superclass_in (classes_of entries) a.ordered a.resolved c (resolved_member entries a c among) s k is e)

  pub direct_out : (s : ClassId) (k : Class) (f : ClassFile) → c.superclass ≡ Some s → slice_get (classes_of entries) s.0 ≡ Some k → HasSuperclass (origins_of entries) c.file f → f ≡ k.file
  direct_out s k f is e h =
      superclass_out (classes_of entries) a.ordered a.resolved c (resolved_member entries a c among) s k f is e
      (subst (λ os. HasSuperclass os c.file f) (sym (origins_of_classes entries)) h)

  pub none_above : (f : ClassFile) → c.superclass ≡ None → HasSuperclass (origins_of entries) c.file f → ⊥
  none_above f is h = superclass_none (classes_of entries) a.ordered a.resolved c (resolved_member entries a c among) f is (subst (λ os. HasSuperclass os c.file f) (sym (origins_of_classes entries)) h)

-- a class of the entries, as it is read
pub class_at : (entries : List Entry) (i : ℕ) (k : Class) → slice_get (classes_of entries) i ≡ Some k → Contains (classes_of entries) k
class_at entries i k e =
    let h = slice_get_within (classes_of entries) i k e in
    (i, h, same_some (sym (slice_get-get_or (classes_of entries) i k h) ∙ e))

-- a superclass is the direct one, or one of that
pub first_up : (os : List Origin) (sub sup : ClassFile) → IsSuperclass os sub sup → (mid : ClassFile) × HasSuperclass os sub mid × ((sup ≡ mid) ⊎ IsSuperclass os mid sup)
first_up os sub sup (rules.IsSuperclass.direct a b h) = (b, h, inl refl)
first_up os sub sup (rules.IsSuperclass.further a m b h up) = (m, h, inr up)

-- a method that is barred by one of a superclass, in the terms of the rule
module _ (entries : List Entry) (index : ℕ) (c : Class) (is : slice_get (classes_of entries) index ≡ Some c) where
  pub bad_in : (low : Method) → Contains c.file.methods low → (low.name ≢ codes "<init>") → IsBarredBelow (Above entries index) (method_key low) low (package_name c.file.name) → OverridesBadly (origins_of entries) c.file
  bad_in low declared named b =
      let source = b.source in
      let same : source.0 ≡ c = same_some (sym source.1 ∙ is) in
      record {
        low = low;
        declared = declared;
        upper = b.upper;
        above = subst (λ (x : Class). IsSuperclass (origins_of entries) x.file b.upper) same source.2;
        high = b.high;
        inherited = source.3;
        clash = record {
          not_init = named;
          name = sym (ap (λ (k : Key). k.0) b.same);
          descriptor = sym (ap (λ (k : Key). k.1) b.same);
          visible = b.barred.0;
          wrong = barred_out c.file b.upper low b.high b.barred;
        };
      }

  pub bad_out : (bad : OverridesBadly (origins_of entries) c.file) → IsBarredBelow (Above entries index) (method_key bad.low) bad.low (package_name c.file.name)
  bad_out bad =
      record {
        upper = bad.upper;
        high = bad.high;
        source = (c, is, bad.above, bad.inherited);
        same =
            ap (λ (n : List ℕ). (n, bad.high.descriptor)) (sym bad.clash.name) ∙ ap (λ (d : List ℕ). (bad.low.name, d)) (sym bad.clash.descriptor);
        barred = barred_in c.file bad.upper bad.low bad.high bad.clash.visible bad.clash.wrong;
      }
