-- What is meant is one.
use Rattle.std.proofs.Common.{◌≡◌, ℕ, Option, Some, None, List, [], ◌∷◌, ◌++◌, refl, sym, ap, ◌∙◌}
use Rattle.cf_pool.specs.Pools.{NamedMember}
use Rattle.cf_pool.specs.declared.pool.MemberKind.TheVariants as kind
use Rattle.cf_reader.specs.declared.class_file.Field.{Field}
use Rattle.cf_reader.specs.declared.class_file.Method.{Method}
use Rattle.cls_set.specs.declared.class.Class.{Class}
use Rattle.space_ids.specs.declared.ids.ClassId.{ClassId}
use Rattle.cls_search.specs.declared.fields.FieldIndex.{FieldIndex}
use Rattle.cls_search.specs.declared.methods.MethodIndex.{MethodIndex}
use Rattle.cls_search.specs.FieldSearches.{field_at, own_field, ResolvesField}
use Rattle.cls_resolve.specs.LinkRules as rules
use Rattle.cls_resolve.specs.LinkRules.{Means}
use Rattle.cls_search.specs.Searches as searches
use Rattle.cls_search.specs.Searches.{Finds, superclass_of, supertypes_of}
use Rattle.cls_search.specs.MethodSearches as selections
use Rattle.cls_search.specs.MethodSearches.{is_interface, is_initializer, method_in, own_method, own_of_interface, Resolves}

some_none : {X : Type 0} {x : X} → Some x ≡ None → ⊥
some_none e = cc

no_item : {x : ClassId} {xs : List ClassId} → [] ≡ x ∷ xs → ⊥
no_item e = cc

first : {x y : ClassId} {xs ys : List ClassId} → x ∷ xs ≡ y ∷ ys → x ≡ y
first e = cc

others : {x y : ClassId} {xs ys : List ClassId} → x ∷ xs ≡ y ∷ ys → xs ≡ ys
others e = cc

module _ {A : Type 0} (above : ClassId → List ClassId) (own : ClassId → Option A) where
  next : {x y : ClassId} {xs ys : List ClassId} → x ∷ xs ≡ y ∷ ys → above x ++ xs ≡ above y ++ ys
  next {x} {y} {xs} {ys} e = ap (λ c. above c ++ xs) (first e) ∙ ap (λ cs. above y ++ cs) (others e)

  found_once : {xs ys : List ClassId} {r s : Option A} → Finds above own xs r → Finds above own ys s → xs ≡ ys → r ≡ s
  found_once searches.Finds.nothing searches.Finds.nothing e = refl
  found_once searches.Finds.nothing (searches.Finds.here d rest y is) e = absurd (no_item e)
  found_once searches.Finds.nothing (searches.Finds.further d rest s is h) e = absurd (no_item e)
  found_once (searches.Finds.here c rest x is) searches.Finds.nothing e = absurd (no_item (sym e))
  found_once (searches.Finds.here c rest x is) (searches.Finds.here d more y too) e = sym is ∙ (ap own (first e) ∙ too)
  found_once (searches.Finds.here c rest x is) (searches.Finds.further d more s too h) e = absurd (some_none (sym is ∙ (ap own (first e) ∙ too)))
  found_once (searches.Finds.further c rest r is h) searches.Finds.nothing e = absurd (no_item (sym e))
  found_once (searches.Finds.further c rest r is h) (searches.Finds.here d more y too) e = absurd (some_none (sym too ∙ (ap own (sym (first e)) ∙ is)))
  found_once (searches.Finds.further c rest r is h) (searches.Finds.further d more s too g) e = found_once h g (next e)

  pub one_found : {xs : List ClassId} {r s : Option A} → Finds above own xs r → Finds above own xs s → r ≡ s
  one_found f g = found_once f g refl

module _ {A : Type 0} (classes : List Class) (class : ClassId) (name : List ℕ) (own : ClassId → Option A) where
  pub one_resolved : {r s : Option A} → Resolves classes class name own r → Resolves classes class name own s → r ≡ s
  one_resolved (selections.Resolves.of_class_alone i) (selections.Resolves.of_class_alone j) = refl
  one_resolved (selections.Resolves.of_class_alone i) (selections.Resolves.in_superclasses m n c f) = absurd (n i)
  one_resolved (selections.Resolves.of_class_alone i) (selections.Resolves.in_superinterfaces s n c f g) = absurd (n i)
  one_resolved (selections.Resolves.of_class_alone i) (selections.Resolves.in_interfaces s n c g) = absurd (n i)
  one_resolved (selections.Resolves.in_superclasses m n c f) (selections.Resolves.of_class_alone j) = absurd (n j)
  one_resolved (selections.Resolves.in_superclasses m n c f) (selections.Resolves.in_superclasses k o d g) = one_found (superclass_of classes) own f g
  one_resolved (selections.Resolves.in_superclasses m n c f) (selections.Resolves.in_superinterfaces s o d g h) = absurd (some_none (one_found (superclass_of classes) own f g))
  one_resolved (selections.Resolves.in_superclasses m n c f) (selections.Resolves.in_interfaces s o d h) = absurd (c d)
  one_resolved (selections.Resolves.in_superinterfaces r n c f h) (selections.Resolves.of_class_alone j) = absurd (n j)
  one_resolved (selections.Resolves.in_superinterfaces r n c f h) (selections.Resolves.in_superclasses k o d g) = absurd (some_none (one_found (superclass_of classes) own g f))
  one_resolved (selections.Resolves.in_superinterfaces r n c f h) (selections.Resolves.in_superinterfaces s o d g i) = one_found (supertypes_of classes) (own_of_interface classes own) h i
  one_resolved (selections.Resolves.in_superinterfaces r n c f h) (selections.Resolves.in_interfaces s o d i) = absurd (c d)
  one_resolved (selections.Resolves.in_interfaces r n c h) (selections.Resolves.of_class_alone j) = absurd (n j)
  one_resolved (selections.Resolves.in_interfaces r n c h) (selections.Resolves.in_superclasses k o d g) = absurd (d c)
  one_resolved (selections.Resolves.in_interfaces r n c h) (selections.Resolves.in_superinterfaces s o d g i) = absurd (d c)
  one_resolved (selections.Resolves.in_interfaces r n c h) (selections.Resolves.in_interfaces s o d i) = one_found (supertypes_of classes) (own_of_interface classes own) h i

-- the class that declares a member, and its flags
pub record IsSameMember (owner other : ClassId) (flags bits : ℕ) : Type 0 where
  pub owners : owner ≡ other
  pub flags_of : flags ≡ bits

module _ (classes : List Class) (named : NamedMember) (class : ClassId) where
  same_field_index : {p q : FieldIndex} → Some p ≡ Some q → p ≡ q
  same_field_index e = cc

  same_index : {p q : MethodIndex} → Some p ≡ Some q → p ≡ q
  same_index e = cc

  same_field : {f g : Field} → Some f ≡ Some g → f ≡ g
  same_field e = cc

  same_method : {m n : Method} → Some m ≡ Some n → m ≡ n
  same_method e = cc

  pub one_meant : {owner other : ClassId} {flags bits : ℕ} → Means classes named class owner flags → Means classes named class other bits → IsSameMember owner other flags bits
  one_meant (rules.Means.field p f k r at is fl) (rules.Means.field q g l s too also gl) =
      let same = same_field_index (one_found (supertypes_of classes) (own_field classes named.name named.descriptor) r s) in
      record {
        owners = sym is ∙ (ap (λ (x : FieldIndex). x.class) same ∙ also);
        flags_of = sym fl ∙ (ap (λ (x : Field). x.flags.bits) (same_field (sym at ∙ (ap (field_at classes) same ∙ too))) ∙ gl);
      }
  one_meant (rules.Means.field p f k r at is fl) (rules.Means.method q g l s too also gl) = absurd (l k)
  one_meant (rules.Means.method p f k r at is fl) (rules.Means.field q g l s too also gl) = absurd (k l)
  one_meant (rules.Means.method p f k r at is fl) (rules.Means.method q g l s too also gl) =
      let same = same_index (one_resolved classes class named.name (own_method classes named.name named.descriptor) r s) in
      record {
        owners = sym is ∙ (ap (λ (x : MethodIndex). x.class) same ∙ also);
        flags_of = sym fl ∙ (ap (λ (x : Method). x.flags.bits) (same_method (sym at ∙ (ap (method_in classes) same ∙ too))) ∙ gl);
      }

  -- if a field is meant, the search does not answer none
  pub some_field : {owner : ClassId} {flags : ℕ} → Means classes named class owner flags → ResolvesField classes class named.name named.descriptor None → named.kind ≡ kind.Field → ⊥
  some_field (rules.Means.field p f k r at is fl) s l = some_none (one_found (supertypes_of classes) (own_field classes named.name named.descriptor) r s)
  some_field (rules.Means.method p f k r at is fl) s l = k l

  pub some_method : {owner : ClassId} {flags : ℕ} → Means classes named class owner flags → Resolves classes class named.name (own_method classes named.name named.descriptor) None → (named.kind ≡ kind.Field → ⊥) → ⊥
  some_method (rules.Means.field p f k r at is fl) s l = l k
  some_method (rules.Means.method p f k r at is fl) s l = some_none (one_resolved classes class named.name (own_method classes named.name named.descriptor) r s)
