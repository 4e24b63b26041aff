-- The supertypes of a class by number are those that its file names, and the rules speak of their files.
use Rattle.std.proofs.Common.{◌≡◌, ℕ, ◌<◌, inl, inr, Option, Some, None, List, length, get_or, map, refl, sym, subst, ap, ◌∙◌}
use Rattle.std.specs.Prelude.{All, Contains, option_map, slice_get}
use Rattle.std.specs.List.Sorted.{IsStrictlySortedBy}
use Rattle.std.proofs.lemmas.List.{get_or-map, length-map}
use Rattle.std.proofs.lemmas.List.Elements.{All-contains}
use Rattle.std.proofs.lemmas.Option.{slice_get_cases, slice_get_within, slice_get-get_or, slice_get-map}
use Rattle.cf_reader.specs.declared.class_file.ClassFile.{ClassFile}
use Rattle.cls_order.specs.declared.class.Class.{Class}
use Rattle.space_ids.specs.declared.ids.ClassId.{ClassId}
use Rattle.cls_order.specs.declared.entries.Entry.{Entry}
use Rattle.cls_order.specs.Building.{origins_of}
use Rattle.cls_order.specs.Classes.{name_cmp, names}
use Rattle.cls_order.specs.Entries.{classes_of, AreArranged}
use Rattle.cf_reader.specs.declared.flags.TheConstants.Flags.{INTERFACE}
use Rattle.cls_set.specs.ClassRules.{ExtendsOneWith, ImplementsClass}
use Rattle.cls_set.specs.Rules.{Has, HasSuperclass, HasSuperinterface, IsNamed}
use Rattle.cls_order.specs.Sets.{Origin, origin, IsResolved}
use Rattle.cls_order.proofs.Origins.{origins_of_classes}
use Rattle.cls_order.proofs.Cycles.{class_named, one_index, standing, to_id, to_name}
use Rattle.cls_order.proofs.Names.{length_names}
use Rattle.cls_order.proofs.Hierarchy.{none_some, same_some}

resolved_name : (ns : List (List ℕ)) (o : Option ClassId) (given : Option (List ℕ)) → option_map (λ (id : ClassId). slice_get ns id.0) o ≡ option_map (λ (n : List ℕ). Some n) given → (s : ClassId) → o ≡ Some s → (name : List ℕ) × (given ≡ Some name) × (slice_get ns s.0 ≡ Some name)
resolved_name ns (Some t) (Some name) e s is = (name, refl, ap (λ (id : ClassId). slice_get ns id.0) (sym (same_some is)) ∙ same_some e)
resolved_name ns (Some t) None e s is = absurd (none_some (sym e))
resolved_name ns None given e s is = absurd (none_some is)

pub resolved_none : (ns : List (List ℕ)) (o : Option ClassId) (given : Option (List ℕ)) → option_map (λ (id : ClassId). slice_get ns id.0) o ≡ option_map (λ (n : List ℕ). Some n) given → o ≡ None → given ≡ None
resolved_none ns None None e is = refl
resolved_none ns None (Some name) e is = absurd (none_some e)
resolved_none ns (Some t) given e is = absurd (none_some (sym is))

-- of the classes with these names, a class of a name is the one whose number has it
module _ (classes : List Class) (ordered : IsStrictlySortedBy name_cmp (names classes)) (resolved : All (IsResolved (names classes)) classes) where
  pub named_here : (i : ℕ) (k : Class) → slice_get classes i ≡ Some k → IsNamed (map origin classes) k.file.name k.file
  named_here i k e =
      let h = slice_get_within classes i k e in
      let at : get_or (map origin classes) i (origin k) ≡ origin k = get_or-map origin classes i k (origin k) h ∙ ap origin (same_some (sym (slice_get-get_or classes i k h) ∙ e)) in
      (k.is_built_in, (i, subst (λ n. i < n) (sym (length-map classes origin)) h, at), refl)

  pub one_named : (i : ℕ) (k : Class) (name : List ℕ) (f : ClassFile) → slice_get classes i ≡ Some k → slice_get (names classes) i ≡ Some name → IsNamed (map origin classes) name f → f ≡ k.file
  one_named i k name f e called n =
      let at = standing classes ordered resolved (f, n.0) n.1 in
      let there : slice_get (names classes) at.0 ≡ Some name = class_named classes ordered resolved at.0 at.1 at.2 ∙ ap (λ x. Some x) (ap (λ (o : Origin). o.0.name) at.3 ∙ n.2) in
      let index : at.0 ≡ i = one_index (names classes) at.0 i name ordered there called in
      let same : at.1 ≡ k = same_some (sym (subst (λ j. slice_get classes j ≡ Some at.1) index at.2) ∙ e) in
      ap (λ (o : Origin). o.0) (sym at.3) ∙ ap (λ (c : Class). c.file) same

  pub class_there : (i : ℕ) (name : List ℕ) → slice_get (names classes) i ≡ Some name → (k : Class) × (slice_get classes i ≡ Some k)
  class_there i name called =
      elim (slice_get_cases classes i).1 [
        | inl r ↦ (r.0, r.2)
        | inr r ↦ absurd (none_some (sym (slice_get-map (λ (c : Class). c.file.name) classes i ∙ ap (option_map (λ (c : Class). c.file.name)) r.1) ∙ called))
      ]

  name_there : (i : ℕ) (k : Class) (name : List ℕ) → slice_get classes i ≡ Some k → slice_get (names classes) i ≡ Some name → k.file.name ≡ name
  name_there i k name e called = same_some (sym (class_named classes ordered resolved i k e) ∙ called)

  module _ (c : Class) (r : IsResolved (names classes) c) where
    -- the file of the class that its number leads to is the direct superclass
    pub superclass_in : (s : ClassId) (k : Class) → c.superclass ≡ Some s → slice_get classes s.0 ≡ Some k → HasSuperclass (map origin classes) c.file k.file
    superclass_in s k is e =
        let n = resolved_name (names classes) c.superclass c.file.superclass r.superclass s is in
        (n.0, n.1, subst (λ name. IsNamed (map origin classes) name k.file) (name_there s.0 k n.0 e n.2) (named_here s.0 k e))

    pub superclass_out : (s : ClassId) (k : Class) (f : ClassFile) → c.superclass ≡ Some s → slice_get classes s.0 ≡ Some k → HasSuperclass (map origin classes) c.file f → f ≡ k.file
    superclass_out s k f is e h =
        let n = resolved_name (names classes) c.superclass c.file.superclass r.superclass s is in
        let same : h.0 ≡ n.0 = same_some (sym h.1 ∙ n.1) in
        one_named s.0 k n.0 f e n.2 (subst (λ name. IsNamed (map origin classes) name f) same h.2)

    pub superclass_none : (f : ClassFile) → c.superclass ≡ None → HasSuperclass (map origin classes) c.file f → ⊥
    superclass_none f is h = none_some (sym (resolved_none (names classes) c.superclass c.file.superclass r.superclass is) ∙ h.1)

    pub superinterface_in : (s : ClassId) (k : Class) → Contains c.interfaces s → slice_get classes s.0 ≡ Some k → HasSuperinterface (map origin classes) c.file k.file
    superinterface_in s k among e =
        let n = to_name (names classes) c.interfaces c.file.interfaces r.interfaces s among in
        (n.0, n.1, subst (λ name. IsNamed (map origin classes) name k.file) (name_there s.0 k n.0 e n.2) (named_here s.0 k e))

    -- a direct superinterface is the file of a class that a number leads to
    pub superinterface_out : (f : ClassFile) → HasSuperinterface (map origin classes) c.file f → (s : ClassId) × (k : Class) × Contains c.interfaces s × (slice_get classes s.0 ≡ Some k) × (f ≡ k.file)
    superinterface_out f h =
        let b = to_id (names classes) c.interfaces c.file.interfaces r.interfaces h.0 h.1 in
        let k = class_there b.0.0 h.0 b.2 in
        (b.0, k.0, b.1, k.1, one_named b.0.0 k.0 h.0 f k.1 b.2 h.2)

-- so for entries
module _ (entries : List Entry) (a : AreArranged entries) where
  pub resolved_member : (c : Class) → Contains (classes_of entries) c → IsResolved (names (classes_of entries)) c
  resolved_member c among = All-contains (IsResolved (names (classes_of entries))) (classes_of entries) c a.resolved among

  pub extends_in : (c : Class) → Contains (classes_of entries) c → (s : ClassId) (k : Class) (mask : ℕ) → c.superclass ≡ Some s → slice_get (classes_of entries) s.0 ≡ Some k → Has k.file.flags.bits mask → ExtendsOneWith (origins_of entries) c.file mask
  extends_in c among s k mask is e has =
      subst (λ os. ExtendsOneWith os c.file mask) (origins_of_classes entries)
      (k.file, superclass_in (classes_of entries) a.ordered a.resolved c (resolved_member c among) s k is e, has)

  pub extends_out : (c : Class) → Contains (classes_of entries) c → (s : ClassId) (k : Class) (mask : ℕ) → c.superclass ≡ Some s → slice_get (classes_of entries) s.0 ≡ Some k → ExtendsOneWith (origins_of entries) c.file mask → Has k.file.flags.bits mask
  extends_out c among s k mask is e x =
      let up = subst (λ os. ExtendsOneWith os c.file mask) (sym (origins_of_classes entries)) x in
      subst (λ (f : ClassFile). Has f.flags.bits mask) (superclass_out (classes_of entries) a.ordered a.resolved c (resolved_member c among) s k up.0 is e up.1) up.2

  pub extends_none : (c : Class) → Contains (classes_of entries) c → (mask : ℕ) → c.superclass ≡ None → ExtendsOneWith (origins_of entries) c.file mask → ⊥
  extends_none c among mask is x =
      let up = subst (λ os. ExtendsOneWith os c.file mask) (sym (origins_of_classes entries)) x in
      superclass_none (classes_of entries) a.ordered a.resolved c (resolved_member c among) up.0 is up.1

  pub implements_in : (c : Class) → Contains (classes_of entries) c → (s : ClassId) (k : Class) → Contains c.interfaces s → slice_get (classes_of entries) s.0 ≡ Some k → (¬ Has k.file.flags.bits INTERFACE) → ImplementsClass (origins_of entries) c.file
  implements_in c among s k stands e none =
      subst (λ os. ImplementsClass os c.file) (origins_of_classes entries)
      (k.file, superinterface_in (classes_of entries) a.ordered a.resolved c (resolved_member c among) s k stands e, none)

  pub implements_out : (c : Class) → Contains (classes_of entries) c → ImplementsClass (origins_of entries) c.file → (s : ClassId) × (k : Class) × Contains c.interfaces s × (slice_get (classes_of entries) s.0 ≡ Some k) × (¬ Has k.file.flags.bits INTERFACE)
  implements_out c among x =
      let up = subst (λ os. ImplementsClass os c.file) (sym (origins_of_classes entries)) x in
      let at = superinterface_out (classes_of entries) a.ordered a.resolved c (resolved_member c among) up.0 up.1 in
      (at.0, at.1, at.2, at.3, subst (λ (f : ClassFile). ¬ Has f.flags.bits INTERFACE) at.4 up.2)

  pub superclass_in_set : (c : Class) → Contains (classes_of entries) c → (s : ClassId) → c.superclass ≡ Some s → s.0 < length entries
  superclass_in_set c among s is =
      let n = resolved_name (names (classes_of entries)) c.superclass c.file.superclass (resolved_member c among).superclass s is in
      subst (λ n. s.0 < n) (length_names entries) (slice_get_within (names (classes_of entries)) s.0 n.0 n.2)

  pub interface_in_set : (c : Class) → Contains (classes_of entries) c → (s : ClassId) → Contains c.interfaces s → s.0 < length entries
  interface_in_set c among s stands =
      let n = to_name (names (classes_of entries)) c.interfaces c.file.interfaces (resolved_member c among).interfaces s stands in
      subst (λ n. s.0 < n) (length_names entries) (slice_get_within (names (classes_of entries)) s.0 n.0 n.2)
