-- A field of objects that an instruction names: it has a slot, which has its type.
use Rattle.std.proofs.Common.{◌≡◌, ℕ, zero, suc, ◌+◌, Bool, true, false, List, [], ◌∷◌, length, refl, sym, subst, ap, ◌∙◌, Option, Some, None, arith, zero-add}
use Rattle.std.specs.Prelude.{◌==◌, if◌then◌else◌, option_map, slice_get}
use Rattle.std.specs.Option.{option_map_or}
use Rattle.std.proofs.lemmas.Bool.{eq-eqb}
use Rattle.cf_reader.specs.declared.class_file.Field.{Field}
use Rattle.cf_reader.specs.declared.class_file.Method.{Method}
use Rattle.cls_link.specs.Fields.{is_instance, instance_fields}
use Rattle.cls_resolve.specs.LinkRules as rules
use Rattle.cls_resolve.specs.LinkRules.{Check, IsSound}
use Rattle.cls_resolve.specs.Meanings.{IsFieldAt, field_of}
use Rattle.cls_resolve.specs.References.{takes_static}
use Rattle.cls_resolve.specs.declared.named.MemberIndex.{MemberIndex}
use Rattle.cls_resolve.specs.declared.references.Asked.TheVariants as asked
use Rattle.cls_resolve.specs.declared.references.MemberOperation.{MemberOperation}
use Rattle.cls_search.specs.FieldSearches.{field_at, first_from, own_field}
use Rattle.cls_search.specs.declared.fields.FieldIndex.{FieldIndex}
use Rattle.cls_set.proofs.Hierarchy.{by_contradiction, none_some, same_some, true_false}
use Rattle.cls_set.specs.declared.class.Class.{Class}
use Rattle.space_ids.specs.declared.ids.ClassId.{ClassId}
use Rattle.ver_frames.specs.Types.{field_vtype}
use Rattle.vm_code.specs.Fields.{fields_of, fields_up, index_of, is_field_index, slot_of}
use Rattle.vm_typing.specs.Owed.{Owed}
use Rattle.vm_typing.specs.World.{World}
use Rattle.vm_laws.proofs.LookUps.{kept_at}
use Rattle.vm_laws.proofs.Subjects.{passes_both}
use Rattle.vm_laws.specs.Files.{AreAsRead, types_of}
use Rattle.vm_laws.proofs.Declared.{following}
use Rattle.vm_laws.proofs.Sets.{number_known}
use Rattle.vm_laws.specs.Rows.{NamesField}
use Rattle.vm_laws.proofs.Searches.{found_above}

-- ---- slots

same_field_index : (f g : FieldIndex) → f ≡ g → is_field_index f g ≡ true
same_field_index f g e = rw (eq-eqb f.class.0 g.class.0 (ap (λ (p : FieldIndex). p.class.0) e), eq-eqb f.index g.index (ap (λ (p : FieldIndex). p.index) e)) refl

-- a field that stands among others has an index there
index_there : (field : FieldIndex) (k : ℕ) (fs : List FieldIndex) (i : ℕ) → slice_get fs i ≡ Some field → (slot : ℕ) × (index_of field k fs ≡ Some slot)
index_there field k [] i e = absurd (none_some e)
index_there field k (f ∷ fs) zero e = (k, rw (same_field_index field f (sym (same_some e))) refl)
index_there field k (f ∷ fs) (suc i) e = on (is_field_index field f) (index_there field (suc k) fs i e)
  where
    on : (b : Bool) → (slot : ℕ) × (index_of field (suc k) fs ≡ Some slot) → (slot : ℕ) × ((if b then Some k else index_of field (suc k) fs) ≡ Some slot)
    on true go = (k, refl)
    on false go = go

-- an instance field that a class declares stands among its instance fields
instance_there : (class : ClassId) (k : ℕ) (fs : List Field) (n : ℕ) (f : Field) → slice_get fs n ≡ Some f → is_instance f ≡ true
    → (i : ℕ) × (slice_get (instance_fields class k fs) i ≡ Some (record { class = class; index = k + n }))
instance_there class k [] n f e is = absurd (none_some e)
instance_there class k (g ∷ fs) zero f e is =
    let here : is_instance g ≡ true = ap is_instance (same_some e) ∙ is in
    (0, rw here (ap (λ (n : ℕ). Some (record { class = class; index = n })) (omega arith)))
instance_there class k (g ∷ fs) (suc n) f e is = on (is_instance g) (instance_there class (suc k) fs n f e is)
  where
    moved : ◌≡◌ {A = Option FieldIndex} (Some (record { class = class; index = suc k + n })) (Some (record { class = class; index = k + suc n }))
    moved = ap (λ (n : ℕ). Some (record { class = class; index = n })) (omega arith)

    on : (b : Bool) → (i : ℕ) × (slice_get (instance_fields class (suc k) fs) i ≡ Some (record { class = class; index = suc k + n }))
        → (i : ℕ) × (slice_get (if b then record { class = class; index = k } ∷ instance_fields class (suc k) fs else instance_fields class (suc k) fs) i ≡ Some (record { class = class; index = k + suc n }))
    on true go = (suc go.0, go.1 ∙ moved)
    on false go = (go.0, go.1 ∙ moved)

among_fields : (classes : List Class) (field : FieldIndex) (c : Class) (f : Field) → slice_get classes field.class.0 ≡ Some c → slice_get c.file.fields field.index ≡ Some f → is_instance f ≡ true
    → (i : ℕ) × (slice_get (fields_of classes field.class) i ≡ Some field)
unfolding fields_up
among_fields classes field c f at there is =
    let above = option_map_or (fields_up (length classes) classes) c.superclass [] in
    let own = instance_fields field.class 0 c.file.fields in
    let r = instance_there field.class 0 c.file.fields field.index f there is in
    (length above + r.0, rw at (following above own r.0 ∙ (r.1 ∙ ap (λ (n : ℕ). Some (record { class = field.class; index = n })) (zero-add field.index))))

-- an instance field has a slot
pub slot_there : (classes : List Class) (field : FieldIndex) (f : Field) → field_at classes field ≡ Some f → is_instance f ≡ true → (slot : ℕ) × (slot_of classes field ≡ Some slot)
unfolding slot_of
slot_there classes field f e is =
    let c = passes_both (slice_get classes field.class.0) _ f e in
    let among = among_fields classes field c.0 f c.1.0 c.1.1 is in
    let slot = index_there field 0 (fields_of classes field.class) among.0 among.1 in
    (slot.0, rw (e, is) slot.1)

-- ---- what an instruction names

own_class : (classes : List Class) (n t : List ℕ) (c : ClassId) (field : FieldIndex) → own_field classes n t c ≡ Some field → field.class ≡ c
own_class classes n t c field e = let d = passes_both (slice_get classes c.0) _ field e in on (first_from 0 d.0.file.fields n t) d.1.1
  where
    on : (o : Option ℕ) → option_map (λ (index : ℕ). record { class = c; index = index }) o ≡ Some field → field.class ≡ c
    on None e = absurd (none_some e)
    on (Some index) e = ap (λ (f : FieldIndex). f.class) (sym (same_some e))

-- getfield and putfield name no static field
instance_named : (classes : List Class) (user : ClassId) (method : Method) (operation : MemberOperation) (index : ℕ) (class : ClassId) (member : MemberIndex) (f : Field)
    → takes_static operation ≡ false → IsSound classes (record { class = user; method = method; asked = asked.Member operation; index = index })
    → IsFieldAt classes user index class member f → is_instance f ≡ true
instance_named classes user method operation index class member f of sound at =
    by_contradiction (is_instance f) (λ other. sound Check.static_mismatch (rules.MeansMismatch.static operation member.class f.flags.bits (record {
      named = at.named;
      class = class;
      names = record { names = record { asks = refl; names = at.entry }; number = at.number };
      means = rules.Means.field (field_of member) f at.of_field at.resolved at.declared refl refl;
    }) of (λ zero. true_false (sym (ap (λ (n : ℕ). n == 0) zero) ∙ other))))

module _ (w : World) (owed : Owed w) (read : AreAsRead w.classes) (fields : (class : ClassId) → w.fields class ≡ types_of w.classes class) where
  pub names_field : (user : ClassId) (method : Method) (operation : MemberOperation) (index : ℕ) (class : ClassId) (member : MemberIndex) (f : Field)
      → takes_static operation ≡ false → IsSound w.classes (record { class = user; method = method; asked = asked.Member operation; index = index })
      → IsFieldAt w.classes user index class member f → NamesField w class member
  names_field user method operation index class member f of sound at =
      let known = number_known w.classes at.named.class class at.number in
      let is = instance_named w.classes user method operation index class member f of sound at in
      let slot = slot_there w.classes (field_of member) f at.declared is in
      let found = found_above w owed read class known (own_field w.classes at.named.name at.named.descriptor) (field_of member) at.resolved in
      let owner : member.class ≡ found.0 = own_class w.classes at.named.name at.named.descriptor found.0 (field_of member) found.1.1 in
      let own = ap (λ ts. slice_get ts slot.0) (fields member.class) ∙ kept_at w.classes (field_of member) f slot.0 at.declared slot.1 in
      record {
        field = f;
        declared = at.declared;
        slot = slot.0;
        kept = slot.1;
        typed = owed.inherits class found.0 slot.0 (field_vtype w.classes f.kind) known found.1.0 (subst (λ (c : ClassId). slice_get (w.fields c) slot.0 ≡ Some (field_vtype w.classes f.kind)) owner own);
        own = own;
      }
