-- The method that a call selects on an object of the space begins there.
use Rattle.std.proofs.Common.{◌≡◌, ℕ, zero, suc, ◌+◌, ◌<◌, Bool, true, false, List, [], ◌∷◌, length, refl, ap, sym, subst, ◌∙◌, arith, Option, Some, None, eqb-true}
use Rattle.std.specs.Prelude.{not, ◌&&◌, ◌==◌, if◌then◌else◌, bytes_eq, codes, nat_eq, option_and_then, option_map, slice_get, IsOk, IsSomeAnd}
use Rattle.std.specs.Option.{option_map_or}
use Rattle.std.proofs.lemmas.Option.{slice_get_within, get_or_from_slice_get}
use Rattle.std.proofs.lemmas.Slice.Eq.{bytes_eq-Decides}
use Rattle.cf_reader.specs.declared.class_file.Method.{Method}
use Rattle.cf_text.specs.declared.types.MethodDescriptor.{MethodDescriptor}
use Rattle.cls_link.proofs.DeclaredIndexes.{at_number}
use Rattle.cls_link.specs.Links.{Links, AreLinks, Declared, IsLinked, declared_methods, is_declared_as, method_at, number_from, number_of}
use Rattle.cls_link.specs.Selections as selections
use Rattle.cls_link.specs.Selections.{instance_method}
use Rattle.cls_link.specs.declared.linked_code.MethodId.{MethodId}
use Rattle.cls_set.proofs.Hierarchy.{none_some, same_some}
use Rattle.cls_set.specs.Subtypes.{Extends, IsSubtype}
use Rattle.cls_set.specs.Subtypes.IsSubtype.{itself, superclass, through}
use Rattle.cls_set.specs.declared.class.Class.{Class}
use Rattle.space_ids.specs.declared.ids.ClassId.{ClassId}
use Rattle.space_ids.specs.declared.ids.Ref.{Ref}
use Rattle.space_ids.specs.declared.value.Value.{Value}
use Rattle.space_ids.specs.declared.value.Value.TheVariants as value
use Rattle.uuid.specs.declared.Uuid.{Uuid}
use Rattle.ver_frames.specs.Method.{Subject, is_static}
use Rattle.vm_act.specs.declared.calls.Callee.{Callee}
use Rattle.vm_act.specs.declared.calls.Selected.TheVariants as selected
use Rattle.vm_code.proofs.Subtypes.{subtype_sound, subtype_test}
use Rattle.vm_code.specs.Classes.{is_subtype}
use Rattle.vm_code.specs.Methods.{callee_of, chosen, first_up, interface_selected, is_public_at, or_else, public_one, selection_of, superclass_at}
use Rattle.vm_laws.proofs.RowsCallees.{is_run}
use Rattle.vm_typing.proofs.Leads.{AllZip-get}
use Rattle.vm_typing.specs.Owed.{Owed}
use Rattle.vm_typing.specs.World.{MethodType, World}
use Rattle.vm_laws.proofs.Owing.{owed}
use Rattle.vm_laws.proofs.Subjects.{passes_both}
use Rattle.vm_laws.specs.Files.{Declares}
use Rattle.vm_laws.specs.Worlds.{subject_at, world_of}
use Rattle.vm_step.specs.Begin.{begun, received, receiver_refusal}
use Rattle.vm_step.specs.Sound.{IsSoundSet}
use Rattle.vm_step.specs.Start.{fill, startable, takes_crossing}
use Rattle.vm_step.specs.Subjects.{declared_at, declared_of}
use Rattle.vm_step.specs.declared.limits.Limits.{Limits}
use Rattle.sp_behaviours.specs.Receiving.{IsCallOn, SelectedMethodsBegin}
use Rattle.sp_behaviours.specs.Remote.{method_of, selected_by}

both : (a b : Bool) → (a && b) ≡ true → (a ≡ true) × (b ≡ true)
both true b e = (refl, e)
both false b e = absurd (cc)

-- a method that a class declares under a number
record IsNamed (ds : List Declared) (class : ClassId) (name descriptor : List ℕ) (j : ℕ) : Type 0 where
  d : Declared
  there : slice_get ds j ≡ Some d
  is : is_declared_as class name descriptor d ≡ true

named_from : (ds : List Declared) (k : ℕ) (class : ClassId) (name descriptor : List ℕ) (id : MethodId) → number_from k ds class name descriptor ≡ Some id
    → (j : ℕ) × (id.0 ≡ k + j) × IsNamed ds class name descriptor j
named_from [] k class name descriptor id e = absurd (none_some e)
named_from (d ∷ ds) k class name descriptor id e = on (is_declared_as class name descriptor d) refl e (named_from ds (suc k) class name descriptor id)
  where
    on : (b : Bool) → is_declared_as class name descriptor d ≡ b → (if b then Some (record { 0 = k }) else number_from (suc k) ds class name descriptor) ≡ Some id
        → (number_from (suc k) ds class name descriptor ≡ Some id → (j : ℕ) × (id.0 ≡ suc k + j) × IsNamed ds class name descriptor j)
        → (j : ℕ) × (id.0 ≡ k + j) × IsNamed (d ∷ ds) class name descriptor j
    on true is e further =
        let same : k ≡ id.0 = ap (λ (i : MethodId). i.0) (same_some e) in
        (0, omega (arith, same), record { d = d; there = refl; is = is })
    on false is e further =
        let r = further e in
        let at : id.0 ≡ suc k + r.0 = r.1 in
        (suc r.0, omega (arith, at), record { d = r.2.d; there = r.2.there; is = r.2.is })

not_static : (b : Bool) (x id : MethodId) → ◌≡◌ {A = Option MethodId} (if b then None else Some x) (Some id) → (b ≡ false) × (x ≡ id)
not_static true x id e = absurd (none_some e)
not_static false x id e = (refl, same_some e)

-- what a call selects
record IsSelected (classes : List Class) (class : ClassId) (number id : ℕ) : Type 0 where
  inside : class.0 < length classes
  found : MethodId
  selection : selection_of classes class (record { 0 = number }) ≡ Some found
  callee : Callee
  runs : callee_of classes false found ≡ Some callee
  is : callee.method ≡ id

module _ (classes : List Class) (class : ClassId) (number id : ℕ) where
  selected_is : selected_by classes class number ≡ Some id → IsSelected classes class number id
  unfolding interface_selected
  selected_is e =
      let d = passes_both (slice_get (declared_methods classes) number) _ id e in
      below d.0.class (is_subtype classes class d.0.class) refl d.1.1
    where
      runs : (found : MethodId) (o : Option Callee) → callee_of classes false found ≡ o → class.0 < length classes → selection_of classes class (record { 0 = number }) ≡ Some found
          → method_of (chosen o) ≡ Some id → IsSelected classes class number id
      runs found None is inside selection e = absurd (none_some e)
      runs found (Some callee) is inside selection e = record { inside = inside; found = found; selection = selection; callee = callee; runs = is; is = same_some e }

      open_to : (found : MethodId) (b : Bool) → class.0 < length classes → selection_of classes class (record { 0 = number }) ≡ Some found
          → method_of (if b then chosen (callee_of classes false found) else selected.NotPublic) ≡ Some id → IsSelected classes class number id
      open_to found true inside selection e = runs found (callee_of classes false found) refl inside selection e
      open_to found false inside selection e = absurd (none_some e)

      one : (o : Option MethodId) → selection_of classes class (record { 0 = number }) ≡ o → class.0 < length classes → method_of (public_one classes o) ≡ Some id
          → IsSelected classes class number id
      one None selection inside e = absurd (none_some e)
      one (Some found) selection inside e = open_to found (is_public_at classes found) inside selection e

      below : (interface : ClassId) (b : Bool) → is_subtype classes class interface ≡ b
          → method_of (if b then public_one classes (selection_of classes class (record { 0 = number })) else selected.NotImplemented) ≡ Some id → IsSelected classes class number id
      below interface true is e = one (selection_of classes class (record { 0 = number })) refl (subtype_sound classes class interface is).0 e
      below interface false is e = absurd (none_some e)

up_extends : (classes : List Class) (a up : ClassId) → superclass_at classes a ≡ Some up → Extends classes a up
up_extends classes a up e = at (slice_get classes a.0) e
  where
    at : (o : Option Class) → option_and_then (λ (c : Class). c.superclass) o ≡ Some up → IsSomeAnd o (λ c. c.superclass ≡ Some up)
    at None e = absurd (none_some e)
    at (Some c) e = e

module _ (links : Links) (are : AreLinks links) where
  -- a declared method stands in its class
  declares_at : (number : ℕ) (d : Declared) → slice_get (declared_methods links.classes) number ≡ Some d → Declares links.classes d.method
  declares_at number d at =
      let r = AllZip-get (IsLinked links.classes) (declared_methods links.classes) links.methods number d are.methods at in
      let there = at_number links.classes links.methods number r.0 are.methods (slice_get_within (declared_methods links.classes) number d at)
      (sym (get_or_from_slice_get links.methods number r.0 r.0 r.1.0)) in
      let declared : there.method ≡ d.method = same_some (sym there.declared ∙ ap (option_map (λ (d : Declared). d.method)) at) in
      subst (Declares links.classes) declared (record { class = r.0.class; c = there.class; index = r.0.index; at = there.class_at; is = there.method_there })

  first_is : (n : ℕ) (class : ClassId) (own : ClassId → Option MethodId) (id : MethodId) → first_up n links.classes own class ≡ Some id
      → (c : ClassId) × IsSubtype links.classes class c × (own c ≡ Some id)
  unfolding first_up
  first_is zero class own id e = absurd (none_some e)
  first_is (suc n) class own id e = on (own class) refl e (λ up. first_is n up own id)
    where
      on : (o : Option MethodId) → own class ≡ o → or_else o (option_and_then (λ up. first_up n links.classes own up) (superclass_at links.classes class)) ≡ Some id
          → ((up : ClassId) → first_up n links.classes own up ≡ Some id → (c : ClassId) × IsSubtype links.classes up c × (own c ≡ Some id))
          → (c : ClassId) × IsSubtype links.classes class c × (own c ≡ Some id)
      on None is e go =
          let up = passes_both (superclass_at links.classes class) (λ up. first_up n links.classes own up) id e in
          let r = go up.0 up.1.1 in
          (r.0, through class up.0 r.0 (superclass class up.0 (up_extends links.classes class up.0 up.1.0)) r.1, r.2)
      on (Some x) is e go = (class, itself class, is ∙ e)

  -- a method under its number stands in its class
  named_declares : (number : ℕ) (m : Method) (o : Option Declared) → slice_get (declared_methods links.classes) number ≡ o → option_map (λ (d : Declared). d.method) o ≡ Some m
      → Declares links.classes m
  named_declares number m None at e = absurd (none_some e)
  named_declares number m (Some d) at e = subst (Declares links.classes) (same_some e) (declares_at number d at)

  -- an instance method that a class declares
  record IsInstance (owner : ClassId) (n t : List ℕ) (id : MethodId) : Type 0 where
    d : Declared
    there : slice_get (declared_methods links.classes) id.0 ≡ Some d
    class : d.class ≡ owner
    name : d.method.name ≡ n
    descriptor : d.method.descriptor ≡ t
    of_instances : is_static d.method ≡ false

  instance_is : (owner : ClassId) (n t : List ℕ) (id : MethodId) → instance_method links.classes n t owner ≡ Some id → IsInstance owner n t id
  instance_is owner n t id e =
      let number = passes_both (number_of links.classes owner n t) _ id e in
      let test = not_static (option_map_or selections.is_static (method_at links.classes number.0) true) number.0 id number.1.1 in
      let named = named_from (declared_methods links.classes) 0 owner n t number.0 number.1.0 in
      let first : number.0.0 ≡ 0 + named.0 = named.1 in
      let it = named.2 in
      let here : number.0.0 ≡ named.0 = omega (arith, first) in
      let same : id.0 ≡ named.0 = ap (λ (i : MethodId). i.0) (sym test.1) ∙ here in
      let there : slice_get (declared_methods links.classes) id.0 ≡ Some it.d = ap (slice_get (declared_methods links.classes)) same ∙ it.there in
      let parts = both (nat_eq it.d.class.0 owner.0) (bytes_eq it.d.method.name n && bytes_eq it.d.method.descriptor t) it.is in
      let texts = both (bytes_eq it.d.method.name n) (bytes_eq it.d.method.descriptor t) parts.1 in
      let static : option_map_or selections.is_static (method_at links.classes id) true ≡ false =
      ap (λ (k : MethodId). option_map_or selections.is_static (method_at links.classes k) true) (sym test.1) ∙ test.0 in
      record {
        d = it.d;
        there = there;
        class = ap (λ (k : ℕ). record { 0 = k }) (eqb-true it.d.class.0 owner.0 parts.0);
        name = (bytes_eq-Decides it.d.method.name n).0 texts.0;
        descriptor = (bytes_eq-Decides it.d.method.descriptor t).0 texts.1;
        of_instances = ap (λ (o : Option Declared). option_map_or selections.is_static (option_map (λ (d : Declared). d.method) o) true) (sym there) ∙ static;
      }

nonzero : (n : ℕ) → 0 < n → not (n == 0) ≡ true
nonzero n some = on (n == 0) refl
  where
    on : (b : Bool) → (n == 0) ≡ b → not b ≡ true
    on true e = let none : n ≡ 0 = eqb-true n 0 e in absurd (omega (arith, some, none))
    on false e = refl

module _ (links : Links) (own : Uuid) (target : Ref) (number id : ℕ) (arguments : List Value) (limits : Limits) (are : AreLinks links) (sound : IsSoundSet links)
    (call : IsCallOn links own target number arguments) (selects : selected_by links.classes target.class number ≡ Some id) where
  abbrev world : World
  world = world_of links sound.frames

  owes : Owed world
  owes = owed links sound.frames are sound.typed sound.read

  -- what is known of the selected method
  record IsTarget (s : Subject) : Type 0 where
    at : subject_at links id ≡ Some s
    normal : bytes_eq s.method.name (codes "<init>") ≡ false
    full : not (length s.linked.insns == 0) ≡ true
    static : is_static s.method ≡ false
    types : s.method.types ≡ call.method.types
    above : is_subtype links.classes target.class s.class_id ≡ true

  target_is : (s : Subject) × IsTarget s
  unfolding selection_of
  target_is =
      let sel = selected_is links.classes target.class number id selects in
      let named = passes_both (method_at links.classes (record { 0 = number })) _ sel.found sel.selection in
      let one : named.0 ≡ call.method = same_some (sym named.1.0 ∙ call.named) in
      let first = first_is links are (suc (length links.classes)) target.class (instance_method links.classes named.0.name named.0.descriptor) sel.found named.1.1 in
      let i = instance_is links are first.0 named.0.name named.0.descriptor sel.found first.2 in
      let r = is_run links sound.frames are sound.read false sel.found sel.callee i.d i.there sel.runs in
      let name : r.s.method.name ≡ call.method.name = ap (λ (m : Method). m.name) r.method ∙ (i.name ∙ ap (λ (m : Method). m.name) one) in
      let known : world.has_code sel.callee.method ≡ true = ap (λ (o : Option Subject). option_map_or (λ (s : Subject). true) o false) r.at in
      let inside : 0 < length r.s.linked.insns = subst (λ (t : MethodType). 0 < t.count) r.type (owes.methods sel.callee.method known).opens.inside in
      let same : i.d.method.types ≡ call.method.types =
      sound.read.described i.d.method call.method (declares_at links are sel.found.0 i.d i.there) (named_declares links are number call.method (slice_get (declared_methods links.classes) number) refl call.named)
      (i.descriptor ∙ ap (λ (m : Method). m.descriptor) one) in
      let sub : IsSubtype links.classes target.class r.s.class_id = subst (λ (c : ClassId). IsSubtype links.classes target.class c) (sym (r.owner ∙ i.class)) first.1 in (
        r.s,
        record {
          at = ap (subject_at links) (sym sel.is) ∙ r.at;
          normal = ap (λ (n : List ℕ). bytes_eq n (codes "<init>")) name ∙ call.normal;
          full = nonzero (length r.s.linked.insns) inside;
          static = ap is_static r.method ∙ i.of_instances;
          types = ap (λ (m : Method). m.types) r.method ∙ same;
          above = sym (subtype_test links.classes are.set target.class r.s.class_id true sel.inside (λ t. sub, λ t. refl));
        },
      )

  begins : (begun links own (record { 0 = id }) (value.Ref target ∷ arguments) limits ≡ received links own (record { 0 = id }) (value.Ref target ∷ arguments) limits)
      × IsOk (received links own (record { 0 = id }) (value.Ref target ∷ arguments) limits)
  unfolding declared_at
  begins =
      let s = target_is.0 in
      let is = target_is.1 in
      let found : startable links (record { 0 = id }) ≡ Some (declared_of s) = rw (is.at, is.normal, is.full) refl in
      let takes : takes_crossing links.classes s.method.types ≡ true = ap (λ (ts : MethodDescriptor). takes_crossing links.classes ts) is.types ∙ call.crosses in
      let filled : fill links.classes s.method.types.parameters arguments ≡ true = ap (λ (ts : MethodDescriptor). fill links.classes ts.parameters arguments) is.types ∙ call.filled in
      let taken : receiver_refusal links.classes own (declared_of s) (value.Ref target ∷ arguments) ≡ None = rw (takes, is.static, call.here, call.remote, is.above, filled) refl in
      (rw (found, is.static) refl, rw (found, taken) refl)

pub selected_begins : SelectedMethodsBegin
selected_begins links own target number selected arguments limits are sound call selects = begins links own target number selected arguments limits are sound call selects
