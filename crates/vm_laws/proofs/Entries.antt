-- Methods with code, among the linked methods and among those that classes declare.
use Rattle.std.proofs.Common.{◌≡◌, ℕ, ◌<◌, Bool, true, false, List, length, refl, sym, subst, ap, ◌∙◌, Option, Some, None}
use Rattle.std.specs.Prelude.{if◌then◌else◌, nat_le, option_map, slice_get, MatchOption, IsSomeAnd}
use Rattle.std.proofs.lemmas.Option.{slice_get_within, get_or_from_slice_get}
use Rattle.cf_reader.specs.declared.class_file.Code.{Code}
use Rattle.cf_reader.specs.declared.class_file.Method.{Method}
use Rattle.cls_link.proofs.DeclaredIndexes.{at_number}
use Rattle.cls_link.specs.Links.{Links, AreLinks, Declared, IsLinked, IsLinkedCode, declared_methods, method_at}
use Rattle.cls_link.specs.declared.linked_code.LinkedCode.{LinkedCode}
use Rattle.cls_link.specs.declared.linked_code.LinkedMethod.{LinkedMethod}
use Rattle.cls_link.specs.declared.linked_code.MethodId.{MethodId}
use Rattle.cls_set.proofs.Hierarchy.{none_some, same_some, some_of}
use Rattle.cls_set.specs.declared.class.Class.{Class}
use Rattle.ver_check.specs.Acceptance.{subject_of}
use Rattle.ver_frames.specs.Method.{Subject}
use Rattle.vm_act.specs.declared.calls.Callee.{Callee}
use Rattle.vm_code.specs.Methods.{callee_of, words_passed}
use Rattle.vm_typing.proofs.Leads.{AllZip-get, length-AllZip}
use Rattle.vm_laws.proofs.Subjects.{passes_both}
use Rattle.vm_laws.specs.Worlds.{subject_at}

-- a method with code, among the linked methods
pub record IsEntry (links : Links) (number : ℕ) (s : Subject) : Type 0 where
  pub entry : LinkedMethod
  pub at : slice_get links.methods number ≡ Some entry
  pub code : entry.code ≡ Some s.linked
  pub class : entry.class ≡ s.class_id
  pub class_there : slice_get links.classes entry.class.0 ≡ Some s.class
  pub method_there : slice_get s.class.file.methods entry.index ≡ Some s.method

pub is_entry : (links : Links) (number : ℕ) (s : Subject) → subject_at links number ≡ Some s → IsEntry links number s
unfolding subject_at subject_of
is_entry links number s e =
    let entry = passes_both (slice_get links.methods number) _ s e in
    let linked = passes_both entry.0.code _ s entry.1.1 in
    let class = passes_both (slice_get links.classes entry.0.class.0) _ s linked.1.1 in
    let method = passes_both (slice_get class.0.file.methods entry.0.index) _ s class.1.1 in
    let code = passes_both method.0.code _ s method.1.1 in
    subst (λ (t : Subject). IsEntry links number t) (same_some code.1.1)
    (record { entry = entry.0; at = entry.1.0; code = linked.1.0; class = refl; class_there = class.1.0; method_there = method.1.0 })

-- it is the one that its class declares
pub declared_is : (links : Links) → AreLinks links → (number : ℕ) (s : Subject) → subject_at links number ≡ Some s → (d : Declared) → slice_get (declared_methods links.classes) number ≡ Some d
    → (s.class_id ≡ d.class) × (s.method ≡ d.method)
declared_is links are number s e d at =
    let entry = is_entry links number s e in
    let r = AllZip-get (IsLinked links.classes) (declared_methods links.classes) links.methods number d are.methods at in
    let same : r.0 ≡ entry.entry = same_some (sym r.1.0 ∙ entry.at) in
    let there = at_number links.classes links.methods number entry.entry are.methods (slice_get_within (declared_methods links.classes) number d at)
    (sym (get_or_from_slice_get links.methods number entry.entry entry.entry entry.at)) in
    let class : there.class ≡ s.class = same_some (sym there.class_at ∙ entry.class_there) in
    let method : there.method ≡ s.method = same_some (sym there.method_there ∙ (ap (λ (c : Class). slice_get c.file.methods entry.entry.index) class ∙ entry.method_there)) in
    let declared : d.method ≡ there.method = same_some (ap (option_map (λ (d : Declared). d.method)) (sym at) ∙ there.declared) in
    (sym entry.class ∙ (ap (λ (l : LinkedMethod). l.class) (sym same) ∙ r.1.1.class), sym (declared ∙ method))

-- a method with code is declared under its number
pub declared_under : (links : Links) → AreLinks links → (number : ℕ) (s : Subject) → subject_at links number ≡ Some s → method_at links.classes (record { 0 = number }) ≡ Some s.method
declared_under links are number s e =
    let entry = is_entry links number s e in
    let long : length links.methods ≡ length (declared_methods links.classes) = length-AllZip (IsLinked links.classes) (declared_methods links.classes) links.methods are.methods in
    let inside = subst (λ (n : ℕ). number < n) long (slice_get_within links.methods number entry.entry entry.at) in
    let there = at_number links.classes links.methods number entry.entry are.methods inside (sym (get_or_from_slice_get links.methods number entry.entry entry.entry entry.at)) in
    let class : there.class ≡ s.class = same_some (sym there.class_at ∙ entry.class_there) in
    let method : there.method ≡ s.method = same_some (sym there.method_there ∙ (ap (λ (c : Class). slice_get c.file.methods entry.entry.index) class ∙ entry.method_there)) in
    there.declared ∙ ap (λ (m : Method). Some m) method

-- what a call is given of a method is of its number
pub callee_number : (classes : List Class) (begins : Bool) (id : MethodId) (callee : Callee) → callee_of classes begins id ≡ Some callee → callee.method ≡ id.0
unfolding callee_of
callee_number classes begins id callee e =
    let method = passes_both (method_at classes id) _ callee e in
    let code = passes_both method.0.code _ callee method.1.1 in
    on (nat_le (words_passed method.0) code.0.max_locals) (record { method = id.0; arguments = words_passed method.0; max_locals = code.0.max_locals; max_stack = code.0.max_stack; begins_uninit = begins }) refl code.1.1
  where
    on : (b : Bool) (made : Callee) → made.method ≡ id.0 → (if b then Some made else None) ≡ Some callee → callee.method ≡ id.0
    on true made same e = ap (λ (c : Callee). c.method) (sym (same_some e)) ∙ same
    on false made same e = absurd (none_some e)

maps_some : {A B : Type 0} (o : Option A) (f : A → B) (b : B) → option_map f o ≡ Some b → (a : A) × ((o ≡ Some a) × (f a ≡ b))
maps_some None f b e = absurd (none_some e)
maps_some (Some a) f b e = (a, (refl, same_some e))

-- a method with code is one that is checked
pub record Found (links : Links) (id : MethodId) (method : Method) (code : Code) : Type 0 where
  pub m : Subject
  pub at : subject_at links id.0 ≡ Some m
  pub classes : m.classes ≡ links.classes
  pub declared : m.method ≡ method
  pub same_code : m.code ≡ code

subject_there : (links : Links) (number : ℕ) (entry : LinkedMethod) (linked : LinkedCode) (class : Class) (method : Method) (code : Code) → slice_get links.methods number ≡ Some entry
    → entry.code ≡ Some linked → slice_get links.classes entry.class.0 ≡ Some class → slice_get class.file.methods entry.index ≡ Some method → method.code ≡ Some code
    → subject_at links number ≡ Some (record { classes = links.classes; class_id = entry.class; class = class; method = method; code = code; linked = linked })
unfolding subject_at subject_of
subject_there links number entry linked class method code at has class_at there is = rw (at, has, class_at, there, is) refl

module _ (links : Links) (are : AreLinks links) where
  with_code : (entry : LinkedMethod) (d : Declared) (method : Method) (code : Code) → IsLinked links.classes d entry → d.method ≡ method → method.code ≡ Some code
      → IsSomeAnd entry.code (IsLinkedCode links.classes d.class d.method code.bytes)
  with_code entry d method code linked same has =
      subst (λ (o : Option Code). MatchOption o (entry.code ≡ None) (λ code. IsSomeAnd entry.code (IsLinkedCode links.classes d.class d.method code.bytes)))
      (ap (λ (n : Method). n.code) same ∙ has) linked.code

  pub found : (id : MethodId) (method : Method) (code : Code) → method_at links.classes id ≡ Some method → method.code ≡ Some code → Found links id method code
  found id method code e has =
      let d = maps_some (slice_get (declared_methods links.classes) id.0) (λ (d : Declared). d.method) method e in
      let r = AllZip-get (IsLinked links.classes) (declared_methods links.classes) links.methods id.0 d.0 are.methods d.1.0 in
      let index = at_number links.classes links.methods id.0 r.0 are.methods (slice_get_within (declared_methods links.classes) id.0 d.0 d.1.0)
      (sym (get_or_from_slice_get links.methods id.0 r.0 r.0 r.1.0)) in
      let same : index.method ≡ method = same_some (sym index.declared ∙ e) in
      let there : slice_get index.class.file.methods r.0.index ≡ Some method = index.method_there ∙ ap (λ (m : Method). Some m) same in
      let linked = with_code r.0 d.0 method code r.1.1 d.1.1 has in
      let lc = some_of r.0.code (IsLinkedCode links.classes d.0.class d.0.method code.bytes) linked in
      record {
        m = record { classes = links.classes; class_id = r.0.class; class = index.class; method = method; code = code; linked = lc.0 };
        at = subject_there links id.0 r.0 lc.0 index.class method code r.1.0 lc.1 index.class_at there has;
        classes = refl;
        declared = refl;
        same_code = refl;
      }
