-- What a call is given of a method agrees with the method's types.
use Rattle.std.proofs.Common.{◌≡◌, ℕ, suc, ◌++◌, Bool, true, false, Option, Some, None, [], ◌∷◌, length, refl, sym, subst, ap, ◌∙◌}
use Rattle.std.specs.Prelude.{if◌then◌else◌, bytes_eq, codes, map, nat_le, MatchOption, IsSomeAnd, option_map, slice_get}
use Rattle.std.specs.Option.{option_map_or}
use Rattle.std.proofs.lemmas.List.{length-map}
use Rattle.std.proofs.lemmas.Option.{get_or_from_slice_get, slice_get_within}
use Rattle.cf_reader.specs.declared.class_file.Code.{Code}
use Rattle.cf_reader.specs.declared.class_file.Method.{Method}
use Rattle.cls_link.proofs.DeclaredIndexes.{at_number}
use Rattle.cls_link.specs.Links.{Links, AreLinks, Declared, IsLinked, IsLinkedCode, declared_methods, method_at}
use Rattle.cls_link.specs.declared.linked_code.LinkedCode.{LinkedCode}
use Rattle.cls_link.specs.declared.linked_code.LinkedMethod.{LinkedMethod}
use Rattle.cls_link.specs.declared.linked_code.MethodId.{MethodId}
use Rattle.cls_set.proofs.Hierarchy.{same_some, none_some, some_of}
use Rattle.cls_set.specs.declared.class.Class.{Class}
use Rattle.ver_check.specs.Acceptance.{subject_of}
use Rattle.ver_frames.specs.Frames.{Frame}
use Rattle.ver_frames.specs.Method.{Subject, is_static, begins_uninit, argument_types, receiver_types}
use Rattle.ver_frames.specs.Types.{field_vtype}
use Rattle.ver_frames.specs.declared.vtype.VType.TheVariants as vtype
use Rattle.vm_act.specs.declared.calls.Callee.{Callee}
use Rattle.vm_typing.proofs.Leads.{AllZip-get}
use Rattle.vm_typing.specs.Fits.{no_method}
use Rattle.vm_typing.specs.Owed.{IsCallee}
use Rattle.vm_typing.specs.World.{MethodType, parameters}
use Rattle.vm_code.specs.Methods.{words_passed, callee_with, callee_of}
use Rattle.vm_laws.specs.Files.{AreAsRead}
use Rattle.vm_laws.specs.Worlds.{is_init, subject_at, method_type, world_of}
use Rattle.vm_laws.proofs.Methods.{begins_not, parameters_are}
use Rattle.vm_laws.proofs.Subjects.{passes_both, stands}

maps_some : {A B : Type 0} (o : Option A) (f : A → B) (b : B) → option_map f o ≡ Some b → (a : A) × ((o ≡ Some a) × (f a ≡ b))
maps_some None f b e = absurd (none_some e)
maps_some (Some a) f b e = (a, (refl, same_some e))

-- a method with code is one that is checked
record Found (links : Links) (id : MethodId) (method : Method) (code : Code) : Type 0 where
  m : Subject
  at : subject_at links id.0 ≡ Some m
  classes : m.classes ≡ links.classes
  declared : m.method ≡ method
  same_code : m.code ≡ code

subject_there : (links : Links) (number : ℕ) (entry : LinkedMethod) (linked : LinkedCode) (class : Class) (method : Method) (code : Code) → slice_get links.methods number ≡ Some entry
    → entry.code ≡ Some linked → slice_get links.classes entry.class.0 ≡ Some class → slice_get class.file.methods entry.index ≡ Some method → method.code ≡ Some code
    → subject_at links number ≡ Some (record { classes = links.classes; class_id = entry.class; class = class; method = method; code = code; linked = linked })
unfolding subject_at subject_of
subject_there links number entry linked class method code at has class_at there is = rw (at, has, class_at, there, is) refl

module _ (links : Links) (are : AreLinks links) where
  with_code : (entry : LinkedMethod) (d : Declared) (method : Method) (code : Code) → IsLinked links.classes d entry → d.method ≡ method → method.code ≡ Some code
      → IsSomeAnd entry.code (IsLinkedCode links.classes d.class d.method code.bytes)
  with_code entry d method code linked same has =
      subst (λ (o : Option Code). MatchOption o (entry.code ≡ None) (λ code. IsSomeAnd entry.code (IsLinkedCode links.classes d.class d.method code.bytes)))
      (ap (λ (n : Method). n.code) same ∙ has) linked.code

  found : (id : MethodId) (method : Method) (code : Code) → method_at links.classes id ≡ Some method → method.code ≡ Some code → Found links id method code
  found id method code e has =
      let d = maps_some (slice_get (declared_methods links.classes) id.0) (λ (d : Declared). d.method) method e in
      let r = AllZip-get (IsLinked links.classes) (declared_methods links.classes) links.methods id.0 d.0 are.methods d.1.0 in
      let index = at_number links.classes links.methods id.0 r.0 are.methods (slice_get_within (declared_methods links.classes) id.0 d.0 d.1.0)
      (sym (get_or_from_slice_get links.methods id.0 r.0 r.0 r.1.0)) in
      let same : index.method ≡ method = same_some (sym index.declared ∙ e) in
      let there : slice_get index.class.file.methods r.0.index ≡ Some method = index.method_there ∙ ap (λ (m : Method). Some m) same in
      let linked = with_code r.0 d.0 method code r.1.1 d.1.1 has in
      let lc = some_of r.0.code (IsLinkedCode links.classes d.0.class d.0.method code.bytes) linked in
      record {
        m = record { classes = links.classes; class_id = r.0.class; class = index.class; method = method; code = code; linked = lc.0 };
        at = subject_there links id.0 r.0 lc.0 index.class method code r.1.0 lc.1 index.class_at there has;
        classes = refl;
        declared = refl;
        same_code = refl;
      }

arguments_count : (m : Subject) → words_passed m.method ≡ length (argument_types m)
unfolding argument_types receiver_types
arguments_count m = on (is_static m.method) (begins_uninit m)
  where
    on : (static b : Bool) → (if static then length m.method.types.parameters else suc (length m.method.types.parameters))
        ≡ length ((if static then [] else ((if b then vtype.UninitializedThis else vtype.Object m.class_id) ∷ [])) ++ map (field_vtype m.classes) m.method.types.parameters)
    on true b = sym (length-map m.method.types.parameters (field_vtype m.classes))
    on false b = ap suc (sym (length-map m.method.types.parameters (field_vtype m.classes)))

made : (id : MethodId) (begins : Bool) (method : Method) (code : Code) (callee : Callee) → callee_with id begins method code ≡ Some callee
    → record { method = id.0; arguments = words_passed method; max_locals = code.max_locals; max_stack = code.max_stack; begins_uninit = begins } ≡ callee
made id begins method code callee e = on (nat_le (words_passed method) code.max_locals) e
  where
    on : (b : Bool) → (if b then Some (record { method = id.0; arguments = words_passed method; max_locals = code.max_locals; max_stack = code.max_stack; begins_uninit = begins }) else None) ≡ Some callee
        → record { method = id.0; arguments = words_passed method; max_locals = code.max_locals; max_stack = code.max_stack; begins_uninit = begins } ≡ callee
    on true e = same_some e
    on false e = absurd (none_some e)

module _ (links : Links) (frames : ℕ → ℕ → Frame) (are : AreLinks links) (read : AreAsRead links.classes) where
  abbrev type_in : ℕ → Option Subject → MethodType
  type_in number o = option_map_or (λ (m : Subject). method_type m (frames number)) o no_method

  passed : (id : MethodId) (m : Subject) → subject_at links id.0 ≡ Some m → words_passed m.method ≡ length (parameters (method_type m (frames id.0)))
  passed id m e =
      let there = stands links id.0 m e in
      let inits : is_init m ≡ true → is_static m.method ≡ false = λ init. (read.inits m.method (record { class = m.class_id; c = m.class; index = there.index; at = there.class; is = there.method }) init).0 in
      arguments_count m ∙ ap length (sym (parameters_are m (frames id.0) inits))

  agrees : (id : MethodId) (begins : Bool) (method : Method) (code : Code) → Found links id method code
      → begins ≡ ((world_of links frames).method id.0).begins_uninit
      → IsCallee (world_of links frames) (record { method = id.0; arguments = words_passed method; max_locals = code.max_locals; max_stack = code.max_stack; begins_uninit = begins })
  agrees id begins method code f same =
      let type : type_in id.0 (subject_at links id.0) ≡ method_type f.m (frames id.0) = ap (type_in id.0) f.at in
      record {
        known = ap (λ (o : Option Subject). option_map_or (λ (m : Subject). true) o false) f.at;
        arguments = ap words_passed (sym f.declared) ∙ (passed id f.m f.at ∙ ap (λ (t : MethodType). length (parameters t)) (sym type));
        max_locals = ap (λ (c : Code). c.max_locals) (sym f.same_code) ∙ ap (λ (t : MethodType). t.max_locals) (sym type);
        max_stack = ap (λ (c : Code). c.max_stack) (sym f.same_code) ∙ ap (λ (t : MethodType). t.max_stack) (sym type);
        begins_uninit = same;
      }

  pub callee_agrees : (id : MethodId) (begins : Bool) (callee : Callee) → callee_of links.classes begins id ≡ Some callee
      → begins ≡ ((world_of links frames).method id.0).begins_uninit → IsCallee (world_of links frames) callee
  unfolding callee_of
  callee_agrees id begins callee e same =
      let method = passes_both (method_at links.classes id) _ callee e in
      let code = passes_both method.0.code _ callee method.1.1 in
      subst (IsCallee (world_of links frames)) (made id begins method.0 code.0 callee code.1.1) (agrees id begins method.0 code.0 (found links are id method.0 code.0 method.1.0 code.1.0) same)

  -- a method that is no `<init>` begins with an initialised receiver
  begins_initialised : (id : MethodId) (method : Method) (code : Code) → Found links id method code → bytes_eq method.name (codes "<init>") ≡ false
      → false ≡ ((world_of links frames).method id.0).begins_uninit
  begins_initialised id method code f other =
      let type : type_in id.0 (subject_at links id.0) ≡ method_type f.m (frames id.0) = ap (type_in id.0) f.at in
      let named : is_init f.m ≡ false = ap (λ (n : Method). bytes_eq n.name (codes "<init>")) f.declared ∙ other in
      sym (ap (λ (t : MethodType). t.begins_uninit) type ∙ begins_not f.m named)

  pub plain_callee_agrees : (id : MethodId) (method : Method) (callee : Callee) → method_at links.classes id ≡ Some method → bytes_eq method.name (codes "<init>") ≡ false
      → callee_of links.classes false id ≡ Some callee → IsCallee (world_of links frames) callee
  unfolding callee_of
  plain_callee_agrees id method callee is other e =
      let one = passes_both (method_at links.classes id) _ callee e in
      let same : one.0 ≡ method = same_some (sym one.1.0 ∙ is) in
      let code = passes_both one.0.code _ callee one.1.1 in
      let f = found links are id one.0 code.0 one.1.0 code.1.0 in
      subst (IsCallee (world_of links frames)) (made id false one.0 code.0 callee code.1.1)
      (agrees id false one.0 code.0 f (begins_initialised id one.0 code.0 f (ap (λ (n : Method). bytes_eq n.name (codes "<init>")) same ∙ other)))
