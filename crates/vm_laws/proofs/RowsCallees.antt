-- What calls run agrees with the types of what is named.
use Rattle.std.proofs.Common.{◌≡◌, inr, ℕ, zero, suc, Bool, true, false, not, List, [], ◌∷◌, length, map, refl, sym, subst, ap, ◌∙◌, Option, Some, None}
use Rattle.std.specs.Prelude.{◌&&◌, if◌then◌else◌, bytes_eq, codes, nat_lt, option_and_then, option_map, slice_get, IsSomeAnd}
use Rattle.std.specs.Option.{option_map_or}
use Rattle.cf_reader.specs.declared.class_file.Method.{Method}
use Rattle.cf_text.specs.declared.types.MethodDescriptor.{MethodDescriptor}
use Rattle.cls_link.proofs.MethodNumbers.{number_found}
use Rattle.cls_link.specs.Links.{Links, AreLinks, Declared, declared_methods, method_at, number_of}
use Rattle.cls_link.specs.Numbers.{number_in}
use Rattle.cls_link.specs.Selections as selections
use Rattle.cls_link.specs.Selections.{instance_method}
use Rattle.cls_link.specs.declared.linked_code.MethodId.{MethodId}
use Rattle.cls_resolve.specs.Meanings.{method_of}
use Rattle.cls_resolve.specs.declared.named.MemberIndex.{MemberIndex}
use Rattle.cls_search.specs.MethodSearches.{own_method}
use Rattle.cls_search.specs.declared.methods.MethodIndex.{MethodIndex}
use Rattle.cls_set.proofs.Hierarchy.{none_some, same_some}
use Rattle.cls_set.specs.Subtypes.{Extends, IsSubclass}
use Rattle.cls_set.specs.Subtypes.IsSubclass.{itself, superclass, through}
use Rattle.cls_set.specs.declared.class.Class.{Class}
use Rattle.space_ids.specs.declared.ids.ClassId.{ClassId}
use Rattle.ver_check.specs.Members as checked
use Rattle.ver_frames.specs.Frames.{Frame}
use Rattle.ver_frames.specs.Method.{Subject, argument_types, begins_uninit, is_static, receiver_types, result_type}
use Rattle.ver_frames.specs.Types.{field_vtype}
use Rattle.ver_frames.specs.declared.vtype.VType.{VType}
use Rattle.ver_frames.specs.declared.vtype.VType.TheVariants as vtype
use Rattle.vm_act.specs.declared.calls.Callee.{Callee}
use Rattle.vm_act.specs.declared.calls.Selected.{Selected}
use Rattle.vm_act.specs.declared.calls.Selected.TheVariants as selected
use Rattle.vm_code.specs.Methods.{callee_of, chosen, first_up, init_begins_uninit, interface_selected, is_init, is_public_at, or_else, public_one, selected_of, selection_of, superclass_at}
use Rattle.vm_code.specs.Classes.{is_subtype}
use Rattle.vm_code.specs.Parameters.{parameters_of}
use Rattle.vm_act.specs.declared.crossing.Parameter.{Parameter}
use Rattle.vm_typing.specs.Fits.{no_method}
use Rattle.vm_typing.specs.Owed.{Selects, SelectsMethod, Takes}
use Rattle.vm_typing.specs.World.{World, MethodType}
use Rattle.std.specs.List.{AllZip}
use Rattle.vm_laws.proofs.LookUps.{all_take}
use Rattle.vm_laws.proofs.Callees.{callee_agrees, plain_callee_agrees}
use Rattle.vm_laws.proofs.Methods.{begins_not}
use Rattle.vm_laws.proofs.Subjects.{passes_both, stands}
use Rattle.vm_laws.specs.Files.{AreAsRead, Declares}
use Rattle.vm_laws.specs.Worlds as worlds
use Rattle.vm_laws.specs.Worlds.{method_type, subject_at, world_of}
use Rattle.vm_laws.specs.Rows.{Constructs, RunsAs, arguments_in, result_in}
use Rattle.vm_laws.proofs.Declared.{IsNumbered, numbered, own_is}
use Rattle.vm_laws.proofs.Entries.{callee_number, declared_is, found}

-- the types of a method with code, by its name and its flags
init_types : (s : Subject) (frames : ℕ → Frame) → worlds.is_init s ≡ true → (method_type s frames).arguments ≡ map (field_vtype s.classes) s.method.types.parameters
init_types s frames e = rw e refl

pub static_types : (s : Subject) (frames : ℕ → Frame) → worlds.is_init s ≡ false → is_static s.method ≡ true → (method_type s frames).arguments ≡ map (field_vtype s.classes) s.method.types.parameters
unfolding argument_types receiver_types
static_types s frames e static = rw (e, static) refl

pub instance_types : (s : Subject) (frames : ℕ → Frame) → worlds.is_init s ≡ false → is_static s.method ≡ false
    → (method_type s frames).arguments ≡ vtype.Object s.class_id ∷ map (field_vtype s.classes) s.method.types.parameters
unfolding argument_types receiver_types
instance_types s frames e static = rw (e, static, begins_not s e) refl

init_begins : (s : Subject) → worlds.is_init s ≡ true → is_static s.method ≡ false → begins_uninit s ≡ not s.class.is_built_in
unfolding begins_uninit
init_begins s e static = rw (static, e) (on (not s.class.is_built_in))
  where
    on : (b : Bool) → (true && (b && true)) ≡ b
    on true = refl
    on false = refl

module _ (links : Links) (frames : ℕ → ℕ → Frame) (are : AreLinks links) (read : AreAsRead links.classes) where
  abbrev world : World
  world = world_of links frames

  abbrev type_in : ℕ → Option Subject → MethodType
  type_in number o = option_map_or (λ (s : Subject). method_type s (frames number)) o no_method

  -- what a call runs, if it is given a method that a class declares
  pub record IsRun (begins : Bool) (callee : Callee) (d : Declared) : Type 0 where
    pub s : Subject
    pub at : subject_at links callee.method ≡ Some s
    pub classes : s.classes ≡ links.classes
    pub owner : s.class_id ≡ d.class
    pub method : s.method ≡ d.method
    pub type : world.method callee.method ≡ method_type s (frames callee.method)

  pub is_run : (begins : Bool) (id : MethodId) (callee : Callee) (d : Declared) → slice_get (declared_methods links.classes) id.0 ≡ Some d → callee_of links.classes begins id ≡ Some callee → IsRun begins callee d
  unfolding callee_of
  is_run begins id callee d there e =
      let method = passes_both (method_at links.classes id) _ callee e in
      let code = passes_both method.0.code _ callee method.1.1 in
      let f = found links are id method.0 code.0 method.1.0 code.1.0 in
      let same : callee.method ≡ id.0 = callee_number links.classes begins id callee e in
      let at : subject_at links callee.method ≡ Some f.m = ap (subject_at links) same ∙ f.at in
      let is = declared_is links are callee.method f.m at d (ap (slice_get (declared_methods links.classes)) same ∙ there) in
      record { s = f.m; at = at; classes = f.classes; owner = is.0; method = is.1; type = ap (type_in callee.method) at }

  -- the types of parameters, of the classes of the set
  pub parameters_same : (s : Subject) (d : Declared) (method : Method) → s.classes ≡ links.classes → s.method ≡ d.method → d.method ≡ method
      → map (field_vtype s.classes) s.method.types.parameters ≡ arguments_in world method
  parameters_same s d method classes declared same =
      ap (λ (cs : List Class). map (field_vtype cs) s.method.types.parameters) classes ∙ ap (λ (n : Method). map (field_vtype links.classes) n.types.parameters) (declared ∙ same)

  pub result_same : (s : Subject) (d : Declared) (method : Method) → s.classes ≡ links.classes → s.method ≡ d.method → d.method ≡ method → result_type s ≡ result_in world method
  unfolding result_type
  result_same s d method classes declared same =
      ap (λ (cs : List Class). option_map (field_vtype cs) s.method.types.result) classes ∙ ap (λ (n : Method). option_map (field_vtype links.classes) n.types.result) (declared ∙ same)

  -- a method that is named, by its number
  named_number : (member : MemberIndex) (method : Method) → checked.method_at links.classes member ≡ Some method → IsNumbered links.classes (method_of member) method
  named_number member method e =
      let c = passes_both (slice_get links.classes member.class.0) _ method e in
      numbered links.classes (method_of member) c.0 method c.1.0 c.1.1

  -- an `<init>` that is called begins as its class says
  pub init_runs : (member : MemberIndex) (method : Method) (callee : Callee) → checked.method_at links.classes member ≡ Some method → is_init method ≡ true
      → callee_of links.classes (init_begins_uninit links.classes member.class) (number_in links.classes (method_of member)) ≡ Some callee
      → Constructs world member.class callee (arguments_in world method)
  init_runs member method callee e init is =
      let id = number_in links.classes (method_of member) in
      let n = named_number member method e in
      let r = is_run (init_begins_uninit links.classes member.class) id callee n.d n.there is in
      let index = stands links callee.method r.s r.at in
      let named : worlds.is_init r.s ≡ true = ap (λ (m : Method). bytes_eq m.name (codes "<init>")) (r.method ∙ n.method) ∙ init in
      let static = (read.inits r.s.method (record { class = r.s.class_id; c = r.s.class; index = index.index; at = index.class; is = index.method }) named).0 in
      let there : slice_get links.classes member.class.0 ≡ Some r.s.class = ap (λ (c : ClassId). slice_get links.classes c.0) (sym (r.owner ∙ n.class)) ∙ index.class in
      let built : init_begins_uninit links.classes member.class ≡ not r.s.class.is_built_in = ap (λ (o : Option Class). option_map_or (λ (c : Class). not c.is_built_in) o false) there in
      let type : world.method id.0 ≡ method_type r.s (frames callee.method) = ap (λ (k : ℕ). world.method k) (sym (callee_number links.classes (init_begins_uninit links.classes member.class) id callee is)) ∙ r.type in
      let begins : init_begins_uninit links.classes member.class ≡ (world.method id.0).begins_uninit =
      built ∙ (sym (init_begins r.s named static) ∙ ap (λ (t : MethodType). t.begins_uninit) (sym type)) in
      record {
        agrees = callee_agrees links frames are read id (init_begins_uninit links.classes member.class) callee is begins;
        init = ap (λ (t : MethodType). t.is_init) r.type ∙ named;
        passed = ap (λ (t : MethodType). t.arguments) r.type ∙ (init_types r.s (frames callee.method) named ∙ parameters_same r.s n.d method r.classes r.method n.method);
        owner = ap (λ (t : MethodType). t.owner) r.type ∙ (r.owner ∙ n.class);
      }

  method_of_number : (id : MethodId) (d : Declared) → slice_get (declared_methods links.classes) id.0 ≡ Some d → method_at links.classes id ≡ Some d.method
  method_of_number id d there = ap (option_map (λ (d : Declared). d.method)) there

  -- a static method that is called
  pub static_runs : (member : MemberIndex) (method : Method) (callee : Callee) → checked.method_at links.classes member ≡ Some method → is_init method ≡ false → is_static method ≡ true
      → callee_of links.classes false (number_in links.classes (method_of member)) ≡ Some callee → RunsAs world callee (arguments_in world method) (result_in world method)
  static_runs member method callee e other static is =
      let id = number_in links.classes (method_of member) in
      let n = named_number member method e in
      let r = is_run false id callee n.d n.there is in
      let named : worlds.is_init r.s ≡ false = ap (λ (m : Method). bytes_eq m.name (codes "<init>")) (r.method ∙ n.method) ∙ other in
      let of : is_static r.s.method ≡ true = ap is_static (r.method ∙ n.method) ∙ static in
      record {
        agrees = plain_callee_agrees links frames are read id method callee (method_of_number id n.d n.there ∙ ap (λ (m : Method). Some m) n.method) other is;
        normal = ap (λ (t : MethodType). t.is_init) r.type ∙ named;
        passed = ap (λ (t : MethodType). t.arguments) r.type ∙ (static_types r.s (frames callee.method) named of ∙ parameters_same r.s n.d method r.classes r.method n.method);
        gives = ap (λ (t : MethodType). t.result) r.type ∙ result_same r.s n.d method r.classes r.method n.method;
      }

  -- what a named method takes and gives, if it is called on a stub
  pub record AskedAs (member : MemberIndex) (method : Method) : Type 0 where
    pub takes : world.takes (number_in links.classes (method_of member)).0 ≡ parameters_of method
    pub gives : world.gives (number_in links.classes (method_of member)).0 ≡ result_in world method
    pub types : AllZip Takes (world.takes (number_in links.classes (method_of member)).0) (arguments_in world method)

  pub asked_as : (member : MemberIndex) (method : Method) → checked.method_at links.classes member ≡ Some method → AskedAs member method
  asked_as member method e =
      let n = named_number member method e in
      let at : method_at links.classes (number_in links.classes (method_of member)) ≡ Some method =
      method_of_number (number_in links.classes (method_of member)) n.d n.there ∙ ap (λ (m : Method). Some m) n.method in
      let takes : world.takes (number_in links.classes (method_of member)).0 ≡ parameters_of method = ap (λ (o : Option Method). option_map_or parameters_of o []) at in
      let c = passes_both (slice_get links.classes member.class.0) _ method e in
      let plain = read.parameters method (record { class = member.class; c = c.0; index = member.index; at = c.1.0; is = c.1.1 }) in
      record {
        takes = takes;
        gives = ap (λ (o : Option Method). option_and_then (λ (m : Method). option_map (field_vtype links.classes) m.types.result) o) at;
        types = subst (λ (ps : List Parameter). AllZip Takes ps (arguments_in world method)) (sym takes) (all_take links.classes method.types.parameters plain);
      }

  -- ---- what selection finds

  pub extends : (a up : ClassId) → superclass_at links.classes a ≡ Some up → Extends links.classes a up
  extends a up e = on (slice_get links.classes a.0) e
    where
      on : (o : Option Class) → option_and_then (λ (c : Class). c.superclass) o ≡ Some up → IsSomeAnd o (λ c. c.superclass ≡ Some up)
      on None e = absurd (none_some e)
      on (Some c) e = e

  first_is : (n : ℕ) (class : ClassId) (own : ClassId → Option MethodId) (id : MethodId) → first_up n links.classes own class ≡ Some id
      → (c : ClassId) × IsSubclass links.classes class c × (own c ≡ Some id)
  unfolding first_up
  first_is zero class own id e = absurd (none_some e)
  first_is (suc n) class own id e = on (own class) refl e (λ up. first_is n up own id)
    where
      on : (o : Option MethodId) → own class ≡ o → or_else o (option_and_then (λ up. first_up n links.classes own up) (superclass_at links.classes class)) ≡ Some id
          → ((up : ClassId) → first_up n links.classes own up ≡ Some id → (c : ClassId) × IsSubclass links.classes up c × (own c ≡ Some id))
          → (c : ClassId) × IsSubclass links.classes class c × (own c ≡ Some id)
      on None is e go =
          let up = passes_both (superclass_at links.classes class) (λ up. first_up n links.classes own up) id e in
          let r = go up.0 up.1.1 in
          (r.0, through class up.0 r.0 (superclass class up.0 (extends class up.0 up.1.0)) r.1, r.2)
      on (Some x) is e go = (class, itself class, is ∙ e)

  -- an instance method that a class declares
  record IsInstance (owner : ClassId) (n t : List ℕ) (id : MethodId) : Type 0 where
    d : Declared
    there : slice_get (declared_methods links.classes) id.0 ≡ Some d
    class : d.class ≡ owner
    name : d.method.name ≡ n
    descriptor : d.method.descriptor ≡ t
    of_instances : is_static d.method ≡ false
    declares : Declares links.classes d.method

  numbered_by : (o : Option MethodIndex) (id : MethodId) → option_map (number_in links.classes) o ≡ Some id → (x : MethodIndex) × (o ≡ Some x) × (number_in links.classes x ≡ id)
  numbered_by None id e = absurd (none_some e)
  numbered_by (Some x) id e = (x, refl, same_some e)

  not_static : (b : Bool) (x id : MethodId) → ◌≡◌ {A = Option MethodId} (if b then None else Some x) (Some id) → (b ≡ false) × (x ≡ id)
  not_static true x id e = absurd (none_some e)
  not_static false x id e = (refl, same_some e)

  instance_is : (class : ClassId) (n t : List ℕ) (id : MethodId) → instance_method links.classes n t class ≡ Some id → IsInstance class n t id
  instance_is class n t id e =
      let number = passes_both (number_of links.classes class n t) _ id e in
      let test = not_static (option_map_or selections.is_static (method_at links.classes number.0) true) number.0 id number.1.1 in
      let by = numbered_by (own_method links.classes n t class) number.0 (sym (number_found links.classes class n t) ∙ number.1.0) in
      let own = own_is links.classes class n t by.0 by.1 in
      let at : slice_get links.classes by.0.class.0 ≡ Some own.c = ap (λ (c : ClassId). slice_get links.classes c.0) own.same ∙ own.at in
      let s = numbered links.classes by.0 own.c own.method at own.there in
      let same : number_in links.classes by.0 ≡ id = by.2 ∙ test.1 in
      let there : slice_get (declared_methods links.classes) id.0 ≡ Some s.d = ap (λ (k : MethodId). slice_get (declared_methods links.classes) k.0) (sym same) ∙ s.there in
      let static : option_map_or selections.is_static (method_at links.classes id) true ≡ false = ap (λ (k : MethodId). option_map_or selections.is_static (method_at links.classes k) true) (sym test.1) ∙ test.0 in
      record {
        d = s.d;
        there = there;
        class = s.class ∙ own.same;
        name = ap (λ (m : Method). m.name) s.method ∙ own.name;
        descriptor = ap (λ (m : Method). m.descriptor) s.method ∙ own.descriptor;
        of_instances = ap (λ (o : Option Method). option_map_or selections.is_static o true) (sym (method_of_number id s.d there)) ∙ static;
        declares = subst (Declares links.classes) (sym s.method) (record { class = class; c = own.c; index = by.0.index; at = own.at; is = own.there });
      }

  -- a method that a class selects for a named one
  selected_runs : (member : MemberIndex) (method : Method) → checked.method_at links.classes member ≡ Some method → is_init method ≡ false → (class : ClassId) (id : MethodId)
      → selection_of links.classes class (number_in links.classes (method_of member)) ≡ Some id → (callee : Callee) → callee_of links.classes false id ≡ Some callee
      → SelectsMethod world class (arguments_in world method) (result_in world method) callee
  unfolding selection_of
  selected_runs member method e other class id selection callee is =
      let n = named_number member method e in
      let c = passes_both (slice_get links.classes member.class.0) _ method e in
      let named = passes_both (method_at links.classes (number_in links.classes (method_of member))) _ id selection in
      let one : named.0 ≡ method = same_some (sym named.1.0 ∙ (method_of_number (number_in links.classes (method_of member)) n.d n.there ∙ ap (λ (m : Method). Some m) n.method)) in
      let first = first_is (suc (length links.classes)) class (instance_method links.classes named.0.name named.0.descriptor) id named.1.1 in
      let i = instance_is first.0 named.0.name named.0.descriptor id first.2 in
      let r = is_run false id callee i.d i.there is in
      let not_init : bytes_eq i.d.method.name (codes "<init>") ≡ false = ap (λ (name : List ℕ). bytes_eq name (codes "<init>")) (i.name ∙ ap (λ (m : Method). m.name) one) ∙ other in
      let normal : worlds.is_init r.s ≡ false = ap (λ (m : Method). bytes_eq m.name (codes "<init>")) r.method ∙ not_init in
      let of : is_static r.s.method ≡ false = ap is_static r.method ∙ i.of_instances in
      let types : i.d.method.types ≡ method.types =
      read.described i.d.method method i.declares (record { class = member.class; c = c.0; index = member.index; at = c.1.0; is = c.1.1 }) (i.descriptor ∙ ap (λ (m : Method). m.descriptor) one) in
      let owner : (world.method callee.method).owner ≡ r.s.class_id = ap (λ (t : MethodType). t.owner) r.type in
      let arguments : map (field_vtype r.s.classes) r.s.method.types.parameters ≡ arguments_in world method =
      parameters_same r.s i.d i.d.method r.classes r.method refl ∙ ap (λ (ts : MethodDescriptor). map (field_vtype links.classes) ts.parameters) types in
      record {
        agrees = plain_callee_agrees links frames are read id i.d.method callee (method_of_number id i.d i.there) not_init is;
        normal = ap (λ (t : MethodType). t.is_init) r.type ∙ normal;
        passed = ap (λ (t : MethodType). t.arguments) r.type
            ∙ (instance_types r.s (frames callee.method) normal of
            ∙ (ap (λ (o : ClassId). vtype.Object o ∷ map (field_vtype r.s.classes) r.s.method.types.parameters) (sym owner)
            ∙ ap (λ (ts : List VType). vtype.Object (world.method callee.method).owner ∷ ts) arguments));
        gives = ap (λ (t : MethodType). t.result) r.type
            ∙ (result_same r.s i.d i.d.method r.classes r.method refl ∙ ap (λ (ts : MethodDescriptor). option_map (field_vtype links.classes) ts.result) types);
        above = inr (subst (λ (o : ClassId). IsSubclass links.classes class o) (sym (owner ∙ (r.owner ∙ i.class))) first.1);
      }

  module _ (member : MemberIndex) (method : Method) (e : checked.method_at links.classes member ≡ Some method) (other : is_init method ≡ false) (class : ClassId) where
    abbrev id : MethodId
    id = number_in links.classes (method_of member)

    abbrev Finds : Selected → Type 0
    Finds = Selects world class (arguments_in world method) (result_in world method)

    callee_found : (found : MethodId) → selection_of links.classes class id ≡ Some found → (o : Option Callee) → callee_of links.classes false found ≡ o → Finds (chosen o)
    callee_found found selection None is = tt
    callee_found found selection (Some callee) is = selected_runs member method e other class found selection callee is

    selection_found : (o : Option MethodId) → selection_of links.classes class id ≡ o → Finds (chosen (option_and_then (callee_of links.classes false) o))
    selection_found None selection = tt
    selection_found (Some found) selection = callee_found found selection (callee_of links.classes false found) refl

    pub selects : Finds (selected_of links.classes class id)
    unfolding selected_of
    selects = on (nat_lt class.0 (length links.classes))
      where
        on : (b : Bool) → Finds (if b then chosen (option_and_then (callee_of links.classes false) (selection_of links.classes class id)) else selected.Abstract)
        on true = selection_found (selection_of links.classes class id) refl
        on false = tt

    public_found : (o : Option MethodId) → selection_of links.classes class id ≡ o → Finds (public_one links.classes o)
    public_found None selection = tt
    public_found (Some found) selection = on (is_public_at links.classes found)
      where
        on : (b : Bool) → Finds (if b then chosen (callee_of links.classes false found) else selected.NotPublic)
        on true = callee_found found selection (callee_of links.classes false found) refl
        on false = tt

    pub selects_interface : (interface : ClassId) → Finds (interface_selected links.classes class interface id)
    unfolding interface_selected
    selects_interface interface = on (is_subtype links.classes class interface)
      where
        on : (b : Bool) → Finds (if b then public_one links.classes (selection_of links.classes class id) else selected.NotImplemented)
        on true = public_found (selection_of links.classes class id) refl
        on false = tt
