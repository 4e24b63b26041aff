-- A method with code may be called: its local variables hold what it is passed.
use Rattle.std.proofs.Common.{◌≡◌, ℕ, suc, ◌≤◌, ◌++◌, Bool, true, false, List, [], ◌∷◌, length, map, refl, sym, subst, ap, ◌∙◌, Option, Some}
use Rattle.std.specs.Prelude.{if◌then◌else◌, option_and_then, IsSome}
use Rattle.std.specs.Option.{option_map_or}
use Rattle.std.proofs.lemmas.Bool.{le-leb}
use Rattle.std.proofs.lemmas.List.{length-map}
use Rattle.cf_reader.specs.declared.class_file.Code.{Code}
use Rattle.cf_reader.specs.declared.class_file.Method.{Method}
use Rattle.cls_link.specs.Links.{Links, AreLinks, method_at}
use Rattle.cls_link.specs.declared.linked_code.MethodId.{MethodId}
use Rattle.cls_set.specs.declared.class.Class.{Class}
use Rattle.ver_check.specs.Acceptance.{AreSafe}
use Rattle.ver_frames.specs.Frames.{Frame}
use Rattle.ver_frames.specs.Method.{Subject, argument_types, begins_uninit, is_static, receiver_types}
use Rattle.ver_frames.specs.Types.{field_vtype}
use Rattle.ver_frames.specs.declared.vtype.VType.TheVariants as vtype
use Rattle.vm_code.specs.Methods.{callee_of, callee_with, words_passed}
use Rattle.vm_typing.specs.Fits.{no_method}
use Rattle.vm_typing.specs.World.{World, MethodType, parameters}
use Rattle.vm_laws.proofs.AsRead.{as_read}
use Rattle.vm_laws.proofs.Methods.{parameters_are}
use Rattle.vm_laws.proofs.Owing.{owed}
use Rattle.vm_laws.proofs.Subjects.{stands, typed as all_typed}
use Rattle.vm_laws.specs.Files.{AreAsRead}
use Rattle.vm_laws.specs.Worlds as worlds
use Rattle.vm_laws.specs.Worlds.{AreTyped, method_type, world_of}
use Rattle.vm_laws.proofs.Entries.{Found, found}

arguments_count : (m : Subject) → words_passed m.method ≡ length (argument_types m)
unfolding argument_types receiver_types
arguments_count m = on (is_static m.method) (begins_uninit m)
  where
    on : (static b : Bool) → (if static then length m.method.types.parameters else suc (length m.method.types.parameters))
        ≡ length ((if static then [] else ((if b then vtype.UninitializedThis else vtype.Object m.class_id) ∷ [])) ++ map (field_vtype m.classes) m.method.types.parameters)
    on true b = sym (length-map m.method.types.parameters (field_vtype m.classes))
    on false b = ap suc (sym (length-map m.method.types.parameters (field_vtype m.classes)))

callee_is : (classes : List Class) (begins : Bool) (id : MethodId) (method : Method) (code : Code) → method_at classes id ≡ Some method → method.code ≡ Some code
    → callee_of classes begins id ≡ callee_with id begins method code
unfolding callee_of
callee_is classes begins id method code at has =
    ap (option_and_then (λ (m : Method). option_and_then (callee_with id begins m) m.code)) at ∙ ap (option_and_then (callee_with id begins method)) has

with_room : (begins : Bool) (id : MethodId) (method : Method) (code : Code) → words_passed method ≤ code.max_locals → IsSome (callee_with id begins method code)
with_room begins id method code holds = rw (le-leb (words_passed method) code.max_locals holds) refl

module _ (links : Links) (frames : ℕ → ℕ → Frame) (are : AreLinks links) (typed : AreTyped links frames) (files : AreAsRead links.classes) where
  abbrev world : World
  world = world_of links frames

  holds : (id : MethodId) (method : Method) (code : Code) → Found links id method code → words_passed method ≤ code.max_locals
  holds id method code f =
      let there = stands links id.0 f.m f.at in
      let inits : worlds.is_init f.m ≡ true → is_static f.m.method ≡ false =
      λ init. (files.inits f.m.method (record { class = f.m.class_id; c = f.m.class; index = there.index; at = there.class; is = there.method }) init).0 in
      let known : world.has_code id.0 ≡ true = ap (λ (o : Option Subject). option_map_or (λ (m : Subject). true) o false) f.at in
      let type : world.method id.0 ≡ method_type f.m (frames id.0) = ap (λ (o : Option Subject). option_map_or (λ (m : Subject). method_type m (frames id.0)) o no_method) f.at in
      let locals = ((owed links frames are typed files).methods id.0 known).locals in
      let passed : words_passed method ≡ length (parameters (world.method id.0)) =
      ap words_passed (sym f.declared) ∙ (arguments_count f.m ∙ (ap length (sym (parameters_are f.m (frames id.0) inits)) ∙ ap (λ (t : MethodType). length (parameters t)) (sym type))) in
      let limit : (world.method id.0).max_locals ≡ code.max_locals = ap (λ (t : MethodType). t.max_locals) type ∙ ap (λ (c : Code). c.max_locals) f.same_code in
      subst (λ (n : ℕ). n ≤ code.max_locals) (sym passed) (subst (λ (n : ℕ). length (parameters (world.method id.0)) ≤ n) limit locals)

pub called : (links : Links) → AreLinks links → AreSafe links → (begins : Bool) (id : MethodId) (method : Method) (code : Code)
    → method_at links.classes id ≡ Some method → method.code ≡ Some code → IsSome (callee_of links.classes begins id)
called links are safe begins id method code at has =
    let t = all_typed links are safe in
    subst IsSome (sym (callee_is links.classes begins id method code at has))
    (with_room begins id method code (holds links t.0 are t.1 (as_read links.classes are.set) id method code (found links are id method code at has)))
