-- A method that is started is typed, and so never stuck.
use Rattle.std.proofs.Common.{◌≡◌, ℕ, Bool, true, false, List, ◌∷◌, map, refl, sym, subst, ap, ◌∙◌, Option}
use Rattle.std.specs.Prelude.{bytes_eq, codes, if◌then◌else◌, option_map}
use Rattle.cf_reader.specs.declared.class_file.Method.{Method}
use Rattle.cls_link.specs.Links.{Links, AreLinks, Declared}
use Rattle.cls_link.specs.declared.linked_code.MethodId.{MethodId}
use Rattle.space_ids.specs.declared.ids.ClassId.{ClassId}
use Rattle.ver_check.specs.Acceptance.{AreSafe}
use Rattle.ver_frames.specs.Frames.{Frame}
use Rattle.ver_frames.specs.Method.{is_static}
use Rattle.ver_frames.specs.Types.{field_vtype}
use Rattle.ver_frames.specs.declared.vtype.VType.{VType}
use Rattle.ver_frames.specs.declared.vtype.VType.TheVariants as vtype
use Rattle.vm_act.specs.declared.calls.Callee.{Callee}
use Rattle.vm_heap.specs.References.{Table}
use Rattle.vm_heap.specs.Heap.{Store}
use Rattle.vm_heap.specs.Tagged.{Tagged}
use Rattle.vm_stack.specs.Frames as stacks
use Rattle.vm_typing.proofs.Calls.{parameters_normal}
use Rattle.vm_typing.proofs.Runs.{starts_typed}
use Rattle.vm_typing.specs.Fits.{AllFit, held_in, no_marks}
use Rattle.vm_typing.specs.Runs.{KeepsTyped, started}
use Rattle.vm_typing.specs.Typed.{IsTyped}
use Rattle.vm_typing.specs.World.{World, MethodType}
use Rattle.vm_laws.proofs.AsRead.{as_read}
use Rattle.vm_laws.proofs.Callees.{plain_callee_agrees}
use Rattle.vm_laws.proofs.Owing.{owed}
use Rattle.vm_laws.proofs.Subjects.{typed as all_typed}
use Rattle.vm_laws.specs.Files.{AreAsRead}
use Rattle.vm_laws.specs.Worlds as worlds
use Rattle.vm_laws.specs.Worlds.{AreTyped, method_type, world_of}
use Rattle.vm_laws.proofs.RowsCallees as callees
use Rattle.vm_laws.proofs.Named.{named}
use Rattle.vm_laws.proofs.NeverStuck.{never_stuck, never_stuck_by_replies, steps_typed}
use Rattle.vm_laws.specs.Rows.{arguments_in, result_in}
use Rattle.vm_laws.specs.Steps.{AreNamed, AreNeverStuck, AreNeverStuckByReplies, step}
use Rattle.vm_laws.proofs.Members.{members}
use Rattle.vm_laws.specs.Sound.{AreSoundFromStart, IsNeverStuck, IsStarted, passed_types}

module _ (links : Links) (frames : ℕ → ℕ → Frame) (are : AreLinks links) (typed : AreTyped links frames) (files : AreAsRead links.classes) where
  abbrev world : World
  world = world_of links frames

  all_named : AreNamed links frames
  all_named = named links frames are typed files (members links frames are typed files)

  keeps : (asked : Option VType) → KeepsTyped world asked (step links)
  keeps asked m at = steps_typed links frames are typed files all_named asked m at

  runs : AreNeverStuck links frames
  runs = never_stuck links frames are typed files all_named

  replies : AreNeverStuckByReplies links frames
  replies = never_stuck_by_replies links frames are typed files all_named

  module _ (d : Declared) (callee : Callee) (values : List Tagged) (heap : Store) (references : Table)
      (start : IsStarted links world d callee values heap references) where
    abbrev id : MethodId
    id = record { 0 = callee.method }

    abbrev type : MethodType
    type = world.method callee.method

    abbrev run : callees.IsRun links frames are files false callee d
    run = callees.is_run links frames are files false id callee d start.declared start.has_code

    normal : worlds.is_init run.s ≡ false
    normal = ap (λ (m : Method). bytes_eq m.name (codes "<init>")) run.method ∙ start.normal

    passed : type.arguments ≡ passed_types world d.class d.method
    passed = ap (λ (t : MethodType). t.arguments) run.type ∙ on (is_static d.method) refl
      where
        static_is : (b : Bool) → is_static d.method ≡ b → is_static run.s.method ≡ b
        static_is b e = ap is_static run.method ∙ e

        same : map (field_vtype run.s.classes) run.s.method.types.parameters ≡ arguments_in world d.method
        same = callees.parameters_same links frames are files run.s d d.method run.classes run.method refl

        on : (b : Bool) → is_static d.method ≡ b → (method_type run.s (frames callee.method)).arguments
            ≡ (if b then arguments_in world d.method else vtype.Object d.class ∷ arguments_in world d.method)
        on true e = callees.static_types run.s (frames callee.method) normal (static_is true e) ∙ same
        on false e =
            callees.instance_types run.s (frames callee.method) normal (static_is false e)
            ∙ (ap (λ (c : ClassId). vtype.Object c ∷ map (field_vtype run.s.classes) run.s.method.types.parameters) run.owner ∙ ap (λ (ts : List VType). vtype.Object d.class ∷ ts) same)

    type_normal : type.is_init ≡ false
    type_normal = ap (λ (t : MethodType). t.is_init) run.type ∙ normal

    gives : type.result ≡ result_in world d.method
    gives = ap (λ (t : MethodType). t.result) run.type ∙ callees.result_same links frames are files run.s d d.method run.classes run.method refl

    is_typed : (lowest : stacks.Frame) (free : ℕ) → IsTyped world (result_in world d.method) (started callee values lowest free heap references)
    is_typed lowest free =
        subst (λ (r : Option VType). IsTyped world r (started callee values lowest free heap references)) gives
        (starts_typed world (owed links frames are typed files) callee values lowest free heap references
        (plain_callee_agrees links frames are files id d.method callee (ap (option_map (λ (d : Declared). d.method)) start.declared) start.normal start.has_code)
        (subst (λ (ts : List VType). AllFit world (held_in heap references) no_marks ts values) (sym (parameters_normal type type_normal ∙ passed)) start.values_fit)
        start.heap_fits type_normal)

  pub starts : AreSoundFromStart links frames
  starts d callee values lowest free heap references start moves fit =
      replies (result_in world d.method) (started callee values lowest free heap references) (is_typed d callee values heap references start lowest free) moves fit

  pub never : IsNeverStuck links
  never = record { frames = frames; typed = typed; keeps = keeps; runs = runs; replies = replies; starts = starts }

pub checked : (links : Links) → AreLinks links → AreSafe links → IsNeverStuck links
checked links are safe = let t = all_typed links are safe in never links t.0 are t.1 (as_read links.classes are.set)
