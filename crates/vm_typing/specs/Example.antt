-- A program that meets what is owed: a class P with a field x of type int; its `<init>` writes x, and a static method makes a P of 5 and
-- returns its x. An instruction's offset is its index here. (This project's own.)
use Rattle.std.specs.Prelude.{ℕ, zero, suc, pos, Bool, true, false, Option, Some, None, List, [], ◌∷◌, codes}
use Rattle.space_ids.specs.declared.ids.ClassId.{ClassId}
use Rattle.cls_set.specs.declared.class.Class.{Class}
use Rattle.ver_frames.specs.Frames.{Frame}
use Rattle.ver_frames.specs.declared.vtype.VType.{VType}
use Rattle.ver_frames.specs.declared.vtype.VType.TheVariants as vtype
use Rattle.vm_heap.specs.References.{Table}
use Rattle.vm_heap.specs.declared.heap.WordKind.TheVariants as kind
use Rattle.vm_stack.specs.Frames.{empty_frame}
use Rattle.vm_act.specs.Next.{Next, On}
use Rattle.vm_act.specs.Words.{constant, load, dup}
use Rattle.vm_act.specs.Objects.{new_object}
use Rattle.vm_act.specs.Remote.{read_field, write_field}
use Rattle.vm_act.specs.Calls.{construct, return_int, return_nothing}
use Rattle.vm_act.specs.declared.machine.Machine.{Machine}
use Rattle.vm_act.specs.declared.calls.Callee.{Callee}
use Rattle.vm_typing.specs.World.{World, MethodType}
use Rattle.vm_typing.specs.Runs.{started, steps, IsSound}

abbrev pub object_id : ClassId
object_id = record { 0 = 0 }

abbrev pub point_id : ClassId
point_id = record { 0 = 1 }

abbrev pub object_class : Class
object_class = record {
  file = record { pool = []; flags = record { bits = 1 }; name = codes "java/lang/Object"; superclass = None; interfaces = []; fields = []; methods = [] };
  superclass = None;
  interfaces = [];
  is_built_in = true;
}

abbrev pub point_class : Class
point_class = record {
  file = record { pool = []; flags = record { bits = 1 }; name = codes "P"; superclass = Some (codes "java/lang/Object"); interfaces = []; fields = []; methods = [] };
  superclass = Some object_id;
  interfaces = [];
  is_built_in = false;
}

-- new P, dup, iconst_5, P.<init>(I)V, getfield x, ireturn
abbrev pub main_frames : ℕ → Frame
main_frames zero = record { locals = []; stack = []; flag_this_uninit = false }
main_frames (suc zero) = record { locals = []; stack = vtype.Uninitialized 0 ∷ []; flag_this_uninit = false }
main_frames (suc (suc zero)) = record { locals = []; stack = vtype.Uninitialized 0 ∷ vtype.Uninitialized 0 ∷ []; flag_this_uninit = false }
main_frames (suc (suc (suc zero))) =
    record { locals = []; stack = vtype.Int ∷ vtype.Uninitialized 0 ∷ vtype.Uninitialized 0 ∷ []; flag_this_uninit = false }
main_frames (suc (suc (suc (suc zero)))) = record { locals = []; stack = vtype.Object point_id ∷ []; flag_this_uninit = false }
main_frames (suc (suc (suc (suc (suc n))))) = record { locals = []; stack = vtype.Int ∷ []; flag_this_uninit = false }

-- aload_0, iload_1, putfield x, aload_0, Object.<init>()V, return
abbrev pub init_frames : ℕ → Frame
init_frames zero = record { locals = vtype.UninitializedThis ∷ vtype.Int ∷ []; stack = []; flag_this_uninit = true }
init_frames (suc zero) = record { locals = vtype.UninitializedThis ∷ vtype.Int ∷ []; stack = vtype.UninitializedThis ∷ []; flag_this_uninit = true }
init_frames (suc (suc zero)) =
    record { locals = vtype.UninitializedThis ∷ vtype.Int ∷ []; stack = vtype.Int ∷ vtype.UninitializedThis ∷ []; flag_this_uninit = true }
init_frames (suc (suc (suc zero))) = record { locals = vtype.UninitializedThis ∷ vtype.Int ∷ []; stack = []; flag_this_uninit = true }
init_frames (suc (suc (suc (suc zero)))) =
    record { locals = vtype.UninitializedThis ∷ vtype.Int ∷ []; stack = vtype.UninitializedThis ∷ []; flag_this_uninit = true }
init_frames (suc (suc (suc (suc (suc n))))) = record { locals = vtype.Object point_id ∷ vtype.Int ∷ []; stack = []; flag_this_uninit = false }

-- return
abbrev pub object_frames : ℕ → Frame
object_frames n = record { locals = vtype.Object object_id ∷ []; stack = []; flag_this_uninit = false }

abbrev pub made : ℕ → Option ClassId
made zero = Some point_id
made (suc n) = None

abbrev pub methods : ℕ → MethodType
methods zero = record {
  owner = point_id;
  is_init = false;
  begins_uninit = false;
  arguments = [];
  result = Some vtype.Int;
  max_locals = 0;
  max_stack = 3;
  count = 6;
  frames = main_frames;
  offset_at = λ index. index;
  index_at = λ offset. offset;
  made_at = made;
}
methods (suc zero) = record {
  owner = point_id;
  is_init = true;
  begins_uninit = true;
  arguments = vtype.Int ∷ [];
  result = None;
  max_locals = 2;
  max_stack = 2;
  count = 6;
  frames = init_frames;
  offset_at = λ index. index;
  index_at = λ offset. offset;
  made_at = λ offset. None;
}
methods (suc (suc n)) = record {
  owner = object_id;
  is_init = true;
  begins_uninit = false;
  arguments = [];
  result = None;
  max_locals = 1;
  max_stack = 0;
  count = 1;
  frames = object_frames;
  offset_at = λ index. index;
  index_at = λ offset. offset;
  made_at = λ offset. None;
}

abbrev pub fields_from : ℕ → List VType
fields_from zero = []
fields_from (suc zero) = vtype.Int ∷ []
fields_from (suc (suc n)) = []

abbrev pub has_code : ℕ → Bool
has_code zero = true
has_code (suc zero) = true
has_code (suc (suc zero)) = true
has_code (suc (suc (suc n))) = false

abbrev pub world : World
world = record {
  classes = object_class ∷ point_class ∷ [];
  object = object_id;
  fields = λ class. fields_from class.0;
  has_code = has_code;
  method = methods;
  takes = λ number. [];
  gives = λ number. None;
}

abbrev pub main_callee : Callee
main_callee = record { method = 0; arguments = 0; max_locals = 0; max_stack = 3; begins_uninit = false }

abbrev pub point_callee : Callee
point_callee = record { method = 1; arguments = 2; max_locals = 2; max_stack = 2; begins_uninit = true }

abbrev pub object_callee : Callee
object_callee = record { method = 2; arguments = 1; max_locals = 1; max_stack = 0; begins_uninit = false }

abbrev pub main_at : ℕ → Machine → Next
main_at zero = new_object point_id (kind.Int ∷ [])
main_at (suc zero) = dup
main_at (suc (suc zero)) = constant (pos 5)
main_at (suc (suc (suc zero))) = construct point_callee
main_at (suc (suc (suc (suc zero)))) = read_field 0
main_at (suc (suc (suc (suc (suc n))))) = return_int

abbrev pub init_at : ℕ → Machine → Next
init_at zero = load kind.Reference 0
init_at (suc zero) = load kind.Int 1
init_at (suc (suc zero)) = write_field 0 kind.Int
init_at (suc (suc (suc zero))) = load kind.Reference 0
init_at (suc (suc (suc (suc zero)))) = construct object_callee
init_at (suc (suc (suc (suc (suc n))))) = return_nothing

abbrev pub act_at : ℕ → ℕ → Machine → Next
act_at zero = main_at
act_at (suc zero) = init_at
act_at (suc (suc n)) = λ index. return_nothing

abbrev pub step : Machine → Next
step m = act_at m.stack.frame.method m.stack.frame.index m

-- however few words the frames and the heap have, and however many steps are made, the program is never stuck and gives an int
abbrev pub ExampleIsSound : Type 0
ExampleIsSound = (free heap_free n : ℕ) (references : Table)
    → IsSound world (Some vtype.Int) (steps step n (On (started main_callee [] empty_frame free (record { cells = []; free = heap_free }) references)))
