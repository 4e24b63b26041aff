-- What a step of a typed machine leads to (JVMS 4.10.1.9, 6.5), for each instruction on which frames, heap or callers depend: the laws from
-- which the rows of an interpreter follow. `asked` is the type of the task's result; an ending is told over what is `held`.
use Rattle.std.specs.Prelude.{◌≡◌, ℕ, ◌⊎◌, ◌+◌, ◌<◌, Bool, true, false, not, ℤ, Option, Some, None, List, ◌∷◌, length, map, reverse, slice_get, slice_set}
use Rattle.std.specs.List.{AllZip, AllByRecursion, list_all}
use Rattle.space_ids.specs.declared.ids.ClassId.{ClassId}
use Rattle.space_ids.specs.declared.ids.Ref.{Ref}
use Rattle.cls_set.specs.Subtypes.{IsRemote}
use Rattle.ver_frames.specs.Frames.{Frame}
use Rattle.ver_frames.specs.Assignable.{IsAssignable, IsObjectAssignable}
use Rattle.ver_frames.specs.declared.vtype.VType.{VType}
use Rattle.ver_frames.specs.declared.vtype.VType.TheVariants as vtype
use Rattle.vm_heap.specs.declared.heap.WordKind.{WordKind}
use Rattle.vm_heap.specs.declared.heap.WordKind.TheVariants as kind
use Rattle.vm_act.specs.Next as act
use Rattle.vm_act.specs.Next.{Next, NotStuck, Does}
use Rattle.vm_heap.specs.Tagged.{Site, Int}
use Rattle.vm_act.specs.Steps.{pop_int, push, go_on, jump, branch}
use Rattle.vm_act.specs.Words.{constant, null, load, store_top, increment, pop_one, pop_two, dup, dup_x1, dup_x2, dup2, dup2_x1, dup2_x2, swap, if_same, if_null}
use Rattle.vm_act.specs.Switches.{table_switch, lookup_switch}
use Rattle.vm_act.specs.Remote.{ask_call, create, read_field, write_field}
use Rattle.vm_act.specs.Objects.{new_object, referent_at, on_referent, cast, answer, throw}
use Rattle.vm_act.specs.Arrays.{new_array, array_load, array_store, array_length}
use Rattle.vm_act.specs.Calls.{call, construct, invoke, return_int, return_reference, return_nothing}
use Rattle.vm_act.specs.declared.machine.Machine.{Machine}
use Rattle.vm_act.specs.declared.ending.Ending.{Ending}
use Rattle.vm_act.specs.declared.ending.Flow.{Flow}
use Rattle.vm_act.specs.declared.ending.Flow.TheVariants as flow
use Rattle.vm_act.specs.declared.calls.Callee.{Callee}
use Rattle.vm_act.specs.declared.calls.Selected.{Selected}
use Rattle.vm_act.specs.declared.objects.Referent.{Referent}
use Rattle.vm_act.specs.declared.objects.Referent.TheVariants as referent
use Rattle.vm_typing.specs.World.{World, IsKnown, Enters, is_made_at, cleared, made_is, this_is}
use Rattle.vm_typing.specs.Fits.{Held, held_by}
use Rattle.vm_typing.specs.Asking.{IsForeignObject}
use Rattle.vm_typing.specs.Typed.{with_result, HasDepth, HasRoom, IsAt, IsTyped}
use Rattle.vm_typing.specs.Owed.{HasKind, IsCallee, Selects, Passes, Moves, MayWrite, Refers, IsOne, CastFits, Takes}
use Rattle.vm_typing.specs.Leads.{LeadsTo, IsGiven}

-- a step of a typed machine leads to a typed machine, or to one that waits for a reply, or ends its task with what it may give
abbrev pub Leads : World → Option VType → Held → Next → Type 0
Leads w asked held = LeadsTo w asked held (IsTyped w asked)

-- the next instruction is one at which a frame with these operands comes in
abbrev pub GoesOn : World → Machine → Frame → List VType → Type 0
GoesOn w m f types = Enters w m.stack.frame.method (m.stack.frame.index + 1) (record f { stack = types })

-- the running method may have one operand more than these
abbrev pub HasRoomFor : World → Machine → List VType → Type 0
HasRoomFor w m types = length types < (w.method m.stack.frame.method).max_stack

-- The instructions on local variables and operands, branches on references, and switches. The operands and the local variables have the
-- types that an instruction asks, and the frame after it comes in at the index to which the instruction leads
pub record WordsLead (w : World) (asked : Option VType) (held : Held) (fresh : ℕ → Site) (receiver : Site) : Type 0 where
  pub constant : (n : ℤ) (f : Frame) (m : Machine) → HasRoomFor w m f.stack → GoesOn w m f (vtype.Int ∷ f.stack)
      → IsAt w asked fresh receiver f m → Leads w asked held (constant n m)
  pub null : (f : Frame) (m : Machine) → HasRoomFor w m f.stack → GoesOn w m f (vtype.Null ∷ f.stack) → IsAt w asked fresh receiver f m
      → Leads w asked held (null m)
  pub load_local : (moved : WordKind) (n : ℕ) (t : VType) (f : Frame) (m : Machine) → slice_get f.locals n ≡ Some t → Moves moved t
      → HasRoomFor w m f.stack → GoesOn w m f (t ∷ f.stack) → IsAt w asked fresh receiver f m → Leads w asked held (load moved n m)
  pub store_top : (moved : WordKind) (n : ℕ) (t : VType) (types : List VType) (f : Frame) (m : Machine) → f.stack ≡ t ∷ types
      → Moves moved t → n < length f.locals
      → Enters w m.stack.frame.method (m.stack.frame.index + 1) (record f { locals = slice_set f.locals n t; stack = types })
      → IsAt w asked fresh receiver f m → Leads w asked held (store_top moved n m)
  pub increment : (n : ℕ) (by : ℤ) (f : Frame) (m : Machine) → slice_get f.locals n ≡ Some vtype.Int
      → Enters w m.stack.frame.method (m.stack.frame.index + 1) f → IsAt w asked fresh receiver f m → Leads w asked held (increment n by m)
  pub pop_one : (a : VType) (types : List VType) (f : Frame) (m : Machine) → f.stack ≡ a ∷ types → GoesOn w m f types
      → IsAt w asked fresh receiver f m → Leads w asked held (pop_one m)
  pub pop_two : (a b : VType) (types : List VType) (f : Frame) (m : Machine) → f.stack ≡ a ∷ b ∷ types → GoesOn w m f types
      → IsAt w asked fresh receiver f m → Leads w asked held (pop_two m)
  pub dup : (a : VType) (types : List VType) (f : Frame) (m : Machine) → f.stack ≡ a ∷ types
      → length types + 1 < (w.method m.stack.frame.method).max_stack
      → GoesOn w m f (a ∷ a ∷ types) → IsAt w asked fresh receiver f m → Leads w asked held (dup m)
  pub dup_x1 : (a b : VType) (types : List VType) (f : Frame) (m : Machine) → f.stack ≡ a ∷ b ∷ types
      → length types + 2 < (w.method m.stack.frame.method).max_stack
      → GoesOn w m f (a ∷ b ∷ a ∷ types) → IsAt w asked fresh receiver f m → Leads w asked held (dup_x1 m)
  pub dup_x2 : (a b c : VType) (types : List VType) (f : Frame) (m : Machine) → f.stack ≡ a ∷ b ∷ c ∷ types
      → length types + 3 < (w.method m.stack.frame.method).max_stack
      → GoesOn w m f (a ∷ b ∷ c ∷ a ∷ types) → IsAt w asked fresh receiver f m → Leads w asked held (dup_x2 m)
  pub dup2 : (a b : VType) (types : List VType) (f : Frame) (m : Machine) → f.stack ≡ a ∷ b ∷ types
      → length types + 3 < (w.method m.stack.frame.method).max_stack
      → GoesOn w m f (a ∷ b ∷ a ∷ b ∷ types) → IsAt w asked fresh receiver f m → Leads w asked held (dup2 m)
  pub dup2_x1 : (a b c : VType) (types : List VType) (f : Frame) (m : Machine) → f.stack ≡ a ∷ b ∷ c ∷ types
      → length types + 4 < (w.method m.stack.frame.method).max_stack
      → GoesOn w m f (a ∷ b ∷ c ∷ a ∷ b ∷ types) → IsAt w asked fresh receiver f m → Leads w asked held (dup2_x1 m)
  pub dup2_x2 : (a b c d : VType) (types : List VType) (f : Frame) (m : Machine) → f.stack ≡ a ∷ b ∷ c ∷ d ∷ types
      → length types + 5 < (w.method m.stack.frame.method).max_stack
      → GoesOn w m f (a ∷ b ∷ c ∷ d ∷ a ∷ b ∷ types) → IsAt w asked fresh receiver f m → Leads w asked held (dup2_x2 m)
  pub swap : (a b : VType) (types : List VType) (f : Frame) (m : Machine) → f.stack ≡ a ∷ b ∷ types
      → length types + 1 < (w.method m.stack.frame.method).max_stack
      → GoesOn w m f (b ∷ a ∷ types) → IsAt w asked fresh receiver f m → Leads w asked held (swap m)
  pub if_same : (equal : Bool) (target : ℕ) (a b : VType) (types : List VType) (f : Frame) (m : Machine) → f.stack ≡ a ∷ b ∷ types
      → Moves kind.Reference a → Moves kind.Reference b
      → GoesOn w m f types → Enters w m.stack.frame.method target (record f { stack = types }) → IsAt w asked fresh receiver f m
      → Leads w asked held (if_same equal target m)
  pub if_null : (wanted : Bool) (target : ℕ) (a : VType) (types : List VType) (f : Frame) (m : Machine) → f.stack ≡ a ∷ types
      → Moves kind.Reference a
      → GoesOn w m f types → Enters w m.stack.frame.method target (record f { stack = types }) → IsAt w asked fresh receiver f m
      → Leads w asked held (if_null wanted target m)
  -- an operator on two ints, or on one, that has a result for each
  pub binary : (result : ℤ → ℤ → ℤ) (types : List VType) (f : Frame) (m : Machine) → f.stack ≡ vtype.Int ∷ vtype.Int ∷ types
      → HasRoomFor w m types → GoesOn w m f (vtype.Int ∷ types) → IsAt w asked fresh receiver f m
      → Leads w asked held (pop_int (λ right. pop_int (λ left. push (Int (result left right)) go_on)) m)
  pub unary : (result : ℤ → ℤ) (types : List VType) (f : Frame) (m : Machine) → f.stack ≡ vtype.Int ∷ types
      → HasRoomFor w m types → GoesOn w m f (vtype.Int ∷ types) → IsAt w asked fresh receiver f m
      → Leads w asked held (pop_int (λ n. push (Int (result n)) go_on) m)
  -- a branch by a test of an int, or of two
  pub if_int : (holds : ℤ → Bool) (target : ℕ) (types : List VType) (f : Frame) (m : Machine) → f.stack ≡ vtype.Int ∷ types
      → GoesOn w m f types → Enters w m.stack.frame.method target (record f { stack = types }) → IsAt w asked fresh receiver f m
      → Leads w asked held (pop_int (λ n. branch (holds n) target) m)
  pub if_ints : (holds : ℤ → ℤ → Bool) (target : ℕ) (types : List VType) (f : Frame) (m : Machine) → f.stack ≡ vtype.Int ∷ vtype.Int ∷ types
      → GoesOn w m f types → Enters w m.stack.frame.method target (record f { stack = types }) → IsAt w asked fresh receiver f m
      → Leads w asked held (pop_int (λ right. pop_int (λ left. branch (holds left right) target)) m)
  -- goto, nop
  pub jump_to : (target : ℕ) (f : Frame) (m : Machine) → Enters w m.stack.frame.method target f → IsAt w asked fresh receiver f m
      → Leads w asked held (jump target m)
  pub next : (f : Frame) (m : Machine) → Enters w m.stack.frame.method (m.stack.frame.index + 1) f → IsAt w asked fresh receiver f m
      → Leads w asked held (go_on m)
  pub table_switch : (default : ℕ) (low : ℤ) (targets : List ℕ) (types : List VType) (f : Frame) (m : Machine) → f.stack ≡ vtype.Int ∷ types
      → AllByRecursion (λ to. Enters w m.stack.frame.method to (record f { stack = types })) (default ∷ targets)
      → IsAt w asked fresh receiver f m → Leads w asked held (table_switch default low targets m)
  pub lookup_switch : (default : ℕ) (keys : List ℤ) (targets : List ℕ) (types : List VType) (f : Frame) (m : Machine)
      → f.stack ≡ vtype.Int ∷ types
      → AllByRecursion (λ to. Enters w m.stack.frame.method to (record f { stack = types })) (default ∷ targets)
      → IsAt w asked fresh receiver f m → Leads w asked held (lookup_switch default keys targets m)

-- The instructions on objects and arrays
pub record ObjectsLead (w : World) (asked : Option VType) (held : Held) (fresh : ℕ → Site) (receiver : Site) : Type 0 where
  -- new, of a class of the set whose fields have these kinds; no object of the instruction at this offset is on the stack
  pub new_object : (class : ClassId) (kinds : List WordKind) (offset : ℕ) (f : Frame) (m : Machine) → IsKnown w class
      → AllZip HasKind (w.fields class) kinds
      → m.stack.frame.index < (w.method m.stack.frame.method).count
      → (w.method m.stack.frame.method).offset_at m.stack.frame.index ≡ offset → (w.method m.stack.frame.method).made_at offset ≡ Some class
      → list_all (λ t. not (is_made_at offset t)) f.stack ≡ true → HasRoomFor w m f.stack
      → Enters w m.stack.frame.method (m.stack.frame.index + 1) (record f { locals = map (cleared offset) f.locals; stack = vtype.Uninitialized offset ∷ f.stack })
      → IsAt w asked fresh receiver f m → Leads w asked held (new_object class kinds m)
  -- new, of a remote class of the set
  pub create : (class : ClassId) (offset : ℕ) (f : Frame) (m : Machine) → IsKnown w class → IsRemote w.classes class
      → m.stack.frame.index < (w.method m.stack.frame.method).count
      → (w.method m.stack.frame.method).offset_at m.stack.frame.index ≡ offset → (w.method m.stack.frame.method).made_at offset ≡ Some class
      → list_all (λ t. not (is_made_at offset t)) f.stack ≡ true → HasRoomFor w m f.stack
      → Enters w m.stack.frame.method (m.stack.frame.index + 1) (record f { locals = map (cleared offset) f.locals; stack = vtype.Uninitialized offset ∷ f.stack })
      → IsAt w asked fresh receiver f m → Leads w asked held (create class m)
  -- getfield, of a field of a class, if an object of the class is on top: one of the heap, or a remote one
  pub read_field : (class : ClassId) (slot : ℕ) (t : VType) → slice_get (w.fields class) slot ≡ Some t
      → (s : VType) (types : List VType) (f : Frame) (m : Machine)
      → f.stack ≡ s ∷ types → IsAssignable w.classes s (vtype.Object class) → HasRoomFor w m types
      → Enters w m.stack.frame.method (m.stack.frame.index + 1) (record f { stack = t ∷ types }) → IsAt w asked fresh receiver f m
      → Leads w asked held (read_field slot m)
  -- putfield, of a field of a class that holds values of a kind
  pub write_field : (class : ClassId) (slot : ℕ) (t : VType) → slice_get (w.fields class) slot ≡ Some t
      → (k : WordKind) (s r : VType) (types : List VType) (f : Frame) (m : Machine) → HasKind t k
      → f.stack ≡ s ∷ r ∷ types → IsAssignable w.classes s t → MayWrite w (w.method m.stack.frame.method).owner class r
      → Enters w m.stack.frame.method (m.stack.frame.index + 1) (record f { stack = types }) → IsAt w asked fresh receiver f m
      → Leads w asked held (write_field slot k m)
  -- newarray
  pub new_array : (types : List VType) (f : Frame) (m : Machine) → f.stack ≡ vtype.Int ∷ types → HasRoomFor w m types
      → Enters w m.stack.frame.method (m.stack.frame.index + 1) (record f { stack = vtype.IntArray ∷ types })
      → IsAt w asked fresh receiver f m → Leads w asked held (new_array m)
  -- iaload, if the array's type may stand for that of an int array
  pub array_load : (s : VType) (types : List VType) (f : Frame) (m : Machine) → f.stack ≡ vtype.Int ∷ s ∷ types
      → IsAssignable w.classes s vtype.IntArray
      → HasRoomFor w m types
      → Enters w m.stack.frame.method (m.stack.frame.index + 1) (record f { stack = vtype.Int ∷ types }) → IsAt w asked fresh receiver f m
      → Leads w asked held (array_load m)
  -- arraylength
  pub array_length : (s : VType) (types : List VType) (f : Frame) (m : Machine) → f.stack ≡ s ∷ types
      → IsAssignable w.classes s vtype.IntArray
      → HasRoomFor w m types
      → Enters w m.stack.frame.method (m.stack.frame.index + 1) (record f { stack = vtype.Int ∷ types }) → IsAt w asked fresh receiver f m
      → Leads w asked held (array_length m)
  -- iastore
  pub array_store : (s : VType) (types : List VType) (f : Frame) (m : Machine) → f.stack ≡ vtype.Int ∷ vtype.Int ∷ s ∷ types
      → IsAssignable w.classes s vtype.IntArray
      → Enters w m.stack.frame.method (m.stack.frame.index + 1) (record f { stack = types }) → IsAt w asked fresh receiver f m
      → Leads w asked held (array_store m)

-- Calls of methods that are named
pub record CallsLead (w : World) (asked : Option VType) (held : Held) (fresh : ℕ → Site) (receiver : Site) : Type 0 where
  -- a call of a named method: invokestatic, and invokespecial of what is no `<init>`
  pub call : (callee : Callee) (f : Frame) (below : List VType) (m : Machine) → IsCallee w callee → (w.method callee.method).is_init ≡ false
      → Passes w (reverse (w.method callee.method).arguments) f.stack below
      → HasRoom (w.method m.stack.frame.method).max_stack (w.method callee.method).result (record f { stack = below })
      → Enters w m.stack.frame.method (m.stack.frame.index + 1) (with_result (w.method callee.method).result (record f { stack = below }))
      → IsAt w asked fresh receiver f m → Leads w asked held (call callee m)
  -- invokespecial of an `<init>` on an object that the `new` at an offset made; that `new` names the class of the `<init>`
  pub construct_new : (callee : Callee) (offset : ℕ) (flag : Bool) (f : Frame) (below : List VType) (m : Machine) → IsCallee w callee
      → (w.method callee.method).is_init ≡ true
      → Passes w (reverse (w.method callee.method).arguments) f.stack (vtype.Uninitialized offset ∷ below)
      → (w.method m.stack.frame.method).made_at offset ≡ Some (w.method callee.method).owner
      → Enters w m.stack.frame.method (m.stack.frame.index + 1) (record {
        locals = map (made_is offset (w.method callee.method).owner) f.locals;
        stack = map (made_is offset (w.method callee.method).owner) below;
        flag_this_uninit = flag;
      })
      → IsAt w asked fresh receiver f m → Leads w asked held (construct callee m)
  -- the same on the receiver of a running `<init>`; its class is that of the `<init>` called, or below it
  pub construct_this : (callee : Callee) (flag : Bool) (f : Frame) (below : List VType) (m : Machine) → IsCallee w callee
      → (w.method callee.method).is_init ≡ true
      → Passes w (reverse (w.method callee.method).arguments) f.stack (vtype.UninitializedThis ∷ below)
      → IsObjectAssignable w.classes (w.method m.stack.frame.method).owner (w.method callee.method).owner
      → Enters w m.stack.frame.method (m.stack.frame.index + 1) (record {
        locals = map (this_is (w.method m.stack.frame.method).owner) f.locals;
        stack = map (this_is (w.method m.stack.frame.method).owner) below;
        flag_this_uninit = flag;
      })
      → IsAt w asked fresh receiver f m → Leads w asked held (construct callee m)

-- What is asked of the object on top or below the arguments
pub record ReferentsLead (w : World) (asked : Option VType) (held : Held) (fresh : ℕ → Site) (receiver : Site) : Type 0 where
  -- A call on a receiver that stands for a class and lies below the arguments: invokevirtual, invokeinterface, and invokespecial of what is
  -- no `<init>`. An object runs the method that its class selects, an array the one that java/lang/Object selects, and so does a stub, or it does
  -- what the caller says; what null leads to, the caller says too.
  pub on_receiver : (class : ClassId) (arguments : List VType) (result : Option VType) (next : Referent → Machine → Next) (f : Frame) (below : List VType) (m : Machine)
      → Passes w (reverse arguments) f.stack (vtype.Object class ∷ below)
      → Leads w asked held (next referent.Null m)
      → ((b : ClassId) → IsKnown w b → IsObjectAssignable w.classes b class → (s : Selected) × (Selects w b arguments result s × (next (referent.Object b) m ≡ invoke s m)))
      → (IsObjectAssignable w.classes w.object class → (s : Selected) × (Selects w w.object arguments result s × (next referent.Ints m ≡ invoke s m)))
      → ((reference : Ref) → IsForeignObject w m.references reference → IsObjectAssignable w.classes w.object class
      → ((s : Selected) × (Selects w w.object arguments result s × (next (referent.Stub reference) m ≡ invoke s m))) ⊎ Leads w asked held (next (referent.Stub reference) m))
      → HasRoom (w.method m.stack.frame.method).max_stack result (record f { stack = below })
      → Enters w m.stack.frame.method (m.stack.frame.index + 1) (with_result result (record f { stack = below }))
      → IsAt w asked fresh receiver f m → Leads w asked held (on_referent (length arguments) next m)
  -- checkcast: what passes is of the type that is asked
  pub cast : (passes : Referent → Bool) (s t : VType) (types : List VType) (f : Frame) (m : Machine) → f.stack ≡ s ∷ types → Refers s
      → Refers t
      → ((r : Referent) → IsOne w s r → passes r ≡ true → CastFits w t r)
      → Enters w m.stack.frame.method (m.stack.frame.index + 1) (record f { stack = t ∷ types }) → IsAt w asked fresh receiver f m
      → Leads w asked held (on_referent 0 (λ r. cast (passes r)) m)
  -- instanceof
  pub answer : (is : Referent → Bool) (s : VType) (types : List VType) (f : Frame) (m : Machine) → f.stack ≡ s ∷ types → Refers s
      → HasRoomFor w m types
      → Enters w m.stack.frame.method (m.stack.frame.index + 1) (record f { stack = vtype.Int ∷ types }) → IsAt w asked fresh receiver f m
      → Leads w asked held (on_referent 0 (λ r. answer (is r)) m)
  -- athrow, of what may stand for a class for which java/lang/Object may not stand, such as java/lang/Throwable
  pub throw : (class : ClassId) (s : VType) (types : List VType) (f : Frame) (m : Machine) → f.stack ≡ s ∷ types → Refers s
      → IsAssignable w.classes s (vtype.Object class)
      → ¬ IsObjectAssignable w.classes w.object class → IsAt w asked fresh receiver f m → Leads w asked held (on_referent 0 throw m)

-- A call of a stub, by the number of a method whose parameters take values of these types: the task's space is asked for it, if its arguments
-- cross
pub record StubsLead (w : World) (asked : Option VType) (held : Held) (fresh : ℕ → Site) (receiver : Site) : Type 0 where
  pub ask_call : (target : Ref) (method : ℕ) (class : ClassId) (arguments : List VType) (result : Option VType) (f : Frame) (below : List VType) (m : Machine)
      → IsForeignObject w m.references target → AllZip Takes (w.takes method) arguments → w.gives method ≡ result
      → Passes w (reverse arguments) f.stack (vtype.Object class ∷ below)
      → HasDepth w m.stack.frame.method (length m.stack.frame.operands)
      → HasRoom (w.method m.stack.frame.method).max_stack result (record f { stack = below })
      → Enters w m.stack.frame.method (m.stack.frame.index + 1) (with_result result (record f { stack = below }))
      → IsAt w asked fresh receiver f m → Leads w asked held (ask_call target method (w.takes method) m)

-- Returns: a task ends with what the method that was started declares, over what it holds
pub record ReturnsLead (w : World) (asked : Option VType) (fresh : ℕ → Site) (receiver : Site) : Type 0 where
  -- ireturn, of a method that gives an int
  pub return_int : (types : List VType) (f : Frame) (m : Machine) → f.stack ≡ vtype.Int ∷ types
      → (w.method m.stack.frame.method).result ≡ Some vtype.Int
      → IsAt w asked fresh receiver f m → LeadsTo w asked (held_by m) (IsTyped w asked) (return_int m)
  -- areturn, if what is on top may stand for the result that the method gives, a reference
  pub return_reference : (s t : VType) (types : List VType) (f : Frame) (m : Machine) → f.stack ≡ s ∷ types → IsAssignable w.classes s t
      → (w.method m.stack.frame.method).result ≡ Some t → Moves kind.Reference t → IsAt w asked fresh receiver f m
      → LeadsTo w asked (held_by m) (IsTyped w asked) (return_reference m)
  -- return, of a method that gives nothing
  pub return_nothing : (f : Frame) (m : Machine) → (w.method m.stack.frame.method).result ≡ None → IsAt w asked fresh receiver f m
      → LeadsTo w asked (held_by m) (IsTyped w asked) (return_nothing m)

-- What a function of vm_act asks and makes, if its step leads to typed machines: it may be called; if the task goes on, the machine after
-- it is typed; what the task ends with may be given; and the object on which an instruction works is there
pub record StepsAreMade (w : World) (asked : Option VType) (held : Held) : Type 0 where
  pub may_be_made : (next : Next) → Leads w asked held next → NotStuck next
  pub goes_on : (next : Next) (did : Flow) (after : Machine) → Leads w asked held next → Does next did after → act.GoesOn did
      → IsTyped w asked after
  pub ends : (next : Next) (ending : Ending) (after : Machine) → Leads w asked held next → Does next (flow.Ends ending) after
      → IsGiven w asked held ending
  pub object : (depth : ℕ) (next : Referent → Machine → Next) (m : Machine) → Leads w asked held (on_referent depth next m)
      → (r : Referent) × ((referent_at depth m ≡ Some r) × Leads w asked held (next r m))
