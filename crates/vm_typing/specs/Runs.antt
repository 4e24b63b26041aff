-- Runs of machines: they execute one instruction after the other (JVMS 2.11), from the frame of a method that is started.
use Rattle.std.specs.Prelude.{◌≡◌, ℕ, zero, suc, ◌-◌, false, Option, List, [], ◌∷◌, ◌++◌, replicate}
use Rattle.ver_frames.specs.declared.vtype.VType.{VType}
use Rattle.vm_heap.specs.Tagged.{Tagged, Unset}
use Rattle.vm_heap.specs.Heap.{Store}
use Rattle.vm_heap.specs.References.{Table}
use Rattle.vm_stack.specs.Frames as frames
use Rattle.vm_act.specs.Next.{Next, On, Ends, Asks, Stuck}
use Rattle.vm_act.specs.Remote.{answered}
use Rattle.vm_act.specs.declared.asked.Reply.{Reply}
use Rattle.vm_act.specs.declared.machine.Machine.{Machine}
use Rattle.vm_act.specs.declared.calls.Callee.{Callee}
use Rattle.vm_typing.specs.World.{World, parameters}
use Rattle.vm_typing.specs.Fits.{Held, AllFit, HeapFits, held_by, held_in, no_marks}
use Rattle.vm_typing.specs.Typed.{IsTyped}
use Rattle.vm_typing.specs.Owed.{IsCallee}
use Rattle.vm_typing.specs.Asking.{ReplyFits}
use Rattle.vm_typing.specs.Leads.{LeadsTo, IsGiven, IsWaiting}

-- the frame with which a method begins on values
abbrev pub first_frame : Callee → List Tagged → frames.Frame
first_frame callee values = record {
  method = callee.method;
  index = 0;
  locals = values ++ replicate (callee.max_locals - callee.arguments) Unset;
  operands = [];
  room = callee.max_stack;
}

-- the machine with which a method is started on values, over one frame
abbrev pub started : Callee → List Tagged → frames.Frame → ℕ → Store → Table → Machine
started callee values lowest free heap references =
    record { stack = record { frame = first_frame callee values; callers = lowest ∷ []; free = free }; heap = heap; references = references }

abbrev pub stepped : (Machine → Next) → Next → Next
stepped step (On m) = step m
stepped step (Ends ending) = Ends ending
stepped step (Asks op m) = Asks op m
stepped step Stuck = Stuck

-- what some steps make of a machine
unfoldable pub steps : (Machine → Next) → ℕ → Next → Next
steps step zero next = next
steps step (suc n) next = steps step n (stepped step next)

-- each step of a typed machine leads to a typed one, or to one that waits, or ends its task with what it may give
abbrev pub KeepsTyped : World → Option VType → (Machine → Next) → Type 0
KeepsTyped w asked step = (m : Machine) → IsTyped w asked m → LeadsTo w asked (held_by m) (IsTyped w asked) (step m)

-- never stuck: the machine is typed, or waits for the reply to what it asked, or its task has ended with what it may give, over what it held
abbrev pub IsSound : World → Option VType → Next → Type 0
IsSound w asked (On m) = IsTyped w asked m
IsSound w asked (Ends ending) = (held : Held) × IsGiven w asked held ending
IsSound w asked (Asks op m) = IsWaiting w asked (IsTyped w asked) op m
IsSound w asked Stuck = ⊥

-- a method is typed if it is started on values of its parameters' types, with a heap that fits
abbrev pub StartsTyped : World → Type 0
StartsTyped w = (callee : Callee) (values : List Tagged) (lowest : frames.Frame) (free : ℕ) (heap : Store) (references : Table) → IsCallee w callee
    → AllFit w (held_in heap references) no_marks (parameters (w.method callee.method)) values → HeapFits w (held_in heap references)
    → (w.method callee.method).is_init ≡ false → IsTyped w (w.method callee.method).result (started callee values lowest free heap references)

-- however many steps a typed machine makes, it is never stuck
abbrev pub RunsSound : World → Type 0
RunsSound w = (asked : Option VType) (step : Machine → Next) → KeepsTyped w asked step → (m : Machine) → IsTyped w asked m → (n : ℕ)
    → IsSound w asked (steps step n (On m))

-- what happens to a task: it makes some steps, or is given the reply to what it asked
pub data Move : Type 0 where
  Steps : ℕ → Move
  Replied : Reply → Move

-- a reply completes the instruction that waits for it; to no other machine one is given
abbrev pub replied : Reply → Next → Next
replied given (On m) = Stuck
replied given (Ends ending) = Stuck
replied given (Asks op m) = answered op given m
replied given Stuck = Stuck

abbrev pub moved : (Machine → Next) → Move → Next → Next
moved step (Steps n) next = steps step n next
moved step (Replied given) next = replied given next

-- what one move after the other makes of a machine
unfoldable pub played : (Machine → Next) → List Move → Next → Next
played step [] next = next
played step (move ∷ moves) next = played step moves (moved step move next)

-- a reply is given where one is waited for, and it is one that fits
abbrev pub IsDue : World → Reply → Next → Type 0
IsDue w given (On m) = ⊥
IsDue w given (Ends ending) = ⊥
IsDue w given (Asks op m) = ReplyFits w m.references op given
IsDue w given Stuck = ⊥

abbrev pub MoveFits : World → Move → Next → Type 0
MoveFits w (Steps n) next = Unit {0}
MoveFits w (Replied given) next = IsDue w given next

-- the replies among some moves fit, each where it is given
unfoldable pub MovesFit : World → (Machine → Next) → List Move → Next → Type 0
MovesFit w step [] next = Unit {0}
MovesFit w step (move ∷ moves) next = MoveFits w move next × MovesFit w step moves (moved step move next)

-- however many steps a typed machine makes, and whatever it is replied to what it asks, it is never stuck
abbrev pub PlaysSound : World → Type 0
PlaysSound w = (asked : Option VType) (step : Machine → Next) → KeepsTyped w asked step → (m : Machine) → IsTyped w asked m
    → (moves : List Move) → MovesFit w step moves (On m) → IsSound w asked (played step moves (On m))
