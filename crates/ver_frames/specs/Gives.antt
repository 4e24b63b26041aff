-- What the answer of reading a StackMapTable (JVMS 4.7.4) says: what its definition reads, or the first fault, unless memory ran out.
use Rattle.std.specs.Prelude.{◌≡◌, Option, Some, None, Result, Ok, Err}
use Rattle.ver_frames.specs.declared.fault.StackMapFault.{StackMapFault}
use Rattle.ver_frames.specs.declared.fault.StackMapFault.TheVariants as fault

-- what a function found, seen by view, is what reading finds
abbrev pub Finds : {X Y : Type 0} → (X → Y) → Option X → Option Y → Type 0
Finds view (Some x) read = read ≡ Some (view x)
Finds view None read = read ≡ None

-- a function fails as reading does, or is out of memory
abbrev pub Fails : {Y : Type 0} → StackMapFault → Result Y StackMapFault → Type 0
Fails fault.Memory read = Unit {0}
Fails (fault.Broken rule at) read = read ≡ Err (fault.Broken rule at)

-- what a function answered, seen by view, is what reading gives, unless memory ran out
abbrev pub Gives : {X Y : Type 0} → (X → Y) → Result X StackMapFault → Result Y StackMapFault → Type 0
Gives view (Ok x) read = read ≡ Ok (view x)
Gives view (Err e) read = Fails e read
