-- How the frames of a StackMapTable (JVMS 4.7.4) are read, from left to right, up to the first fault.
use Rattle.std.specs.Prelude.{ℕ, zero, suc, ◌+◌, ◌-◌, ◌*◌, Bool, true, ◌&&◌, ◌||◌, ◌==◌, nat_lt, nat_le, if◌then◌else◌, Option, Some, None, option_and_then, option_map, Result, Ok, Err, List, [], ◌∷◌, ◌++◌, length, take, unwrap_or}
use Rattle.std.specs.List.{list_any}
use Rattle.std.specs.Option.{option_map_or}
use Rattle.ver_frames.specs.Frames.{Frame}
use Rattle.ver_frames.specs.Method.{Subject, argument_types}
use Rattle.ver_frames.specs.StackMapFormat.{Spelled, declared_by, next_offset, made_type, object_type}
use Rattle.ver_frames.specs.declared.fault.StackMapFault.{StackMapFault}
use Rattle.ver_frames.specs.declared.fault.StackMapFault.TheVariants.{Broken}
use Rattle.ver_frames.specs.declared.fault.StackMapRule.{StackMapRule}
use Rattle.ver_frames.specs.declared.fault.StackMapRule.TheVariants.{Reserved, Chop, Locals, Offset, Kind}
use Rattle.ver_frames.specs.declared.vtype.VType.{VType}
use Rattle.ver_frames.specs.declared.vtype.VType.TheVariants.{Top, Int, Null, UninitializedThis}

-- What is read is a value and the bytes after it.

infixl 10 ◌>>=◌
abbrev pub ◌>>=◌ : {A B : Type 0} → Result A StackMapFault → (A → Result B StackMapFault) → Result B StackMapFault
(Ok x) >>= f = f x
(Err e) >>= f = Err e

-- the value, or the rule is broken at this offset
abbrev pub or_broken : {A : Type 0} → StackMapRule → ℕ → Option A → Result A StackMapFault
or_broken rule at None = Err (Broken rule at)
or_broken rule at (Some x) = Ok x

-- the test passes, or the rule is broken at this offset
abbrev pub demand : StackMapRule → ℕ → Bool → Result (Unit {0}) StackMapFault
demand rule at test = if test then Ok tt else Err (Broken rule at)

-- a number of two bytes
abbrev pub u2 : List ℕ → Option (ℕ × List ℕ)
u2 (high ∷ low ∷ rest) = Some (256 * high + low, rest)
u2 _ = None

-- the type that an item says. An item of a long, a float or a double says none of this project's
-- profile
unfoldable pub item : Subject → List ℕ → Option (VType × List ℕ)
item m [] = None
item m (tag ∷ rest) =
    if tag == 0 then Some (Top, rest)
    else (if tag == 1 then Some (Int, rest)
    else (if tag == 5 then Some (Null, rest)
    else (if tag == 6 then Some (UninitializedThis, rest)
    else (if tag == 7 then option_and_then (λ index. option_map (λ t. (t, index.1)) (object_type m index.0)) (u2 rest)
    else (if tag == 8 then option_and_then (λ offset. option_map (λ t. (t, offset.1)) (made_type m offset.0)) (u2 rest)
    else None)))))

-- the types that n items say
unfoldable pub items : Subject → ℕ → List ℕ → Option (List VType × List ℕ)
items m zero bytes = Some ([], bytes)
items m (suc n) bytes =
    option_and_then (λ first. option_map (λ others. (first.0 ∷ others.0, others.1)) (items m n first.1)) (item m bytes)

-- what was read before, and what is still read
abbrev pub with_front : List VType → Option (List VType × List ℕ) → Option (List VType × List ℕ)
with_front front read = option_map (λ found. (front ++ found.0, found.1)) read

-- the bytes after an item, if its tag is one of the format's
unfoldable pub after_item : List ℕ → Option (List ℕ)
after_item [] = None
after_item (tag ∷ rest) =
    if nat_lt tag 7 then Some rest
    else (if nat_lt tag 9 then option_map (λ index. index.1) (u2 rest) else None)

-- the bytes after n items
unfoldable pub after_items : ℕ → List ℕ → Option (List ℕ)
after_items zero bytes = Some bytes
after_items (suc n) bytes = option_and_then (after_items n) (after_item bytes)

-- how far a frame is from the one before it, by its tag: none if the tag is reserved, or no byte
unfoldable pub delta : ℕ → List ℕ → Option (ℕ × List ℕ)
delta tag rest =
    if nat_lt tag 64 then Some (tag, rest)
    else (if nat_lt tag 128 then Some (tag - 64, rest)
    else (if nat_lt tag 247 || nat_lt 255 tag then None else u2 rest))

-- how many of the `count` local variables of the frame before a frame keeps
unfoldable pub kept : ℕ → ℕ → Option ℕ
kept tag count =
    if tag == 255 then Some 0
    else (if nat_lt 250 tag || nat_lt tag 248 then Some count
    else (if nat_le (251 - tag) count then Some (count - (251 - tag)) else None))

-- how many further local variables a frame has
unfoldable pub added : ℕ → List ℕ → Option (ℕ × List ℕ)
added tag rest =
    if tag == 255 then u2 rest
    else (if nat_lt 251 tag then Some (tag - 251, rest) else Some (0, rest))

-- how many operands a frame has, after its further local variables
unfoldable pub operands : ℕ → List ℕ → Option (ℕ × List ℕ)
operands tag rest =
    if tag == 255 then u2 rest
    else (if (tag == 247) || (nat_le 64 tag && nat_lt tag 128) then Some (1, rest) else Some (0, rest))

-- whether an instruction stands at the offset
abbrev pub is_start : Subject → ℕ → Bool
is_start m offset = list_any (λ start. start == offset) m.linked.offsets

-- the frame at an offset, of this tag, after a frame with these local variables
unfoldable pub frame_after : Subject → ℕ → List VType → ℕ → List ℕ → Result (Spelled × List ℕ) StackMapFault
frame_after m at before tag rest = do
  keeps ← or_broken Chop at (kept tag (length before))
  adds ← or_broken Reserved at (added tag rest)
  let holds = option_and_then (operands tag) (after_items adds.0 adds.1)
  few ← demand Locals at (nat_le (keeps + adds.0) m.code.max_locals)
  fit ← demand Locals at (option_map_or (λ count. nat_le count.0 m.code.max_stack) holds true)
  starts ← demand Offset at (is_start m at)
  pushes ← or_broken Kind at holds
  locals ← or_broken Kind at (items m adds.0 adds.1)
  stack ← or_broken Kind at (items m pushes.0 pushes.1)
  Ok (record { offset = at; locals = take keeps before ++ locals.0; stack = stack.0 }, stack.1)

-- the next frame
unfoldable pub frame : Subject → Option ℕ → List VType → List ℕ → Result (Spelled × List ℕ) StackMapFault
frame m last before [] = Err (Broken Reserved (unwrap_or last 0))
frame m last before (tag ∷ rest) = do
  distance ← or_broken Reserved (unwrap_or last 0) (delta tag rest)
  frame_after m (next_offset last distance.0) before tag distance.1

-- n frames, each with its offset, and no byte after them
unfoldable pub frames : Subject → ℕ → Option ℕ → List VType → List ℕ → Result (List (ℕ × Frame)) StackMapFault
frames m zero last before [] = Ok []
frames m zero last before (byte ∷ rest) = Err (Broken Reserved (unwrap_or last 0))
frames m (suc n) last before bytes = do
  first ← frame m last before bytes
  others ← frames m n (Some first.0.offset) first.0.locals first.1
  Ok (declared_by m first.0 ∷ others)

-- the frames of a StackMapTable after its length
unfoldable pub frames_of_table : Subject → List ℕ → Result (List (ℕ × Frame)) StackMapFault
frames_of_table m bytes = do
  count ← or_broken Reserved 0 (u2 bytes)
  frames m count.0 None (argument_types m) count.1

-- the frames of a StackMapTable, if there is one
abbrev pub frames_of : Subject → Option (List ℕ) → Result (List (ℕ × Frame)) StackMapFault
frames_of m None = Ok []
frames_of m (Some bytes) = frames_of_table m bytes

-- the frames that a method declares, in the order of their offsets: none if it has no table
unfoldable pub declared_frames : Subject → Result (List (ℕ × Frame)) StackMapFault
declared_frames m = frames_of m m.code.stack_map_table
