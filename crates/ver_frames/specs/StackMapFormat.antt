-- What a StackMapTable declares (JVMS 4.7.4), by cases, apart from how it is read.
use Rattle.std.specs.Prelude.{◌≡◌, ℕ, ◌+◌, ◌-◌, ◌*◌, ◌≤◌, Bool, true, false, Option, Some, None, option_and_then, option_map, if◌then◌else◌, List, [], ◌∷◌, ◌++◌, length, map, reverse, bytes_eq, codes, Contains, MatchOption}
use Rattle.std.specs.List.{AllByRecursion, list_any}
use Rattle.cf_pool.specs.Pools.{class_at}
use Rattle.cls_set.specs.Classes.{number_of}
use Rattle.ver_frames.specs.Frames.{Frame, filled}
use Rattle.ver_frames.specs.Made.{made_at}
use Rattle.ver_frames.specs.Method.{Subject, argument_types}
use Rattle.ver_frames.specs.declared.vtype.VType.{VType}
use Rattle.ver_frames.specs.declared.vtype.VType.TheVariants.{Top, Int, Null, Object, IntArray, Uninitialized, UninitializedThis}

-- the number of two bytes, the high one first
abbrev pub two_bytes : ℕ → ℕ → ℕ
two_bytes high low = 256 * high + low

-- ---- items: the verification types of local variables and operands

-- the type that a Class entry of the constant pool says: an array of ints, or a class of the set
unfoldable pub object_type : Subject → ℕ → Option VType
object_type m index = option_and_then named (class_at m.class.file.pool index)
  where
    named : List ℕ → Option VType
    named name =
        if bytes_eq name (codes "[I") then Some IntArray else option_map Object (number_of m.classes name)

-- the type of what the `new` at an offset of the method makes
unfoldable pub made_type : Subject → ℕ → Option VType
made_type m offset = option_map (λ class. Uninitialized offset) (made_at m.linked.insns m.linked.offsets offset)

-- The bytes begin with an item that says the type, and these bytes are after it. An item of a long, a float or a double
-- says no type of this project's profile.
pub data SaysType (m : Subject) : List ℕ → VType → List ℕ → Type 0 where
  -- Top_variable_info
  top : (rest : List ℕ) → SaysType m (0 ∷ rest) Top rest
  -- Integer_variable_info
  integer : (rest : List ℕ) → SaysType m (1 ∷ rest) Int rest
  -- Null_variable_info
  null : (rest : List ℕ) → SaysType m (5 ∷ rest) Null rest
  -- UninitializedThis_variable_info
  uninitialized_this : (rest : List ℕ) → SaysType m (6 ∷ rest) UninitializedThis rest
  -- Object_variable_info: after the tag the index of a Class entry
  object : (high low : ℕ) (rest : List ℕ) (type : VType) → object_type m (two_bytes high low) ≡ Some type
      → SaysType m (7 ∷ high ∷ low ∷ rest) type rest
  -- Uninitialized_variable_info: after the tag the offset of a `new`
  uninitialized : (high low : ℕ) (rest : List ℕ) (type : VType) → made_type m (two_bytes high low) ≡ Some type
      → SaysType m (8 ∷ high ∷ low ∷ rest) type rest

-- the bytes begin with items that say the types, one after the other, and these bytes are after them
pub data SayTypes (m : Subject) : List ℕ → List VType → List ℕ → Type 0 where
  none : (rest : List ℕ) → SayTypes m rest [] rest
  one_more : (bytes between rest : List ℕ) (type : VType) (types : List VType) → SaysType m bytes type between → SayTypes m between types rest
      → SayTypes m bytes (type ∷ types) rest

-- ---- frames

-- a frame as it is spelled: its offset, its local variables before they are filled with top, and its
-- operands, the one on top last
pub record Spelled : Type 0 where
  pub offset : ℕ
  pub locals : List VType
  pub stack : List VType

-- The offset of a frame with this offset_delta: the first frame stands at the offset_delta itself, each other one at the
-- sum of the last offset, the offset_delta and 1.
abbrev pub next_offset : Option ℕ → ℕ → ℕ
next_offset None delta = delta
next_offset (Some last) delta = last + delta + 1

-- the frame with this offset_delta after the last one, with these local variables and operands
abbrev pub spelled_frame : Option ℕ → ℕ → List VType → List VType → Spelled
spelled_frame last delta locals stack = record { offset = next_offset last delta; locals = locals; stack = stack }

-- The bytes begin with a frame after one at this last offset with these local variables, and these bytes are after it.
-- Before the first frame there is no last offset, and the local variables are those of the method's arguments. Each kind
-- of frame has its tags; a tag of none of them (128 to 246) is reserved, and spells no frame.
pub data SpellsFrame (m : Subject) (last : Option ℕ) (before : List VType) : List ℕ → Spelled → List ℕ → Type 0 where
  -- Tags 0 to 63: the frame has exactly the same local variables as the one before it, and no operand. The offset_delta
  -- is the tag.
  same_frame : (tag : ℕ) (rest : List ℕ) → tag ≤ 63
      → SpellsFrame m last before (tag ∷ rest) (spelled_frame last tag before []) rest
  -- Tags 64 to 127: the same local variables, and one operand. The offset_delta is the tag less 64.
  same_locals_1_stack_item_frame : (delta : ℕ) (bytes rest : List ℕ) (operand : VType) → delta ≤ 63 → SaysType m bytes operand rest
      → SpellsFrame m last before ((64 + delta) ∷ bytes) (spelled_frame last delta before (operand ∷ [])) rest
  -- Tag 247: the same, and the offset_delta is given.
  same_locals_1_stack_item_frame_extended : (high low : ℕ) (bytes rest : List ℕ) (operand : VType) → SaysType m bytes operand rest
      → SpellsFrame m last before (247 ∷ high ∷ low ∷ bytes) (spelled_frame last (two_bytes high low) before (operand ∷ [])) rest
  -- Tags 248 to 250: the same local variables, except that the last k of them are absent, and no operand. k is 251 less
  -- the tag.
  chop_frame : (high low : ℕ) (rest : List ℕ) (kept absent : List VType) → 1 ≤ length absent → length absent ≤ 3 → before ≡ kept ++ absent
      → SpellsFrame m last before ((251 - length absent) ∷ high ∷ low ∷ rest) (spelled_frame last (two_bytes high low) kept []) rest
  -- Tag 251: the same local variables, and no operand. The offset_delta is given.
  same_frame_extended : (high low : ℕ) (rest : List ℕ)
      → SpellsFrame m last before (251 ∷ high ∷ low ∷ rest) (spelled_frame last (two_bytes high low) before []) rest
  -- Tags 252 to 254: the same local variables, and k additional ones after them, and no operand. k is the tag less 251.
  append_frame : (high low : ℕ) (bytes rest : List ℕ) (additional : List VType) → 1 ≤ length additional → length additional ≤ 3 → SayTypes m bytes additional rest
      → SpellsFrame m last before ((251 + length additional) ∷ high ∷ low ∷ bytes) (spelled_frame last (two_bytes high low) (before ++ additional) []) rest
  -- Tag 255: all local variables after their number, and all operands after theirs, the one on top last.
  full_frame : (high low locals_high locals_low stack_high stack_low : ℕ) (bytes between rest : List ℕ) (locals stack : List VType)
      → length locals ≡ two_bytes locals_high locals_low → SayTypes m bytes locals (stack_high ∷ stack_low ∷ between)
      → length stack ≡ two_bytes stack_high stack_low → SayTypes m between stack rest
      → SpellsFrame m last before (255 ∷ high ∷ low ∷ locals_high ∷ locals_low ∷ bytes) (spelled_frame last (two_bytes high low) locals stack) rest

-- the bytes are frames, each after the one before it, and no byte is after the last
pub data SpellFrames (m : Subject) : Option ℕ → List VType → List ℕ → List Spelled → Type 0 where
  none : (last : Option ℕ) (before : List VType) → SpellFrames m last before [] []
  one_more : (last : Option ℕ) (before : List VType) (bytes rest : List ℕ) (first : Spelled) (others : List Spelled)
      → SpellsFrame m last before bytes first rest
      → SpellFrames m (Some first.offset) first.locals rest others → SpellFrames m last before bytes (first ∷ others)

-- ---- the table

-- a table after its length: the number of its frames, and that many frames
pub record SpellsTable (m : Subject) (bytes : List ℕ) (spelled : List Spelled) : Type 0 where
  pub high : ℕ
  pub low : ℕ
  pub entries : List ℕ
  pub bytes_are : bytes ≡ high ∷ low ∷ entries
  pub number_is : length spelled ≡ two_bytes high low
  pub frames : SpellFrames m None (argument_types m) entries spelled

-- What a method demands of each frame, apart from the format: it has no more local variables and no more operands than
-- the method, and an instruction begins at its offset.
pub record IsFrameOf (m : Subject) (spelled : Spelled) : Type 0 where
  pub locals : length spelled.locals ≤ m.code.max_locals
  pub stack : length spelled.stack ≤ m.code.max_stack
  pub starts : Contains m.linked.offsets spelled.offset

-- whether a type is that of the receiver before another <init> has run on it
abbrev pub is_uninit_this : VType → Bool
is_uninit_this UninitializedThis = true
is_uninit_this _ = false

-- the frame that is declared by one with these local variables and operands, the one on top last:
-- its flag is set exactly if a local variable is uninitializedThis
abbrev pub declared_frame : ℕ → List VType → List VType → Frame
declared_frame max_locals locals stack = record {
  locals = filled max_locals locals;
  stack = reverse stack;
  flag_this_uninit = list_any is_uninit_this locals;
}

-- a spelled frame, as it is declared, with its offset
abbrev pub declared_by : Subject → Spelled → ℕ × Frame
declared_by m spelled = (spelled.offset, declared_frame m.code.max_locals spelled.locals spelled.stack)

-- A method declares these frames, each with its offset: its StackMapTable spells them, and each may be one of the
-- method's. A method without a table declares none.
pub record DeclaresFrames (m : Subject) (declared : List (ℕ × Frame)) : Type 0 where
  pub spelled : List Spelled
  pub table : MatchOption m.code.stack_map_table (spelled ≡ []) (λ bytes. SpellsTable m bytes spelled)
  pub suited : AllByRecursion (IsFrameOf m) spelled
  pub declared_are : declared ≡ map (declared_by m) spelled
