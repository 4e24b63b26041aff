-- The declared frame at each instruction (JVMS 4.7.4), as the code finds it: by the index of the instruction.
use Rattle.std.specs.Prelude.{◌≡◌, ℕ, Option, List, map, slice_get, option_map}
use Rattle.ver_check.specs.Bodies.{frame_at_offset}
use Rattle.ver_frames.specs.Frames.{Frame}

-- the declared frame at an index: none past the last
abbrev pub frame_of : List (ℕ × Frame) → ℕ → Option Frame
frame_of declared index = option_map (λ frame. frame.1) (slice_get declared index)

-- for each of these offsets, the index of the frame that is declared there
abbrev pub AreIndices : List (ℕ × Frame) → List ℕ → List ℕ → Type 0
AreIndices declared offsets indices = map (frame_of declared) indices ≡ map (frame_at_offset declared) offsets
