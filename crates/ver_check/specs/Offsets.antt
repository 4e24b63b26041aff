-- The offsets at which the frames of a StackMapTable apply (JVMS 4.7.4).
use Rattle.std.specs.Prelude.{ℕ, List, map}
use Rattle.ver_frames.specs.Frames.{Frame}

-- ---- declared frames

-- the offsets of the declared frames
abbrev pub declared_offsets : List (ℕ × Frame) → List ℕ
declared_offsets frames = map (λ declared. declared.0) frames
