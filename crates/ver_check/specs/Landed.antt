-- The declared frames on which a frame is known to land, by marks at their indices. (This project's own.)
use Rattle.std.specs.Prelude.{◌≡◌, ℕ, Bool, true, false, List, IsSomeAnd, slice_index_or}
use Rattle.ver_check.specs.Bodies.{Body}
use Rattle.ver_check.specs.Indices.{frame_of}
use Rattle.ver_frames.specs.Assignable.{IsFrameAssignable}
use Rattle.ver_frames.specs.Frames.{Frame}

-- a frame lands on each declared one that is marked
unfoldable pub LandsOnMarked : Body → Frame → List Bool → Type 0
LandsOnMarked body given marks =
    (index : ℕ) → slice_index_or marks index false ≡ true → IsSomeAnd (frame_of body.declared index) (λ declared. IsFrameAssignable body.classes given declared)
