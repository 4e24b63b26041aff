-- Frames keep to max_locals and max_stack of their method (JVMS 4.7.3, 4.7.4).
use Rattle.std.specs.Prelude.{◌≡◌, ℕ, ◌≤◌, length}
use Rattle.ver_frames.specs.Frames.{Frame}
use Rattle.ver_frames.specs.Method.{Subject}

-- ---- declared frames

-- a declared frame has as many local variables as the method, and no more operands
pub record FitsMethod (m : Subject) (declared : ℕ × Frame) : Type 0 where
  pub locals : length declared.1.locals ≡ m.code.max_locals
  pub stack : length declared.1.stack ≤ m.code.max_stack
