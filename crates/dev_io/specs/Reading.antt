-- What a source gives: each read takes its bytes off the front of what the source has left. (This project's own.)
use Rattle.std.specs.Prelude.{◌≡◌, ◌≤◌, ◌<◌, ℕ, Bool, true, false, List, ◌++◌, length, Option}
use Rattle.std.specs.Io.KnownBytes.{Consumes, IsAtEnd}

-- a source had `before` and has `after` left: it gave a piece of at most `most` bytes, which was appended to `old`. If `more` is false,
-- there was no piece: the source is at its end
pub record GivesPiece (before after : Option (List ℕ)) (most : ℕ) (old new : List ℕ) (more : Bool) : Type 0 where
  pub piece : List ℕ
  pub consumed : Consumes before after piece
  pub appended : new ≡ old ++ piece
  pub within : length piece ≤ most
  pub some : more ≡ true → 0 < length piece
  pub end : more ≡ false → IsAtEnd after × (new ≡ old)
