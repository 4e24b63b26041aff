-- The front of a source's bytes, read in pieces.
use Rattle.std.proofs.Common.{◌≡◌, ℕ, ◌+◌, ◌-◌, ◌≤◌, ◌<◌, Bool, false, List, length, take, ◌++◌, Option, Some, None, sym, ap, ◌∙◌, arith, append-nil, append_assoc, subst}
use Rattle.std.specs.Prelude.{IfSome}
use Rattle.std.specs.Io.KnownBytes.{Consumes, IsAtEnd}
use Rattle.std.proofs.lemmas.List.{length-append, take_all, take_at}
use Rattle.dev_io.specs.Reading.{GivesPiece}

-- what a source gave in two steps
Consumes-trans : (before mid after : Option (List ℕ)) (one other : List ℕ) → Consumes before mid one → Consumes mid after other → Consumes before after (one ++ other)
Consumes-trans None mid after one other p q = tt
Consumes-trans (Some all) None after one other p q = absurd p
Consumes-trans (Some all) (Some rest) None one other p q = absurd q
Consumes-trans (Some all) (Some rest) (Some end) one other p q = p ∙ ap (λ left. one ++ left) q ∙ sym (append_assoc one other end)

-- what a source gave, with one more piece
with_piece : (before mid after : Option (List ℕ)) {asked : ℕ} (old new : List ℕ) {more : Bool} → Consumes before mid old → GivesPiece mid after asked old new more → Consumes before after new
with_piece before mid after old new passed piece =
    subst (Consumes before after) (sym piece.appended) (Consumes-trans before mid after old piece.piece passed piece.consumed)

-- a source at its end gave all that it had
at_end : (most : ℕ) (before after : Option (List ℕ)) (bytes : List ℕ) → Consumes before after bytes → IsAtEnd after → length bytes ≤ most
    → IfSome before (λ all. bytes ≡ take most all)
at_end most None after bytes passed end few = tt
at_end most (Some all) None bytes passed end few = absurd passed
at_end most (Some all) (Some rest) bytes passed end few =
    let same : all ≡ bytes = passed ∙ ap (λ left. bytes ++ left) end ∙ append-nil bytes in
    sym (ap (take most) same ∙ take_all most bytes few)

pub all_at_end : (most : ℕ) (before mid after : Option (List ℕ)) {asked : ℕ} (old new : List ℕ) {more : Bool} → Consumes before mid old → GivesPiece mid after asked old new more
    → more ≡ false → length old ≤ most → IfSome before (λ all. new ≡ take most all)
all_at_end most before mid after old new passed piece no_more few =
    let end = piece.end no_more in
    at_end most before after new (with_piece before mid after old new passed piece) end.0 (omega (arith, ap (λ (bytes : List ℕ). length bytes) end.1))

-- a source gave all the bytes that were asked of it
all_asked : (most : ℕ) (before after : Option (List ℕ)) (bytes : List ℕ) → Consumes before after bytes → length bytes ≡ most → IfSome before (λ all. bytes ≡ take most all)
all_asked most None after bytes passed many = tt
all_asked most (Some all) None bytes passed many = absurd passed
all_asked most (Some all) (Some rest) bytes passed many = sym (ap (take most) passed ∙ take_at bytes rest most many)

pub front_of_many : (most : ℕ) (before mid after : Option (List ℕ)) (asked : ℕ) (old new : List ℕ) {more : Bool} → Consumes before mid old → GivesPiece mid after asked old new more
    → length old ≤ most → asked ≤ most - length old → most ≤ length new → IfSome before (λ all. new ≡ take most all)
front_of_many most before mid after asked old new passed piece few room many =
    let grown : length new ≡ length old + length piece.piece = ap (λ (bytes : List ℕ). length bytes) piece.appended ∙ length-append old piece.piece in
    all_asked most before after new (with_piece before mid after old new passed piece) (omega (arith, piece.within))
